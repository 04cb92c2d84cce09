-- Sound configurations: every actor that is spoken of is there, and messages stand in the order of their numbers.
use Rattle.std.specs.Prelude.{◌≡◌, ℕ, suc, ◌<◌, ◌≤◌, List, [], ◌∷◌, length, map}
use Rattle.std.specs.List.{AllByRecursion}
use Rattle.hum_meaning.specs.Value.{Parts, Atom, Actor, Value, Plain, Pair, Function, Block, Primitive, Env, Outside, Bind, Group, Behaviour, Device, Answers}
use Rattle.hum_meaning.specs.Deliver.{Message, Configuration}

-- ---- values

-- an actor is one of the first n
abbrev pub AtomWithin : (n : ℕ) → Atom → Type 0
AtomWithin n (Actor k) = k < n
AtomWithin n _ = Unit {0}

module _ {L : Parts} (n : ℕ) where
  -- each actor in a value is one of the first n, and so is each in the environments of its functions and blocks
  abbrev mutual
    pub ValueWithin : Value L → Type 0
    ValueWithin (Plain a) = AtomWithin n a
    ValueWithin (Pair a b) = ValueWithin a × ValueWithin b
    ValueWithin (Function f env) = EnvWithin env
    ValueWithin (Block b env) = EnvWithin env
    ValueWithin (Primitive b) = Unit {0}

    pub EnvWithin : Env L → Type 0
    EnvWithin Outside = Unit {0}
    EnvWithin (Bind m v env) = ValueWithin v × EnvWithin env
    EnvWithin (Group fs env) = EnvWithin env

  -- the target, too
  abbrev pub MessageWithin : Message L → Type 0
  MessageWithin m = (m.target < n) × ValueWithin m.value

-- ---- configurations

module _ {L : Parts} where
  -- the behaviours of the first actor, of the two devices, and of the actors that were created
  abbrev pub roll : (first : Value L) → (created : List (Value L)) → List (Behaviour L)
  roll first created = Answers first ∷ Device 0 ∷ Device 1 ∷ map Answers created

  -- the numbers of messages rise, none is below the first bound, and all are below the second
  abbrev pub Rising : (from next : ℕ) → List (Message L) → Type 0
  Rising from next [] = from ≤ next
  Rising from next (m ∷ ms) = (from ≤ m.number) × Rising (suc m.number) next ms

-- Each message has a target, no value names an actor that is not there, the devices are at their places and nowhere else, and the next
-- message's number is behind those of all others.
pub record Sound {L : Parts} (c : Configuration L) : Type 0 where
  pub first : Value L
  pub created : List (Value L)
  pub actors : c.behaviours ≡ roll first created
  pub behaviours : AllByRecursion (ValueWithin (length c.behaviours)) (first ∷ created)
  pub messages : AllByRecursion (MessageWithin (length c.behaviours)) c.pending
  pub numbers : Rising 0 c.next_number c.pending
