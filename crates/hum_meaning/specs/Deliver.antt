-- Configurations, and the delivery of one message.
use Rattle.std.specs.Prelude.{ℕ, suc, ◌+◌, nat_eq, if◌then◌else◌, List, [], ◌∷◌, ◌++◌, length, map, slice_get, slice_set, Option, Some, None}
use Rattle.hum_meaning.specs.Value.{Parts, Value, Behaviour, Device, Answers}
use Rattle.hum_meaning.specs.Action.{Action, Effects, no_effects, Outcome, Gives, Fails, Undecided, ◌>>=◌, device_refused}
use Rattle.hum_meaning.specs.Language.{Language}
use Rattle.hum_meaning.specs.Eval.{apply}
use Rattle.hum_meaning.specs.Exec.{perform}
use Rattle.hum_meaning.specs.Meaning.{meaning}
use Rattle.hum_meaning.specs.Piece.{piece}

-- a message, with its number and its target's
pub record Message (L : Parts) : Type 0 where
  pub number : ℕ
  pub target : ℕ
  pub value : Value L

-- the behaviours by actor number, the pending messages in the order of their numbers, the number of the next message, and the output
pub record Configuration (L : Parts) : Type 0 where
  pub behaviours : List (Behaviour L)
  pub pending : List (Message L)
  pub next_number : ℕ
  pub output : List ℕ

-- how a delivery ends: with the configuration after it, where a failure also has its code and the number of messages that were gathered; it
-- stays open where the steps do not suffice, or where there is no target
pub data Delivery (L : Parts) : Type 0 where
  Committed : Configuration L → Delivery L
  Failed : (code sends : ℕ) → Configuration L → Delivery L
  Open : Delivery L

module _ {L : Parts} where
  -- ---- messages

  -- the messages but that of a number
  abbrev pub without : ℕ → List (Message L) → List (Message L)
  without n [] = []
  without n (m ∷ ms) = if nat_eq m.number n then without n ms else m ∷ without n ms

  -- messages with the numbers from n on
  abbrev pub numbered_from : ℕ → List (ℕ × Value L) → List (Message L)
  numbered_from n [] = []
  numbered_from n (p ∷ more) = record { number = n; target = p.0; value = p.1 } ∷ numbered_from (suc n) more

  -- the message is gone, and nothing else changes
  abbrev pub drop : Configuration L → Message L → Configuration L
  drop c m = record c { pending = without m.number c.pending }

  -- ---- effects take place

  abbrev pub replaced : List (Behaviour L) → (actor : ℕ) → Option (Value L) → List (Behaviour L)
  replaced behaviours actor None = behaviours
  replaced behaviours actor (Some v) = slice_set behaviours actor (Answers v)

  -- all at once: the next behaviour, if any, the created actors, and the messages, which take the next numbers
  abbrev pub commit : Configuration L → Message L → Effects L → Configuration L
  commit c m effects = record c {
    behaviours = replaced c.behaviours m.target effects.next ++ map Answers effects.created;
    pending = without m.number c.pending ++ numbered_from c.next_number effects.sent;
    next_number = c.next_number + length effects.sent;
  }

  -- ---- deliveries

  -- what an actor's response makes of a configuration
  abbrev pub responded : Configuration L → Message L → Outcome L (Unit {0}) → Delivery L
  responded c m (Gives u effects left) = Committed (commit c m effects)
  responded c m (Fails code sends) = Failed code sends (drop c m)
  responded c m Undecided = Open

  -- what the bytes of a device make of it
  abbrev pub printed : Configuration L → Message L → Option (List ℕ) → Delivery L
  printed c m (Some bytes) = Committed (record (drop c m) { output = c.output ++ bytes })
  printed c m None = Failed device_refused 0 (drop c m)

module _ {L : Parts} (language : Language L) where
  -- a behaviour is applied to a value, and the result is executed
  abbrev pub respond : (self base s : ℕ) → Value L → Value L → Action L (Unit {0})
  respond self base s behaviour v = do
    result ← apply language self base (meaning language self base s) behaviour v
    perform (meaning language self base s) result

  -- a delivery by the behaviour of its target; where there is none, which `Sound` rules out, nothing is decided
  abbrev pub delivered : Configuration L → Message L → (s : ℕ) → Option (Behaviour L) → Delivery L
  delivered c m s (Some (Device n)) = printed c m (piece n m.value)
  delivered c m s (Some (Answers v)) = responded c m (respond m.target (length c.behaviours) s v m.value no_effects s)
  delivered c m s None = Open

  -- the delivery of a pending message within s steps
  unfoldable pub deliver : Configuration L → Message L → (s : ℕ) → Delivery L
  deliver c m s = delivered c m s (slice_get c.behaviours m.target)
