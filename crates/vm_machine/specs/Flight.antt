-- What the lanes of a machine keep, and what keeps them apart.
use Rattle.std.specs.Prelude.{◌≡◌, ℕ, pos, false, List, [], ◌∷◌, map, Some, slice_get}
use Rattle.cap_words.specs.Words.{W, Fix}
use Rattle.cap_words.specs.Store.{Store}
use Rattle.cap_words.specs.Seen.{ActorSlot, seen, slot_seen}
use Rattle.cap_words.specs.Frame.{Among}
use Rattle.instr_table.specs.Lane.{Lane as Flying}
use Rattle.instr_table.specs.Reach.{Every}
use Rattle.vm_step.specs.declared.lane.Lane.{Lane}
use Rattle.vm_step.specs.Flight.{lane_of, lane_words, own_at, Held}
use Rattle.vm_machine.specs.Messages.{is_among}

-- the events in flight that lanes stand for
abbrev pub flight_of : Store → List Lane → List Flying
flight_of s ls = map (lane_of s) ls

-- a lane's words name what they should, its actor is busy with its message, which is not ready, and its event is that message's
pub record Flies (s : Store) (sponsors given : List W) (ready : List ℕ) (l : Lane) : Type 0 where
  pub held : Held s sponsors l
  pub busy : (code state : W) × (slot_seen (seen s) (own_at (seen s) l.event).actor ≡ Some (ActorSlot code state (Fix (pos l.number))))
  pub numbered : slice_get given l.number ≡ Some l.event
  pub taken : is_among l.number ready ≡ false

-- two lanes have different messages, and no quad is both's own
pub record Separate (s : Store) (k l : Lane) : Type 0 where
  pub numbers : k.number ≡ l.number → ⊥
  pub words : (v : W) → Among v (lane_words s k) → Among v (lane_words s l) → ⊥

-- each two of a list are related so
abbrev pub Pairwise : {A : Type 0} → (A → A → Type 0) → List A → Type 0
Pairwise R [] = Unit {0}
Pairwise R (x ∷ xs) = Every (R x) xs × Pairwise R xs
