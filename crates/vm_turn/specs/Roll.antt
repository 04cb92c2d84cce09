-- The roll: the committed actors, and which of them events in flight have.
use Rattle.std.specs.Prelude.{◌≡◌, ◌⊎◌, ℕ, ◌≤◌, pos, true, List, [], ◌∷◌, ◌++◌, Some, None, slice_get}
use Rattle.cap_words.specs.Words.{W, Fix}
use Rattle.cap_words.specs.Seen.{Seen, ActorSlot, slot_seen}
use Rattle.cap_words.specs.Frame.{Among}
use Rattle.quad_memory.specs.Image.{RomImage}
use Rattle.instr_table.specs.Lane.{Lane}
use Rattle.instr_table.specs.Reach.{Every}
use Rattle.vm_sponsor.specs.declared.amounts.Amounts.{Amounts}
use Rattle.vm_turn.specs.declared.journal.Outcome.{Outcome as End}
use Rattle.vm_turn.specs.State.{State, println_device, say_device}
use Rattle.vm_turn.specs.Boot.{first_actor}
use Rattle.vm_turn.specs.Actors.{is_idle}
use Rattle.vm_turn.specs.Turn.{device_of, entry, turn}
use Rattle.vm_turn.specs.Run.{run}
use Rattle.vm_turn.specs.Sound.{times, created_by}

-- an actor that is committed
abbrev pub IsCommitted : Seen → W → Type 0
IsCommitted s w = (code : W) × (state : W) × (mark : W) × (slot_seen s w ≡ Some (ActorSlot code state mark))

-- none of these events has that actor
abbrev pub NoEventOf : W → List Lane → Type 0
NoEventOf w flight = Every (λ (l : Lane). l.own.actor ≡ w → ⊥) flight

-- What boot begins with and every turn keeps.
-- `front`: the first actor and the devices come first
-- `once`: no actor is named twice
-- `committed`, `named`: those that are named are those that are committed
-- `idle`: one that no event in flight has is idle
-- `no_devices`: no event in flight has a device
pub record RollSound (s : State) : Type 0 where
  pub front : (more : List W) × (s.roll ≡ first_actor ∷ println_device ∷ say_device ∷ more)
  pub once : (w : W) → times w s.roll ≤ 1
  pub committed : (w : W) → Among w s.roll → IsCommitted s.store w
  pub named : (w : W) → IsCommitted s.store w → Among w s.roll
  pub idle : (w : W) → IsCommitted s.store w → NoEventOf w s.flight → is_idle s.store w ≡ true
  pub no_devices : Every (λ (l : Lane). device_of l.own.actor ≡ None) s.flight

-- an actor is idle, and no event in flight has it
abbrev pub IsResting : State → W → Type 0
IsResting s w = (is_idle s.store w ≡ true) × NoEventOf w s.flight

-- an actor is busy with the message of an event in flight, and has the code and state that it had at the dispatch
pub record IsBusy (s : State) (w : W) : Type 0 where
  pub place : ℕ
  pub lane : Lane
  pub there : slice_get s.flight place ≡ Some lane
  pub actor_is : lane.own.actor ≡ w
  pub busy : slot_seen s.store w ≡ Some (ActorSlot lane.own.code lane.own.state (Fix (pos lane.number)))

-- `front`, `once`, `committed`, `named`: the roll names each committed actor, and no other; it names none twice, and the first actor and the
-- devices come first
-- `each`: an actor of it is idle, and no event in flight has it, or is busy with one
-- `flight`, `one_event`, `no_devices`: each event in flight has an actor of it, which no other one has, and which is no device
-- `created`, `with_created`: an actor that such an event created is not on it, and the roll with all that it created names none twice
pub record RollStands (s : State) : Type 0 where
  pub front : (more : List W) × (s.roll ≡ first_actor ∷ println_device ∷ say_device ∷ more)
  pub once : (w : W) → times w s.roll ≤ 1
  pub committed : (w : W) → Among w s.roll → IsCommitted s.store w
  pub named : (w : W) → IsCommitted s.store w → Among w s.roll
  pub each : (w : W) → Among w s.roll → IsResting s w ⊎ IsBusy s w
  pub flight : (i : ℕ) (l : Lane) → slice_get s.flight i ≡ Some l → Among l.own.actor s.roll
  pub one_event : (i j : ℕ) (k l : Lane) → slice_get s.flight i ≡ Some k → slice_get s.flight j ≡ Some l → k.own.actor ≡ l.own.actor → i ≡ j
  pub no_devices : (i : ℕ) (l : Lane) → slice_get s.flight i ≡ Some l → device_of l.own.actor ≡ None
  pub created : (i : ℕ) (l : Lane) → slice_get s.flight i ≡ Some l → (w : W) → Among w (created_by l) → Among w s.roll → ⊥
  pub with_created : (i : ℕ) (l : Lane) → slice_get s.flight i ≡ Some l → (w : W) → times w (s.roll ++ created_by l) ≤ 1

-- so it is after every run
abbrev pub RollsStand : Type 0
RollsStand = (image : RomImage) (grant : Amounts) (lanes : ℕ) (picks : List ℕ) → RollStands (run image grant lanes picks)

-- and after a turn of a run that ends an event in flight, its actor is idle, and no event in flight has it
abbrev pub EndedActorsRest : Type 0
EndedActorsRest =
    (image : RomImage) (grant : Amounts) (lanes : ℕ) (picks : List ℕ) (pick place : ℕ) (lane : Lane) (end : End)
    → slice_get (run image grant lanes picks).flight place ≡ Some lane
    → (turn (run image grant lanes picks) pick).0.journal ≡ (run image grant lanes picks).journal ++ entry lane.number end ∷ []
    → IsResting (turn (run image grant lanes picks) pick).0 lane.own.actor
