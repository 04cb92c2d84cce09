-- What a turn may change, by its answer.
use Rattle.std.specs.Prelude.{◌≡◌, ◌⊎◌, ℕ, ◌%◌, pos, List, [], ◌∷◌, ◌++◌, length, remove, slice_get, Option, Some, None}
use Rattle.cap_words.specs.Words.{Fix}
use Rattle.cap_words.specs.Seen.{Slot, grown}
use Rattle.instr_table.specs.declared.charge.Quota.{Quota}
use Rattle.instr_table.specs.Sheet.{Account, account, short, spend, stop, prepared}
use Rattle.instr_table.specs.Outcome.{Going, Outcome, Goes, Faults, Commits, Row}
use Rattle.instr_table.specs.Lane.{Lane, lane_row}
use Rattle.vm_turn.specs.declared.journal.Entry.{Entry}
use Rattle.vm_turn.specs.declared.journal.Outcome.{Outcome as End}
use Rattle.vm_turn.specs.declared.journal.Outcome.TheVariants.{Committed, Failed, RanOut}
use Rattle.vm_turn.specs.declared.journal.Turn.{Turn as Answer}
use Rattle.vm_turn.specs.declared.journal.Turn.TheVariants.{Dispatched, Stepped, Finished, Rest, Spent}
use Rattle.vm_turn.specs.State.{Message, State, root}
use Rattle.vm_turn.specs.Actors.{sent_at, at_actor, resting}
use Rattle.vm_turn.specs.Piece.{piece}
use Rattle.vm_turn.specs.Turn.{dispatchable, device_of, begin, delivered, entry, without, finish, go_on, released, turn}

-- ---- an instruction

-- the event in flight that a pick chooses
pub record Picked (s : State) (pick : ℕ) : Type 0 where
  pub lane : Lane
  pub there : slice_get s.flight (pick % length s.flight) ≡ Some lane

module _ {s : State} {pick : ℕ} (p : Picked s pick) where
  -- its place among those in flight
  abbrev pub place : ℕ
  place = pick % length s.flight

  -- the row of its next instruction, and the sheet after its sponsor paid for that
  abbrev pub next_row : Row
  next_row = lane_row s.store s.sheet p.lane

  abbrev pub paid_sheet : List Account
  paid_sheet = spend s.sheet p.lane.own.sponsor next_row.charge

  -- what its sponsor holds too little of, if anything
  abbrev pub short_of : Option Quota
  short_of = short (account s.sheet p.lane.own.sponsor) next_row.charge

  -- its sponsor can pay for its next instruction, which comes to that
  abbrev pub ComesTo : Outcome → Type 0
  ComesTo o = (short_of ≡ None) × (next_row.outcome ≡ o)

-- An event goes on as the row of its next instruction says, which its sponsor paid for: its own lane is another, and the sheet; it stays the
-- same event. Quads are taken, and nothing else changes in the store.
pub record GoesOn (s : State) (pick : ℕ) (t : State) : Type 0 where
  pub event : Picked s pick
  pub going : Going
  pub comes_to : ComesTo event (Goes going)
  pub goes : t ≡ go_on s (place event) event.lane (paid_sheet event) going
  pub cells : List Slot
  pub takes : t.store ≡ grown s.store cells

-- ---- ends

-- an event ends without effect, over that sheet: its entry is added, its message and its lane are gone, and its actor is idle, with the
-- code and state that it had; the roll, the output and the other messages are as they were
abbrev pub dropped : State → ℕ → Lane → List Account → End → State
dropped s place lane sheet end = record s {
  store = at_actor s.store lane.own.actor (resting None);
  messages = without lane.number s.messages;
  flight = remove s.flight place;
  sheet = sheet;
  journal = s.journal ++ entry lane.number end ∷ [];
}

-- so it ends where its sponsor ran out, who is stopped; and a signal that was prepared becomes the next message
abbrev pub exhausted : State → ℕ → Lane → Quota → State
exhausted s place lane kind = released (prepared s.sheet lane.own.sponsor) kind (dropped s place lane (stop s.sheet lane.own.sponsor) (RanOut kind))

-- a message goes to a device, which writes these bytes, or none where it refuses: it is the first message that can go, where a lane is free
pub record Delivery (s : State) (number : ℕ) (bytes : Option (List ℕ)) : Type 0 where
  pub message : Message
  pub first : dispatchable s ≡ Some message
  pub number_is : message.number ≡ number
  pub device : ℕ
  pub device_is : device_of (sent_at s.store message.event).target ≡ Some device
  pub bytes_are : piece device s.store (sent_at s.store message.event).content ≡ bytes

-- The message of an entry ends so. The event in flight that the pick chose took its next instruction, which commits, or which faults with that
-- reason, and was charged for it; or it ran out, since its sponsor, which is not the root, was short of that kind for its next instruction, and
-- was not charged. Or a device ended it, which writes its piece.
abbrev pub Ends : State → ℕ → Entry → End → State → Type 0
Ends s pick e Committed t =
    ((p : Picked s pick) × (p.lane.number ≡ e.message) × ComesTo p Commits × (t ≡ finish s (place p) p.lane (paid_sheet p) p.lane.effects Committed))
    ⊎ ((bytes : List ℕ) × Delivery s e.message (Some bytes) × (t ≡ delivered s e.message Committed bytes))
Ends s pick e (Failed w) t =
    ((p : Picked s pick) × (p.lane.number ≡ e.message) × ComesTo p (Faults w) × (t ≡ dropped s (place p) p.lane (paid_sheet p) (Failed w)))
    ⊎ (Delivery s e.message None × (w ≡ Fix (pos 8)) × (t ≡ delivered s e.message (Failed w) []))
Ends s pick e (RanOut kind) t =
    (p : Picked s pick) × (p.lane.number ≡ e.message) × (short_of p ≡ Some kind) × (p.lane.own.sponsor ≡ root → ⊥) × (t ≡ exhausted s (place p) p.lane kind)

-- the root ran out of that kind before, and nothing changes; or it is short of it now, for the next instruction of an event of its own, which
-- ends the run
abbrev pub RunsOut : State → ℕ → Quota → State → Type 0
RunsOut s pick kind t =
    ((s.out_of ≡ Some kind) × (t ≡ s))
    ⊎ ((s.out_of ≡ None) × (p : Picked s pick) × (short_of p ≡ Some kind) × (p.lane.own.sponsor ≡ root)
    × (t ≡ record (exhausted s (place p) p.lane kind) { out_of = Some kind }))

-- what follows with that answer
abbrev pub Changes : State → ℕ → Answer → State → Type 0
Changes s pick Dispatched t =
    (m : Message) × (dispatchable s ≡ Some m) × (device_of (sent_at s.store m.event).target ≡ None)
    × (t ≡ begin s m.number (sent_at s.store m.event))
Changes s pick Stepped t = GoesOn s pick t
Changes s pick (Finished e) t = Ends s pick e e.outcome t
Changes s pick Rest t = (t ≡ s) × (s.flight ≡ []) × (dispatchable s ≡ None)
Changes s pick (Spent sponsor kind) t = (sponsor ≡ root) × RunsOut s pick kind t

-- each turn changes no more than its answer tells
abbrev pub TurnsChange : Type 0
TurnsChange = (s : State) (pick : ℕ) → Changes s pick (turn s pick).1 (turn s pick).0
