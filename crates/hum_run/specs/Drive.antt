-- Turns to an end: what they write, and what they leave.
use Rattle.std.specs.Prelude.{◌≡◌, ℕ, suc, ◌+◌, ◌≤◌, ◌<◌, ◌%◌, nat_le, nat_lt, Bool, true, false, ◌&&◌, List, [], ◌∷◌, ◌++◌, length, slice_get, Option, None, Some}
use Rattle.std.specs.List.{flat_map}
use Rattle.hum_outside.specs.Outside.{Rose, AppendsFront, appended}
use Rattle.quad_memory.specs.Image.{RomImage}
use Rattle.instr_table.specs.declared.charge.Quota.{Quota}
use Rattle.instr_table.specs.Sheet.{account, held, short}
use Rattle.instr_table.specs.Lane.{Lane, lane_row}
use Rattle.vm_sponsor.specs.declared.amounts.Amounts.{Amounts}
use Rattle.vm_turn.specs.declared.journal.Entry.{Entry}
use Rattle.vm_turn.specs.declared.journal.Outcome.{Outcome}
use Rattle.vm_turn.specs.declared.journal.Outcome.TheVariants.{Committed, Failed, RanOut}
use Rattle.vm_turn.specs.declared.journal.Turn.{Turn as Answer}
use Rattle.vm_turn.specs.declared.journal.Turn.TheVariants.{Dispatched, Stepped, Finished, Rest as FoundRest, Spent as FoundSpent}
use Rattle.vm_turn.specs.State.{State, root}
use Rattle.vm_turn.specs.Turn.{dispatchable, turn}
use Rattle.vm_turn.specs.Run.{run, picks, drawn, drawn_after, pick_of}
use Rattle.vm_machine.specs.Machine.{Machine, drawn_run}
use Rattle.failure_lines.specs.Failure.{failure_line}
use Rattle.hum_run.specs.declared.stop.Stop.{Stop}
use Rattle.hum_run.specs.declared.stop.Stop.TheVariants.{Rest, Bound, Spent, Broken}

-- ---- a machine's run

-- its state is that of its run over the first picks of its seed
abbrev pub IsRun : Machine → Type 0
IsRun m = m.state ≡ drawn_run m.image m.grant m.state.lanes m.seed m.turns

-- it was booted from this, and its state is that of its run
pub record RunsFrom (image : RomImage) (grant : Amounts) (lanes seed : ℕ) (m : Machine) : Type 0 where
  pub image_is : m.image ≡ image
  pub grant_is : m.grant ≡ grant
  pub lanes_are : m.state.lanes ≡ lanes
  pub seed_is : m.seed ≡ seed
  pub run : IsRun m

-- all that it wrote since its boot
abbrev pub written_by : Machine → List ℕ
written_by m = (run m.image m.grant m.state.lanes (picks m.seed m.turns)).output

-- what a machine is before its first turn: it wrote nothing, its journal is empty, and the root did not run out
pub record Fresh (m : Machine) : Type 0 where
  pub turns : m.turns ≡ 0
  pub wrote : written_by m ≡ []
  pub journal : m.state.journal ≡ []
  pub not_out : m.state.out_of ≡ None

-- the pick of its next turn
abbrev pub next_pick : Machine → ℕ
next_pick m = pick_of (drawn (drawn_after m.seed m.turns))

-- what its next turn writes
abbrev pub next_piece : Machine → List ℕ
next_piece m = (turn m.state (next_pick m)).0.output

-- ---- the lines on err

abbrev pub line_of : ℕ → Outcome → List ℕ
line_of message Committed = []
line_of message (Failed reason) = failure_line message reason
line_of message (RanOut kind) = []

-- an event that failed has a line, and no other
abbrev pub entry_line : Entry → List ℕ
entry_line e = line_of e.message e.outcome

abbrev pub failed_lines : List Entry → List ℕ
failed_lines entries = flat_map entry_line entries

-- ---- turns

-- the machine completed turns, which wrote these bytes and added these entries to the journal
pub record Advances (old new : Machine) (bytes : List ℕ) (entries : List Entry) : Type 0 where
  pub image : new.image ≡ old.image
  pub grant : new.grant ≡ old.grant
  pub lanes : new.state.lanes ≡ old.state.lanes
  pub seed : new.seed ≡ old.seed
  pub turns : old.turns ≤ new.turns
  pub run : IsRun new
  pub output : written_by new ≡ written_by old ++ bytes
  pub journal : new.state.journal ≡ old.state.journal ++ entries

-- out got what the turns wrote, and err the lines of the events that failed
pub record Drives (old new : Machine) (out_old out_new err_old err_new : Option (List ℕ)) : Type 0 where
  pub bytes : List ℕ
  pub entries : List Entry
  pub advances : Advances old new bytes entries
  pub out : out_new ≡ appended out_old bytes
  pub err : err_new ≡ appended err_old (failed_lines entries)

-- out also got a front of what the next turn writes, which was not completed; that turn writes something
pub record BreaksOut (old new : Machine) (out_old out_new err_old err_new : Option (List ℕ)) : Type 0 where
  pub bytes : List ℕ
  pub entries : List Entry
  pub advances : Advances old new bytes entries
  pub writes : next_piece new ≡ [] → ⊥
  pub out : AppendsFront (appended out_old bytes) out_new (next_piece new)
  pub err : err_new ≡ appended err_old (failed_lines entries)

-- err got the lines but the last one, and a front of that; the last entry has a line
pub record BreaksErr (old new : Machine) (out_old out_new err_old err_new : Option (List ℕ)) : Type 0 where
  pub bytes : List ℕ
  pub entries : List Entry
  pub last : Entry
  pub advances : Advances old new bytes (entries ++ last ∷ [])
  pub has_line : entry_line last ≡ [] → ⊥
  pub out : out_new ≡ appended out_old bytes
  pub err : AppendsFront (appended err_old (failed_lines entries)) err_new (entry_line last)

-- by whether the write on err failed, or that on out
abbrev pub Breaks : Bool → (old new : Machine) (out_old out_new err_old err_new : Option (List ℕ)) → Type 0
Breaks false = BreaksOut
Breaks true = BreaksErr

-- the count of that sink's faults rose
abbrev pub RoseOn : Bool → (out_old out_new err_old err_new : ℕ) → Type 0
RoseOn false out_old out_new err_old err_new = Rose out_old out_new
RoseOn true out_old out_new err_old err_new = Rose err_old err_new

-- ---- where they end

-- nothing is in flight, no message can be dispatched, and the root did not run out
pub record AtRest (s : State) : Type 0 where
  pub no_flight : s.flight ≡ []
  pub no_dispatch : dispatchable s ≡ None
  pub not_out : s.out_of ≡ None

-- the bound's number of events is finished, and a message is pending
abbrev pub is_reached : Option ℕ → State → Bool
is_reached None s = false
is_reached (Some bound) s = nat_le bound (length s.journal) && nat_lt 0 (length s.messages)

-- before none of its turns from this one on was the bound reached
abbrev pub Unreached : Option ℕ → ℕ → Machine → Type 0
Unreached bound from m = (n : ℕ) → from ≤ n → n < m.turns → is_reached bound (drawn_run m.image m.grant m.state.lanes m.seed n) ≡ false

-- why no further turn was taken; of these only one can be
abbrev pub Stops : Option ℕ → Stop → Machine → Type 0
Stops bound Rest m = AtRest m.state × (is_reached bound m.state ≡ false)
Stops bound Bound m = (m.state.out_of ≡ None) × (is_reached bound m.state ≡ true)
Stops bound (Spent kind amount) m = (m.state.out_of ≡ Some kind) × (amount ≡ held m.state.sheet root kind)
Stops bound Broken m = ⊥

-- The root had not run out and no message can be dispatched; the pick chooses an event of the root, which holds less of
-- that kind than the event's instruction costs.
pub record FallsShort (s : State) (pick : ℕ) (kind : Quota) : Type 0 where
  pub running : s.out_of ≡ None
  pub no_dispatch : dispatchable s ≡ None
  pub lane : Lane
  pub chosen : slice_get s.flight (pick % length s.flight) ≡ Some lane
  pub of_root : lane.own.sponsor ≡ root
  pub short : short (account s.sheet root) (lane_row s.store s.sheet lane).charge ≡ Some kind

-- the root ran out of that kind, in the last turn
pub record RanOutLast (m : Machine) (kind : Quota) : Type 0 where
  pub out_of : m.state.out_of ≡ Some kind
  pub before : ℕ
  pub last : m.turns ≡ suc before
  pub short : FallsShort (drawn_run m.image m.grant m.state.lanes m.seed before) (pick_of (drawn (drawn_after m.seed before))) kind

-- where the root had not run out before, it was in the last turn that it did
abbrev pub RanOutSince : Option Quota → Machine → Type 0
RanOutSince before m = before ≡ None → (kind : Quota) → m.state.out_of ≡ Some kind → RanOutLast m kind

-- ---- one turn

-- the stop before a turn, if there is one: the root ran out, or else the bound is reached
abbrev pub stop_by : Option Quota → Bool → State → Option Stop
stop_by (Some kind) reached s = Some (Spent kind (held s.sheet root kind))
stop_by None true s = Some Bound
stop_by None false s = None

abbrev pub stop_before : Option ℕ → State → Option Stop
stop_before bound s = stop_by s.out_of (is_reached bound s) s

-- the line that a turn with that answer adds
abbrev pub turn_line : Answer → List ℕ
turn_line Dispatched = []
turn_line Stepped = []
turn_line (Finished e) = entry_line e
turn_line FoundRest = []
turn_line (FoundSpent sponsor kind) = []

-- whether a turn with that answer was one
abbrev pub is_turn : Answer → Bool
is_turn Dispatched = true
is_turn Stepped = true
is_turn (Finished e) = true
is_turn FoundRest = false
is_turn (FoundSpent sponsor kind) = true

-- what was come to: a turn was completed, or the machine is at rest and as it was
abbrev pub Goes : Bool → (old new : Machine) → Type 0
Goes true old new = (new.turns ≡ old.turns + 1) × RanOutSince None new
Goes false old new = AtRest new.state × (new.state ≡ old.state)
