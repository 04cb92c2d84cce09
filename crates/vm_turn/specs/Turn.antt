-- One turn of the machine.
use Rattle.std.specs.Prelude.{ℕ, suc, ◌+◌, ◌%◌, nat_eq, nat_lt, if◌then◌else◌, pos, Bool, true, false, ◌&&◌, not, List, [], ◌∷◌, ◌++◌, length, map, remove, slice_get, slice_set, Option, Some, None}
use Rattle.cap_words.specs.Words.{W, Fix, same_word}
use Rattle.cap_words.specs.Seen.{Seen}
use Rattle.instr_table.specs.declared.charge.Quota.{Quota}
use Rattle.instr_table.specs.declared.charge.Quota.TheVariants.{Memory, Events, Cycles}
use Rattle.instr_table.specs.Event.{Own, Sent, Made, Effects, no_effects}
use Rattle.instr_table.specs.Sheet.{Account, account, short, spend, runs, stop, prepared, sheet_after}
use Rattle.instr_table.specs.Outcome.{Going, Outcome, Goes, Faults, Commits, Row}
use Rattle.instr_table.specs.Lane.{Lane, begun, after_going, lane_row, gone}
use Rattle.vm_turn.specs.declared.journal.Entry.{Entry}
use Rattle.vm_turn.specs.declared.journal.Outcome.{Outcome as End}
use Rattle.vm_turn.specs.declared.journal.Outcome.TheVariants.{Committed, Failed, RanOut}
use Rattle.vm_turn.specs.declared.journal.Turn.{Turn as Answer}
use Rattle.vm_turn.specs.declared.journal.Turn.TheVariants.{Dispatched, Stepped, Finished, Rest, Spent}
use Rattle.vm_turn.specs.State.{Message, State, root, println_device, say_device}
use Rattle.vm_turn.specs.Actors.{sent_at, with_content, is_idle, behaviour_at, at_actor, busy, settled}
use Rattle.vm_turn.specs.Piece.{piece}

-- ---- which message is dispatched

-- whether an event in flight has that number
abbrev pub is_in_flight : ℕ → List Lane → Bool
is_in_flight n [] = false
is_in_flight n (l ∷ ls) = if nat_eq l.number n then true else is_in_flight n ls

-- the message is not in flight, its target is idle and its sponsor runs
abbrev pub can_go : Seen → List Account → List Lane → Message → Bool
can_go s sheet flight m = not (is_in_flight m.number flight) && is_idle s (sent_at s m.event).target && runs sheet (sent_at s m.event).sponsor

-- the first of these messages that can go
abbrev pub first_to_go : Seen → List Account → List Lane → List Message → Option Message
first_to_go s sheet flight [] = None
first_to_go s sheet flight (m ∷ ms) = if can_go s sheet flight m then Some m else first_to_go s sheet flight ms

-- the message that is dispatched next, where a lane is free
abbrev pub dispatchable : State → Option Message
dispatchable s = if nat_lt (length s.flight) s.lanes then first_to_go s.store s.sheet s.flight s.messages else None

-- ---- messages that end

-- an entry of the journal
abbrev pub entry : ℕ → End → Entry
entry number end = record { message = number; outcome = end }

-- the messages but that of a number
abbrev pub without : ℕ → List Message → List Message
without n [] = []
without n (m ∷ ms) = if nat_eq m.number n then without n ms else m ∷ without n ms

-- ---- dispatch

-- a device is known by its cell, which boot made, whatever the code of an actor is
abbrev pub device_of : W → Option ℕ
device_of w = if same_word w println_device then Some 0 else if same_word w say_device then Some 1 else None

-- what an event has of its own from its dispatch on
abbrev pub own_of : Seen → Sent → Own
own_of s m = record { sponsor = m.sponsor; actor = m.target; code = (behaviour_at s m.target).code; state = (behaviour_at s m.target).state; message = m.content }

-- an event begins, and its actor is busy
abbrev pub begin : State → ℕ → Sent → State
begin s number m = record s { store = at_actor s.store m.target (busy number); flight = s.flight ++ begun number (own_of s.store m) ∷ [] }

-- a device's message ends so, and these bytes are written
abbrev pub delivered : State → ℕ → End → List ℕ → State
delivered s number end bytes = record s { messages = without number s.messages; journal = s.journal ++ entry number end ∷ []; output = s.output ++ bytes }

-- the reason of a message that a device refuses
abbrev pub refused : End
refused = Failed (Fix (pos 8))

-- a device's delivery, over the bytes that it writes
abbrev pub deliver : State → ℕ → Option (List ℕ) → State × Answer
deliver s number (Some bytes) = (delivered s number Committed bytes, Finished (entry number Committed))
deliver s number None = (delivered s number refused [], Finished (entry number refused))

-- a message is dispatched: to a device it is delivered whole
abbrev pub dispatch : State → ℕ → Sent → Option ℕ → State × Answer
dispatch s number m (Some device) = deliver s number (piece device s.store m.content)
dispatch s number m None = (begin s number m, Dispatched)

-- ---- the end of an event

-- messages for what was sent, numbered from n on
abbrev pub numbered_from : ℕ → List Sent → List Message
numbered_from n [] = []
numbered_from n (m ∷ ms) = record { number = n; event = m.event } ∷ numbered_from (suc n) ms

-- the event at place i ends so, over this sheet, and these effects take place
abbrev pub finish : State → ℕ → Lane → List Account → Effects → End → State
finish s i l sheet e end = record s {
  store = settled s.store l.own.actor e;
  roll = s.roll ++ map (λ (m : Made). m.actor) e.created;
  messages = without l.number s.messages ++ numbered_from s.next_number e.sent;
  next_number = s.next_number + length e.sent;
  flight = remove s.flight i;
  sheet = sheet;
  journal = s.journal ++ entry l.number end ∷ [];
}

-- ---- an instruction that was paid

-- the event at place i goes on
abbrev pub go_on : State → ℕ → Lane → List Account → Going → State
go_on s i l sheet g = record s { store = (after_going s.store l.stack g).0; flight = slice_set s.flight i (gone s.store l g); sheet = sheet_after sheet l.own.sponsor g.effect }

-- what the instruction comes to
abbrev pub act : State → ℕ → Lane → List Account → Outcome → State × Answer
act s i l sheet (Goes g) = (go_on s i l sheet g, Stepped)
act s i l sheet (Faults w) = (finish s i l sheet no_effects (Failed w), Finished (entry l.number (Failed w)))
act s i l sheet Commits = (finish s i l sheet l.effects Committed, Finished (entry l.number Committed))

-- ---- a sponsor that holds too little

-- what a signal says
abbrev pub signal_number : Quota → ℕ
signal_number Memory = 1
signal_number Events = 2
signal_number Cycles = 3

-- a prepared signal, if there is one, becomes the next message
abbrev pub released : Option W → Quota → State → State
released None kind s = s
released (Some signal) kind s = record s {
  store = with_content s.store signal (Fix (pos (signal_number kind)));
  messages = s.messages ++ record { number = s.next_number; event = signal } ∷ [];
  next_number = suc s.next_number;
}

-- the root's running out ends the run
abbrev pub out_by : Bool → Quota → State → State
out_by true kind s = record s { out_of = Some kind }
out_by false kind s = s

abbrev pub spent_by : Bool → Quota → Entry → Answer
spent_by true kind e = Spent root kind
spent_by false kind e = Finished e

-- the event's sponsor is stopped, and its signal released
abbrev pub run_out : State → ℕ → Lane → Quota → State
run_out s i l kind = released (prepared s.sheet l.own.sponsor) kind (finish s i l (stop s.sheet l.own.sponsor) no_effects (RanOut kind))

-- ---- the turn

-- the event at place i takes the instruction of that row, where its sponsor is not short of anything
abbrev pub charged : State → ℕ → Lane → Row → Option Quota → State × Answer
charged s i l r (Some kind) = (out_by (same_word l.own.sponsor root) kind (run_out s i l kind), spent_by (same_word l.own.sponsor root) kind (entry l.number (RanOut kind)))
charged s i l r None = act s i l (spend s.sheet l.own.sponsor r.charge) r.outcome

-- the event at place i takes one instruction; where none is in flight, the machine is at rest
abbrev pub step : State → ℕ → Option Lane → State × Answer
step s i None = (s, Rest)
step s i (Some l) = charged s i l (lane_row s.store s.sheet l) (short (account s.sheet l.own.sponsor) (lane_row s.store s.sheet l).charge)

-- a message that can be dispatched goes before the instruction
abbrev pub go : State → ℕ → Option Message → State × Answer
go s pick (Some m) = dispatch s m.number (sent_at s.store m.event) (device_of (sent_at s.store m.event).target)
go s pick None = step s (pick % length s.flight) (slice_get s.flight (pick % length s.flight))

-- once the root ran out nothing changes
abbrev pub unless_spent : State → ℕ → Option Quota → State × Answer
unless_spent s pick (Some kind) = (s, Spent root kind)
unless_spent s pick None = go s pick (dispatchable s)

-- one turn, over a pick
abbrev pub turn : State → ℕ → State × Answer
turn s pick = unless_spent s pick s.out_of
