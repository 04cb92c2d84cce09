-- Which turns a command takes, and what it writes.
use Rattle.std.specs.Prelude.{◌≡◌, ℕ, zero, suc, ◌+◌, ◌<◌, ◌≤◌, nat_eq, nat_le, Bool, true, false, not, ◌&&◌, ◌||◌, if◌then◌else◌, List, [], ◌∷◌, ◌++◌, length, map, drop, take, Option, Some, None, is_none}
use Rattle.std.specs.List.{flat_map, list_any}
use Rattle.cap_words.specs.declared.word.Quad.{Quad}
use Rattle.cap_words.specs.Store.{rom_cell}
use Rattle.cap_words.specs.Seen.{seen}
use Rattle.hum_outside.specs.Outside.{appended}
use Rattle.quad_memory.specs.Memory.{Memory}
use Rattle.quad_memory.specs.Cells.{ram_cell}
use Rattle.instr_table.specs.declared.charge.Quota.{Quota}
use Rattle.instr_table.specs.Lane.{Lane}
use Rattle.vm_step.specs.Step.{sheet_in}
use Rattle.vm_turn.specs.declared.journal.Entry.{Entry}
use Rattle.vm_turn.specs.declared.journal.Turn.{Turn as Answer}
use Rattle.vm_turn.specs.State.{State, Message}
use Rattle.vm_turn.specs.Turn.{is_in_flight, first_to_go, turn}
use Rattle.vm_turn.specs.Run.{completes, drawn, drawn_after, pick_of}
use Rattle.event_queue.specs.Waiting.{waiting}
use Rattle.vm_machine.specs.Machine.{Machine, drawn_run}
use Rattle.uasm_read.specs.Texts.{Bytes}
use Rattle.circular_buffer.specs.Buffer.{keep_last}
use Rattle.quad_debug.specs.declared.command.Command.{Command}
use Rattle.quad_debug.specs.declared.command.Command.TheVariants.{Step, Event, BreakAt, Show, Queue, Sheet, Back}
use Rattle.quad_debug.specs.declared.command.Place.{Place}
use Rattle.quad_debug.specs.declared.command.Place.TheVariants.{Rom, Ram}
use Rattle.quad_debug.specs.declared.wait.Wait.{Wait}
use Rattle.quad_debug.specs.declared.wait.Wait.TheVariants.{Entries, Message as ForMessage}
use Rattle.quad_debug.specs.Texts.{event_lines, turn_line, flight_line, rest_line, spent_line, ready_line, cell_line, sheet_lines}
use Rattle.quad_debug.specs.Kept.{Debugged, kept}

-- ---- a machine's run

-- the state of its run after n turns from boot on
abbrev pub state_at : Machine → ℕ → State
state_at m n = drawn_run m.image m.grant m.state.lanes m.seed n

-- the pick of the turn behind these
abbrev pub pick_at : Machine → ℕ → ℕ
pick_at m n = pick_of (drawn (drawn_after m.seed n))

-- what that turn comes to
abbrev pub turn_at : Machine → ℕ → State × Answer
turn_at m n = turn (state_at m n) (pick_at m n)

-- whether there is such a turn: the machine is not at rest, and its root has not run out
abbrev pub goes_on : Machine → ℕ → Bool
goes_on m n = completes (state_at m n) (pick_at m n)

-- what that turn writes, and the entries that it adds to the journal
abbrev pub piece_at : Machine → ℕ → Bytes
piece_at m n = (turn_at m n).0.output

abbrev pub entries_at : Machine → ℕ → List Entry
entries_at m n = drop (length (state_at m n).journal) (turn_at m n).0.journal

-- that with a line for each entry
abbrev pub told_at : Machine → ℕ → Bytes
told_at m n = piece_at m n ++ event_lines (entries_at m n)

-- what k turns write from the n-th on, where each writes this
abbrev pub written_by : (ℕ → Bytes) → ℕ → ℕ → Bytes
written_by text n zero = []
written_by text n (suc k) = written_by text n k ++ text (n + k)

-- ---- rest

abbrev pub is_empty : {A : Type 0} → List A → Bool
is_empty [] = true
is_empty (x ∷ xs) = false

-- nothing is in flight, and no message can go
abbrev pub is_at_rest : State → Bool
is_at_rest s = is_empty s.flight && is_none (first_to_go s.store s.sheet s.flight s.messages)

-- ---- what is waited for

-- an event of that message ended
abbrev pub has_ended : ℕ → List Entry → Bool
has_ended message entries = list_any (λ (e : Entry). nat_eq e.message message) entries

-- so many events ended, or one of that message did
abbrev pub is_over : Wait → List Entry → Bool
is_over (Entries count) journal = nat_le count (length journal)
is_over (ForMessage message) journal = has_ended message journal

-- the message is in flight
abbrev pub is_begun : Wait → List Lane → Bool
is_begun (Entries count) flight = false
is_begun (ForMessage message) flight = is_in_flight message flight

-- it has come
abbrev pub is_met : Wait → State → Bool
is_met wait s = is_over wait s.journal || is_begun wait s.flight

-- ---- the turns of a command

-- it has come after j turns
abbrev pub met_at : Machine → Wait → ℕ → Bool
met_at m wait j = is_met wait (state_at m (m.turns + j))

-- `event` waits for so many more entries
abbrev pub more_entries : Machine → ℕ → Wait
more_entries m count = Entries (length m.state.journal + count)

-- whether j turns are enough, though there may be more
abbrev pub is_enough : Machine → Command → ℕ → Bool
is_enough m (Step count) j = nat_le count j
is_enough m (Event count) j = met_at m (more_entries m count) j
is_enough m (BreakAt message) j = met_at m (ForMessage message) j
is_enough m (Show place) j = true
is_enough m Queue j = true
is_enough m Sheet j = true
is_enough m (Back count) j = true

-- k turns are taken, the fewest that are enough, or all that there are
pub record TakesTurns (m : Machine) (enough : ℕ → Bool) (k : ℕ) : Type 0 where
  pub before : (j : ℕ) → j < k → (enough j ≡ false) × (goes_on m (m.turns + j) ≡ true)
  pub at_end : (enough k || not (goes_on m (m.turns + k))) ≡ true

-- ---- what a command writes

-- the message that is in flight
abbrev pub begun_line : Wait → Bytes
begun_line (Entries count) = []
begun_line (ForMessage message) = flight_line message

-- how `event` and `break` end: the root ran out; or what is waited for is in flight; or the machine is at rest, where that is to be told
abbrev pub unspent_line : Wait → (rests : Bool) → State → Bytes
unspent_line wait rests s = if is_begun wait s.flight then begun_line wait else if rests && is_at_rest s then rest_line else []

abbrev pub ending_by : Option Quota → Wait → (rests : Bool) → State → Bytes
ending_by (Some kind) wait rests s = spent_line
ending_by None wait rests s = unspent_line wait rests s

abbrev pub ending : Wait → (rests : Bool) → State → Bytes
ending wait rests s = ending_by s.out_of wait rests s

-- that the machine is at rest is told where it was so before, and where what is waited for did not come
abbrev pub tells_rest : Wait → (taken : ℕ) → State → Bool
tells_rest wait taken s = nat_eq taken 0 || not (is_met wait s)

-- the ending after so many turns
abbrev pub ending_at : Machine → Wait → ℕ → Bytes
ending_at m wait k = let s = state_at m (m.turns + k) in ending wait (tells_rest wait k s) s

-- the numbers of the ready messages: those that are not finished and not in flight
abbrev pub ready_in : State → List ℕ
ready_in s = map (λ (m : Message). m.number) (waiting s.flight s.messages)

-- the cell of a place, whatever it was taken for
abbrev pub cell_at : Memory → Place → Option Quad
cell_at quads (Rom n) = rom_cell quads.store.rom n
cell_at quads (Ram n) = ram_cell quads.store.ram n

-- what a turn of a command writes
abbrev pub turn_text : Machine → Command → ℕ → Bytes
turn_text m (Step count) n = piece_at m n
turn_text m (Event count) n = told_at m n
turn_text m (BreakAt message) n = told_at m n
turn_text m (Show place) n = []
turn_text m Queue n = []
turn_text m Sheet n = []
turn_text m (Back count) n = []

-- what a command writes behind its turns, of which there were k
abbrev pub last_text : Debugged → Command → ℕ → Bytes
last_text d (Step count) k = turn_line (d.machine.turns + k)
last_text d (Event count) k = ending_at d.machine (more_entries d.machine count) k
last_text d (BreakAt message) k = ending_at d.machine (ForMessage message) k
last_text d (Show place) k = cell_line place (cell_at d.machine.quads place)
last_text d Queue k = flat_map ready_line (ready_in d.machine.state)
last_text d Sheet k = sheet_lines 0 d.machine.state.sheet
last_text d (Back count) k = event_lines (keep_last count (kept d))

-- ---- what a call leaves

-- the memory and the sponsors that are seen of a machine are those of its state
pub record HoldsState (m : Machine) : Type 0 where
  pub store : seen m.quads.store ≡ m.state.store
  pub sheet : sheet_in m.quads m.sheet ≡ m.state.sheet

-- the machine after so many turns of its run; after none it is as it was
pub record IsAfter (old new : Machine) (turns : ℕ) : Type 0 where
  pub image : new.image ≡ old.image
  pub grant : new.grant ≡ old.grant
  pub lanes : new.state.lanes ≡ old.state.lanes
  pub seed : new.seed ≡ old.seed
  pub turns_are : new.turns ≡ old.turns + turns
  pub state : new.state ≡ state_at old (old.turns + turns)
  pub memory : HoldsState new
  pub same : turns ≡ 0 → new ≡ old

-- turns were taken, each of which writes this, and then this was written
module _ (enough : ℕ → Bool) (text last : ℕ → Bytes) (old new : Debugged) (out_old out_new : Option Bytes) where
  abbrev pub whole : ℕ → Bytes
  whole k = written_by text old.machine.turns k ++ last k

  -- what k turns and the device of the next one write
  abbrev pub up_to_device : ℕ → Bytes
  up_to_device k = written_by text old.machine.turns k ++ piece_at old.machine (old.machine.turns + k)

  pub record Took : Type 0 where
    pub turns : ℕ
    pub takes : TakesTurns old.machine enough turns
    pub machine : IsAfter old.machine new.machine turns
    pub began : new.began ≡ old.began
    pub out : out_new ≡ appended out_old (whole turns)

  -- A write failed: of the turns these were completed, and a front of the text was written. All that devices wrote in them is in it, and
  -- nothing behind what the device of the next turn writes.
  pub record Broke : Type 0 where
    pub turns : ℕ
    pub takes : TakesTurns old.machine enough turns
    pub completed : ℕ
    pub within : completed ≤ turns
    pub machine : IsAfter old.machine new.machine completed
    pub began : new.began ≡ old.began
    pub count : ℕ
    pub count_within : count ≤ length (whole turns)
    pub out : out_new ≡ appended out_old (take count (whole turns))
    pub wrote : (j : ℕ) → j < completed → length (up_to_device j) ≤ count
    pub no_more : completed < turns → count ≤ length (up_to_device completed)

-- the command was obeyed
abbrev pub Obeys : Command → (old new : Debugged) → (out_old out_new : Option Bytes) → Type 0
Obeys command old new = Took (is_enough old.machine command) (turn_text old.machine command) (last_text old command) old new

-- a write failed before it was
abbrev pub BreaksOff : Command → (old new : Debugged) → (out_old out_new : Option Bytes) → Type 0
BreaksOff command old new = Broke (is_enough old.machine command) (turn_text old.machine command) (last_text old command) old new
