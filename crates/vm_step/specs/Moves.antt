-- What the operations do that change no sponsor.
use Rattle.std.specs.Prelude.{◌≡◌, ℕ, ◌+◌, ◌≤◌, List, []}
use Rattle.cap_words.specs.Words.{W}
use Rattle.cap_words.specs.Store.{used}
use Rattle.cap_words.specs.Seen.{Seen, seen}
use Rattle.cap_words.specs.Frame.{Framed}
use Rattle.quad_memory.specs.Memory.{Memory}
use Rattle.instr_table.specs.declared.op.Op.{Op}
use Rattle.instr_table.specs.Event.{Effect, Nothing, Sends, Creates, Assigns, Becomes, Sponsors, Grants, Reclaims, Starts, Stops, with_effect}
use Rattle.instr_table.specs.Outcome.{Going, Outcome, Goes, Faults, Commits, Row}
use Rattle.instr_table.specs.Row.{row}
use Rattle.instr_table.specs.Lane.{values, after_going}
use Rattle.vm_effects.specs.Gathered.{effects_of, IsLinked}
use Rattle.vm_step.specs.declared.lane.Lane.{Lane}
use Rattle.vm_step.specs.declared.lane.Stack.{Stack}
use Rattle.vm_step.specs.declared.lane.StepEnd.{StepEnd}
use Rattle.vm_step.specs.declared.lane.StepEnd.TheVariants.{Going as GoingOn, Commit, Abort}
use Rattle.vm_step.specs.Stack.{items_from, IsStack}
use Rattle.vm_step.specs.Flight.{own_at, stack_of, lane_words}

-- the values of a stack by itself
abbrev pub values_in : Seen → Stack → List W
values_in s st = values (items_from s st.depth st.word)

-- the values of a lane's stack
abbrev pub values_of : Memory → Lane → List W
values_of m l = values (stack_of m.store l)

-- a lane's stack and lists stand in the memory, where so many quads are free
pub record Ready (m : Memory) (l : Lane) (free : ℕ) : Type 0 where
  pub stacked : IsStack (seen m.store) l.depth l.stack
  pub shallow : l.depth ≤ used m.store
  pub linked : IsLinked m.store l.effects
  pub room : used m.store + free ≤ m.room

-- the effect is one on no sponsor
abbrev pub IsAlone : Effect → Type 0
IsAlone Nothing = Unit {0}
IsAlone (Sends m) = Unit {0}
IsAlone (Creates m) = Unit {0}
IsAlone (Assigns m) = Unit {0}
IsAlone (Becomes b) = Unit {0}
IsAlone (Sponsors w) = ⊥
IsAlone (Grants w kind n) = ⊥
IsAlone (Reclaims w) = ⊥
IsAlone (Starts w signal) = ⊥
IsAlone (Stops w) = ⊥

-- the words of quads that an effect may change: the event's own; where there is none, no quad changes
abbrev pub touched : Effect → List W → List W
touched Nothing ws = []
touched (Sends m) ws = ws
touched (Creates m) ws = ws
touched (Assigns m) ws = ws
touched (Becomes b) ws = ws
touched (Sponsors w) ws = ws
touched (Grants w kind n) ws = ws
touched (Reclaims w) ws = ws
touched (Starts w signal) ws = ws
touched (Stops w) ws = ws

-- the event goes on so: what is seen and the stack; the next code word; the record; every quad but those that the effect touches is as it was
pub record Moves (before after : Memory) (l m : Lane) (g : Going) : Type 0 where
  pub seen_is : (seen after.store, stack_of after.store m) ≡ after_going (seen before.store) (stack_of before.store l) g
  pub code_is : m.code ≡ g.goes_to
  pub number_is : m.number ≡ l.number
  pub event_is : m.event ≡ l.event
  pub effects_are : effects_of after.store m.effects ≡ with_effect (effects_of before.store l.effects) g.effect
  pub alone : IsAlone g.effect
  pub stacked : IsStack (seen after.store) m.depth m.stack
  pub shallow : m.depth ≤ used after.store
  pub linked : IsLinked after.store m.effects
  pub frame : Framed before.store after.store (touched g.effect (lane_words before.store l))
  pub room_is : after.room ≡ before.room

-- items are taken off the stack and others pushed, the first one first, and nothing else is done
abbrev pub restacking : ℕ → List W → W → Going
restacking pops pushed next = record { pops = pops; made = []; pushed = pushed; goes_to = next; effect = Nothing }

-- an operation that changes no sponsor: the event goes on, or ends, and then nothing changes
abbrev pub Turns : Memory → Memory → Lane → Lane → Outcome → StepEnd → Type 0
Turns before after l m (Goes g) end = (end ≡ GoingOn) × Moves before after l m g
Turns before after l m (Faults w) end = (end ≡ Abort w) × (after ≡ before) × (m ≡ l)
Turns before after l m Commits end = (end ≡ Commit) × (after ≡ before) × (m ≡ l)

-- the row of an operation on no sponsor, which looks at no sheet
abbrev pub plain_row : Memory → Lane → Op → W → Row
plain_row m l op next = row (own_at (seen m.store) l.event) op (seen m.store) [] (effects_of m.store l.effects) (values_of m l) next
