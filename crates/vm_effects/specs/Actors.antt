-- Actors at an event's end.
use Rattle.std.specs.Prelude.{List, [], ◌∷◌, Option, Some, None}
use Rattle.cap_words.specs.Words.{undef}
use Rattle.cap_words.specs.Store.{cap_place}
use Rattle.cap_words.specs.Seen.{Slot, ActorSlot, Seen, altered}
use Rattle.quad_memory.specs.declared.cells.ActorCell.{ActorCell}
use Rattle.instr_table.specs.Event.{Behaviour, Made}

-- the actor is idle, with the behaviour that was gathered, if any
abbrev pub idle_cell : Option Behaviour → ActorCell → ActorCell
idle_cell None c = record c { mark = undef }
idle_cell (Some b) c = record { code = b.code; state = b.state; mark = undef }

-- what is seen of an actor that is committed
abbrev pub actor_slot : ActorCell → Slot
actor_slot c = ActorSlot c.code c.state c.mark

-- each of these actors is idle, with its code and state
abbrev pub all_idle : Seen → List Made → Seen
all_idle s [] = s
all_idle s (m ∷ ms) = all_idle (altered s (cap_place m.actor) (ActorSlot m.code m.state undef)) ms
