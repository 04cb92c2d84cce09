-- What is seen of events and actors is there.
use Rattle.std.proofs.Common.{◌≡◌, Option, Some, ap, ◌∙◌}
use Rattle.std.specs.Prelude.{is_some, option_map, IsSome}
use Rattle.cap_words.specs.declared.word.Quad.{Quad}
use Rattle.cap_words.specs.declared.word.Tag.TheVariants.{Event}
use Rattle.cap_words.specs.Words.{W}
use Rattle.cap_words.specs.Store.{Store}
use Rattle.cap_words.specs.Seen.{ActorSlot, EventSlot, seen, slot_seen}
use Rattle.cap_words.proofs.Erased.{slot-seen, event-there, actor-there}
use Rattle.quad_memory.specs.declared.cells.EventCell.{EventCell}
use Rattle.quad_memory.specs.Cells.{actor_at, actor_in, event_at, event_in}
use Rattle.quad_memory.proofs.Typed.{at-quad}

pub event-known : (s : Store) (w a b m : W) → slot_seen (seen s) w ≡ Some (EventSlot a b m) → IsSome (event_at s w)
event-known s w a b m h = let k = event-there s w a b m h in ap (λ (o : Option Quad). is_some (option_map event_in o)) k.1

pub actor-known : (s : Store) (w a b m : W) → slot_seen (seen s) w ≡ Some (ActorSlot a b m) → IsSome (actor_at s w)
actor-known s w a b m h = let k = actor-there s w a b m h in ap (λ (o : Option Quad). is_some (option_map actor_in o)) k.1

-- the cell of an event, as it is seen
pub event-seen : (s : Store) (w : W) (cell : EventCell) → event_at s w ≡ Some cell → slot_seen (seen s) w ≡ Some (EventSlot cell.sponsor cell.target cell.message)
event-seen s w cell h =
    let q = at-quad event_in s Event w cell h in
    slot-seen s Event w q.0 q.1 ∙ ap (λ (e : EventCell). Some (EventSlot e.sponsor e.target e.message)) q.2
