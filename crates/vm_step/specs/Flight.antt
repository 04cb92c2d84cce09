-- The event in flight that a lane stands for.
use Rattle.std.specs.Prelude.{◌≡◌, ◌≤◌, List, Some}
use Rattle.cap_words.specs.declared.word.Quad.{Quad}
use Rattle.cap_words.specs.declared.word.Tag.TheVariants.{Actor, Event}
use Rattle.cap_words.specs.Words.{W}
use Rattle.cap_words.specs.Store.{Store, opaque_cell, used}
use Rattle.cap_words.specs.Seen.{Seen, EventSlot, ActorSlot, seen, slot_seen}
use Rattle.cap_words.specs.Frame.{Among}
use Rattle.instr_table.specs.Event.{Own}
use Rattle.instr_table.specs.Lane.{Item, Lane as Flying}
use Rattle.vm_effects.specs.Gathered.{effects_of, own_words, IsLinked}
use Rattle.vm_turn.specs.Actors.{sent_at}
use Rattle.vm_turn.specs.Turn.{own_of}
use Rattle.vm_step.specs.declared.lane.Lane.{Lane}
use Rattle.vm_step.specs.Stack.{items_from, IsStack}

-- what the event that a word names has of its own
abbrev pub own_at : Seen → W → Own
own_at s event = own_of s (sent_at s event)

-- the stack of a lane
abbrev pub stack_of : Store → Lane → List Item
stack_of s l = items_from (seen s) l.depth l.stack

-- the event in flight that a lane stands for
abbrev pub lane_of : Store → Lane → Flying
lane_of s l = record { number = l.number; own = own_at (seen s) l.event; code = l.code; stack = stack_of s l; effects = effects_of s l.effects }

-- the words of a lane's own quads: the messages that it sent and the actors that it created
abbrev pub lane_words : Store → Lane → List W
lane_words s l = own_words (effects_of s l.effects)

-- what a lane's words name, where the sponsors are these: a stack of its depth, the lists of its effects, and an event under one of the
-- sponsors, whose target is an actor
pub record Held (s : Store) (sponsors : List W) (l : Lane) : Type 0 where
  pub stacked : IsStack (seen s) l.depth l.stack
  pub shallow : l.depth ≤ used s
  pub linked : IsLinked s l.effects
  pub event : (sponsor target content : W) × (slot_seen (seen s) l.event ≡ Some (EventSlot sponsor target content))
  pub sponsor : Among (own_at (seen s) l.event).sponsor sponsors
  pub actor : (code state mark : W) × (slot_seen (seen s) (own_at (seen s) l.event).actor ≡ Some (ActorSlot code state mark))

-- every event and actor but those that these words name is as it was, links included
pub record Aside (s t : Store) (ws : List W) : Type 0 where
  pub events : (v : W) (q : Quad) → (Among v ws → ⊥) → opaque_cell s Event v ≡ Some q → opaque_cell t Event v ≡ Some q
  pub actors : (v : W) (q : Quad) → (Among v ws → ⊥) → opaque_cell s Actor v ≡ Some q → opaque_cell t Actor v ≡ Some q
