-- What an instruction reads first.
use Rattle.std.specs.Prelude.{◌≡◌, Some}
use Rattle.cap_words.specs.Words.{W}
use Rattle.cap_words.specs.Seen.{Seen, EventSlot, ActorSlot, slot_seen}
use Rattle.instr_table.specs.Event.{Own}
use Rattle.vm_step.specs.declared.reads.OwnWords.{OwnWords}
use Rattle.vm_step.specs.Flight.{own_at}

-- what the event has of its own, in these words
abbrev pub own_in : OwnWords → Own
own_in o = record { sponsor = o.sponsor; actor = o.actor; code = o.code; state = o.state; message = o.message }

-- the word names an event, and its target an actor
pub record IsInFlight (s : Seen) (event : W) : Type 0 where
  pub sent : (sponsor target content : W) × (slot_seen s event ≡ Some (EventSlot sponsor target content))
  pub actor : (code state mark : W) × (slot_seen s (own_at s event).actor ≡ Some (ActorSlot code state mark))
