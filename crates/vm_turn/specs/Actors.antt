-- What the machine reads of events and actors, and what it changes of actors.
use Rattle.std.specs.Prelude.{ℕ, pos, Bool, false, Option, Some, None}
use Rattle.cap_words.specs.Words.{W, Fix, same_word, undef}
use Rattle.cap_words.specs.Store.{cap_place}
use Rattle.cap_words.specs.Seen.{Seen, Slot, ActorSlot, EventSlot, slot_seen, altered}
use Rattle.instr_table.specs.Event.{Sent, Behaviour, Effects}
use Rattle.vm_effects.specs.Actors.{all_idle}

-- ---- events

-- an event's sponsor, target and content, `#?` where there is none
abbrev pub sent_in : W → Option Slot → Sent
sent_in w (Some (EventSlot sponsor target message)) = record { event = w; sponsor = sponsor; target = target; content = message }
sent_in w o = record { event = w; sponsor = undef; target = undef; content = undef }

-- the message of the event that a word names
abbrev pub sent_at : Seen → W → Sent
sent_at s w = sent_in w (slot_seen s w)

-- the event's content is another word
abbrev pub refilled : Option Slot → W → W → Seen → Seen
refilled (Some (EventSlot sponsor target message)) w content s = altered s (cap_place w) (EventSlot sponsor target content)
refilled o w content s = s

abbrev pub with_content : Seen → W → W → Seen
with_content s w content = refilled (slot_seen s w) w content s

-- ---- actors

-- whether an actor is there that is idle; one whose creation is not committed is not
abbrev pub is_idle_in : Option Slot → Bool
is_idle_in (Some (ActorSlot code state mark)) = same_word mark undef
is_idle_in o = false

abbrev pub is_idle : Seen → W → Bool
is_idle s w = is_idle_in (slot_seen s w)

-- an actor's state and code, `#?` where there is none
abbrev pub behaviour_in : Option Slot → Behaviour
behaviour_in (Some (ActorSlot code state mark)) = record { state = state; code = code }
behaviour_in o = record { state = undef; code = undef }

abbrev pub behaviour_at : Seen → W → Behaviour
behaviour_at s w = behaviour_in (slot_seen s w)

-- the actor changed, as the function says of its code and state; nothing where there is none
abbrev pub remade : Option Slot → (W → W → Slot) → W → Seen → Seen
remade (Some (ActorSlot code state mark)) change w s = altered s (cap_place w) (change code state)
remade o change w s = s

abbrev pub at_actor : Seen → W → (W → W → Slot) → Seen
at_actor s w change = remade (slot_seen s w) change w s

-- busy with the message of that number
abbrev pub busy : ℕ → W → W → Slot
busy number code state = ActorSlot code state (Fix (pos number))

-- idle, with the behaviour that was gathered, if any
abbrev pub resting : Option Behaviour → W → W → Slot
resting None code state = ActorSlot code state undef
resting (Some b) code state = ActorSlot b.code b.state undef

-- the store after an event of that actor ended with these effects
abbrev pub settled : Seen → W → Effects → Seen
settled s actor e = all_idle (at_actor s actor (resting e.next)) e.created
