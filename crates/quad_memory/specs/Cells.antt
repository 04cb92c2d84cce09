-- Actors, events and sponsors as the words of their quads.
use Rattle.std.specs.Prelude.{ℕ, ◌+◌, List, [], ◌∷◌, Option, Some, None, option_map, slice_get}
use Rattle.cap_words.specs.declared.word.Quad.{Quad}
use Rattle.cap_words.specs.declared.word.Tag.{Tag}
use Rattle.cap_words.specs.declared.word.Tag.TheVariants.{Actor, Event, SponsorHeld, SponsorSpent}
use Rattle.cap_words.specs.Words.{W, actor_t, sponsor_t}
use Rattle.cap_words.specs.Store.{Store, Cell, cell_as, changed, opaque_cell, spent_cell}
use Rattle.quad_memory.specs.declared.cells.ActorCell.{ActorCell}
use Rattle.quad_memory.specs.declared.cells.EventCell.{EventCell}
use Rattle.quad_memory.specs.declared.cells.SponsorCell.{SponsorCell}

-- the words of an actor's quad
abbrev pub actor_words : ActorCell → Quad
actor_words c = record { t = actor_t; x = c.code; y = c.state; z = c.mark }

-- the words of an event's quad
abbrev pub event_words : EventCell → Quad
event_words c = record { t = c.sponsor; x = c.target; y = c.message; z = c.next }

-- the words of a sponsor's first quad: its signal, and what it holds
abbrev pub held_words : SponsorCell → Quad
held_words c = record { t = c.signal; x = c.memory; y = c.events; z = c.cycles }

-- the words of a sponsor's second quad: what was spent under it
abbrev pub spent_words : SponsorCell → Quad
spent_words c = record { t = sponsor_t; x = c.memory_spent; y = c.events_spent; z = c.cycles_spent }

-- the actor that these words are
abbrev pub actor_in : Quad → ActorCell
actor_in q = record { code = q.x; state = q.y; mark = q.z }

-- the event that these words are
abbrev pub event_in : Quad → EventCell
event_in q = record { sponsor = q.t; target = q.x; message = q.y; next = q.z }

-- the sponsor whose first and second quad these are
abbrev pub sponsor_in : Option Quad → Option Quad → Option SponsorCell
sponsor_in None spent = None
sponsor_in (Some held) None = None
sponsor_in (Some held) (Some spent) = Some (record { signal = held.t; memory = held.x; events = held.y; cycles = held.z; memory_spent = spent.x; events_spent = spent.y; cycles_spent = spent.z })

-- the actor that an opaque word names, or none
abbrev pub actor_at : Store → W → Option ActorCell
actor_at s w = option_map actor_in (opaque_cell s Actor w)

-- the event that an opaque word names, or none
abbrev pub event_at : Store → W → Option EventCell
event_at s w = option_map event_in (opaque_cell s Event w)

-- the sponsor that an opaque word names, or none: it is there where both its quads are
abbrev pub sponsor_at : Store → W → Option SponsorCell
sponsor_at s w = sponsor_in (opaque_cell s SponsorHeld w) (spent_cell s w)

-- the quads that are taken for an actor, an event and a sponsor
abbrev pub actor_cells : ActorCell → List Cell
actor_cells c = cell_as Actor (actor_words c) ∷ []

abbrev pub event_cells : EventCell → List Cell
event_cells c = cell_as Event (event_words c) ∷ []

abbrev pub sponsor_cells : SponsorCell → List Cell
sponsor_cells c = cell_as SponsorHeld (held_words c) ∷ cell_as SponsorSpent (spent_words c) ∷ []

-- the store after both quads of the sponsor at a number were changed
abbrev pub sponsor_changed : Store → ℕ → SponsorCell → Store
sponsor_changed s n c = changed (changed s n (cell_as SponsorHeld (held_words c))) (n + 1) (cell_as SponsorSpent (spent_words c))

-- the words of the RAM quad of that number, whatever it was taken for
abbrev pub ram_cell : List Cell → ℕ → Option Quad
ram_cell ram n = option_map (λ (c : Cell). c.words) (slice_get ram n)

-- the cells that a list of tags and a list of quads are together
abbrev pub cells_of : List Tag → List Quad → List Cell
cells_of [] quads = []
cells_of (tag ∷ tags) [] = []
cells_of (tag ∷ tags) (quad ∷ quads) = cell_as tag quad ∷ cells_of tags quads
