-- A store in which one quad, if it is there, was given other words.
use Rattle.std.specs.Prelude.{ℕ, Option, Some, None}
use Rattle.cap_words.specs.declared.word.Quad.{Quad}
use Rattle.cap_words.specs.declared.word.Tag.{Tag}
use Rattle.cap_words.specs.Words.{W}
use Rattle.cap_words.specs.Store.{Store, opaque_cell, changed, cell_as, cap_place}
use Rattle.quad_memory.specs.Cells.{actor_in, actor_words, event_in, event_words}
use Rattle.instr_table.specs.Event.{Behaviour}
use Rattle.vm_effects.specs.Actors.{idle_cell}

abbrev pub rewritten_at : Tag → (Quad → Quad) → Store → ℕ → Option Quad → Store
rewritten_at tag f s n None = s
rewritten_at tag f s n (Some q) = changed s n (cell_as tag (f q))

-- the quad that an opaque word names, where it was taken for this, has the words that the function makes of its own
abbrev pub rewritten : Tag → (Quad → Quad) → Store → W → Store
rewritten tag f s w = rewritten_at tag f s (cap_place w) (opaque_cell s tag w)

-- an event that is linked to this word
abbrev pub with_next : W → Quad → Quad
with_next w q = event_words (record (event_in q) { next = w })

-- an actor with this mark
abbrev pub with_mark : W → Quad → Quad
with_mark mark q = actor_words (record (actor_in q) { mark = mark })

-- an actor with this code and state
abbrev pub with_behaviour : W → W → Quad → Quad
with_behaviour code state q = actor_words (record (actor_in q) { code = code; state = state })

-- an actor that is idle, with the behaviour that was gathered, if any
abbrev pub with_end : Option Behaviour → Quad → Quad
with_end next q = actor_words (idle_cell next (actor_in q))
