-- The plain record that an event's chains stand for.
use Rattle.std.specs.Prelude.{ℕ, ◌+◌, ◌≤◌, List, ◌++◌, map, Option, option_map, unwrap_or}
use Rattle.cap_words.specs.declared.word.Quad.{Quad}
use Rattle.cap_words.specs.declared.word.Tag.TheVariants.{Actor, Event}
use Rattle.cap_words.specs.Words.{W, undef}
use Rattle.cap_words.specs.Store.{Store, opaque_cell, used}
use Rattle.instr_table.specs.Event.{Sent, Made, Behaviour, Effects}
use Rattle.vm_effects.specs.declared.effects.Behaviour.{Behaviour as Next}
use Rattle.vm_effects.specs.declared.effects.Effects.{Effects as Gathered}
use Rattle.vm_effects.specs.Links.{walk, words_of, IsListed, IsChain}

-- the words of a quad, `#?` where there is none
abbrev pub words_in : Option Quad → Quad
words_in o = unwrap_or o (record { t = undef; x = undef; y = undef; z = undef })

-- the message of the event that a word names
abbrev pub sent_in : W → Option Quad → Sent
sent_in w o = let q = words_in o in record { event = w; sponsor = q.t; target = q.x; content = q.y }

-- the actor that a word names, with its state and code
abbrev pub made_in : W → Option Quad → Made
made_in w o = let q = words_in o in record { actor = w; state = q.y; code = q.x }

abbrev pub sent_at : Store → W → Sent
sent_at s w = sent_in w (opaque_cell s Event w)

abbrev pub made_at : Store → W → Made
made_at s w = made_in w (opaque_cell s Actor w)

-- the messages of so many linked events, from this one on
abbrev pub sent_from : Store → ℕ → W → List Sent
sent_from s count first = map (sent_at s) (walk (opaque_cell s Event) count first)

-- so many linked actors, from this one on
abbrev pub made_from : Store → ℕ → W → List Made
made_from s count first = map (made_at s) (walk (opaque_cell s Actor) count first)

abbrev pub behaviour : Next → Behaviour
behaviour b = record { state = b.state; code = b.code }

-- the behaviour that was gathered, if any
abbrev pub next_of : Gathered → Option Behaviour
next_of e = option_map behaviour e.next

-- what the event will have done when it commits
abbrev pub effects_of : Store → Gathered → Effects
effects_of s e = record { created = made_from s e.created.count e.created.first; sent = sent_from s e.sent.count e.sent.first; next = next_of e }

-- both chains stand in the store
pub record IsLinked (s : Store) (e : Gathered) : Type 0 where
  pub sent : IsChain (opaque_cell s Event) e.sent (words_of (opaque_cell s Event) e.sent)
  pub created : IsChain (opaque_cell s Actor) e.created (words_of (opaque_cell s Actor) e.created)
  pub few : e.sent.count + e.created.count ≤ used s

-- the words of events, and of actors
abbrev pub sent_words : List Sent → List W
sent_words ms = map (λ (m : Sent). m.event) ms

abbrev pub made_words : List Made → List W
made_words ms = map (λ (m : Made). m.actor) ms

-- the words of a record's own quads
abbrev pub own_words : Effects → List W
own_words e = sent_words e.sent ++ made_words e.created

-- so many events are linked from this one on, the last one to none; the same of actors
abbrev pub AreSent : Store → ℕ → W → Type 0
AreSent s count first = IsListed (opaque_cell s Event) count first (walk (opaque_cell s Event) count first)

abbrev pub AreMade : Store → ℕ → W → Type 0
AreMade s count first = IsListed (opaque_cell s Actor) count first (walk (opaque_cell s Actor) count first)
