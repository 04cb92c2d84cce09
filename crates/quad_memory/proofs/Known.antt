-- Quads that a word is known to name: their numbers are taken, and the words under them are what the word names.
use Rattle.std.proofs.Common.{◌≡◌, ℕ, ◌+◌, ◌<◌, Some, sym, ap, ap₂, ◌∙◌}
use Rattle.std.specs.Prelude.{option_map, slice_get, IsSome}
use Rattle.std.proofs.lemmas.Option.{slice_get_within}
use Rattle.cap_words.specs.declared.word.Quad.{Quad}
use Rattle.cap_words.specs.declared.word.Tag.{Tag}
use Rattle.cap_words.specs.declared.word.Tag.TheVariants.{SponsorHeld, SponsorSpent}
use Rattle.cap_words.specs.Words.{W, Fix, Rom, Ram, Cap}
use Rattle.cap_words.specs.Store.{Store, Cell, opaque_cell, tagged, used, cell_as, cap_place}
use Rattle.cap_words.proofs.Tags.{tagged_is}
use Rattle.quad_memory.specs.Cells.{sponsor_at, sponsor_in, ram_cell}
use Rattle.quad_memory.proofs.Typed.{some, at-quad, sponsor}

below : (s : Store) (tag : Tag) (n : ℕ) (q : Quad) → tagged tag (slice_get s.ram n) ≡ Some q → n < used s
below s tag n q h = slice_get_within s.ram n (cell_as tag q) (tagged_is tag (slice_get s.ram n) q h)

words : (s : Store) (tag : Tag) (n : ℕ) (p : Quad) → tagged tag (slice_get s.ram n) ≡ Some p → ram_cell s.ram n ≡ Some p
words s tag n p h = ap (option_map (λ (c : Cell). c.words)) (tagged_is tag (slice_get s.ram n) p h)

-- an actor or an event
pub at-below : {C : Type 0} (f : Quad → C) (s : Store) (tag : Tag) (w : W) → IsSome (option_map f (opaque_cell s tag w)) → cap_place w < used s
at-below f s tag (Fix n) h = cc
at-below f s tag (Rom n) h = cc
at-below f s tag (Ram n) h = cc
at-below f s tag (Cap n) h =
    let k = some (option_map f (opaque_cell s tag (Cap n))) h in
    let p = at-quad f s tag (Cap n) k.0 k.1 in
    below s tag n p.0 p.1

pub at-words : {C : Type 0} (f : Quad → C) (s : Store) (tag : Tag) (w : W) (q : Quad) → IsSome (option_map f (opaque_cell s tag w)) → ram_cell s.ram (cap_place w) ≡ Some q → option_map f (opaque_cell s tag w) ≡ Some (f q)
at-words f s tag (Fix n) q h is = cc
at-words f s tag (Rom n) q h is = cc
at-words f s tag (Ram n) q h is = cc
at-words f s tag (Cap n) q h is =
    let k = some (option_map f (opaque_cell s tag (Cap n))) h in
    let p = at-quad f s tag (Cap n) k.0 k.1 in
    ap (option_map f) (p.1 ∙ sym (words s tag n p.0 p.1) ∙ is)

-- a sponsor
pub sponsor-below : (s : Store) (w : W) → IsSome (sponsor_at s w) → cap_place w + 1 < used s
sponsor-below s w h =
    let k = some (sponsor_at s w) h in
    let p = sponsor s w k.0 k.1 in
    below s SponsorSpent (cap_place w + 1) p.spent p.spent_is

pub sponsor-words : (s : Store) (w : W) (held spent : Quad) → IsSome (sponsor_at s w) → ram_cell s.ram (cap_place w) ≡ Some held → ram_cell s.ram (cap_place w + 1) ≡ Some spent → sponsor_at s w ≡ sponsor_in (Some held) (Some spent)
sponsor-words s (Fix n) held spent h e e' = cc
sponsor-words s (Rom n) held spent h e e' = cc
sponsor-words s (Ram n) held spent h e e' = cc
sponsor-words s (Cap n) held spent h e e' =
    let k = some (sponsor_at s (Cap n)) h in
    let p = sponsor s (Cap n) k.0 k.1 in
    ap₂ sponsor_in
    (p.held_is ∙ sym (words s SponsorHeld n p.held p.held_is) ∙ e)
    (p.spent_is ∙ sym (words s SponsorSpent (n + 1) p.spent p.spent_is) ∙ e')

pub ruleset known = (at-below, at-words, sponsor-below, sponsor-words)
