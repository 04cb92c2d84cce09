-- Frames: how they arise and follow on one another, and what they keep.
use Rattle.std.proofs.Common.{◌≡◌, ℕ, ◌+◌, List, [], ◌∷◌, ◌++◌, Some, refl, ap, sym, ◌∙◌, subst, arith, inl, inr, ◌⊎◌, length-append}
use Rattle.std.proofs.lemmas.List.{length-set}
use Rattle.std.proofs.lemmas.Option.{slice_get_within}
use Rattle.std.specs.Prelude.{slice_get}
use Rattle.cap_words.specs.declared.word.Quad.{Quad}
use Rattle.cap_words.specs.declared.word.Tag.{Tag}
use Rattle.cap_words.specs.declared.word.Tag.TheVariants.{SponsorSpent}
use Rattle.cap_words.specs.Words.{W, Fix, Rom, Ram, Cap}
use Rattle.cap_words.specs.Store.{Store, Cell, tagged, opaque_cell, spent_cell, taken, changed, cell_as, cap_place}
use Rattle.cap_words.specs.Frame.{Among, Framed}
use Rattle.cap_words.proofs.Places.{get-left, get-set_other}
use Rattle.cap_words.proofs.Tags.{tagged_is}

-- a word of either of two lists is in both together
pub among-left : (w : W) (vs ws : List W) → Among w vs → Among w (vs ++ ws)
among-left w [] ws a = absurd a
among-left w (v ∷ vs) ws (inl e) = inl e
among-left w (v ∷ vs) ws (inr a) = inr (among-left w vs ws a)

pub among-right : (w : W) (vs ws : List W) → Among w ws → Among w (vs ++ ws)
among-right w [] ws a = a
among-right w (v ∷ vs) ws a = inr (among-right w vs ws a)

-- and a word of both together is in one of them
pub among-split : (w : W) (vs ws : List W) → Among w (vs ++ ws) → Among w vs ⊎ Among w ws
among-split w [] ws a = inr a
among-split w (v ∷ vs) ws (inl e) = inl (inl e)
among-split w (v ∷ vs) ws (inr a) = elim (among-split w vs ws a) [ inl b ↦ inl (inr b) | inr b ↦ inr b ]

pub framed-refl : (s : Store) (ws : List W) → Framed s s ws
framed-refl s ws = record { rom_is = refl; grows = omega arith; rest = λ n h f. refl }

pub framed-taken : (s : Store) (cells : List Cell) (ws : List W) → Framed s (taken s cells) ws
framed-taken s cells ws = record { rom_is = refl; grows = omega (arith, length-append s.ram cells); rest = λ n h f. get-left s.ram cells n h }

pub framed-changed : (s : Store) (n : ℕ) (c : Cell) (ws : List W) → Among (Cap n) ws → Framed s (changed s n c) ws
framed-changed s n c ws a = record {
  rom_is = refl;
  grows = omega (arith, length-set s.ram n c);
  rest = λ k h f. get-set_other s.ram n k c (λ e. f (subst (λ (i : ℕ). Among (Cap i) ws) (sym e) a));
}

pub framed-then : (s t u : Store) (vs ws xs : List W) → Framed s t vs → Framed t u ws → ((w : W) → Among w vs → Among w xs) → ((w : W) → Among w ws → Among w xs) → Framed s u xs
framed-then s t u vs ws xs f g p q = record {
  rom_is = g.rom_is ∙ f.rom_is;
  grows = omega (arith, f.grows, g.grows);
  rest = λ n h k. g.rest n (omega (arith, f.grows)) (λ a. k (q (Cap n) a)) ∙ f.rest n h (λ a. k (p (Cap n) a));
}

-- a frame may name more words
pub framed-more : (s t : Store) (ws xs : List W) → Framed s t ws → ((w : W) → Among w ws → Among w xs) → Framed s t xs
framed-more s t ws xs f p = record { rom_is = f.rom_is; grows = f.grows; rest = λ n h k. f.rest n h (λ a. k (p (Cap n) a)) }

-- what is found at a number that the frame does not name is as it was
tagged-framed : (s t : Store) (ws : List W) (tag : Tag) (n : ℕ) (q : Quad) → Framed s t ws → (Among (Cap n) ws → ⊥) → tagged tag (slice_get s.ram n) ≡ Some q → tagged tag (slice_get t.ram n) ≡ Some q
tagged-framed s t ws tag n q f k h =
    let e = tagged_is tag (slice_get s.ram n) q h in
    ap (tagged tag) (f.rest n (slice_get_within s.ram n (cell_as tag q) e) k) ∙ h

pub opaque-framed : (s t : Store) (ws : List W) (tag : Tag) (w : W) (q : Quad) → Framed s t ws → (Among w ws → ⊥) → opaque_cell s tag w ≡ Some q → opaque_cell t tag w ≡ Some q
opaque-framed s t ws tag (Fix n) q f k h = cc
opaque-framed s t ws tag (Rom n) q f k h = cc
opaque-framed s t ws tag (Ram n) q f k h = cc
opaque-framed s t ws tag (Cap n) q f k h = tagged-framed s t ws tag n q f k h

pub spent-framed : (s t : Store) (ws : List W) (w : W) (q : Quad) → Framed s t ws → (Among (Cap (cap_place w + 1)) ws → ⊥) → spent_cell s w ≡ Some q → spent_cell t w ≡ Some q
spent-framed s t ws (Fix n) q f k h = cc
spent-framed s t ws (Rom n) q f k h = cc
spent-framed s t ws (Ram n) q f k h = cc
spent-framed s t ws (Cap n) q f k h = tagged-framed s t ws SponsorSpent (n + 1) q f k h
