-- What is in a store where one quad was given other words.
use Rattle.std.proofs.Common.{◌≡◌, List, Option, Some, None, refl, ap, sym, ◌∙◌, subst, inl, inr, ◌⊎◌, Bool, true, false}
use Rattle.std.proofs.lemmas.List.{length-set}
use Rattle.cap_words.specs.declared.word.Quad.{Quad}
use Rattle.cap_words.specs.declared.word.Tag.{Tag}
use Rattle.cap_words.specs.Words.{W, Cap, same_word}
use Rattle.cap_words.specs.Store.{Store, opaque_cell, changed, cell_as, cap_place, used}
use Rattle.cap_words.specs.Seen.{seen, altered, erase_as}
use Rattle.cap_words.specs.Frame.{Among, Framed}
use Rattle.cap_words.proofs.Same.{word_same, word_differs}
use Rattle.cap_words.proofs.Stores.{named, opaque-changed_same, opaque-changed_other, opaque-changed_kind}
use Rattle.cap_words.proofs.Frames.{framed-refl, framed-changed}
use Rattle.cap_words.proofs.Erased.{seen-changed, seen-unseen}
use Rattle.vm_effects.specs.Rewritten.{rewritten, rewritten_at}

module _ (s : Store) (tag : Tag) (f : Quad → Quad) (w : W) where
  -- it is a change of the quad that is there
  there : (q : Quad) → opaque_cell s tag w ≡ Some q → rewritten tag f s w ≡ changed s (cap_place w) (cell_as tag (f q))
  there q h = ap (rewritten_at tag f s (cap_place w)) h

  nothing : opaque_cell s tag w ≡ None → rewritten tag f s w ≡ s
  nothing h = ap (rewritten_at tag f s (cap_place w)) h

  -- the quad has its new words
  pub rewritten_same : (q : Quad) → opaque_cell s tag w ≡ Some q → opaque_cell (rewritten tag f s w) tag w ≡ Some (f q)
  rewritten_same q h =
      let n = named s tag w q h in
      let at : opaque_cell (changed s (cap_place w) (cell_as tag (f q))) tag w ≡ Some (f q) =
      subst (λ (v : W). opaque_cell (changed s (cap_place w) (cell_as tag (f q))) tag v ≡ Some (f q)) (sym n.place_is) (opaque-changed_same s (cap_place w) tag (f q) n.within) in
      ap (λ (t : Store). opaque_cell t tag w) (there q h) ∙ at

  -- under the other words is what was there
  pub rewritten_other : (u : Tag) (v : W) → (v ≡ w → ⊥) → opaque_cell (rewritten tag f s w) u v ≡ opaque_cell s u v
  rewritten_other u v g = by (opaque_cell s tag w) refl
    where
      by : (o : Option Quad) → opaque_cell s tag w ≡ o → opaque_cell (rewritten tag f s w) u v ≡ opaque_cell s u v
      by None h = ap (λ (t : Store). opaque_cell t u v) (nothing h)
      by (Some q) h =
          ap (λ (t : Store). opaque_cell t u v) (there q h)
          ∙ opaque-changed_other s (cap_place w) (cell_as tag (f q)) u v (λ e. g (e ∙ sym (named s tag w q h).place_is))

  -- so it is of what was taken for anything else
  pub rewritten_kind : (u : Tag) (v : W) → (tag ≡ u → ⊥) → opaque_cell (rewritten tag f s w) u v ≡ opaque_cell s u v
  rewritten_kind u v g = by (opaque_cell s tag w) refl
    where
      by : (o : Option Quad) → opaque_cell s tag w ≡ o → opaque_cell (rewritten tag f s w) u v ≡ opaque_cell s u v
      by None h = ap (λ (t : Store). opaque_cell t u v) (nothing h)
      by (Some q) h =
          ap (λ (t : Store). opaque_cell t u v) (there q h)
          ∙ opaque-changed_kind s (cap_place w) tag u q (f q) v (subst (λ (x : W). opaque_cell s tag x ≡ Some q) (named s tag w q h).place_is h) g

  -- a quad that was there is there, with its words or its new ones
  pub rewritten_either : (v : W) (q : Quad) → opaque_cell s tag v ≡ Some q → (opaque_cell (rewritten tag f s w) tag v ≡ Some q) ⊎ (opaque_cell (rewritten tag f s w) tag v ≡ Some (f q))
  rewritten_either v q h = by (same_word v w) refl
    where
      by : (b : Bool) → same_word v w ≡ b → (opaque_cell (rewritten tag f s w) tag v ≡ Some q) ⊎ (opaque_cell (rewritten tag f s w) tag v ≡ Some (f q))
      by true e =
          let vw = word_same v w e in
          inr (ap (opaque_cell (rewritten tag f s w) tag) vw ∙ rewritten_same q (subst (λ (x : W). opaque_cell s tag x ≡ Some q) vw h))
      by false e = inl (rewritten_other tag v (word_differs v w e) ∙ h)

  -- nothing else is changed
  pub rewritten_framed : (ws : List W) → ((q : Quad) → opaque_cell s tag w ≡ Some q → Among w ws) → Framed s (rewritten tag f s w) ws
  rewritten_framed ws g = by (opaque_cell s tag w) refl
    where
      by : (o : Option Quad) → opaque_cell s tag w ≡ o → Framed s (rewritten tag f s w) ws
      by None h = subst (λ (t : Store). Framed s t ws) (sym (nothing h)) (framed-refl s ws)
      by (Some q) h =
          let a : Among (Cap (cap_place w)) ws = subst (λ (x : W). Among x ws) (named s tag w q h).place_is (g q h) in
          subst (λ (t : Store). Framed s t ws) (sym (there q h)) (framed-changed s (cap_place w) (cell_as tag (f q)) ws a)

  pub rewritten_used : used (rewritten tag f s w) ≡ used s
  rewritten_used = by (opaque_cell s tag w) refl
    where
      by : (o : Option Quad) → opaque_cell s tag w ≡ o → used (rewritten tag f s w) ≡ used s
      by None h = ap used (nothing h)
      by (Some q) h = ap used (there q h) ∙ length-set s.ram (cap_place w) (cell_as tag (f q))

  -- what is seen of it
  pub rewritten_seen : (q : Quad) → opaque_cell s tag w ≡ Some q → seen (rewritten tag f s w) ≡ altered (seen s) (cap_place w) (erase_as tag (f q))
  rewritten_seen q h = ap seen (there q h) ∙ seen-changed s (cap_place w) (cell_as tag (f q))

  pub rewritten_unseen : ((q : Quad) → opaque_cell s tag w ≡ Some q → erase_as tag q ≡ erase_as tag (f q)) → seen (rewritten tag f s w) ≡ seen s
  rewritten_unseen g = by (opaque_cell s tag w) refl
    where
      by : (o : Option Quad) → opaque_cell s tag w ≡ o → seen (rewritten tag f s w) ≡ seen s
      by None h = ap seen (nothing h)
      by (Some q) h = ap seen (there q h) ∙ seen-unseen s (cap_place w) (cell_as tag (f q)) (cell_as tag q) (named s tag w q h).there (g q h)
