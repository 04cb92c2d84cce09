-- A chain with one word more: a quad is taken, and the last one is linked to it.
use Rattle.std.proofs.Common.{◌≡◌, ℕ, List, [], ◌∷◌, ◌++◌, length, Option, Some, refl, ap, ap₂, sym, ◌∙◌, subst, arith, inl, inr, ◌⊎◌, length-append, Bool, false}
use Rattle.std.proofs.lemmas.Bool.Decides.{nat_tests}
use Rattle.std.specs.Prelude.{map, nat_eq, if◌then◌else◌}
use Rattle.std.proofs.lemmas.List.{map-append}
use Rattle.cap_words.specs.declared.word.Quad.{Quad}
use Rattle.cap_words.specs.declared.word.Tag.{Tag}
use Rattle.cap_words.specs.Words.{W, Cap, nil}
use Rattle.cap_words.specs.Store.{Store, opaque_cell, taken, cell_as, cap_place, used}
use Rattle.cap_words.specs.Seen.{seen, grown, erase_as}
use Rattle.cap_words.specs.Frame.{Among, Framed}
use Rattle.cap_words.proofs.Stores.{named, opaque-taken, opaque-first}
use Rattle.cap_words.proofs.Frames.{framed-taken, framed-then}
use Rattle.cap_words.proofs.Erased.{seen-taken}
use Rattle.vm_effects.specs.declared.chain.Chain.{Chain}
use Rattle.vm_effects.specs.Links.{Chained, IsChain, words_of, first_or, last_or, last_from, extended}
use Rattle.vm_effects.specs.Rewritten.{rewritten}
use Rattle.vm_effects.proofs.Chains.{chained-among, chained-last, chained-append, last-among, last_from-append, map-among, chain-walked, same_quad}
use Rattle.vm_effects.proofs.Rewrites.{rewritten_same, rewritten_other, rewritten_either, rewritten_framed, rewritten_unseen}

-- a quad that is there has no number that is still free
pub not_free : (s : Store) (tag : Tag) (v : W) (p : Quad) → opaque_cell s tag v ≡ Some p → v ≡ Cap (used s) → ⊥
not_free s tag v p h e =
    let n = named s tag v p h in
    let k : cap_place v ≡ used s = ap cap_place e in
    omega (arith, k, n.within)

-- the ends of the longer chain
first-extended : (c : Chain) (w : W) (ws : List W) → c.first ≡ first_or ws → c.count ≡ length ws → (extended c w).first ≡ first_or (ws ++ w ∷ [])
first-extended c w [] f n = ap (λ (k : ℕ). if nat_eq k 0 then w else c.first) n
first-extended c w (v ∷ vs) f n =
    let some : nat_eq c.count 0 ≡ false = grind (arith, nat_tests, n) in
    ap (λ (b : Bool). if b then w else c.first) some ∙ f

last-extended : (w : W) (ws : List W) → w ≡ last_or (ws ++ w ∷ [])
last-extended w ws = sym (last_from-append nil w ws)

module _ (s : Store) (tag : Tag) (c : Chain) (ws : List W) (q : Quad) (f : Quad → Quad) (h : IsChain (opaque_cell s tag) c ws) where
  abbrev longer : Store
  longer = taken s (cell_as tag q ∷ [])

  abbrev pub appended : Store
  appended = rewritten tag f longer c.last

  abbrev word : W
  word = Cap (used s)

  -- what is under a word that was last
  last_quad : (vs : List W) (p : Quad) → Chained (opaque_cell s tag) vs → opaque_cell longer tag (last_or vs) ≡ Some p → (opaque_cell s tag (last_or vs) ≡ Some p) × (p.z ≡ nil) × Among (last_or vs) vs
  last_quad [] p k e = cc
  last_quad (v ∷ vs) p k e =
      let l = chained-last (opaque_cell s tag) v vs k in
      let pq : l.0 ≡ p = same_quad (opaque_cell longer tag (last_from v vs)) l.0 p (opaque-taken s (cell_as tag q ∷ []) tag (last_from v vs) l.0 l.1) e in
      (l.1 ∙ ap Some pq, sym (ap (λ (x : Quad). x.z) pq) ∙ l.2, last-among v vs)

  last_of : (p : Quad) → opaque_cell longer tag c.last ≡ Some p → (opaque_cell s tag c.last ≡ Some p) × (p.z ≡ nil) × Among c.last ws
  last_of p e =
      let k = last_quad ws p h.listed.chained (ap (opaque_cell longer tag) (sym h.last_is) ∙ e) in
      (ap (opaque_cell s tag) h.last_is ∙ k.0, k.1, subst (λ (v : W). Among v ws) (sym h.last_is) k.2)

  last_not_new : (vs : List W) → Chained (opaque_cell s tag) vs → last_or vs ≡ word → ⊥
  last_not_new [] k e = cc
  last_not_new (v ∷ vs) k e = let l = chained-last (opaque_cell s tag) v vs k in not_free s tag (last_from v vs) l.0 l.1 e

  pub appended_chain : q.z ≡ nil → ((p : Quad) → (f p).z ≡ word) → IsChain (opaque_cell appended tag) (extended c word) (ws ++ word ∷ [])
  appended_chain z fz = record {
    listed = record {
      chained = chained-append (opaque_cell s tag) refl (opaque_cell appended tag) ws word q h.listed.chained
          (rewritten_other longer tag f c.last tag word (λ e. last_not_new ws h.listed.chained (sym h.last_is ∙ sym e)) ∙ opaque-first s [] tag q)
          z
          (λ v p a n e. rewritten_other longer tag f c.last tag v (λ m. n (m ∙ h.last_is)) ∙ opaque-taken s (cell_as tag q ∷ []) tag v p e)
          (λ p e.
          let e' : opaque_cell longer tag c.last ≡ Some p = ap (opaque_cell longer tag) h.last_is ∙ opaque-taken s (cell_as tag q ∷ []) tag (last_or ws) p e in
          (f p, ap (opaque_cell appended tag) (sym h.last_is) ∙ rewritten_same longer tag f c.last p e', fz p));
      first_is = first-extended c word ws h.listed.first_is h.listed.count_is;
      count_is = omega (arith, h.listed.count_is, length-append ws (word ∷ []));
    };
    last_is = last-extended word ws;
  }

  pub appended_framed : Framed s appended ws
  appended_framed =
      framed-then s longer appended [] ws ws (framed-taken s (cell_as tag q ∷ []) [])
      (rewritten_framed longer tag f c.last ws (λ p e. (last_of p e).2))
      (λ v a. absurd a) (λ v a. a)

  pub appended_seen : ((p : Quad) → p.z ≡ nil → erase_as tag p ≡ erase_as tag (f p)) → seen appended ≡ grown (seen s) (erase_as tag q ∷ [])
  appended_seen k = rewritten_unseen longer tag f c.last (λ p e. k p (last_of p e).1) ∙ seen-taken s (cell_as tag q ∷ [])

  -- the items of the chain, and the new one
  pub appended_items : {A : Type 0} (read : W → Option Quad → A) → ((v : W) (p : Quad) → read v (Some (f p)) ≡ read v (Some p))
      → map (λ (v : W). read v (opaque_cell appended tag v)) (ws ++ word ∷ []) ≡ map (λ (v : W). read v (opaque_cell s tag v)) ws ++ read word (Some q) ∷ []
  appended_items {A = A} read k =
      let at : W → A = λ v. read v (opaque_cell appended tag v) in
      let old : W → A = λ v. read v (opaque_cell s tag v) in
      let new : at word ≡ read word (Some q) =
      ap (read word) (rewritten_other longer tag f c.last tag word (λ e. last_not_new ws h.listed.chained (sym h.last_is ∙ sym e)) ∙ opaque-first s [] tag q) in
      map-append at ws (word ∷ []) ∙ ap₂ (λ (l : List A) (x : A). l ++ x ∷ []) (map-among at old ws (λ v a. item v a)) new
    where
      item : (v : W) → Among v ws → read v (opaque_cell appended tag v) ≡ read v (opaque_cell s tag v)
      item v a =
          let o = chained-among (opaque_cell s tag) ws v h.listed.chained a in
          let e : opaque_cell longer tag v ≡ Some o.0 = opaque-taken s (cell_as tag q ∷ []) tag v o.0 o.1 in
          by o.0 (rewritten_either longer tag f c.last v o.0 e) ∙ sym (ap (read v) o.1)
        where
          by : (p : Quad) → (opaque_cell appended tag v ≡ Some p) ⊎ (opaque_cell appended tag v ≡ Some (f p)) → read v (opaque_cell appended tag v) ≡ read v (Some p)
          by p (inl e) = ap (read v) e
          by p (inr e) = ap (read v) e ∙ k v p

-- the longer chain stands, and has the items of the old one and the new one
module _ {A : Type 0} (read : W → Option Quad → A) (s : Store) (tag : Tag) (c : Chain) (q : Quad) (f : Quad → Quad) where
  pub items-appended : IsChain (opaque_cell s tag) c (words_of (opaque_cell s tag) c) → q.z ≡ nil → ((p : Quad) → (f p).z ≡ Cap (used s)) → ((v : W) (p : Quad) → read v (Some (f p)) ≡ read v (Some p))
      → let u = rewritten tag f (taken s (cell_as tag q ∷ [])) c.last in
      let d = extended c (Cap (used s)) in
      (map (λ (v : W). read v (opaque_cell u tag v)) (words_of (opaque_cell u tag) d) ≡ map (λ (v : W). read v (opaque_cell s tag v)) (words_of (opaque_cell s tag) c) ++ read (Cap (used s)) (Some q) ∷ [])
      × IsChain (opaque_cell u tag) d (words_of (opaque_cell u tag) d)
  items-appended h z fz k =
      let ws = words_of (opaque_cell s tag) c in
      let u = rewritten tag f (taken s (cell_as tag q ∷ [])) c.last in
      let d = extended c (Cap (used s)) in
      let w = chain-walked (opaque_cell u tag) d (ws ++ Cap (used s) ∷ []) (appended_chain s tag c ws q f h z fz) in
      (ap (map (λ (v : W). read v (opaque_cell u tag v))) w.0 ∙ appended_items s tag c ws q f h read k, w.1)
