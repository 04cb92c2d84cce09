-- What is under a word after quads were taken, or one was changed.
use Rattle.std.proofs.Common.{◌≡◌, ℕ, zero, suc, ◌+◌, ◌<◌, List, [], ◌∷◌, ◌++◌, Some, refl, ap, sym, ◌∙◌, arith}
use Rattle.std.specs.Prelude.{slice_get, slice_set}
use Rattle.std.proofs.lemmas.Option.{slice_get_within}
use Rattle.cap_words.specs.declared.word.Quad.{Quad}
use Rattle.cap_words.specs.declared.word.Tag.{Tag}
use Rattle.cap_words.specs.declared.word.Tag.TheVariants.{Ordinary, SponsorSpent}
use Rattle.cap_words.specs.Words.{W, Fix, Rom, Ram, Cap}
use Rattle.cap_words.specs.Store.{Store, Cell, tagged, cell, opaque_cell, spent_cell, used, taken, changed, cell_as, cap_place}
use Rattle.cap_words.proofs.Places.{get-left, get-seam, get-second, get-set_same, get-set_other}
use Rattle.cap_words.proofs.Tags.{tagged-same, tagged_is, tagged-other, tagged_twice}

-- a quad that is there: its number, and the cell there
pub record Named (s : Store) (w : W) (c : Cell) : Type 0 where
  pub place_is : w ≡ Cap (cap_place w)
  pub there : slice_get s.ram (cap_place w) ≡ Some c
  pub within : cap_place w < used s

pub named : (s : Store) (tag : Tag) (w : W) (q : Quad) → opaque_cell s tag w ≡ Some q → Named s w (cell_as tag q)
named s tag (Fix n) q h = cc
named s tag (Rom n) q h = cc
named s tag (Ram n) q h = cc
named s tag (Cap n) q h =
    let e = tagged_is tag (slice_get s.ram n) q h in
    record { place_is = refl; there = e; within = slice_get_within s.ram n (cell_as tag q) e }

-- one word does not name quads that were taken for two things
pub opaque_twice : (s : Store) (t u : Tag) (w : W) (p q : Quad) → opaque_cell s t w ≡ Some p → opaque_cell s u w ≡ Some q → t ≡ u
opaque_twice s t u (Fix n) p q h k = cc
opaque_twice s t u (Rom n) p q h k = cc
opaque_twice s t u (Ram n) p q h k = cc
opaque_twice s t u (Cap n) p q h k = tagged_twice t u (slice_get s.ram n) p q h k

-- what is found under a tag stays when quads are taken
tagged-taken : (s : Store) (cells : List Cell) (tag : Tag) (n : ℕ) (q : Quad) → tagged tag (slice_get s.ram n) ≡ Some q → tagged tag (slice_get (s.ram ++ cells) n) ≡ Some q
tagged-taken s cells tag n q h =
    let e = tagged_is tag (slice_get s.ram n) q h in
    ap (tagged tag) (get-left s.ram cells n (slice_get_within s.ram n (cell_as tag q) e)) ∙ h

pub cell-taken : (s : Store) (cells : List Cell) (w : W) (q : Quad) → cell s w ≡ Some q → cell (taken s cells) w ≡ Some q
cell-taken s cells (Fix n) q h = h
cell-taken s cells (Rom n) q h = h
cell-taken s cells (Ram n) q h = tagged-taken s cells Ordinary n q h
cell-taken s cells (Cap n) q h = h

pub opaque-taken : (s : Store) (cells : List Cell) (tag : Tag) (w : W) (q : Quad) → opaque_cell s tag w ≡ Some q → opaque_cell (taken s cells) tag w ≡ Some q
opaque-taken s cells tag (Fix n) q h = h
opaque-taken s cells tag (Rom n) q h = h
opaque-taken s cells tag (Ram n) q h = h
opaque-taken s cells tag (Cap n) q h = tagged-taken s cells tag n q h

pub spent-taken : (s : Store) (cells : List Cell) (w : W) (q : Quad) → spent_cell s w ≡ Some q → spent_cell (taken s cells) w ≡ Some q
spent-taken s cells (Fix n) q h = h
spent-taken s cells (Rom n) q h = h
spent-taken s cells (Ram n) q h = h
spent-taken s cells (Cap n) q h = tagged-taken s cells SponsorSpent (n + 1) q h

-- the first quad that is taken has the number of those before
pub cell-first : (s : Store) (cells : List Cell) (q : Quad) → cell (taken s (cell_as Ordinary q ∷ cells)) (Ram (used s)) ≡ Some q
cell-first s cells q = ap (tagged Ordinary) (get-seam s.ram cells (cell_as Ordinary q)) ∙ tagged-same Ordinary q

pub opaque-first : (s : Store) (cells : List Cell) (tag : Tag) (q : Quad) → opaque_cell (taken s (cell_as tag q ∷ cells)) tag (Cap (used s)) ≡ Some q
opaque-first s cells tag q = ap (tagged tag) (get-seam s.ram cells (cell_as tag q)) ∙ tagged-same tag q

-- a quad that is changed has its new words, and under the other words is what was there
pub opaque-changed_same : (s : Store) (n : ℕ) (tag : Tag) (q : Quad) → n < used s → opaque_cell (changed s n (cell_as tag q)) tag (Cap n) ≡ Some q
opaque-changed_same s n tag q h = ap (tagged tag) (get-set_same s.ram n (cell_as tag q) h) ∙ tagged-same tag q

pub opaque-changed_other : (s : Store) (n : ℕ) (c : Cell) (tag : Tag) (w : W) → (w ≡ Cap n → ⊥) → opaque_cell (changed s n c) tag w ≡ opaque_cell s tag w
opaque-changed_other s n c tag (Fix k) f = refl
opaque-changed_other s n c tag (Rom k) f = refl
opaque-changed_other s n c tag (Ram k) f = refl
opaque-changed_other s n c tag (Cap k) f = ap (tagged tag) (get-set_other s.ram n k c (λ e. f (ap Cap e)))

-- a change of a quad leaves what was taken for anything else
tagged-changed : (ram : List Cell) (n k : ℕ) (t u : Tag) (p q : Quad) → slice_get ram n ≡ Some (cell_as t p) → (t ≡ u → ⊥) → tagged u (slice_get (slice_set ram n (cell_as t q)) k) ≡ tagged u (slice_get ram k)
tagged-changed [] n k t u p q h f = refl
tagged-changed (c ∷ ram) zero zero t u p q h f = tagged-other t u q f ∙ sym (ap (tagged u) h ∙ tagged-other t u p f)
tagged-changed (c ∷ ram) zero (suc k) t u p q h f = refl
tagged-changed (c ∷ ram) (suc n) zero t u p q h f = refl
tagged-changed (c ∷ ram) (suc n) (suc k) t u p q h f = tagged-changed ram n k t u p q h f

pub cell-changed : (s : Store) (n : ℕ) (tag : Tag) (p q : Quad) (w : W) → tagged tag (slice_get s.ram n) ≡ Some p → (tag ≡ Ordinary → ⊥) → cell (changed s n (cell_as tag q)) w ≡ cell s w
cell-changed s n tag p q (Fix k) h f = refl
cell-changed s n tag p q (Rom k) h f = refl
cell-changed s n tag p q (Ram k) h f = tagged-changed s.ram n k tag Ordinary p q (tagged_is tag (slice_get s.ram n) p h) f
cell-changed s n tag p q (Cap k) h f = refl

pub opaque-changed_kind : (s : Store) (n : ℕ) (t u : Tag) (p q : Quad) (w : W) → tagged t (slice_get s.ram n) ≡ Some p → (t ≡ u → ⊥) → opaque_cell (changed s n (cell_as t q)) u w ≡ opaque_cell s u w
opaque-changed_kind s n t u p q (Fix k) h f = refl
opaque-changed_kind s n t u p q (Rom k) h f = refl
opaque-changed_kind s n t u p q (Ram k) h f = refl
opaque-changed_kind s n t u p q (Cap k) h f = tagged-changed s.ram n k t u p q (tagged_is t (slice_get s.ram n) p h) f

pub spent-changed_kind : (s : Store) (n : ℕ) (t : Tag) (p q : Quad) (w : W) → tagged t (slice_get s.ram n) ≡ Some p → (t ≡ SponsorSpent → ⊥) → spent_cell (changed s n (cell_as t q)) w ≡ spent_cell s w
spent-changed_kind s n t p q (Fix k) h f = refl
spent-changed_kind s n t p q (Rom k) h f = refl
spent-changed_kind s n t p q (Ram k) h f = refl
spent-changed_kind s n t p q (Cap k) h f = tagged-changed s.ram n (k + 1) t SponsorSpent p q (tagged_is t (slice_get s.ram n) p h) f

-- a second quad that is taken for a sponsor is found under the word of the first
pub spent-first : (s : Store) (cells : List Cell) (c : Cell) (q : Quad) → spent_cell (taken s (c ∷ cell_as SponsorSpent q ∷ cells)) (Cap (used s)) ≡ Some q
spent-first s cells c q = ap (tagged SponsorSpent) (get-second s.ram cells c (cell_as SponsorSpent q)) ∙ tagged-same SponsorSpent q

pub spent-changed_same : (s : Store) (n : ℕ) (q : Quad) → n + 1 < used s → spent_cell (changed s (n + 1) (cell_as SponsorSpent q)) (Cap n) ≡ Some q
spent-changed_same s n q h = ap (tagged SponsorSpent) (get-set_same s.ram (n + 1) (cell_as SponsorSpent q) h) ∙ tagged-same SponsorSpent q

pub spent-changed_other : (s : Store) (n : ℕ) (c : Cell) (w : W) → (w ≡ Cap n → ⊥) → spent_cell (changed s (n + 1) c) w ≡ spent_cell s w
spent-changed_other s n c (Fix k) f = refl
spent-changed_other s n c (Rom k) f = refl
spent-changed_other s n c (Ram k) f = refl
spent-changed_other s n c (Cap k) f = ap (tagged SponsorSpent) (get-set_other s.ram (n + 1) (k + 1) c (λ e. f (ap Cap (omega (arith, e)))))
