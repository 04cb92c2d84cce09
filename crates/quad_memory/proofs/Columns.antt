-- Lists of tags and quads as lists of cells.
use Rattle.std.proofs.Common.{◌≡◌, ℕ, zero, suc, ◌<◌, List, [], ◌∷◌, ◌++◌, length, get_or, set, Some, None, true, false, ◌≤◌, ap, refl, arith}
use Rattle.std.specs.Prelude.{slice_get}
use Rattle.std.proofs.lemmas.Option.{slice_get_past}
use Rattle.cap_words.specs.declared.word.Quad.{Quad}
use Rattle.cap_words.specs.declared.word.Tag.{Tag}
use Rattle.cap_words.specs.Store.{cell_as, same_tag, tagged}
use Rattle.cap_words.proofs.Same.{is_rom, is_ram, is_cap}
use Rattle.quad_memory.specs.Cells.{cells_of, ram_cell}

pub length-cells_of : (ts : List Tag) (qs : List Quad) → length ts ≡ length qs → length (cells_of ts qs) ≡ length qs
length-cells_of [] qs e = e
length-cells_of (t ∷ ts) [] e = absurd (omega arith)
length-cells_of (t ∷ ts) (q ∷ qs) e = ap suc (length-cells_of ts qs (omega arith))

pub cells_of-push : (ts : List Tag) (qs : List Quad) (t : Tag) (q : Quad) → length ts ≡ length qs → cells_of (ts ++ t ∷ []) (qs ++ q ∷ []) ≡ cells_of ts qs ++ cell_as t q ∷ []
cells_of-push [] [] t q e = refl
cells_of-push [] (p ∷ qs) t q e = absurd (omega arith)
cells_of-push (s ∷ ts) [] t q e = absurd (omega arith)
cells_of-push (s ∷ ts) (p ∷ qs) t q e = ap (λ l. cell_as s p ∷ l) (cells_of-push ts qs t q (omega arith))

pub slice_get-cells_of : (ts : List Tag) (qs : List Quad) (i : ℕ) (t : Tag) (q : Quad) → length ts ≡ length qs → i < length qs → slice_get (cells_of ts qs) i ≡ Some (cell_as (get_or ts i t) (get_or qs i q))
slice_get-cells_of [] [] i t q e h = absurd (omega arith)
slice_get-cells_of [] (p ∷ qs) i t q e h = absurd (omega arith)
slice_get-cells_of (s ∷ ts) [] i t q e h = absurd (omega arith)
slice_get-cells_of (s ∷ ts) (p ∷ qs) zero t q e h = refl
slice_get-cells_of (s ∷ ts) (p ∷ qs) (suc i) t q e h = slice_get-cells_of ts qs i t q (omega arith) (omega arith)

pub cells_of-set : (ts : List Tag) (qs : List Quad) (i : ℕ) (t : Tag) (q : Quad) → cells_of (set ts i t) (set qs i q) ≡ set (cells_of ts qs) i (cell_as t q)
cells_of-set [] qs i t q = refl
cells_of-set (s ∷ ts) [] zero t q = refl
cells_of-set (s ∷ ts) [] (suc i) t q = refl
cells_of-set (s ∷ ts) (p ∷ qs) zero t q = refl
cells_of-set (s ∷ ts) (p ∷ qs) (suc i) t q = ap (λ l. cell_as s p ∷ l) (cells_of-set ts qs i t q)

pub ram_cell-cells_of : (ts : List Tag) (qs : List Quad) (n : ℕ) → length ts ≡ length qs → ram_cell (cells_of ts qs) n ≡ slice_get qs n
ram_cell-cells_of [] [] n e = refl
ram_cell-cells_of [] (p ∷ qs) n e = absurd (omega arith)
ram_cell-cells_of (s ∷ ts) [] n e = absurd (omega arith)
ram_cell-cells_of (s ∷ ts) (p ∷ qs) zero e = refl
ram_cell-cells_of (s ∷ ts) (p ∷ qs) (suc n) e = ram_cell-cells_of ts qs n (omega arith)

-- the quad at a place, where it was taken for this
pub found : (tag t : Tag) (ts : List Tag) (qs : List Quad) (n : ℕ) (q : Quad) → length ts ≡ length qs → n < length qs → same_tag (get_or ts n t) tag ≡ true → q ≡ get_or qs n q → Some q ≡ tagged tag (slice_get (cells_of ts qs) n)
found tag t ts qs n q e h same is = rw (slice_get-cells_of ts qs n t q e h, same) (ap Some is)

pub found_other : (tag t : Tag) (ts : List Tag) (qs : List Quad) (n : ℕ) (q : Quad) → length ts ≡ length qs → n < length qs → same_tag (get_or ts n t) tag ≡ false → None ≡ tagged tag (slice_get (cells_of ts qs) n)
found_other tag t ts qs n q e h other = rw (slice_get-cells_of ts qs n t q e h, other)

pub found_none : (tag : Tag) (ts : List Tag) (qs : List Quad) (n : ℕ) → length ts ≡ length qs → length qs ≤ n → None ≡ tagged tag (slice_get (cells_of ts qs) n)
found_none tag ts qs n e h = rw (slice_get_past (cells_of ts qs) n (omega (arith, length-cells_of ts qs e)))

pub ruleset cells = (is_rom, is_ram, is_cap, length-cells_of, cells_of-push, slice_get-cells_of, cells_of-set, ram_cell-cells_of)
