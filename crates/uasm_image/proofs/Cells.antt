-- Reading cells one after the other, as a loop does.
use Rattle.std.proofs.Common.{◌≡◌, ℕ, suc, ◌-◌, ◌+◌, ◌≤◌, ◌<◌, List, [], ◌∷◌, ◌++◌, Result, Ok, Err, refl, sym, ap, ◌∙◌, append_assoc, arith}
use Rattle.std.proofs.lemmas.List.{append-nil}
use Rattle.cap_words.specs.declared.word.Quad.{Quad}
use Rattle.uasm_image.specs.declared.error.ImageRefused.{ImageRefused}
use Rattle.uasm_image.specs.Reading.{◌>>=◌, cell_at, cells_at}

-- what was read before, and what is still read
abbrev pub with_front : List Quad → Result (List Quad) ImageRefused → Result (List Quad) ImageRefused
with_front front reading = reading >>= λ qs. Ok (front ++ qs)

regroup : (front : List Quad) (q : Quad) (reading : Result (List Quad) ImageRefused)
    → with_front front (reading >>= λ qs. Ok (q ∷ qs)) ≡ with_front (front ++ q ∷ []) reading
regroup front q (Ok qs) = ap (λ (xs : List Quad). Ok xs) (simp append_assoc)
regroup front q (Err e) = refl

pub goes_on : (front : List Quad) (count n at to : ℕ) (bytes : List ℕ) (q : Quad) (total : Result (List Quad) ImageRefused) → n < count
    → to ≡ at + 16 → cell_at count bytes at ≡ Ok q
    → with_front front (cells_at count bytes at (count - n)) ≡ total
    → with_front (front ++ q ∷ []) (cells_at count bytes to (count - (n + 1))) ≡ total
unfolding cells_at
goes_on front count n at to bytes q total lt next h so_far =
    let k : count - n ≡ suc (count - (n + 1)) = omega arith in
    let one : with_front front (cells_at count bytes at (count - n)) ≡ with_front (front ++ q ∷ [])
    (cells_at count bytes (at + 16) (count - (n + 1))) = rw (k, h) (regroup front q (cells_at count bytes (at + 16) (count - (n + 1)))) in
    rw next (sym one ∙ so_far)

pub ends : (e : ImageRefused) (front : List Quad) (count n at : ℕ) (bytes : List ℕ) (total : Result (List Quad) ImageRefused) → n < count
    → cell_at count bytes at ≡ Err e
    → with_front front (cells_at count bytes at (count - n)) ≡ total → total ≡ Err e
unfolding cells_at
ends e front count n at bytes total lt h so_far =
    let k : count - n ≡ suc (count - (n + 1)) = omega arith in
    let one : with_front front (cells_at count bytes at (count - n)) ≡ Err e = rw (k, h) refl in
    sym so_far ∙ one

pub is_done : (front : List Quad) (count n at : ℕ) (bytes : List ℕ) (total : Result (List Quad) ImageRefused) → count ≤ n
    → with_front front (cells_at count bytes at (count - n)) ≡ total → total ≡ Ok front
unfolding cells_at
is_done front count n at bytes total le so_far =
    let k : count - n ≡ 0 = omega arith in
    let one : with_front front (cells_at count bytes at (count - n)) ≡ Ok front = rw k (ap (λ (qs : List Quad). Ok qs) (append-nil front)) in
    sym so_far ∙ one

-- nothing was read before
pub from_none : (reading : Result (List Quad) ImageRefused) → with_front [] reading ≡ reading
from_none (Ok qs) = refl
from_none (Err e) = refl
