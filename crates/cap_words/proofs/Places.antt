-- The item at a place of a list, after more items or another one there.
use Rattle.std.proofs.Common.{◌≡◌, ℕ, zero, suc, ◌+◌, ◌<◌, List, [], ◌∷◌, ◌++◌, length, Some, refl, ap, sym, arith}
use Rattle.std.specs.Prelude.{slice_get, slice_set}

pub get-left : {A : Type 0} (xs ys : List A) (n : ℕ) → n < length xs → slice_get (xs ++ ys) n ≡ slice_get xs n
get-left [] ys n h = absurd (omega arith)
get-left (x ∷ xs) ys zero h = refl
get-left (x ∷ xs) ys (suc n) h = get-left xs ys n (omega arith)

pub get-seam : {A : Type 0} (xs ys : List A) (x : A) → slice_get (xs ++ x ∷ ys) (length xs) ≡ Some x
get-seam [] ys x = refl
get-seam (y ∷ xs) ys x = get-seam xs ys x

pub get-set_same : {A : Type 0} (xs : List A) (n : ℕ) (x : A) → n < length xs → slice_get (slice_set xs n x) n ≡ Some x
get-set_same [] n x h = absurd (omega arith)
get-set_same (y ∷ xs) zero x h = refl
get-set_same (y ∷ xs) (suc n) x h = get-set_same xs n x (omega arith)

pub get-set_other : {A : Type 0} (xs : List A) (n k : ℕ) (x : A) → (k ≡ n → ⊥) → slice_get (slice_set xs n x) k ≡ slice_get xs k
get-set_other [] n k x h = refl
get-set_other (y ∷ xs) zero zero x h = absurd (h refl)
get-set_other (y ∷ xs) zero (suc k) x h = refl
get-set_other (y ∷ xs) (suc n) zero x h = refl
get-set_other (y ∷ xs) (suc n) (suc k) x h = get-set_other xs n k x (λ e. h (ap suc e))

pub set-same : {A : Type 0} (xs : List A) (n : ℕ) (x : A) → slice_get xs n ≡ Some x → slice_set xs n x ≡ xs
set-same [] n x h = refl
set-same (y ∷ xs) zero x h = let e : y ≡ x = cc in ap (λ z. z ∷ xs) (sym e)
set-same (y ∷ xs) (suc n) x h = ap (λ l. y ∷ l) (set-same xs n x h)

pub get-second : {A : Type 0} (xs ys : List A) (x y : A) → slice_get (xs ++ x ∷ y ∷ ys) (length xs + 1) ≡ Some y
get-second [] ys x y = refl
get-second (z ∷ xs) ys x y = let e : suc (length xs) + 1 ≡ suc (length xs + 1) = omega arith in rw e (get-second xs ys x y)
