-- A search that leaves out a front in which nothing was found.
use Rattle.std.proofs.Common.{◌≡◌, ℕ, zero, suc, List, [], ◌∷◌, take, drop, Bool, true, false, refl}
use Rattle.std.specs.Prelude.{◌||◌}
use Rattle.std.specs.List.{list_any}

pub any-behind : {A : Type 0} (p : A → Bool) (n : ℕ) (xs : List A) → list_any p (take n xs) ≡ false → list_any p (drop n xs) ≡ list_any p xs
any-behind p zero [] h = refl
any-behind p (suc n) [] h = refl
any-behind p zero (x ∷ xs) h = refl
any-behind p (suc n) (x ∷ xs) h = by (p x) h (any-behind p n xs)
  where
    by : (b : Bool) → (b || list_any p (take n xs)) ≡ false → (list_any p (take n xs) ≡ false → list_any p (drop n xs) ≡ list_any p xs) → list_any p (drop n xs) ≡ (b || list_any p xs)
    by true e later = cc
    by false e later = later e
