-- Sums over lists.
use Rattle.std.proofs.Common.{◌≡◌, ℕ, ◌+◌, ◌≤◌, List, [], ◌∷◌, ◌++◌, map, arith}
use Rattle.std.specs.Prelude.{sum}
use Rattle.hum_syntax.proofs.SizedTrees.{sum-cons}

pub sum-append : {X : Type 0} (f : X → ℕ) (xs ys : List X) → sum (map f (xs ++ ys)) ≡ sum (map f xs) + sum (map f ys)
sum-append f [] ys = omega arith
sum-append f (x ∷ xs) ys = omega (arith, sum-cons f x (xs ++ ys), sum-cons f x xs, sum-append f xs ys)

-- what becomes of each is at most as large
pub sum-le : {X Y : Type 0} (f : Y → ℕ) (g : X → Y) (h : X → ℕ) → ((x : X) → f (g x) ≤ h x) → (xs : List X)
    → sum (map f (map g xs)) ≤ sum (map h xs)
sum-le f g h le [] = omega arith
sum-le f g h le (x ∷ xs) = omega (arith, sum-cons f (g x) (map g xs), sum-cons h x xs, le x, sum-le f g h le xs)
