-- Sums over lists of which an item is removed or set, and what is counted of lists of words.
use Rattle.std.proofs.Common.{◌≡◌, ℕ, zero, suc, ◌+◌, ◌≤◌, List, [], ◌∷◌, ◌++◌, length, Some, refl, ap, arith, length-append}
use Rattle.std.specs.Prelude.{remove, slice_get, slice_set}
use Rattle.std.specs.List.{sum_by}
use Rattle.std.proofs.lemmas.List.Sums.{sum_by-cons, sum_by-append}
use Rattle.cap_words.specs.Words.{W}
use Rattle.vm_turn.specs.Sound.{times}

pub some_is : {X : Type 0} {x y : X} → Some x ≡ Some y → x ≡ y
some_is h = cc

pub sum-removed : {X : Type 0} (f : X → ℕ) (xs : List X) (i : ℕ) (x : X) → slice_get xs i ≡ Some x → sum_by f (remove xs i) + f x ≡ sum_by f xs
sum-removed f [] i x h = cc
sum-removed f (y ∷ xs) zero x h = let e : f y ≡ f x = ap f (some_is h) in omega (arith, sum_by-cons f y xs, e)
sum-removed f (y ∷ xs) (suc i) x h = omega (arith, sum-removed f xs i x h, sum_by-cons f y xs, sum_by-cons f y (remove xs i))

pub sum-set : {X : Type 0} (f : X → ℕ) (xs : List X) (i : ℕ) (x new : X) → slice_get xs i ≡ Some x → sum_by f (slice_set xs i new) + f x ≡ sum_by f xs + f new
sum-set f [] i x new h = cc
sum-set f (y ∷ xs) zero x new h = let e : f y ≡ f x = ap f (some_is h) in omega (arith, sum_by-cons f y xs, sum_by-cons f new xs, e)
sum-set f (y ∷ xs) (suc i) x new h = omega (arith, sum-set f xs i x new h, sum_by-cons f y xs, sum_by-cons f y (slice_set xs i new))

pub length-removed : {X : Type 0} (xs : List X) (i : ℕ) (x : X) → slice_get xs i ≡ Some x → length (remove xs i) + 1 ≡ length xs
length-removed [] i x h = cc
length-removed (y ∷ xs) zero x h = omega arith
length-removed (y ∷ xs) (suc i) x h = let t = length-removed xs i x h in omega (arith, t)

pub length-set : {X : Type 0} (xs : List X) (i : ℕ) (new : X) → length (slice_set xs i new) ≡ length xs
length-set [] i new = refl
length-set (y ∷ xs) zero new = refl
length-set (y ∷ xs) (suc i) new = ap suc (length-set xs i new)

-- one item counts no more than all
pub sum-at : {X : Type 0} (f : X → ℕ) (xs : List X) (i : ℕ) (x : X) → slice_get xs i ≡ Some x → f x ≤ sum_by f xs
sum-at f [] i x h = cc
sum-at f (y ∷ xs) zero x h = let e : f y ≡ f x = ap f (some_is h) in omega (arith, e, sum_by-cons f y xs)
sum-at f (y ∷ xs) (suc i) x h = let t = sum-at f xs i x h in omega (arith, t, sum_by-cons f y xs)

-- something that is counted of a list of words, word by word
pub record Measure : Type 0 where
  pub of : List W → ℕ
  pub none : of [] ≡ 0
  pub more : (vs ws : List W) → of (vs ++ ws) ≡ of vs + of ws

-- how many there are, and how often one is there
abbrev pub how_many : Measure
how_many = record { of = λ ws. length ws; none = refl; more = λ vs ws. length-append vs ws }

abbrev pub how_often : W → Measure
how_often w = record { of = λ ws. times w ws; none = refl; more = λ vs ws. sum_by-append _ vs ws }
