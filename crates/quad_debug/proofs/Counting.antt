-- Turns that are counted.
use Rattle.std.proofs.Common.{◌≡◌, ℕ, ◌+◌, ◌<◌, ◌≤◌, nat_le, nat_eq, Bool, true, false, refl, arith}
use Rattle.std.proofs.lemmas.Bool.Decides.{nat_tests}

pub not-enough : (count n k : ℕ) → n ≡ k → k < count → nat_le count n ≡ false
not-enough count n k e h = grind (arith, nat_tests, e, h)

pub is-enough : (count n k : ℕ) → n ≡ k → count ≤ k → nat_le count n ≡ true
is-enough count n k e h = grind (arith, nat_tests, e, h)

-- no turn was taken where the count is as it was
pub none-taken : (before now k : ℕ) → now ≡ before + k → nat_eq now before ≡ nat_eq k 0
none-taken before now k e = by (nat_eq k 0) refl
  where
    by : (b : Bool) → nat_eq k 0 ≡ b → nat_eq now before ≡ b
    by true h = grind (arith, nat_tests, e, h)
    by false h = grind (arith, nat_tests, e, h)
