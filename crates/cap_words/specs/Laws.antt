-- What is so of every number.
use Rattle.std.specs.Prelude.{◌≡◌, ◌^◌, IsTrue, ℤ, pos, ◌+ℤ◌, ◌*ℤ◌}
use Rattle.cap_words.specs.Fixnums.{in_range, wrap}

-- n and m are congruent modulo 2^31: they differ by a multiple of it
abbrev pub AreCongruent : ℤ → ℤ → Type 0
AreCongruent n m = (k : ℤ) × (n ≡ m +ℤ k *ℤ pos (2 ^ 31))

-- a number is reduced to one in range that is congruent to it, and no other number is both
abbrev pub WrapsToTheOneInRange : Type 0
WrapsToTheOneInRange = (n : ℤ) → IsTrue (in_range (wrap n)) × AreCongruent n (wrap n) × ((m : ℤ) → IsTrue (in_range m) → AreCongruent n m → m ≡ wrap n)
