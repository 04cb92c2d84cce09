-- The reduced number is the one in range that is congruent to the number.
use Rattle.std.proofs.Common.{◌≡◌, ℕ, suc, ◌+◌, ◌-◌, ◌*◌, ◌/◌, ◌%◌, ◌^◌, ◌<◌, ℤ, pos, negsuc, ◌+ℤ◌, IsTrue, ap, ◌∙◌, refl, arith, mod-eq_of_lt, div-add-mod'}
use Rattle.std.specs.Int.{int_rem_euclid}
use Rattle.std.proofs.lemmas.Int.{ints, int_rem_euclid_is}
use Rattle.std.proofs.lemmas.Nat.{mod-mul-add}
use Rattle.std.proofs.lemmas.Bool.Decides.{nat_tests}
use Rattle.cap_words.specs.Fixnums.{in_range, wrap}
use Rattle.cap_words.specs.Laws.{AreCongruent, WrapsToTheOneInRange}

-- ---- the remainder

-- the remainder of a division by 2^31, rounded down, and the quotient
remains : (z : ℤ) → (r : ℕ) × (r < 2 ^ 31) × (int_rem_euclid z (pos (2 ^ 31)) ≡ pos r) × AreCongruent z (pos r)
remains (pos a) =
    let low : a % 2 ^ 31 < 2 ^ 31 = omega arith in
    let whole = div-add-mod' a (2 ^ 31) in
    (a % 2 ^ 31, low, refl, (pos (a / 2 ^ 31), omega (arith, ints)))
remains (negsuc a) =
    let low : a % 2 ^ 31 < 2 ^ 31 = omega arith in
    let whole = div-add-mod' a (2 ^ 31) in
    (2 ^ 31 - 1 - a % 2 ^ 31, omega arith, refl, (negsuc (a / 2 ^ 31), omega (arith, ints)))

-- a remainder that a number is congruent to is that of the division
remainder-is : (z : ℤ) (r : ℕ) → r < 2 ^ 31 → AreCongruent z (pos r) → int_rem_euclid z (pos (2 ^ 31)) ≡ pos r
remainder-is z r low (pos q, e) = int_rem_euclid_is z (pos (2 ^ 31)) (2 ^ 31) 0 (q * 2 ^ 31 + r) (omega arith) refl (omega (arith, ints)) ∙ ap pos (mod-mul-add q (2 ^ 31) r low)
remainder-is z r low (negsuc q, e) = int_rem_euclid_is z (pos (2 ^ 31)) (2 ^ 31) (suc q) r (omega arith) refl (omega (arith, ints)) ∙ ap pos (mod-eq_of_lt low)

-- ---- the range

-- what lies 2^30 above the least number in range
ranged : (m : ℤ) (r : ℕ) → r < 2 ^ 31 → m +ℤ pos (2 ^ 30) ≡ pos r → IsTrue (in_range m)
ranged (pos n) r low e = let h : n < 2 ^ 30 = omega (arith, ints) in grind (arith, nat_tests)
ranged (negsuc n) r low e = let h : n < 2 ^ 30 = omega (arith, ints) in grind (arith, nat_tests)

place : (m : ℤ) → IsTrue (in_range m) → (r : ℕ) × (r < 2 ^ 31) × (m +ℤ pos (2 ^ 30) ≡ pos r)
place (pos n) h = let low : n < 2 ^ 30 = grind (arith, nat_tests) in (n + 2 ^ 30, omega arith, refl)
place (negsuc n) h = let low : n < 2 ^ 30 = grind (arith, nat_tests) in (2 ^ 30 - suc n, omega arith, omega (arith, ints))

-- ---- the law

pub wraps-to_the_one : WrapsToTheOneInRange
wraps-to_the_one n = by (remains (n +ℤ pos (2 ^ 30)))
  where
    same : (m : ℤ) → IsTrue (in_range m) → AreCongruent n m → m ≡ wrap n
    same m h (k, e) =
        let p = place m h in
        let low = p.1 in
        let above = p.2 in
        let is = remainder-is (n +ℤ pos (2 ^ 30)) p.0 low (k, omega (arith, ints)) in
        omega (arith, ints)

    by : (r : ℕ) × (r < 2 ^ 31) × (int_rem_euclid (n +ℤ pos (2 ^ 30)) (pos (2 ^ 31)) ≡ pos r) × AreCongruent (n +ℤ pos (2 ^ 30)) (pos r) → IsTrue (in_range (wrap n)) × AreCongruent n (wrap n) × ((m : ℤ) → IsTrue (in_range m) → AreCongruent n m → m ≡ wrap n)
    by (r, low, is, (k, e)) = (ranged (wrap n) r low (omega (arith, ints)), (k, omega (arith, ints)), same)
