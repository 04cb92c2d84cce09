-- Numbers of few digits are small.
use Rattle.std.proofs.Common.{ℕ, zero, suc, ◌+◌, ◌*◌, ◌<◌, arith}

-- ten times ten, so often
abbrev pub ten : ℕ → ℕ
ten zero = 1
ten (suc n) = 10 * ten n

pub ten-small : (i s : ℕ) → i < 9 → s < ten i → s < 100000000
ten-small zero s h k = omega (arith, k)
ten-small (suc zero) s h k = omega (arith, k)
ten-small (suc (suc zero)) s h k = omega (arith, k)
ten-small (suc (suc (suc zero))) s h k = omega (arith, k)
ten-small (suc (suc (suc (suc zero)))) s h k = omega (arith, k)
ten-small (suc (suc (suc (suc (suc zero))))) s h k = omega (arith, k)
ten-small (suc (suc (suc (suc (suc (suc zero)))))) s h k = omega (arith, k)
ten-small (suc (suc (suc (suc (suc (suc (suc zero))))))) s h k = omega (arith, k)
ten-small (suc (suc (suc (suc (suc (suc (suc (suc zero)))))))) s h k = omega (arith, k)
ten-small (suc (suc (suc (suc (suc (suc (suc (suc (suc n))))))))) s h k = absurd (omega (arith, h))

pub ten-next : (i s d : ℕ) → s < ten i → d < 10 → 10 * s + d < ten (suc i)
ten-next i s d h k = omega (arith, h, k)
