use Rattle.std.proofs.Common.{◌<◌, arith}
use Rattle.quad_debug.proofs.Numbers.{ten-small}
use Rattle.quad_debug.proofs.script.value.Goals as goal

pub overflow_mul-sum : goal.overflow_mul-sum
overflow_mul-sum c =
    let i : c.loop-d.d-index < 9 = omega arith in
    let s = ten-small c.loop-d.d-index c.loop-d.sum i c.loop-d.invariant.small in
    omega (arith, s)

pub overflow_add-sum : goal.overflow_add-sum
overflow_add-sum c =
    let i : c.loop-d.d-index < 9 = omega arith in
    let s = ten-small c.loop-d.d-index c.loop-d.sum i c.loop-d.invariant.small in
    omega (arith, s)
