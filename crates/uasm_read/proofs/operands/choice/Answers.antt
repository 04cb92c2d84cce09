use Rattle.std.proofs.Common.{ap, arith, ◌≡◌, Some, pos, ◌+ℤ◌, to_z, of_z, w32}
use Rattle.std.proofs.lemmas.Int.{ints}
use Rattle.uasm_read.specs.declared.operand.Operand.TheVariants as operand
use Rattle.uasm_read.proofs.operands.choice.Goals as goal

pub overflow_add-result : goal.overflow_add-result
overflow_add-result c = omega (arith, ints, c.in_ok-k.ensures.below)

pub returns : goal.returns
returns c =
    rw (← c.in_ok-k.ensures.value)
    (ap (λ n. Some (operand.Fix n)) (let e : to_z w32 (of_z w32 (to_z w32 (of_z w32 c.args.first) +ℤ to_z w32 c.in_ok-k.k)) ≡ c.args.first +ℤ pos c.in_ok-k.k = omega (arith, ints, c.in_ok-k.ensures.below) in e))
