use Rattle.std.proofs.Common.{refl, arith}
use Rattle.vm_step.proofs.pairs.tail_after.Goals as goal

pub loop-i-init : goal.loop-i-init
loop-i-init c = (c.args.n, omega arith, refl)
