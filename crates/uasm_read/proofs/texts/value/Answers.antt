use Rattle.uasm_read.proofs.Numbers.{too_large}
use Rattle.uasm_read.proofs.texts.value.Goals as goal

pub returns-then-sum-gt1073741824 : goal.returns-then-sum-gt1073741824
returns-then-sum-gt1073741824 c = too_large c.args.digits.now c.loop-d.d-index c.loop-d.sum _ c.loop-d-test.true c.loop-d.invariant.counted c.if-sum-gt1073741824.true
