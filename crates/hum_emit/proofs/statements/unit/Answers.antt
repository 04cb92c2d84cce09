use Rattle.std.proofs.lemmas.Result.{IfOk-weaker}
use Rattle.hum_emit.specs.Emitting.{emitted}
use Rattle.hum_emit.specs.Shaping.{shape_in}
use Rattle.hum_emit.proofs.Turns.{unit_abs, unit_block}
use Rattle.hum_emit.proofs.statements.unit.Goals as goal

pub returns-in-Abs : goal.returns-in-Abs
returns-in-Abs c =
    IfOk-weaker c.function.result _ _ (λ at made.
    unit_abs c.args.unit.now c.in-Abs.pattern c.as_slice.result.now c.in-Abs.value c.args.shape.now (shape_in c.scope.result) (emitted c.args.out.now)
    (emitted c.function.new.out, at) c.in-Abs.is c.as_slice.ensures c.scope.ensures (made 0)) c.function.ensures

pub returns-in-Block : goal.returns-in-Block
returns-in-Block c =
    IfOk-weaker c.statements.result _ _ (λ at made.
    unit_block c.args.unit.now c.in-Block.block c.as_slice-in-Block.result.now c.args.shape.now (emitted c.args.out.now)
    (emitted c.statements.new.out, at) c.in-Block.is c.as_slice-in-Block.ensures (made 0)) c.statements.ensures
