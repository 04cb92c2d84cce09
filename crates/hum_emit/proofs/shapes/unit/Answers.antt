use Rattle.std.proofs.lemmas.Result.{on_ok_weaker}
use Rattle.hum_emit.proofs.Parting.{abs_found}
use Rattle.hum_emit.proofs.shapes.unit.Goals as goal

pub returns-in_ok-inner-in-Abs : goal.returns-in_ok-inner-in-Abs
returns-in_ok-inner-in-Abs c =
    on_ok_weaker c.expr.result (λ made.
    abs_found c.args.unit.now c.in-Abs.pattern c.as_slice.result.now c.as_slice-in-Abs.result.now c.in-Abs.e c.bindings.result c.args.walk.now c.tests.new.walk
    c.enter_singles.new.walk c.expr.new.walk c.args.top c.in_ok-inner-in-Abs.inner c.in-Abs.is c.as_slice.ensures c.as_slice-in-Abs.ensures
    c.bindings.ensures.value c.requires c.in_ok-tests-in-Abs.ensures c.in_ok-inner-in-Abs.ensures.found c.in_ok-inner-in-Abs.ensures.top made) c.expr.ensures
