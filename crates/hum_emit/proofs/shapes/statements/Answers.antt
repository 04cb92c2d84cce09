use Rattle.std.proofs.Common.{refl, [], ◌++◌}
use Rattle.hum_emit.specs.Shapes.{in_statement, in_statements}
use Rattle.hum_emit.specs.Rowing.{shape_at}
use Rattle.hum_emit.proofs.Findings.{found_then}
use Rattle.hum_emit.proofs.Parting.{nothing, statements_turn}
use Rattle.hum_emit.proofs.shapes.statements.Goals as goal

pub loop-each-init : goal.loop-each-init
loop-each-init c = ([], nothing c.args.walk.now, refl, c.requires)

pub loop-each-preserved : goal.loop-each-preserved
loop-each-preserved c =
    let so = c.loop-each.invariant in
    let x = c.each-item.result in
    let sh = shape_at c.loop-each.walk.rows c.loop-each.newest in (
      so.0 ++ in_statement x sh,
      found_then so.0 (in_statement x sh) c.args.walk.now c.loop-each.walk c.statement.new.walk so.1 c.in_ok-newest.ensures.found,
      statements_turn c.args.statements.now c.loop-each.each-index x so.0 (in_statements c.args.statements.now (shape_at c.args.walk.now.rows c.args.top)) sh
          (shape_at c.statement.new.walk.rows c.in_ok-newest.newest) c.loop-each-test.true c.each-item.is c.in_ok-newest.ensures.top.1 so.2,
      c.in_ok-newest.ensures.top.0,
    )
