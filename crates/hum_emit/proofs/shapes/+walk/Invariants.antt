use Rattle.std.proofs.Common.{map, take}
use Rattle.hum_emit.specs.Shapes.{in_all, in_expr, in_arm, in_branch, in_tests}
use Rattle.hum_emit.specs.Rowing.{shape_at}
use Rattle.hum_emit.specs.Finding.{Found}
use Rattle.hum_emit.proofs.shapes.+walk.Given as goal

abbrev pub invariant-exprs-loop-item : goal.invariant-exprs-loop-item
invariant-exprs-loop-item l = Found (in_all (map in_expr (take l.item-index l.items)) (shape_at l.fn.walk.rows l.top)) l.fn.walk l.walk

abbrev pub invariant-arms-loop-each : goal.invariant-arms-loop-each
invariant-arms-loop-each l = Found (in_all (map in_arm (take l.each-index l.arms)) (shape_at l.fn.walk.rows l.top)) l.fn.walk l.walk

abbrev pub invariant-branches-loop-each : goal.invariant-branches-loop-each
invariant-branches-loop-each l = Found (in_all (map in_branch (take l.each-index l.branches)) (shape_at l.fn.walk.rows l.top)) l.fn.walk l.walk

abbrev pub invariant-tests-loop-each : goal.invariant-tests-loop-each
invariant-tests-loop-each l = Found (in_tests (take l.each-index l.tests) (shape_at l.fn.walk.rows l.top)) l.fn.walk l.walk
