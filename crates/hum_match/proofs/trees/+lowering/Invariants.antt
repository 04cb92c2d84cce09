use Rattle.std.proofs.Common.{◌≡◌, ◌++◌, map, take, drop}
use Rattle.hum_core.specs.Lists.{tuple_tested, tested_expr, tested_pat, tested_arm, tested_branch}
use Rattle.hum_match.proofs.trees.+lowering.Given as goal

abbrev pub invariant-exprs-loop-item : goal.invariant-exprs-loop-item
invariant-exprs-loop-item l = l.made ≡ map tested_expr (take l.item-index l.items)

abbrev pub invariant-arms-loop-each : goal.invariant-arms-loop-each
invariant-arms-loop-each l = l.made ≡ map tested_arm (take l.each-index l.arms)

abbrev pub invariant-branches-loop-each : goal.invariant-branches-loop-each
invariant-branches-loop-each l = l.made ≡ map tested_branch (take l.each-index l.branches)

abbrev pub invariant-tuple-loop-i : goal.invariant-tuple-loop-i
invariant-tuple-loop-i l = l.made ++ tuple_tested (map tested_pat (drop l.i l.items)) ≡ l.fn.made ++ tuple_tested (map tested_pat l.items)
