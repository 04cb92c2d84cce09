use Rattle.std.proofs.Common.{◌≡◌, ◌++◌, map, drop, length}
use Rattle.hum_meaning.specs.Scope as spec
use Rattle.hum_meaning.specs.Scope.{found_of_stmt}
use Rattle.hum_scope.specs.Walks.{judged, place, sight, found_of_expr, found_of_pat, found_of_arm, found_of_branch}
use Rattle.hum_scope.proofs.walk.+walk.Given as goal

abbrev pub invariant-exprs-loop-item : goal.invariant-exprs-loop-item
invariant-exprs-loop-item l =
    (judged l.walk.count (spec.exprs (map found_of_expr (drop l.item-index l.items)) l.fn.walk.seen) ≡ judged l.fn.walk.count (spec.exprs (map found_of_expr l.items) l.fn.walk.seen))
    × (l.walk.seen ≡ l.fn.walk.seen)

abbrev pub invariant-arms-loop-arm : goal.invariant-arms-loop-arm
invariant-arms-loop-arm l =
    (judged l.walk.count (spec.in_all (map found_of_arm (drop l.arm-index l.arms)) l.fn.walk.seen) ≡ judged l.fn.walk.count (spec.in_all (map found_of_arm l.arms) l.fn.walk.seen))
    × (l.walk.seen ≡ l.fn.walk.seen)

abbrev pub invariant-branches-loop-each : goal.invariant-branches-loop-each
invariant-branches-loop-each l =
    (judged l.walk.count (spec.in_all (map found_of_branch (drop l.each-index l.branches)) l.fn.walk.seen) ≡ judged l.fn.walk.count (spec.in_all (map found_of_branch l.branches) l.fn.walk.seen))
    × (l.walk.seen ≡ l.fn.walk.seen)

abbrev pub invariant-pats-loop-item : goal.invariant-pats-loop-item
invariant-pats-loop-item l =
    (judged l.walk.count (spec.items (map found_of_pat (drop l.item-index l.items)) (place l.fn.walk.seen l.taken l.outer)) ≡ judged l.fn.walk.count (spec.items (map found_of_pat l.items) (place l.fn.walk.seen l.fn.taken l.outer)))
    × (l.walk.seen ≡ l.fn.walk.seen)
    × (spec.item_names (map found_of_pat (drop l.item-index l.items)) ++ l.taken ≡ spec.item_names (map found_of_pat l.items) ++ l.fn.taken)

abbrev pub invariant-block-loop-i : goal.invariant-block-loop-i
invariant-block-loop-i l =
    (judged l.walk.count (spec.in_block l.fn.walk.seen l.taken l.grouped (map found_of_stmt (drop l.i l.statements))) ≡ judged l.fn.walk.count (spec.block (map found_of_stmt l.statements) l.fn.walk.seen))
    × (l.walk.seen ≡ sight l.grouped (map found_of_stmt (drop l.i l.statements)) l.taken l.fn.walk.seen)
    × (l.height ≡ length l.fn.walk.seen)
