use Rattle.std.proofs.Common.{◌≡◌, ◌-◌, suc, map, length, take, drop}
use Rattle.hum_emit.specs.Templates.{expr_code, test_code, tests, after_all}
use Rattle.hum_emit.specs.Emitting.{emitted, front_items, middle_arms, other_branches, arm_code, branch_code}
use Rattle.hum_emit.specs.Shaping.{shape_in}
use Rattle.hum_emit.proofs.exprs.+emit.Given as goal

abbrev pub invariant-tuple-loop-i : goal.invariant-tuple-loop-i
invariant-tuple-loop-i l =
    front_items (map expr_code (take (length l.items - l.i) l.items)) (shape_in l.scope) l.at (emitted l.out)
    ≡ front_items (map expr_code (take (length l.items - 1) l.items)) (shape_in l.scope) l.initial.at (emitted l.initial.out)

abbrev pub invariant-branches-loop-i : goal.invariant-branches-loop-i
invariant-branches-loop-i l =
    other_branches (map branch_code (take (length l.conditions - l.i) l.conditions)) (shape_in l.scope) l.k (emitted l.out, l.at)
    ≡ other_branches (map branch_code l.conditions) (shape_in l.scope) l.k (emitted l.initial.out, l.initial.at)

abbrev pub invariant-arms-loop-i : goal.invariant-arms-loop-i
invariant-arms-loop-i l =
    middle_arms (map arm_code (drop 1 (take (suc (length l.arms) - l.i) l.arms))) (shape_in l.scope) l.k (emitted l.out, l.at)
    ≡ middle_arms (map arm_code (drop 1 (take (length l.arms - 1) l.arms))) (shape_in l.scope) l.k (emitted l.initial.out, l.initial.at)

abbrev pub invariant-tests-loop-i : goal.invariant-tests-loop-i
invariant-tests-loop-i l =
    (tests (map test_code (take (length l.tests - l.i) l.tests)) (shape_in l.scope) l.miss 0 l.at (emitted l.out)
    ≡ tests (map test_code l.tests) (shape_in l.scope) l.miss 0 l.fn.k (emitted l.fn.out))
    × (l.n ≡ after_all (map test_code (take (length l.tests - l.i) l.tests)) 0)
