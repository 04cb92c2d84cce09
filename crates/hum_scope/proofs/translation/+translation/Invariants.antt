use Rattle.std.proofs.Common.{map, drop}
use Rattle.hum_core.specs.Units.{exprs, in_order, of_file}
use Rattle.hum_scope.specs.Bodies.{so_far}
use Rattle.hum_scope.specs.Translations.{in_all, made_of_expr, made_of_pat, made_of_arm, made_of_branch}
use Rattle.hum_scope.proofs.Parts.{Underway, Progress}
use Rattle.hum_scope.proofs.translation.+translation.Given as goal

abbrev pub invariant-exprs-loop-item : goal.invariant-exprs-loop-item
invariant-exprs-loop-item l =
    let fn = l.fn.work in
    Underway (exprs (map made_of_expr (drop l.item-index l.items))) l.made l.work.sight l.work.next l.work.units
    (exprs (map made_of_expr l.items)) fn.sight fn.next fn.units

abbrev pub invariant-arms-loop-arm : goal.invariant-arms-loop-arm
invariant-arms-loop-arm l =
    let fn = l.fn.work in
    Underway (in_order (map made_of_arm (drop l.arm-index l.arms))) l.made l.work.sight l.work.next l.work.units
    (in_order (map made_of_arm l.arms)) fn.sight fn.next fn.units

abbrev pub invariant-branches-loop-branch : goal.invariant-branches-loop-branch
invariant-branches-loop-branch l =
    let fn = l.fn.work in
    Underway (in_order (map made_of_branch (drop l.branch-index l.branches))) l.made l.work.sight l.work.next l.work.units
    (in_order (map made_of_branch l.branches)) fn.sight fn.next fn.units

abbrev pub invariant-pats-loop-item : goal.invariant-pats-loop-item
invariant-pats-loop-item l =
    let fn = l.fn.work in
    Underway (in_all (map made_of_pat (drop l.item-index l.items))) l.made l.work.sight l.work.next l.work.units
    (in_all (map made_of_pat l.items)) fn.sight fn.next fn.units

abbrev pub invariant-stmts-loop-i : goal.invariant-stmts-loop-i
invariant-stmts-loop-i l =
    let fn = l.fn.work in
    Progress l.body.grouped (so_far l.body) (map of_file (drop l.i l.statements)) l.work.sight l.work.next l.work.units
    (map of_file l.statements) fn.sight fn.next fn.units
