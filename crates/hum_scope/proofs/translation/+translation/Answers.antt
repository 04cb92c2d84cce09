use Rattle.std.proofs.Common.{◌≡◌, [], ap, sym, ◌∙◌, map, arith}
use Rattle.hum_syntax.specs.declared.tree.Arm.{fold_out-Arm}
use Rattle.hum_syntax.specs.declared.tree.Branch.{fold_out-Branch}
use Rattle.hum_core.specs.declared.resolved.CoreArm.{roll-CoreArm}
use Rattle.hum_core.specs.declared.resolved.CoreBranch.{roll-CoreBranch}
use Rattle.hum_core.specs.declared.resolved.CoreExpr.TheVariants as expr
use Rattle.hum_core.specs.declared.resolved.CoreUnit.TheVariants as unit
use Rattle.hum_core.specs.Units.{of_file, of_arm, of_branch, in_order, block}
use Rattle.hum_scope.specs.Translations.{in_block, made_of_expr, made_of_pat, made_of_arm, made_of_branch}
use Rattle.hum_scope.proofs.Entered.{marks_no_lower, past_marks}
use Rattle.hum_scope.specs.Bodies.{so_far}
use Rattle.hum_scope.proofs.NameLists.{all_behind}
use Rattle.hum_scope.proofs.Nodes.{abs_becomes, call_becomes, case_becomes, units_become}
use Rattle.hum_scope.proofs.Parts.{filled, abstracted, two_made, two_units}
use Rattle.hum_scope.proofs.Sights.{from_one}
use Rattle.hum_scope.proofs.Stretches.{stepped}
use Rattle.hum_scope.proofs.translation.+translation.Goals as goal

pub expr-returns-in_ok-value-in-Abs-clause-units : goal.expr-returns-in_ok-value-in-Abs-clause-units
expr-returns-in_ok-value-in-Abs-clause-units t c =
    let p = c.get-pattern.result.now in
    let a = c.get.result.now in
    let n = c.in_ok-number-in-Abs.ensures in
    let m = c.in_ok-made-in-Abs.ensures in
    let k = c.in_ok-value-in-Abs.ensures in
    units_become c.args.e.now _ _ _ _ _ (abs_becomes c.args.e.now _ p _ a c.in-Abs.is c.get-pattern.ensures c.get.ensures)
    (abstracted (made_of_pat p) (made_of_expr a) c.in_ok-made-in-Abs.made c.in_ok-value-in-Abs.value _ _ _ _ _ _ _ _ _ _ _ _ _
    c.len-place.ensures n.sight n.next n.units m.itself m.units m.next m.sight k.itself k.units c.set.ensures)

pub expr-returns-in_ok-argument-in-Call-clause-units : goal.expr-returns-in_ok-argument-in-Call-clause-units
expr-returns-in_ok-argument-in-Call-clause-units t c =
    let f = c.get-in-Call.result.now in
    let a = c.get-in-Call-2.result.now in
    let m = c.in_ok-callee-in-Call.ensures in
    units_become c.args.e.now _ _ _ _ _ (call_becomes c.args.e.now _ f _ a c.in-Call.is c.get-in-Call.ensures c.get-in-Call-2.ensures)
    (two_units [] expr.Call (made_of_expr f).part (made_of_expr a).part _ _ _ _ _ _ _ m.units m.next m.sight c.in_ok-argument-in-Call.ensures.units)

pub expr-returns-in_ok-choices-in-Case-clause-units : goal.expr-returns-in_ok-choices-in-Case-clause-units
expr-returns-in_ok-choices-in-Case-clause-units t c =
    let a = c.get-in-Case.result.now in
    let rs = c.as_slice-in-Case.result.now in
    let m = c.in_ok-subject-in-Case.ensures in
    units_become c.args.e.now _ _ _ _ _ (case_becomes c.args.e.now _ a _ rs c.in-Case.is c.get-in-Case.ensures c.as_slice-in-Case.ensures)
    (two_units [] expr.Case (made_of_expr a).part (in_order (map made_of_arm rs)) _ _ _ _ _ _ _ m.units m.next m.sight c.in_ok-choices-in-Case.ensures.units)

pub under-truncate-requires : goal.under-truncate-requires
under-truncate-requires t c =
    marks_no_lower c.args.work.now.sight c.expr.new.work.sight (made_of_pat c.args.pattern.now).names c.len-outer.result c.len-outer.ensures
    (c.in_ok-value.ensures.sight ∙ c.in_ok-bind.ensures)

pub under-returns-clause-sight : goal.under-returns-clause-sight
under-returns-clause-sight t c =
    c.truncate.ensures
    ∙ past_marks c.args.work.now.sight c.expr.new.work.sight (made_of_pat c.args.pattern.now).names c.len-outer.result c.len-outer.ensures
    (c.in_ok-value.ensures.sight ∙ c.in_ok-bind.ensures)

pub block-returns-clause-units : goal.block-returns-clause-units
block-returns-clause-units t c =
    filled (in_block (map of_file c.args.statements.now)) unit.Block c.in_ok-body.body _ _ _ _ _ _ _ _ _ _
    c.len-place.ensures c.in_ok-number.ensures.sight c.in_ok-number.ensures.next c.in_ok-number.ensures.units
    c.in_ok-body.ensures.itself c.in_ok-body.ensures.units c.set.ensures

pub arms-loop-arm-preserved : goal.arms-loop-arm-preserved
arms-loop-arm-preserved t c =
    let r = c.arm-item.result in
    let p = made_of_pat r.pattern in
    let e = made_of_expr r.value in
    let m = c.in_ok-pattern.ensures in
    let k = c.in_ok-value.ensures in
    let is = from_one made_of_arm c.args.arms.now c.loop-arm.arm-index r c.arm-item.is (omega arith) in
    let part : made_of_arm r ≡ of_arm (record { pattern = p; value = e }) = fold_out-Arm _ _ _ _ _ _ _ _ _ _ r in
    two_made p.names (λ x y. roll-CoreArm (record { pattern = x; value = y })) p.part e.part (made_of_arm r) _ _ c.in_ok-pattern.pattern c.in_ok-value.value
    _ _ _ _ _ _ _ _ _ _ _ _ _ _ _ is part m.itself m.units m.next m.sight k.itself k.units k.next k.sight c.in_ok-push.ensures.ok c.loop-arm.invariant

pub branches-loop-branch-preserved : goal.branches-loop-branch-preserved
branches-loop-branch-preserved t c =
    let r = c.branch-item.result in
    let e = made_of_expr r.condition in
    let ss = map of_file c.as_slice.result.now in
    let m = c.in_ok-condition.ensures in
    let k = c.in_ok-block.ensures in
    let is = from_one made_of_branch c.args.branches.now c.loop-branch.branch-index r c.branch-item.is (omega arith) in
    let part : made_of_branch r ≡ of_branch (record { condition = e; block = map of_file r.block }) = fold_out-Branch _ _ _ _ _ _ _ _ _ _ r in
    two_made [] (λ x k. roll-CoreBranch (record { condition = x; block = k })) e.part (block ss) (made_of_branch r) _ _ c.in_ok-condition.condition c.in_ok-block.block
    _ _ _ _ _ _ _ _ _ _ _ _ _ _ _ is (part ∙ ap (λ block. of_branch (record { condition = e; block = map of_file block })) (sym c.as_slice.ensures))
    m.itself m.units m.next m.sight k.itself k.units k.next k.sight c.in_ok-push.ensures.ok c.loop-branch.invariant

pub stmts-loop-i-preserved : goal.stmts-loop-i-preserved
stmts-loop-i-preserved t c =
    let ss = c.args.statements.now in
    let i = c.loop-i.i in
    let s = c.index-statements-i.result in
    let body = c.loop-i.body in
    let k = c.in_ok-add.ensures in
    let is = from_one of_file ss i s c.index-statements-i.is (omega arith) in
    stepped (of_file s) _ _ _ _ body.grouped _ body.closed body.behind body.group (so_far c.add.new.body) _ _ _ _ _ _ _ _ _
    is (ap (map of_file) (all_behind ss i)) k.units k.next k.sight k.grouped k.body c.loop-i.invariant
