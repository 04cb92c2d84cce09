use Rattle.std.proofs.Common.{ap, ◌∙◌}
use Rattle.std.proofs.lemmas.Result.{on_ok_weaker}
use Rattle.hum_emit.specs.Shapes.{in_expr, in_arm, in_branch, of_one_test, OfTest}
use Rattle.hum_emit.specs.Rowing.{shape_at}
use Rattle.hum_emit.proofs.Nodes.{inside_constant, inside_text, inside_var, inside_myself, of_pair, of_constant, of_bind, of_skip}
use Rattle.hum_emit.proofs.Parting.{nothing, none_in, loop_found, tests_loop, call_found, case_found, if_found, arm_found, branch_found}
use Rattle.hum_emit.proofs.shapes.+walk.Goals as goal

pub expr-returns-in-Is : goal.expr-returns-in-Is
expr-returns-in-Is t c =
    let shape = shape_at c.args.walk.now.rows c.args.top in
    none_in _ c.args.walk.now (ap (λ e. in_expr e shape) c.in-Is.is ∙ inside_constant c.in-Is.field-0 shape)

pub expr-returns-in-Text : goal.expr-returns-in-Text
expr-returns-in-Text t c =
    let shape = shape_at c.args.walk.now.rows c.args.top in
    none_in _ c.args.walk.now (ap (λ e. in_expr e shape) c.in-Text.is ∙ inside_text c.in-Text.field-0 shape)

pub expr-returns-in-Var : goal.expr-returns-in-Var
expr-returns-in-Var t c =
    let shape = shape_at c.args.walk.now.rows c.args.top in
    none_in _ c.args.walk.now (ap (λ e. in_expr e shape) c.in-Var.is ∙ inside_var c.in-Var.field-0 shape)

pub expr-returns-in-Myself : goal.expr-returns-in-Myself
expr-returns-in-Myself t c =
    let shape = shape_at c.args.walk.now.rows c.args.top in
    none_in _ c.args.walk.now (ap (λ e. in_expr e shape) c.in-Myself.is ∙ inside_myself shape)

pub expr-returns-in_ok-expr-in-Call : goal.expr-returns-in_ok-expr-in-Call
expr-returns-in_ok-expr-in-Call t c =
    on_ok_weaker c.expr-in-Call.result (λ made.
    call_found c.args.e.now c.in-Call.callee c.in-Call.argument c.get.result.now c.get-in-Call.result.now c.args.walk.now c.expr.new.walk c.expr-in-Call.new.walk
    c.args.top c.in-Call.is c.get.ensures c.get-in-Call.ensures c.requires c.in_ok-expr-in-Call.ensures made) c.expr-in-Call.ensures

pub expr-returns-in_ok-expr-in-Case : goal.expr-returns-in_ok-expr-in-Case
expr-returns-in_ok-expr-in-Case t c =
    on_ok_weaker c.arms.result (λ made.
    case_found c.args.e.now c.in-Case.subject c.get-in-Case.result.now c.in-Case.choices c.as_slice-in-Case.result.now c.args.walk.now c.expr-in-Case.new.walk c.arms.new.walk
    c.args.top c.in-Case.is c.get-in-Case.ensures c.as_slice-in-Case.ensures c.requires c.in_ok-expr-in-Case.ensures made) c.arms.ensures

pub expr-returns-in_ok-branches-in-If : goal.expr-returns-in_ok-branches-in-If
expr-returns-in_ok-branches-in-If t c =
    on_ok_weaker c.note-in-If.result (λ made.
    if_found c.args.e.now c.in-If.conditions c.as_slice-in-If.result.now c.in-If.field-1 c.args.walk.now c.branches.new.walk c.note-in-If.new.walk
    c.args.top c.in-If.is c.as_slice-in-If.ensures c.requires c.in_ok-branches-in-If.ensures made) c.note-in-If.ensures

pub exprs-loop-item-init : goal.exprs-loop-item-init
exprs-loop-item-init t c = nothing c.args.walk.now

pub exprs-loop-item-preserved : goal.exprs-loop-item-preserved
exprs-loop-item-preserved t c =
    loop_found in_expr c.args.items.now c.loop-item.item-index c.item-item.result c.args.walk.now c.loop-item.walk c.expr.new.walk c.args.top
    c.loop-item-test.true c.item-item.is c.requires c.loop-item.invariant c.in_ok-expr.ensures

pub arms-loop-each-init : goal.arms-loop-each-init
arms-loop-each-init t c = nothing c.args.walk.now

pub arms-loop-each-preserved : goal.arms-loop-each-preserved
arms-loop-each-preserved t c =
    loop_found in_arm c.args.arms.now c.loop-each.each-index c.each-item.result c.args.walk.now c.loop-each.walk c.arm.new.walk c.args.top
    c.loop-each-test.true c.each-item.is c.requires c.loop-each.invariant c.in_ok-arm.ensures

pub branches-loop-each-init : goal.branches-loop-each-init
branches-loop-each-init t c = nothing c.args.walk.now

pub branches-loop-each-preserved : goal.branches-loop-each-preserved
branches-loop-each-preserved t c =
    loop_found in_branch c.args.branches.now c.loop-each.each-index c.each-item.result c.args.walk.now c.loop-each.walk c.branch-walk.new.walk c.args.top
    c.loop-each-test.true c.each-item.is c.requires c.loop-each.invariant c.in_ok-branch.ensures

pub tests-loop-each-init : goal.tests-loop-each-init
tests-loop-each-init t c = nothing c.args.walk.now

pub tests-loop-each-preserved : goal.tests-loop-each-preserved
tests-loop-each-preserved t c =
    tests_loop c.args.tests.now c.loop-each.each-index c.each-item.result c.args.walk.now c.loop-each.walk c.test.new.walk c.args.top
    c.loop-each-test.true c.each-item.is c.requires c.loop-each.invariant c.in_ok-test.ensures

pub arm-returns : goal.arm-returns
arm-returns t c =
    on_ok_weaker c.expr.result (λ made.
    arm_found c.args.arm.now c.as_slice.result.now c.as_slice-2.result.now c.bindings.result c.args.walk.now c.tests.new.walk c.enter_singles.new.walk c.expr.new.walk
    c.args.top c.in_ok-inner.inner c.as_slice.ensures c.as_slice-2.ensures c.bindings.ensures.value c.requires c.in_ok-tests.ensures
    c.in_ok-inner.ensures.found c.in_ok-inner.ensures.top made) c.expr.ensures

pub branch-returns : goal.branch-returns
branch-returns t c =
    on_ok_weaker c.note.result (λ made.
    branch_found c.args.branch.now c.args.walk.now c.expr.new.walk c.note.new.walk c.args.top c.requires c.in_ok-expr.ensures made) c.note.ensures

pub test-returns-in-Pair : goal.test-returns-in-Pair
test-returns-in-Pair t c =
    let shape = shape_at c.args.walk.now.rows c.args.top in
    none_in _ c.args.walk.now (ap (λ x. (of_one_test x).inside shape) c.in-Pair.is ∙ ap (λ (z : OfTest). z.inside shape) of_pair)

pub test-returns-in-Is : goal.test-returns-in-Is
test-returns-in-Is t c =
    let shape = shape_at c.args.walk.now.rows c.args.top in
    none_in _ c.args.walk.now (ap (λ x. (of_one_test x).inside shape) c.in-Is.is ∙ ap (λ (z : OfTest). z.inside shape) (of_constant c.in-Is.field-0))

pub test-returns-in-Bind : goal.test-returns-in-Bind
test-returns-in-Bind t c =
    let shape = shape_at c.args.walk.now.rows c.args.top in
    none_in _ c.args.walk.now (ap (λ x. (of_one_test x).inside shape) c.in-Bind.is ∙ ap (λ (z : OfTest). z.inside shape) of_bind)

pub test-returns-in-Skip : goal.test-returns-in-Skip
test-returns-in-Skip t c =
    let shape = shape_at c.args.walk.now.rows c.args.top in
    none_in _ c.args.walk.now (ap (λ x. (of_one_test x).inside shape) c.in-Skip.is ∙ ap (λ (z : OfTest). z.inside shape) of_skip)
