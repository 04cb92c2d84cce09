use Rattle.std.proofs.lemmas.Result.{on_ok_weaker, IfOk-weaker}
use Rattle.hum_emit.proofs.Parting.{let_found, let_top, group_found, send_found, create_found}
use Rattle.hum_emit.proofs.shapes.statement.Goals as goal

pub returns-in_ok-expr-in-Let-clause-found : goal.returns-in_ok-expr-in-Let-clause-found
returns-in_ok-expr-in-Let-clause-found c =
    on_ok_weaker c.enter_singles.result (λ made.
    let_found c.args.statement.now c.in-Let.pattern c.as_slice.result.now c.in-Let.e c.args.walk.now c.tests.new.walk c.expr.new.walk c.enter_singles.new.walk
    c.args.top c.in-Let.is c.as_slice.ensures c.requires c.in_ok-tests-in-Let.ensures c.in_ok-expr-in-Let.ensures made) c.enter_singles.ensures.found

pub returns-in_ok-expr-in-Let-clause-top : goal.returns-in_ok-expr-in-Let-clause-top
returns-in_ok-expr-in-Let-clause-top c =
    IfOk-weaker c.enter_singles.result _ _ (λ at made.
    let_top c.args.statement.now c.in-Let.pattern c.as_slice-in-Let.result.now c.in-Let.e c.bindings.result _ _ c.args.walk.now c.tests.new.walk c.expr.new.walk
    c.enter_singles.new.walk.rows c.args.top at c.in-Let.is c.as_slice-in-Let.ensures c.bindings.ensures.value c.requires c.in_ok-tests-in-Let.ensures
    c.in_ok-expr-in-Let.ensures made) c.enter_singles.ensures.top

pub returns-in_ok-note-in-Group-clause-found : goal.returns-in_ok-note-in-Group-clause-found
returns-in_ok-note-in-Group-clause-found c =
    group_found c.args.statement.now c.in-Group.numbers c.as_slice-in-Group.result.now c.args.walk.now c.enter.new.walk c.note.new.walk c.args.top
    c.in_ok-group-in-Group.group c.in-Group.is c.as_slice-in-Group.ensures c.in_ok-group-in-Group.ensures.found c.in_ok-group-in-Group.ensures.top
    c.in_ok-note-in-Group.ensures

pub returns-in_ok-expr-in-Send-2-clause-found : goal.returns-in_ok-expr-in-Send-2-clause-found
returns-in_ok-expr-in-Send-2-clause-found c =
    send_found c.args.statement.now c.in-Send.e c.in-Send.target c.args.walk.now c.expr-in-Send.new.walk c.expr-in-Send-2.new.walk c.args.top c.in-Send.is
    c.requires c.in_ok-expr-in-Send.ensures c.in_ok-expr-in-Send-2.ensures

pub returns-in_ok-expr-in-Create-clause-found : goal.returns-in_ok-expr-in-Create-clause-found
returns-in_ok-expr-in-Create-clause-found c =
    on_ok_weaker c.enter-in-Create.result (λ made.
    create_found c.args.statement.now c.in-Create.e c.args.walk.now c.expr-in-Create.new.walk c.enter-in-Create.new.walk c.args.top c.in-Create.is
    c.in_ok-expr-in-Create.ensures made) c.enter-in-Create.ensures.found
