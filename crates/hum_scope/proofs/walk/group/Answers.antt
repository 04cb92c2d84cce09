use Rattle.std.proofs.Common.{rules, ◌∷◌, [], map, drop, append_assoc, ◌+◌, arith}
use Rattle.hum_meaning.specs.Scope.{functions, found_of_stmt}
use Rattle.hum_scope.specs.Walks.{shown}
use Rattle.hum_scope.proofs.Sights.{group_step}
use Rattle.hum_scope.proofs.walk.group.Goals as goal
use Rattle.hum_scope.proofs.walk.group.Goals.{in-Function+in_ok-push-in-Function, in-Nothing}

pub loop-statement-preserved : goal.loop-statement-preserved
loop-statement-preserved c =
    let xs = c.args.statements.now in
    let i = c.loop-statement.statement-index in
    let e = group_step xs i c.statement-item.result (shown c.binds.result) c.statement-item.is (omega arith) c.binds.ensures.found in
    let more = functions (map found_of_stmt (drop (i + 1) xs)) in
    elim c.match-binds.branch [
      | in-Function+in_ok-push-in-Function w ↦
          (let a = append_assoc more (w.in-Function.name.now ∷ []) c.loop-statement.seen in
          search (rules, e, a))
      | in-Nothing w ↦ search (rules, e)
    ]
