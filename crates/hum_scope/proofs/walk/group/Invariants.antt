use Rattle.std.proofs.Common.{◌≡◌, ◌++◌, map, drop}
use Rattle.hum_meaning.specs.Scope.{functions, found_of_stmt}
use Rattle.hum_scope.proofs.walk.group.Given as goal

abbrev pub invariant-loop-statement : goal.invariant-loop-statement
invariant-loop-statement l = functions (map found_of_stmt (drop l.statement-index l.statements)) ++ l.seen ≡ functions (map found_of_stmt l.statements) ++ l.fn.seen
