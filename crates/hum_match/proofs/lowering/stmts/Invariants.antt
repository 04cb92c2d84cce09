use Rattle.std.proofs.Common.{◌≡◌, map, take}
use Rattle.hum_core.specs.Lists.{tested_stmt}
use Rattle.hum_match.proofs.lowering.stmts.Given as goal

abbrev pub invariant-loop-statement : goal.invariant-loop-statement
invariant-loop-statement l = l.made ≡ map tested_stmt (take l.statement-index l.statements)
