use Rattle.std.proofs.Common.{◌≡◌, ◌++◌, map, drop}
use Rattle.hum_core.specs.Units.{of_file}
use Rattle.hum_scope.specs.Translations.{function_names}
use Rattle.hum_scope.proofs.translation.group.Given as goal

abbrev pub invariant-loop-statement : goal.invariant-loop-statement
invariant-loop-statement l = map (λ n. n.now) l.names.items ++ function_names (map of_file (drop l.statement-index l.statements)) ≡ function_names (map of_file l.statements)
