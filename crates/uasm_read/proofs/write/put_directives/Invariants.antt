use Rattle.std.proofs.Common.{◌≡◌, ◌++◌, length, map}
use Rattle.std.specs.List.{flat_map}
use Rattle.uasm_read.specs.Reading.{directive_line}
use Rattle.uasm_read.specs.Writes.{ended}
use Rattle.uasm_read.proofs.write.put_directives.Given as goal

abbrev pub invariant-loop-rest : goal.invariant-loop-rest
invariant-loop-rest l = l.text.items ++ flat_map ended (map (directive_line l.directive) l.rest) ≡ l.fn.text.items ++ flat_map ended (map (directive_line l.directive) l.names)

abbrev pub decreases-loop-rest : goal.decreases-loop-rest
decreases-loop-rest l = length l.rest
