use Rattle.std.proofs.Common.{◌≡◌, ◌++◌, length}
use Rattle.std.specs.List.{flat_map}
use Rattle.uasm_read.specs.Reading.{directed_by}
use Rattle.uasm_read.proofs.build.directed.Given as goal

abbrev pub invariant-loop-rest : goal.invariant-loop-rest
invariant-loop-rest l = l.names.items ++ flat_map (directed_by l.directive) l.rest ≡ flat_map (directed_by l.directive) l.lines

abbrev pub decreases-loop-rest : goal.decreases-loop-rest
decreases-loop-rest l = length l.rest
