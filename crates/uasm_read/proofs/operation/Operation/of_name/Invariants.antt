use Rattle.std.proofs.Common.{◌≡◌, length}
use Rattle.std.specs.List.{find}
use Rattle.std.specs.Str.{bytes_eq}
use Rattle.uasm_read.specs.Operations.{row_of, operation_of}
use Rattle.uasm_read.proofs.operation.Operation.of_name.Given as goal

abbrev pub invariant-loop-rest : goal.invariant-loop-rest
invariant-loop-rest l = find (λ operation. bytes_eq l.part (row_of operation).name) l.rest ≡ operation_of l.part

abbrev pub decreases-loop-rest : goal.decreases-loop-rest
decreases-loop-rest l = length l.rest
