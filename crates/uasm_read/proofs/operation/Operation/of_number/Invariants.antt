use Rattle.std.proofs.Common.{◌≡◌, length, pos}
use Rattle.std.specs.List.{find}
use Rattle.std.specs.Ordering.{int_eq}
use Rattle.uasm_read.specs.Operations.{row_of}
use Rattle.uasm_read.specs.Modules.{operation_at}
use Rattle.uasm_read.proofs.operation.Operation.of_number.Given as goal

abbrev pub invariant-loop-rest : goal.invariant-loop-rest
invariant-loop-rest l = find (λ operation. int_eq l.n (pos (row_of operation).number)) l.rest ≡ operation_at l.n

abbrev pub decreases-loop-rest : goal.decreases-loop-rest
decreases-loop-rest l = length l.rest
