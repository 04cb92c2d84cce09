use Rattle.std.proofs.Common.{◌≡◌, length}
use Rattle.uasm_read.specs.Faults as faults
use Rattle.uasm_read.proofs.faults.instruction_follows.Given as goal

abbrev pub invariant-loop-rest : goal.invariant-loop-rest
invariant-loop-rest l = faults.instruction_follows l.rest ≡ faults.instruction_follows l.lines

abbrev pub decreases-loop-rest : goal.decreases-loop-rest
decreases-loop-rest l = length l.rest
