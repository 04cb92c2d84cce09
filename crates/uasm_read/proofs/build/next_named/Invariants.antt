use Rattle.std.proofs.Common.{◌≡◌, length}
use Rattle.uasm_read.specs.Faults as faults
use Rattle.uasm_read.proofs.build.next_named.Given as goal

abbrev pub invariant-loop-rest : goal.invariant-loop-rest
invariant-loop-rest l = faults.next_named l.rest ≡ faults.next_named l.lines

abbrev pub decreases-loop-rest : goal.decreases-loop-rest
decreases-loop-rest l = length l.rest
