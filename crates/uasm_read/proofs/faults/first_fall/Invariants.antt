use Rattle.std.proofs.Common.{◌≤◌, ◌+◌, length}
use Rattle.uasm_read.specs.Faults.{falls_off}
use Rattle.uasm_read.proofs.Searches.{Searched}
use Rattle.uasm_read.proofs.faults.first_fall.Given as goal

abbrev pub invariant-loop-rest : goal.invariant-loop-rest
invariant-loop-rest l = record {
  searched : Searched falls_off l.lines l.rest l.at;
  within : l.at + length l.rest ≤ length l.lines;
}

abbrev pub decreases-loop-rest : goal.decreases-loop-rest
decreases-loop-rest l = length l.rest
