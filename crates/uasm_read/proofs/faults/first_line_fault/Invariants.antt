use Rattle.std.proofs.Common.{◌≤◌, ◌+◌, length}
use Rattle.uasm_read.specs.Reading.{holds}
use Rattle.uasm_read.proofs.Searches.{Checked}
use Rattle.uasm_read.proofs.faults.first_line_fault.Given as goal

abbrev pub invariant-loop-rest : goal.invariant-loop-rest
invariant-loop-rest l = record {
  checked : Checked l.lines l.rest l.at (holds l.names) l.follows l.left;
  within : l.at + length l.rest ≤ length l.lines;
}

abbrev pub decreases-loop-rest : goal.decreases-loop-rest
decreases-loop-rest l = length l.rest
