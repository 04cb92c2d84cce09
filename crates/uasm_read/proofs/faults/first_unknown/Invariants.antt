use Rattle.std.proofs.Common.{◌≤◌, ◌+◌, length}
use Rattle.uasm_read.specs.Faults.{name_unknown}
use Rattle.uasm_read.proofs.Searches.{Searched}
use Rattle.uasm_read.proofs.faults.first_unknown.Given as goal

abbrev pub invariant-loop-rest : goal.invariant-loop-rest
invariant-loop-rest l = record {
  searched : Searched (name_unknown l.lines) l.lines l.rest l.at;
  within : l.at + length l.rest ≤ length l.lines;
}

abbrev pub decreases-loop-rest : goal.decreases-loop-rest
decreases-loop-rest l = length l.rest
