use Rattle.std.proofs.Common.{◌≡◌, ◌≤◌, ◌+◌, length}
use Rattle.uasm_read.specs.Reading.{items_among}
use Rattle.uasm_read.proofs.faults.count_items.Given as goal

abbrev pub invariant-loop-rest : goal.invariant-loop-rest
invariant-loop-rest l = record {
  counted : l.count + items_among l.rest ≡ items_among l.lines;
  within : l.count + length l.rest ≤ length l.lines;
}

abbrev pub decreases-loop-rest : goal.decreases-loop-rest
decreases-loop-rest l = length l.rest
