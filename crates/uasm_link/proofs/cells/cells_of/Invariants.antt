use Rattle.std.proofs.Common.{◌≡◌, ◌+◌, ◌++◌, length}
use Rattle.uasm_read.specs.Links.{linked_modules, first_number, count_of_items}
use Rattle.uasm_link.proofs.cells.cells_of.Given as goal

abbrev pub invariant-loop-rest : goal.invariant-loop-rest
invariant-loop-rest l = record {
  linked : l.cells.items ++ linked_modules l.modules l.at l.rest ≡ linked_modules l.modules first_number l.modules;
  within : l.at + count_of_items l.rest ≡ first_number + count_of_items l.modules;
}

abbrev pub decreases-loop-rest : goal.decreases-loop-rest
decreases-loop-rest l = length l.rest
