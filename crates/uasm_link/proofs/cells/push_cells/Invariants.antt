use Rattle.std.proofs.Common.{◌≡◌, ◌+◌, ◌<◌, ◌^◌, ◌++◌, length, IsTrue}
use Rattle.uasm_read.specs.Links.{linked_cells}
use Rattle.uasm_link.specs.Numbering.{resolved}
use Rattle.uasm_link.specs.Linkable.{are_linkable}
use Rattle.uasm_link.proofs.cells.push_cells.Given as goal

abbrev pub invariant-loop-rest : goal.invariant-loop-rest
invariant-loop-rest l = record {
  linked : l.cells.items ++ linked_cells (resolved l.labels l.exports) l.at l.rest ≡ l.fn.cells.items ++ linked_cells (resolved l.labels l.exports) l.fn.at l.items;
  linkable : IsTrue (are_linkable l.rest);
  within : l.at + length l.rest < 2 ^ 29;
}

abbrev pub decreases-loop-rest : goal.decreases-loop-rest
decreases-loop-rest l = length l.rest
