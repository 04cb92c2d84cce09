use Rattle.std.proofs.Common.{◌≡◌, ◌≤◌, ◌++◌, ◌+◌, ◌-◌, false, length, get_or}
use Rattle.uasm_image.specs.Listed.{cell_items}
use Rattle.uasm_image.proofs.listings.cell_items.Given as goal

abbrev pub invariant-loop-rest : goal.invariant-loop-rest
invariant-loop-rest l = record {
  made : l.items.items ++ cell_items l.boot (λ at. get_or l.named (at - 16) false) l.at l.rest
      ≡ cell_items l.boot (λ at. get_or l.named (at - 16) false) 16 l.cells;
  from : 16 ≤ l.at;
  place : l.at + length l.rest ≡ 16 + length l.cells;
}

abbrev pub decreases-loop-rest : goal.decreases-loop-rest
decreases-loop-rest l = length l.rest
