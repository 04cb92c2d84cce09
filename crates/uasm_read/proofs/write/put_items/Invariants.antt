use Rattle.std.proofs.Common.{◌≡◌, ◌++◌, length}
use Rattle.std.specs.List.{flat_map}
use Rattle.uasm_read.specs.Writes.{ended, item_lines}
use Rattle.uasm_read.proofs.write.put_items.Given as goal

abbrev pub invariant-loop-rest : goal.invariant-loop-rest
invariant-loop-rest l = l.text.items ++ flat_map ended (flat_map item_lines l.rest) ≡ l.fn.text.items ++ flat_map ended (flat_map item_lines l.items)

abbrev pub decreases-loop-rest : goal.decreases-loop-rest
decreases-loop-rest l = length l.rest
