use Rattle.std.proofs.Common.{◌≡◌, ◌++◌, ◌+◌, length}
use Rattle.hum_emit.specs.Module as spec
use Rattle.hum_emit.proofs.module.add_datum_items.Given as goal

abbrev pub invariant-loop-rest : goal.invariant-loop-rest
invariant-loop-rest l = (l.items.items ++ spec.datum_items l.j l.rest ≡ l.fn.items.items ++ spec.datum_items 0 l.cells) × (l.j + length l.rest ≡ length l.cells)

abbrev pub decreases-loop-rest : goal.decreases-loop-rest
decreases-loop-rest l = length l.rest
