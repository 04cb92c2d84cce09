use Rattle.std.proofs.Common.{◌≡◌, ◌-◌, ◌+◌, ◌*◌}
use Rattle.uasm_image.specs.Reading.{cells_at}
use Rattle.uasm_image.proofs.Cells.{with_front}
use Rattle.uasm_image.proofs.reading.cells_of.Given as goal

abbrev pub invariant-loop-n : goal.invariant-loop-n
invariant-loop-n l = with_front l.cells.items (cells_at l.count l.bytes (12 + 16 * l.n) (l.count - l.n)) ≡ cells_at l.count l.bytes 12 l.count
