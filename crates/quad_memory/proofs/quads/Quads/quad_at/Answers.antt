use Rattle.std.proofs.Common.{arith}
use Rattle.std.proofs.lemmas.Grind.{common_steps}
use Rattle.std.proofs.lemmas.Option.{gets}
use Rattle.quad_memory.proofs.Columns.{ram_cell-cells_of}
use Rattle.quad_memory.proofs.quads.Quads.quad_at.Goals as goal

pub returns : goal.returns
returns c = grind (arith, common_steps, gets, ram_cell-cells_of)
