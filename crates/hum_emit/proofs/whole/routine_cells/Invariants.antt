use Rattle.std.proofs.Common.{◌≡◌, take}
use Rattle.hum_emit.specs.Emitting.{emitted, with_cells}
use Rattle.hum_emit.specs.Program.{routine_cells}
use Rattle.hum_emit.specs.Runtime.{routine_places}
use Rattle.hum_emit.proofs.whole.routine_cells.Given as goal

abbrev pub invariant-loop-i : goal.invariant-loop-i
invariant-loop-i l = emitted l.out ≡ with_cells (take l.i (routine_cells 0 routine_places)) (emitted l.fn.out)
