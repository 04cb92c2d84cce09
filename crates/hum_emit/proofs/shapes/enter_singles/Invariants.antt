use Rattle.std.proofs.Common.{[]}
use Rattle.hum_code.specs.Layout.{with_singles}
use Rattle.hum_emit.specs.Rowing.{IsTop, shape_at}
use Rattle.hum_emit.specs.Finding.{Found}
use Rattle.hum_emit.proofs.shapes.enter_singles.Given as goal

abbrev pub invariant-loop-turn : goal.invariant-loop-turn
invariant-loop-turn l = Found [] l.fn.walk l.walk × IsTop l.walk.rows l.newest (with_singles l._turn (shape_at l.fn.walk.rows l.fn.top))
