use Rattle.std.proofs.Common.{◌≡◌, ◌≤◌, ◌++◌, List, drop, length}
use Rattle.hum_code.specs.Layout.{Shape}
use Rattle.hum_emit.specs.Shapes.{in_statements}
use Rattle.hum_emit.specs.Rowing.{shape_at}
use Rattle.hum_emit.specs.Finding.{Found}
use Rattle.hum_emit.proofs.shapes.statements.Given as goal

abbrev pub invariant-loop-each : goal.invariant-loop-each
invariant-loop-each l =
    (shapes : List Shape) × Found shapes l.fn.walk l.walk
    × (shapes ++ in_statements (drop l.each-index l.statements) (shape_at l.walk.rows l.newest) ≡ in_statements l.statements (shape_at l.fn.walk.rows l.fn.top))
    × (l.newest ≤ length l.walk.rows)
