use Rattle.std.proofs.Common.{◌≡◌, ◌++◌, List, [], drop, reverse}
use Rattle.std.specs.List.{AllZip}
use Rattle.hum_code.specs.Layout.{Shape}
use Rattle.hum_emit.specs.Shapes.{shapes_from, shapes_of}
use Rattle.hum_emit.specs.Rowing.{IsTop}
use Rattle.hum_emit.proofs.shapes.shapes_of.Given as goal

abbrev pub invariant-loop-each : goal.invariant-loop-each
invariant-loop-each l =
    (before : List Shape) × (waiting : List Shape) × AllZip (IsTop l.walk.rows) l.tops.items before
    × AllZip (IsTop l.walk.rows) (reverse l.waiting.items) waiting
    × (before ++ shapes_from waiting (drop l.each-index l.units) ≡ shapes_of l.units) × (l.walk.found.items ≡ [])
