use Rattle.std.proofs.Common.{◌≡◌, map, take}
use Rattle.hum_core.specs.Lists.{tested_unit}
use Rattle.hum_match.proofs.lowering.units.Given as goal

abbrev pub invariant-loop-each : goal.invariant-loop-each
invariant-loop-each l = l.made ≡ map tested_unit (take l.each-index l.units)
