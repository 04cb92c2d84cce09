use Rattle.std.proofs.Common.{◌≡◌, ◌-◌, take, reverse, length}
use Rattle.hum_emit.specs.Emitting.{emitted, front_units}
use Rattle.hum_emit.specs.Shapes.{shapes_of}
use Rattle.hum_emit.specs.Templates.{units_code}
use Rattle.hum_emit.proofs.whole.units.Given as goal

abbrev pub invariant-loop-i : goal.invariant-loop-i
invariant-loop-i l =
    front_units (take (length l.units - l.i) l.units) (take (length l.units - l.i) (shapes_of l.units)) (emitted l.out, reverse l.entries.items)
    ≡ units_code l.units (shapes_of l.units) (emitted l.fn.out)
