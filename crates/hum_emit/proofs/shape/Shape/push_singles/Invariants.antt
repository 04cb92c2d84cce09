use Rattle.std.proofs.Common.{◌≡◌}
use Rattle.hum_code.specs.Layout.{with_singles}
use Rattle.hum_emit.proofs.shape.Shape.push_singles.Given as goal

abbrev pub invariant-loop-turn : goal.invariant-loop-turn
invariant-loop-turn l = l.self ≡ with_singles l._turn l.fn.self
