use Rattle.std.proofs.Common.{◌≡◌}
use Rattle.hum_emit.specs.Templates.{pairs}
use Rattle.hum_emit.specs.Emitting.{emitted}
use Rattle.hum_emit.proofs.exprs.pairs.Given as goal

abbrev pub invariant-loop-turn : goal.invariant-loop-turn
invariant-loop-turn l = (emitted l.out, l.at) ≡ pairs l._turn l.fn.k (emitted l.fn.out)
