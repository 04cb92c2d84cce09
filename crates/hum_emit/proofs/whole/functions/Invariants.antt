use Rattle.std.proofs.Common.{◌≡◌, ◌-◌}
use Rattle.hum_emit.specs.Emitting.{emitted}
use Rattle.hum_emit.specs.Templates.{push_data}
use Rattle.hum_emit.proofs.whole.functions.Given as goal

abbrev pub invariant-loop-i : goal.invariant-loop-i
invariant-loop-i l = (emitted l.out, l.at) ≡ push_data (12 - l.i) l.i l.fn.k (emitted l.fn.out)
