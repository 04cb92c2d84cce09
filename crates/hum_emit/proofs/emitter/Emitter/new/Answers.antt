use Rattle.hum_emit.specs.Emitting.{emitted}
use Rattle.hum_emit.proofs.Symbols.{no_symbols}
use Rattle.hum_emit.proofs.emitter.Emitter.new.Goals as goal

pub returns : goal.returns
unfolding emitted
returns c =
    let none = no_symbols c.new-3.result c.new-3.ensures.empty in
    λ i. record { code = c.new.ensures.items i; cells = c.new-2.ensures.items i; symbols = none i }
