use Rattle.hum_emit.specs.Emitting.{emitted}
use Rattle.hum_emit.proofs.Symbols.{number_named}
use Rattle.hum_emit.proofs.emitter.Emitter.name_symbol.Goals as goal

pub returns : goal.returns
unfolding emitted
returns c =
    let e = number_named c.args.name.now c.args.at c.args.self.now.symbols c.insert.new.self c.in_ok-insert.ensures.updates in
    λ i. record { code = c.args.self.now.code.items; cells = c.args.self.now.cells.items; symbols = e i }
