use Rattle.std.proofs.Common.{subst}
use Rattle.hum_sim.specs.Compiled.{Compiled, HoldsItsTree}
use Rattle.hum_sim.proofs.Simulated.{holds}
use Rattle.hum_sim.proofs.compiling.Compiled.image.Goals as goal

pub returns-clause-holds : goal.returns-clause-holds
returns-clause-holds c =
    let k = c.self.inside in
    subst (λ (x : Compiled). HoldsItsTree x.tree x.units x.image) c.self.view_is (holds k.tree k.program.units k.image c.self.invariant.0)
