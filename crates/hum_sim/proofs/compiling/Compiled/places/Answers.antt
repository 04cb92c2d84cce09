use Rattle.std.proofs.Common.{◌≡◌, subst}
use Rattle.hum_emit.specs.Compiled.{code_places, Placed}
use Rattle.hum_emit.proofs.CodePlaces.{code_places_stand}
use Rattle.hum_sim.specs.Compiled.{Compiled}
use Rattle.hum_sim.proofs.Simulated.{fits}
use Rattle.hum_sim.proofs.compiling.Compiled.places.Goals as goal

pub returns-clause-are : goal.returns-clause-are
returns-clause-are c = subst (λ (x : Compiled). x.places ≡ code_places x.units) c.self.view_is c.self.invariant.1

pub returns-clause-placed : goal.returns-clause-placed
returns-clause-placed c =
    let k = c.self.inside in
    let is = c.self.invariant.0 in
    subst (λ (x : Compiled). Placed x.units) c.self.view_is
    (code_places_stand k.program.units (fits k.tree k.program.units is.accepted.scoped is.units_are))
