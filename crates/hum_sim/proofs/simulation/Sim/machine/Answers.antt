use Rattle.std.proofs.Common.{◌≡◌, subst, ℕ}
use Rattle.vm_machine.specs.Machine.{drawn_run}
use Rattle.hum_sim.specs.Sim.{Sim, Stands, Completes}
use Rattle.hum_sim.proofs.Simulated.{stands, completes}
use Rattle.hum_sim.proofs.simulation.Sim.machine.Goals as goal

pub returns-clause-image : goal.returns-clause-image
returns-clause-image c = subst (λ (x : Sim). c.self.inside.machine.image ≡ x.compiled.image) c.self.view_is c.self.invariant.image_is

pub returns-clause-stands : goal.returns-clause-stands
returns-clause-stands c =
    let m = c.self.inside.machine in
    let s : Sim = record { compiled = c.self.inside.compiled; machine = m } in
    subst Stands c.self.view_is
    (stands s c.self.invariant (subst (λ (n : ℕ). m.state ≡ drawn_run m.image m.grant m.state.lanes m.seed n) c.turns-turns.ensures.value c.turns-turns.ensures.run))

pub returns-clause-completes : goal.returns-clause-completes
returns-clause-completes c one =
    let s : Sim = record { compiled = c.self.inside.compiled; machine = c.self.inside.machine } in
    subst Completes c.self.view_is (completes s c.self.invariant)
