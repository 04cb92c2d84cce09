use Rattle.std.proofs.Common.{◌≡◌, ◌≤◌, ◌∙◌, sym, subst, ℕ}
use Rattle.vm_machine.specs.Machine.{drawn_run}
use Rattle.hum_sim.specs.Sim.{Sim, RunsItsImage, KeepsStanding}
use Rattle.hum_sim.proofs.Simulated.{stands, completes, keeps_standing}
use Rattle.hum_sim.proofs.simulation.Sim.turn.Goals as goal

pub returns-clause-stands : goal.returns-clause-stands
returns-clause-stands g c =
    let m = c.turn-answer.new.self in
    let t : Sim = record { compiled = c.self.inside.compiled; machine = m } in
    let is : RunsItsImage t = record {
      compiled = c.self.invariant.compiled;
      image_is = c.turn-answer.ensures.image ∙ c.self.invariant.image_is;
      some_lanes = subst (λ (n : ℕ). 1 ≤ n) (sym c.turn-answer.ensures.lanes) c.self.invariant.some_lanes;
      lanes_limit = subst (λ (n : ℕ). n ≤ 64) (sym c.turn-answer.ensures.lanes) c.self.invariant.lanes_limit;
    } in
    stands t is (subst (λ (n : ℕ). m.state ≡ drawn_run m.image m.grant m.state.lanes m.seed n) c.turns-turns.ensures.value c.turns-turns.ensures.run)

pub returns-clause-completes : goal.returns-clause-completes
returns-clause-completes g c one =
    let t : Sim = record { compiled = c.self.inside.compiled; machine = c.turn-answer.new.self } in
    completes t (record {
      compiled = c.self.invariant.compiled;
      image_is = c.turn-answer.ensures.image ∙ c.self.invariant.image_is;
      some_lanes = subst (λ (n : ℕ). 1 ≤ n) (sym c.turn-answer.ensures.lanes) c.self.invariant.some_lanes;
      lanes_limit = subst (λ (n : ℕ). n ≤ 64) (sym c.turn-answer.ensures.lanes) c.self.invariant.lanes_limit;
    })

pub returns-clause-keeps : goal.returns-clause-keeps
returns-clause-keeps g c =
    let s : Sim = record { compiled = c.self.inside.compiled; machine = c.self.inside.machine } in
    let t : Sim = record { compiled = c.self.inside.compiled; machine = c.turn-answer.new.self } in
    subst (λ (x : Sim). KeepsStanding x t) c.self.view_is
    (keeps_standing s t c.self.invariant _ _ c.turn-answer.ensures.image c.turn-answer.ensures.grant c.turn-answer.ensures.lanes c.turn-answer.ensures.seed c.turn-answer.ensures.turns)
