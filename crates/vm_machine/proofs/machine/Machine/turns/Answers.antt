use Rattle.std.proofs.Common.{ℕ, ◌+◌, ◌*◌, ◌≤◌, subst}
use Rattle.vm_turn.specs.Run.{picks}
use Rattle.vm_turn.proofs.RunsSound.{turns-end}
use Rattle.vm_machine.specs.Machine.{Machine, image_of}
use Rattle.vm_machine.proofs.machine.Machine.turns.Goals as goal

pub returns-clause-bound : goal.returns-clause-bound
returns-clause-bound c =
    let m = c.self.inside in
    subst (λ (x : Machine). m.turns ≤ x.grant.cycles + 2 * (x.grant.events + 1)) c.self.view_is
    (subst (λ (n : ℕ). n ≤ m.parts.grant.cycles + 2 * (m.parts.grant.events + 1)) c.self.invariant.1.turns_are
    (turns-end (image_of m.parts m.boot) m.parts.grant m.parts.lanes (picks m.seed m.turns)))
