use Rattle.std.proofs.Common.{◌∙◌, Bool, sym, ap, subst, IfOk}
use Rattle.vm_machine.specs.Machine.{drawn_run}
use Rattle.hum_run.specs.Drive.{IsRun}
use Rattle.hum_run.specs.Run.{Halts}
use Rattle.hum_run.proofs.Completed.{drives-none}
use Rattle.hum_run.proofs.Rests.{halts}
use Rattle.hum_run.proofs.Results.{if_ok-map}
use Rattle.hum_run.proofs.run.Run.advance.Goals as goal

pub returns-then-self-clause-drives : goal.returns-then-self-clause-drives
returns-then-self-clause-drives g c =
    let w = g.K.Sink.written in
    let n = c.machine.result.now in
    let run : IsRun n = c.turns-turns.ensures.run ∙ ap (drawn_run n.image n.grant n.state.lanes n.seed) c.turns-turns.ensures.value in
    drives-none c.args.self.now.sim.machine (w c.args.out.now) (w c.args.err.now) (subst IsRun c.machine.ensures.value run)

pub returns-clause-halts : goal.returns-clause-halts
returns-clause-halts g c =
    let s = c.drive-answer.new.driven in
    let m = c.machine-machine.ensures in
    subst (λ (b : Bool). IfOk c.drive-answer.result (λ stop. Halts b c.args.bound stop s.machine)) (sym c.if-self.false)
    (if_ok-map c.drive-answer.result c.drive-answer.ensures.stops (λ stop stops. halts c.args.bound stop s m.stands (rw m.value at m.some_lanes) stops))
