use Rattle.std.proofs.Common.{◌≡◌, false, refl, sym, ap, subst, ◌∙◌, arith}
use Rattle.vm_machine.specs.Machine.{Machine, drawn_run}
use Rattle.hum_run.proofs.Completed.{drives-none, drives-more, breaks-more, unreached-none, unreached-broken, ran_out-none, goes-on}
use Rattle.hum_run.specs.Drive.{IsRun, is_reached}
use Rattle.hum_run.proofs.turns.drive.Goals as goal

pub turns-init : goal.turns-init
turns-init g c =
    let w = g.K.Sink.written in
    let m = g.D.Driven.machine_of c.args.driven.now in
    let n = c.machine.result.now in
    let run : IsRun n = c.turns-turns.ensures.run ∙ ap (drawn_run n.image n.grant n.state.lanes n.seed) c.turns-turns.ensures.value in
    record {
      drives = drives-none m (w c.args.out.now) (w c.args.err.now) (subst IsRun c.machine.ensures run);
      unreached = unreached-none c.args.bound m;
      ran_out = ran_out-none m;
      program = refl;
      counted = c.turns-turns.ensures.value ∙ ap (λ (x : Machine). x.turns) c.machine.ensures;
      out_later = omega arith;
      err_later = omega arith;
    }

pub returns-in-Ok-false-clause-drives : goal.returns-in-Ok-false-clause-drives
returns-in-Ok-false-clause-drives g c =
    let m = g.D.Driven.machine_of in
    let w = g.K.Sink.written in
    drives-more (m c.args.driven.now) (m c.turns.driven) (m c.step_once.new.driven) (w c.args.out.now) (w c.turns.out) (w c.step_once.new.out)
    (w c.args.err.now) (w c.turns.err) (w c.step_once.new.err) c.turns.invariant.drives c.in-Ok-false.ensures.drives

pub returns-in-Err-clause-unreached : goal.returns-in-Err-clause-unreached
returns-in-Err-clause-unreached g c =
    let m = g.D.Driven.machine_of in
    let w = g.K.Sink.written in
    let on = goes-on c.args.bound c.machine-in-turns.result.now.state (sym c.stop_before.ensures ∙ c.in_default.is) in
    let now : is_reached c.args.bound (m c.turns.driven).state ≡ false = subst (λ (x : Machine). is_reached c.args.bound x.state ≡ false) c.machine-in-turns.ensures on.1 in
    unreached-broken c.args.bound (m c.args.driven.now).turns (m c.turns.driven) (m c.step_once.new.driven) c.turns.invariant.drives.advances.run
    c.turns.invariant.unreached now c.in-Err.ensures.one_turn c.in-Err.fault.on_err (w c.turns.out) (w c.step_once.new.out) (w c.turns.err)
    (w c.step_once.new.err) c.in-Err.ensures.breaks

pub returns-in-Err-clause-unreached_now : goal.returns-in-Err-clause-unreached_now
returns-in-Err-clause-unreached_now g c = λ on_out.
    let m = g.D.Driven.machine_of in
    let on = goes-on c.args.bound c.machine-in-turns.result.now.state (sym c.stop_before.ensures ∙ c.in_default.is) in
    let now : is_reached c.args.bound (m c.turns.driven).state ≡ false = subst (λ (x : Machine). is_reached c.args.bound x.state ≡ false) c.machine-in-turns.ensures on.1 in
    ap (is_reached c.args.bound) (c.in-Err.ensures.kept on_out) ∙ now

pub returns-in-Err-clause-breaks : goal.returns-in-Err-clause-breaks
returns-in-Err-clause-breaks g c =
    let m = g.D.Driven.machine_of in
    let w = g.K.Sink.written in
    breaks-more (m c.args.driven.now) (m c.turns.driven) (m c.step_once.new.driven) (w c.args.out.now) (w c.turns.out) (w c.step_once.new.out)
    (w c.args.err.now) (w c.turns.err) (w c.step_once.new.err) c.turns.invariant.drives c.in-Err.fault.on_err c.in-Err.ensures.breaks
