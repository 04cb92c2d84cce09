use Rattle.std.proofs.Common.{◌≡◌, ℕ, Option, sym, ◌∙◌, subst}
use Rattle.std.specs.Prelude.{option_map}
use Rattle.vm_turn.specs.State.{State}
use Rattle.vm_turn.specs.declared.journal.Turn.{Turn as Answer}
use Rattle.vm_turn.specs.Actors.{sent_at}
use Rattle.vm_turn.specs.Turn.{dispatchable, device_of}
use Rattle.vm_turn.specs.Sound.{Sound}
use Rattle.vm_sponsor.specs.declared.amounts.Amounts.{Amounts}
use Rattle.event_queue.specs.Pending.{event_of}
use Rattle.event_queue.specs.Waiting.{message_of}
use Rattle.vm_machine.specs.View.{state_of}
use Rattle.vm_machine.specs.Whole.{Waits}
use Rattle.vm_machine.specs.Steps.{TakesOne}
use Rattle.vm_machine.proofs.Turning.{takes-sound, takes-taken, takes-one-sound, takes-one-taken, one-turns, found-loose, dispatch-turn, dispatch-takes, grant-kept}
use Rattle.vm_machine.proofs.Unchanged.{still-dispatched, still-stepped}
use Rattle.vm_machine.specs.Turns.{Quiet}
use Rattle.vm_machine.proofs.turn.turn.Goals as goal

pub returns-in-Some-next_ready-clause-turn : goal.returns-in-Some-next_ready-clause-turn
returns-in-Some-next_ready-clause-turn g c =
    dispatch-takes c.args.parts.now c.next_ready.new.parts c.next_ready.new.parts.stuck (state_of c.dispatch.new.parts) c.args.pick c.in-Some-next_ready.number c.next_ready.result c.dispatch.result (g.K.Sink.written c.args.out.now) (g.K.Sink.written c.dispatch.new.out)
    c.next_ready.ensures.same c.in_default.is c.in-Some-next_ready.is c.next_ready.ensures.found c.dispatch.ensures.turn

pub returns-in-Some-next_ready-clause-quiet : goal.returns-in-Some-next_ready-clause-quiet
returns-in-Some-next_ready-clause-quiet g c =
    let e = dispatch-turn c.args.parts.now c.next_ready.new.parts c.next_ready.new.parts.stuck c.args.pick c.in-Some-next_ready.number c.next_ready.result c.next_ready.ensures.same c.in_default.is c.in-Some-next_ready.is c.next_ready.ensures.found in
    subst (λ (x : State × Answer). Quiet x c.dispatch.result (g.K.Sink.written c.args.out.now) (g.K.Sink.written c.dispatch.new.out) (g.K.Sink.faults c.args.out.now) (g.K.Sink.faults c.dispatch.new.out)) (sym e) c.dispatch.ensures.quiet

pub returns-in-Some-next_ready-clause-whole : goal.returns-in-Some-next_ready-clause-whole
returns-in-Some-next_ready-clause-whole g c =
    let p = c.args.parts.now in
    let q = c.next_ready.new.parts in
    let r = c.dispatch.new.parts in
    let found = subst (λ (x : Option ℕ). option_map (message_of p.queue.given) x ≡ dispatchable (state_of p)) c.in-Some-next_ready.is c.next_ready.ensures.found in
    let takes = returns-in-Some-next_ready-clause-turn g c in
    let grant = grant-kept p c.next_ready.new.parts r c.next_ready.ensures.same c.dispatch.ensures.grant in
    record {
      kept = c.dispatch.ensures.kept;
      sound = subst (λ (x : Amounts). Sound x (state_of r)) {y = r.grant} (sym grant) (takes-sound p.grant (state_of p) (state_of r) c.args.pick c.dispatch.result (g.K.Sink.written c.args.out.now) (g.K.Sink.written c.dispatch.new.out) c.requires.whole.sound takes);
      taken = takes-taken (state_of p) (state_of r) c.args.pick c.dispatch.result (g.K.Sink.written c.args.out.now) (g.K.Sink.written c.dispatch.new.out) c.requires.whole.taken takes;
      waits = λ e. absurd (found-loose (state_of p) q.stuck c.in-Some-next_ready.number p.queue.given (λ h. subst Waits c.next_ready.ensures.state (c.next_ready.ensures.whole.waits h)) found (sym c.dispatch.ensures.stuck ∙ e));
    }

pub returns-in-Some-next_ready-clause-unchanged : goal.returns-in-Some-next_ready-clause-unchanged
returns-in-Some-next_ready-clause-unchanged g c = λ h.
    let p = c.args.parts.now in
    let q = c.next_ready.new.parts in
    let m = sent_at (state_of q).store (event_of q.queue.given c.in-Some-next_ready.number) in
    still-dispatched p q c.dispatch.new.parts c.in-Some-next_ready.number m (device_of m.target) c.dispatch.result (g.K.Sink.written c.args.out.now) (g.K.Sink.written c.dispatch.new.out)
    c.in_default.is c.next_ready.ensures.same c.dispatch.ensures.turn c.dispatch.ensures.unchanged h

pub returns-in-None-clause-whole : goal.returns-in-None-clause-whole
returns-in-None-clause-whole g c =
    let p = c.args.parts.now in
    let r = c.take_one.new.parts in
    let one = one-turns (state_of p) (state_of r) c.args.pick c.take_one.result c.next_ready.result p.queue.given c.in_default.is c.in-None.is c.next_ready.ensures.found
    (subst (λ (x : State). TakesOne x c.args.pick (state_of r) c.take_one.result) c.next_ready.ensures.state c.take_one.ensures.turn) in
    let grant = grant-kept p c.next_ready.new.parts r c.next_ready.ensures.same c.take_one.ensures.grant in
    record {
      kept = c.take_one.ensures.kept;
      sound = subst (λ (x : Amounts). Sound x (state_of r)) {y = r.grant} (sym grant) (takes-one-sound p.grant (state_of p) (state_of r) c.args.pick c.take_one.result c.requires.whole.sound one);
      taken = takes-one-taken (state_of p) (state_of r) c.args.pick c.take_one.result c.requires.whole.taken one;
      waits = c.take_one.ensures.waits;
    }

pub returns-in-None-clause-unchanged : goal.returns-in-None-clause-unchanged
returns-in-None-clause-unchanged g c = λ h.
    still-stepped c.args.parts.now c.next_ready.new.parts c.take_one.new.parts c.take_one.result c.in_default.is c.next_ready.ensures.same c.take_one.ensures.unchanged h
