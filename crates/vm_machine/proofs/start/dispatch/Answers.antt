use Rattle.std.proofs.Common.{sym, ◌∙◌, subst, refl}
use Rattle.vm_turn.specs.State.{State}
use Rattle.vm_turn.specs.declared.journal.Turn.{Turn as Answer}
use Rattle.vm_turn.specs.Actors.{sent_at}
use Rattle.cap_words.specs.Seen.{seen}
use Rattle.event_queue.specs.Pending.{event_of}
use Rattle.vm_machine.specs.View.{state_of}
use Rattle.vm_machine.specs.Turns.{Takes, Quiet}
use Rattle.vm_machine.proofs.Delivering.{dispatched-device, dispatched-begins, takes-begun}
use Rattle.vm_machine.proofs.start.dispatch.Goals as goal

pub returns-in-Some-clause-turn : goal.returns-in-Some-clause-turn
returns-in-Some-clause-turn g c =
    let p = c.args.parts.now in
    let x = dispatched-device p c.args.number c.event_word-event.result (event_of p.queue.given c.args.number) c.event_cell-cell.result c.in-Some.device c.event_word-event.ensures.event c.event_cell-cell.ensures (sym c.device_of.ensures.device ∙ c.in-Some.is) in
    subst (λ (y : State × Answer). Takes y c.deliver.result (state_of p) (state_of c.deliver.new.parts) (g.K.Sink.written c.args.out.now) (g.K.Sink.written c.deliver.new.out)) (sym x) c.deliver.ensures.turn

pub returns-in-Some-clause-quiet : goal.returns-in-Some-clause-quiet
returns-in-Some-clause-quiet g c =
    let p = c.args.parts.now in
    let x = dispatched-device p c.args.number c.event_word-event.result (event_of p.queue.given c.args.number) c.event_cell-cell.result c.in-Some.device c.event_word-event.ensures.event c.event_cell-cell.ensures (sym c.device_of.ensures.device ∙ c.in-Some.is) in
    subst (λ (y : State × Answer). Quiet y c.deliver.result (g.K.Sink.written c.args.out.now) (g.K.Sink.written c.deliver.new.out) (g.K.Sink.faults c.args.out.now) (g.K.Sink.faults c.deliver.new.out)) (sym x) c.deliver.ensures.quiet

pub returns-in-None-clause-turn : goal.returns-in-None-clause-turn
returns-in-None-clause-turn g c =
    let p = c.args.parts.now in
    let x = dispatched-begins p c.args.number c.event_word-event.result (event_of p.queue.given c.args.number) c.event_cell-cell.result c.event_word-event.ensures.event c.event_cell-cell.ensures (sym c.device_of.ensures.device ∙ c.in-None.is) in
    takes-begun (state_of p) (state_of c.begin.new.parts) _ c.args.number (sent_at (seen p.quads.store) c.event_word-event.result) (g.K.Sink.written c.args.out.now) refl x c.begin.ensures.state refl
