use Rattle.std.proofs.Common.{arith, subst}
use Rattle.hum_outside.specs.Outside.{AppendsFront}
use Rattle.hum_outside.proofs.Fronts.{pieces_front, on_err}
use Rattle.vm_turn.specs.declared.journal.Entry.{Entry}
use Rattle.quad_debug.specs.Texts.{event_line}
use Rattle.quad_debug.proofs.lines.put_events.Goals as goal

pub returns-in_err-put_event-clause-front : goal.returns-in_err-put_event-clause-front
returns-in_err-put_event-clause-front g c =
    let w = g.K.Sink.written in
    let here = subst (λ (e : Entry). AppendsFront (w c.loop-entry.out) (w c.put_event.new.out) (event_line e)) c.entry-item.is c.in_err-put_event.ensures.front in
    on_err c.from_residual.result (pieces_front event_line c.args.entries.now c.loop-entry.entry-index c.entry-item.result (omega arith) (w c.args.out.now) (w c.loop-entry.out) (w c.put_event.new.out) c.loop-entry.invariant.so_far here)
