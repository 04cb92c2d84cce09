use Rattle.std.proofs.Common.{sym, subst}
use Rattle.std.specs.Prelude.{OnOk, OnErr}
use Rattle.quad_debug.specs.declared.command.Command.{Command}
use Rattle.quad_debug.specs.Obeys.{Obeys, BreaksOff}
use Rattle.quad_debug.proofs.debug.Debug.obey.Goals as goal

pub returns-in-Step-clause-obeys : goal.returns-in-Step-clause-obeys
returns-in-Step-clause-obeys g c =
    let w = g.K.Sink.written in
    subst (λ (command : Command). OnOk c.step.result (Obeys command c.args.self.now c.step.new.self (w c.args.out.now) (w c.step.new.out))) (sym c.in-Step.is) c.step.ensures.obeys

pub returns-in-Step-clause-breaks : goal.returns-in-Step-clause-breaks
returns-in-Step-clause-breaks g c =
    let w = g.K.Sink.written in
    subst (λ (command : Command). OnErr c.step.result (BreaksOff command c.args.self.now c.step.new.self (w c.args.out.now) (w c.step.new.out))) (sym c.in-Step.is) c.step.ensures.breaks

pub returns-in-Event-clause-obeys : goal.returns-in-Event-clause-obeys
returns-in-Event-clause-obeys g c =
    let w = g.K.Sink.written in
    subst (λ (command : Command). OnOk c.event.result (Obeys command c.args.self.now c.event.new.self (w c.args.out.now) (w c.event.new.out))) (sym c.in-Event.is) c.event.ensures.obeys

pub returns-in-Event-clause-breaks : goal.returns-in-Event-clause-breaks
returns-in-Event-clause-breaks g c =
    let w = g.K.Sink.written in
    subst (λ (command : Command). OnErr c.event.result (BreaksOff command c.args.self.now c.event.new.self (w c.args.out.now) (w c.event.new.out))) (sym c.in-Event.is) c.event.ensures.breaks

pub returns-in-BreakAt-clause-obeys : goal.returns-in-BreakAt-clause-obeys
returns-in-BreakAt-clause-obeys g c =
    let w = g.K.Sink.written in
    subst (λ (command : Command). OnOk c.wait_for.result (Obeys command c.args.self.now c.wait_for.new.self (w c.args.out.now) (w c.wait_for.new.out))) (sym c.in-BreakAt.is) c.wait_for.ensures.waits

pub returns-in-BreakAt-clause-breaks : goal.returns-in-BreakAt-clause-breaks
returns-in-BreakAt-clause-breaks g c =
    let w = g.K.Sink.written in
    subst (λ (command : Command). OnErr c.wait_for.result (BreaksOff command c.args.self.now c.wait_for.new.self (w c.args.out.now) (w c.wait_for.new.out))) (sym c.in-BreakAt.is) c.wait_for.ensures.breaks

pub returns-in-Show-clause-obeys : goal.returns-in-Show-clause-obeys
returns-in-Show-clause-obeys g c =
    let w = g.K.Sink.written in
    subst (λ (command : Command). OnOk c.tell_cell.result (Obeys command c.args.self.now c.args.self.now (w c.args.out.now) (w c.tell_cell.new.out))) (sym c.in-Show.is) c.tell_cell.ensures.obeys

pub returns-in-Show-clause-breaks : goal.returns-in-Show-clause-breaks
returns-in-Show-clause-breaks g c =
    let w = g.K.Sink.written in
    subst (λ (command : Command). OnErr c.tell_cell.result (BreaksOff command c.args.self.now c.args.self.now (w c.args.out.now) (w c.tell_cell.new.out))) (sym c.in-Show.is) c.tell_cell.ensures.breaks

pub returns-in-Queue-clause-obeys : goal.returns-in-Queue-clause-obeys
returns-in-Queue-clause-obeys g c =
    let w = g.K.Sink.written in
    subst (λ (command : Command). OnOk c.tell_queue.result (Obeys command c.args.self.now c.args.self.now (w c.args.out.now) (w c.tell_queue.new.out))) (sym c.in-Queue.is) c.tell_queue.ensures.obeys

pub returns-in-Queue-clause-breaks : goal.returns-in-Queue-clause-breaks
returns-in-Queue-clause-breaks g c =
    let w = g.K.Sink.written in
    subst (λ (command : Command). OnErr c.tell_queue.result (BreaksOff command c.args.self.now c.args.self.now (w c.args.out.now) (w c.tell_queue.new.out))) (sym c.in-Queue.is) c.tell_queue.ensures.breaks

pub returns-in-Sheet-clause-obeys : goal.returns-in-Sheet-clause-obeys
returns-in-Sheet-clause-obeys g c =
    let w = g.K.Sink.written in
    subst (λ (command : Command). OnOk c.tell_sheet.result (Obeys command c.args.self.now c.args.self.now (w c.args.out.now) (w c.tell_sheet.new.out))) (sym c.in-Sheet.is) c.tell_sheet.ensures.obeys

pub returns-in-Sheet-clause-breaks : goal.returns-in-Sheet-clause-breaks
returns-in-Sheet-clause-breaks g c =
    let w = g.K.Sink.written in
    subst (λ (command : Command). OnErr c.tell_sheet.result (BreaksOff command c.args.self.now c.args.self.now (w c.args.out.now) (w c.tell_sheet.new.out))) (sym c.in-Sheet.is) c.tell_sheet.ensures.breaks

pub returns-in-Back-clause-obeys : goal.returns-in-Back-clause-obeys
returns-in-Back-clause-obeys g c =
    let w = g.K.Sink.written in
    subst (λ (command : Command). OnOk c.tell_back.result (Obeys command c.args.self.now c.args.self.now (w c.args.out.now) (w c.tell_back.new.out))) (sym c.in-Back.is) c.tell_back.ensures.obeys

pub returns-in-Back-clause-breaks : goal.returns-in-Back-clause-breaks
returns-in-Back-clause-breaks g c =
    let w = g.K.Sink.written in
    subst (λ (command : Command). OnErr c.tell_back.result (BreaksOff command c.args.self.now c.args.self.now (w c.args.out.now) (w c.tell_back.new.out))) (sym c.in-Back.is) c.tell_back.ensures.breaks
