use Rattle.std.proofs.Common.{◌≡◌, ◌∙◌, ap, sym, subst, refl}
use Rattle.hum_outside.specs.Outside.{AppendsFront, appended}
use Rattle.hum_outside.proofs.Fronts.{on_err}
use Rattle.quad_debug.specs.Obeys.{is_enough, turn_text, last_text}
use Rattle.quad_debug.specs.declared.command.Command.TheVariants.{Queue}
use Rattle.quad_debug.specs.Parts.{Stands}
use Rattle.quad_debug.proofs.Going.{took-none, broke-none}
use Rattle.std.specs.List.{flat_map}
use Rattle.vm_machine.specs.Machine.{Machine}
use Rattle.quad_debug.specs.Texts.{ready_line}
use Rattle.quad_debug.specs.Obeys.{ready_in}
use Rattle.quad_debug.proofs.Waiting.{ready-there}
use Rattle.quad_debug.proofs.debug.Debug.tell_queue.Goals as goal

pub returns-clause-obeys : goal.returns-clause-obeys
returns-clause-obeys g c =
    let stands : Stands c.args.self.now.machine = subst Stands c.machine.ensures c.turns_of-turns.ensures.stands in
    let d = c.args.self.now in
    let w = g.K.Sink.written in
    let q = c.queue.ensures in
    let there = ready-there c.queue.result.now c.machine-2.result.now.state (record { messages = q.messages; ready = q.ready; ascending = q.ascending }) in
    let text : flat_map ready_line c.queue.result.now.ready ≡ flat_map ready_line (ready_in d.machine.state) = ap (flat_map ready_line) (sym there ∙ ap (λ (m : Machine). ready_in m.state) c.machine-2.ensures) in
    took-none (is_enough d.machine Queue) (turn_text d.machine Queue) (last_text d Queue) d (w c.args.out.now) (w c.put_queue.new.out) stands refl (c.in_ok-put_queue.ensures.all ∙ ap (appended (w c.args.out.now)) text)

pub returns-in_err-put_queue-clause-breaks : goal.returns-in_err-put_queue-clause-breaks
returns-in_err-put_queue-clause-breaks g c =
    let stands : Stands c.args.self.now.machine = subst Stands c.machine.ensures c.turns_of-turns.ensures.stands in
    let d = c.args.self.now in
    let w = g.K.Sink.written in
    let q = c.queue.ensures in
    let there = ready-there c.queue.result.now c.machine-2.result.now.state (record { messages = q.messages; ready = q.ready; ascending = q.ascending }) in
    let text : flat_map ready_line c.queue.result.now.ready ≡ flat_map ready_line (ready_in d.machine.state) = ap (flat_map ready_line) (sym there ∙ ap (λ (m : Machine). ready_in m.state) c.machine-2.ensures) in
    on_err c.from_residual.result (broke-none (is_enough d.machine Queue) (turn_text d.machine Queue) (last_text d Queue) d (w c.args.out.now) (w c.put_queue.new.out) stands refl (subst (AppendsFront (w c.args.out.now) (w c.put_queue.new.out)) text c.in_err-put_queue.ensures.front))
