use Rattle.std.proofs.Common.{◌≡◌, ◌∙◌, ◌+◌, ap, subst, nat_le, ℕ}
use Rattle.vm_machine.specs.Machine.{Machine}
use Rattle.hum_outside.specs.Outside.{AppendsFront, appended}
use Rattle.hum_outside.proofs.Fronts.{on_err}
use Rattle.quad_debug.specs.Obeys.{piece_at}
use Rattle.quad_debug.specs.Texts.{turn_line}
use Rattle.quad_debug.proofs.Going.{broke-last, broke-more, took-last, silent-holds}
use Rattle.quad_debug.proofs.debug.Debug.step.Goals as goal

pub returns-in_err-take-clause-breaks : goal.returns-in_err-take-clause-breaks
returns-in_err-take-clause-breaks g c =
    let w = g.K.Sink.written in
    let m = c.args.self.now.machine in
    on_err c.from_residual.result
    (broke-more (nat_le c.args.count) (piece_at m) (λ (k : ℕ). turn_line (m.turns + k)) c.args.self.now c.take.new.self (w c.args.out.now) (w c.take.new.out) (silent-holds m) c.in_err-take.ensures.breaks)

pub returns-in_err-put_turns-clause-breaks : goal.returns-in_err-put_turns-clause-breaks
returns-in_err-put_turns-clause-breaks g c =
    let w = g.K.Sink.written in
    let m = c.args.self.now.machine in
    let took = c.in_ok-take.ensures.runs in
    let turns : c.turns.result ≡ m.turns + took.turns = c.turns.ensures.value ∙ ap (λ (x : Machine). x.turns) c.machine.ensures ∙ took.machine.turns_are in
    on_err c.from_residual-in_err-put_turns.result
    (broke-last (nat_le c.args.count) (piece_at m) (λ (k : ℕ). turn_line (m.turns + k)) c.args.self.now c.take.new.self (w c.args.out.now) (w c.take.new.out) (silent-holds m) took (w c.put_turns.new.out)
    (subst (λ (n : ℕ). AppendsFront (w c.take.new.out) (w c.put_turns.new.out) (turn_line n)) turns c.in_err-put_turns.ensures.front))

pub returns-clause-obeys : goal.returns-clause-obeys
returns-clause-obeys g c =
    let w = g.K.Sink.written in
    let m = c.args.self.now.machine in
    let took = c.in_ok-take.ensures.runs in
    let turns : c.turns.result ≡ m.turns + took.turns = c.turns.ensures.value ∙ ap (λ (x : Machine). x.turns) c.machine.ensures ∙ took.machine.turns_are in
    took-last (nat_le c.args.count) (piece_at m) (λ (k : ℕ). turn_line (m.turns + k)) c.args.self.now c.take.new.self (w c.args.out.now) (w c.take.new.out) (silent-holds m) took (w c.put_turns.new.out)
    (c.in_ok-put_turns.ensures.all ∙ ap (λ (n : ℕ). appended (w c.take.new.out) (turn_line n)) turns)
