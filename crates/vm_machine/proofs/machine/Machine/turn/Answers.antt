use Rattle.std.proofs.Common.{◌≡◌, ◌/◌, ap, sym, ◌∙◌, subst, Ok, arith}
use Rattle.vm_machine.specs.Machine.{Machine, turns_by}
use Rattle.vm_machine.proofs.Continued.{follows-on, follows-resting, image-same, lanes-same, few-turns}
use Rattle.vm_machine.proofs.Unchanged.{shown-same}
use Rattle.vm_machine.proofs.machine.Machine.turn.Goals as goal

pub invariant_of-self-then-not-is_completed : goal.invariant_of-self-then-not-is_completed
invariant_of-self-then-not-is_completed g c =
    let m = c.self.inside in (
      c.in_ok-answer.ensures.whole,
      follows-resting m.parts c.turn.new.parts m.boot m.seed m.drawn m.turns (c.next_drawn-next.result / 65536) c.in_ok-answer.answer (g.K.Sink.written c.args.out.now) (g.K.Sink.written c.turn.new.out)
          c.in_ok-answer.ensures.grant c.in_ok-answer.ensures.turn (sym c.is_completed.ensures ∙ c.if-not-is_completed.true) c.self.invariant.1,
    )

pub returns-then-not-is_completed-clause-image : goal.returns-then-not-is_completed-clause-image
returns-then-not-is_completed-clause-image g c =
    let m = c.self.inside in
    image-same m.parts c.turn.new.parts m.boot (c.next_drawn-next.result / 65536) (Ok c.in_ok-answer.answer) (g.K.Sink.written c.args.out.now) (g.K.Sink.written c.turn.new.out) c.in_ok-answer.ensures.turn
    ∙ ap (λ (x : Machine). x.image) c.self.view_is

pub returns-then-not-is_completed-clause-lanes : goal.returns-then-not-is_completed-clause-lanes
returns-then-not-is_completed-clause-lanes g c =
    let m = c.self.inside in
    lanes-same m.parts c.turn.new.parts (c.next_drawn-next.result / 65536) (Ok c.in_ok-answer.answer) (g.K.Sink.written c.args.out.now) (g.K.Sink.written c.turn.new.out) c.in_ok-answer.ensures.turn
    ∙ ap (λ (x : Machine). x.state.lanes) c.self.view_is

pub returns-then-not-is_completed-clause-unchanged : goal.returns-then-not-is_completed-clause-unchanged
returns-then-not-is_completed-clause-unchanged g c = λ h.
    let m = c.self.inside in
    let none = subst (λ (x : Machine). turns_by x.state.out_of (Ok c.in_ok-answer.answer) ≡ 0) (sym c.self.view_is) h in
    shown-same m.parts c.turn.new.parts m.boot m.seed m.turns (c.in_ok-answer.ensures.unchanged none) ∙ c.self.view_is

pub overflow_add-self : goal.overflow_add-self
overflow_add-self g c =
    let m = c.self.inside in
    let f = few-turns m.parts m.boot m.seed m.drawn m.turns c.self.invariant.0.kept c.self.invariant.1 in
    omega (arith, f)

pub invariant_of-self-2 : goal.invariant_of-self-2
invariant_of-self-2 g c =
    let m = c.self.inside in (
      c.in_ok-answer.ensures.whole,
      follows-on m.parts c.turn.new.parts m.boot m.seed m.drawn m.turns c.next_drawn-next.result c.in_ok-answer.answer (g.K.Sink.written c.args.out.now) (g.K.Sink.written c.turn.new.out)
          c.next_drawn-next.ensures c.in_ok-answer.ensures.grant c.in_ok-answer.ensures.turn (sym c.is_completed.ensures ∙ c.if-not-is_completed.false) c.self.invariant.1,
    )

pub returns-clause-image : goal.returns-clause-image
returns-clause-image g c =
    let m = c.self.inside in
    image-same m.parts c.turn.new.parts m.boot (c.next_drawn-next.result / 65536) (Ok c.in_ok-answer.answer) (g.K.Sink.written c.args.out.now) (g.K.Sink.written c.turn.new.out) c.in_ok-answer.ensures.turn
    ∙ ap (λ (x : Machine). x.image) c.self.view_is

pub returns-clause-lanes : goal.returns-clause-lanes
returns-clause-lanes g c =
    let m = c.self.inside in
    lanes-same m.parts c.turn.new.parts (c.next_drawn-next.result / 65536) (Ok c.in_ok-answer.answer) (g.K.Sink.written c.args.out.now) (g.K.Sink.written c.turn.new.out) c.in_ok-answer.ensures.turn
    ∙ ap (λ (x : Machine). x.state.lanes) c.self.view_is
