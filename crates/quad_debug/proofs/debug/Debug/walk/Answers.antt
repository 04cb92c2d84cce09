use Rattle.std.proofs.Common.{◌≡◌, ◌≤◌, ◌∙◌, ◌+◌, ◌*◌, ap, sym, subst, refl, arith, length, drop, take, true, false, List}
use Rattle.hum_outside.proofs.Fronts.{on_err}
use Rattle.vm_turn.specs.declared.journal.Entry.{Entry}
use Rattle.vm_machine.specs.Machine.{Machine}
use Rattle.quad_debug.specs.Obeys.{told_at, met_at, entries_at, is_over, is_begun}
use Rattle.quad_debug.specs.Parts.{Stands, stands_in, no_text, TookTurn}
use Rattle.quad_debug.proofs.Turned.{grows, added-entries, front-journal}
use Rattle.quad_debug.proofs.Going.{goes-none, goes-told, took-all, device-breaks, line-breaks, told-holds, met-now, not-met, stands-none, over-stands, turns-fewer}
use Rattle.quad_debug.proofs.debug.Debug.walk.Goals as goal

pub is_over-over-requires : goal.is_over-over-requires
is_over-over-requires g c = record { within = omega arith; unseen = stands-none c.args.wait }

pub turns-init : goal.turns-init
turns-init g c =
    let stands : Stands c.args.self.now.machine = subst Stands c.machine.ensures c.turns_of-turns.ensures.stands in
    record {
      goes = goes-none (met_at c.args.self.now.machine c.args.wait) (told_at c.args.self.now.machine) c.args.self.now (g.K.Sink.written c.args.out.now) stands;
      over = c.is_over-over.ensures ∙ ap (is_over c.args.wait) (c.journal.ensures.value ∙ ap (λ (m : Machine). m.state.journal) c.machine-2.ensures);
      later = omega arith;
    }

pub turns-preserved : goal.turns-preserved
turns-preserved g c =
    let w = g.K.Sink.written in
    let old = c.args.self.now in
    let now = c.turns.self in
    let goes = c.turns.invariant.goes in
    let over : is_over c.args.wait now.machine.state.journal ≡ false = sym c.turns.invariant.over ∙ c.if-over.false in
    let begun : is_begun c.args.wait now.machine.state.flight ≡ false = ap (λ (m : Machine). is_begun c.args.wait m.state.flight) (sym c.machine-else-over.ensures) ∙ sym c.is_begun.ensures ∙ c.if-is_begun.false in
    let none : met_at old.machine c.args.wait goes.turns ≡ false = met-now (met_at old.machine c.args.wait) (told_at old.machine) old now (w c.args.out.now) (w c.turns.out) goes c.args.wait false (not-met c.args.wait now.machine.state over begun) in
    let took : TookTurn now c.turn.new.self (w c.turns.out) (w c.turn.new.out) true = subst (TookTurn now c.turn.new.self (w c.turns.out) (w c.turn.new.out)) c.if-not-branch.false c.in_ok-turn.ensures.turns in
    let before : c.journal-ended.result.now ≡ now.machine.state.journal = c.journal-ended.ensures.value ∙ ap (λ (m : Machine). m.state.journal) c.machine-in-turns.ensures in
    let after : c.journal-journal.result.now ≡ c.turn.new.self.machine.state.journal = c.journal-journal.ensures.value ∙ ap (λ (m : Machine). m.state.journal) c.machine-in-turns-3.ensures in
    let lines : c.entries_from.result.now ≡ entries_at now.machine now.machine.turns =
    c.entries_from.ensures ∙ ap (λ (j : List Entry). drop (length j) c.journal-journal.result.now) before ∙ ap (drop (length now.machine.state.journal)) after ∙ added-entries now c.turn.new.self (w c.turns.out) (w c.turn.new.out) took in
    record {
      goes = goes-told (met_at old.machine c.args.wait) (told_at old.machine) old now (w c.args.out.now) (w c.turns.out) goes c.turn.new.self (w c.turn.new.out) (w c.put_events.new.out) c.entries_from.result.now refl none took lines c.in_ok-put_events.ensures.all;
      over = c.is_over-over-in-turns.ensures ∙ ap (is_over c.args.wait) after;
      later = omega (arith, c.turns.invariant.later, c.turn.ensures.cause.later, c.put_events.ensures.cause.later);
    }

pub turns-smaller : goal.turns-smaller
turns-smaller g c =
    let w = g.K.Sink.written in
    let old = c.args.self.now in
    let now = c.turns.self in
    let goes = c.turns.invariant.goes in
    let over : is_over c.args.wait now.machine.state.journal ≡ false = sym c.turns.invariant.over ∙ c.if-over.false in
    let begun : is_begun c.args.wait now.machine.state.flight ≡ false = ap (λ (m : Machine). is_begun c.args.wait m.state.flight) (sym c.machine-else-over.ensures) ∙ sym c.is_begun.ensures ∙ c.if-is_begun.false in
    let none : met_at old.machine c.args.wait goes.turns ≡ false = met-now (met_at old.machine c.args.wait) (told_at old.machine) old now (w c.args.out.now) (w c.turns.out) goes c.args.wait false (not-met c.args.wait now.machine.state over begun) in
    let took : TookTurn now c.turn.new.self (w c.turns.out) (w c.turn.new.out) true = subst (TookTurn now c.turn.new.self (w c.turns.out) (w c.turn.new.out)) c.if-not-branch.false c.in_ok-turn.ensures.turns in
    let before : c.journal-ended.result.now ≡ now.machine.state.journal = c.journal-ended.ensures.value ∙ ap (λ (m : Machine). m.state.journal) c.machine-in-turns.ensures in
    let after : c.journal-journal.result.now ≡ c.turn.new.self.machine.state.journal = c.journal-journal.ensures.value ∙ ap (λ (m : Machine). m.state.journal) c.machine-in-turns-3.ensures in
    let top : c.turn.new.self.machine.turns ≤ c.turn.new.self.machine.grant.cycles + 2 * (c.turn.new.self.machine.grant.events + 1) =
    subst (λ (m : Machine). m.turns ≤ m.grant.cycles + 2 * (m.grant.events + 1)) c.machine-in-turns-2.ensures (omega (arith, c.turns-turns.ensures.bound, c.turns-turns.ensures.value)) in
    turns-fewer now.machine c.turn.new.self.machine took.machine top

pub entries_from-requires : goal.entries_from-requires
entries_from-requires g c =
    let w = g.K.Sink.written in
    let old = c.args.self.now in
    let now = c.turns.self in
    let goes = c.turns.invariant.goes in
    let over : is_over c.args.wait now.machine.state.journal ≡ false = sym c.turns.invariant.over ∙ c.if-over.false in
    let begun : is_begun c.args.wait now.machine.state.flight ≡ false = ap (λ (m : Machine). is_begun c.args.wait m.state.flight) (sym c.machine-else-over.ensures) ∙ sym c.is_begun.ensures ∙ c.if-is_begun.false in
    let none : met_at old.machine c.args.wait goes.turns ≡ false = met-now (met_at old.machine c.args.wait) (told_at old.machine) old now (w c.args.out.now) (w c.turns.out) goes c.args.wait false (not-met c.args.wait now.machine.state over begun) in
    let took : TookTurn now c.turn.new.self (w c.turns.out) (w c.turn.new.out) true = subst (TookTurn now c.turn.new.self (w c.turns.out) (w c.turn.new.out)) c.if-not-branch.false c.in_ok-turn.ensures.turns in
    let before : c.journal-ended.result.now ≡ now.machine.state.journal = c.journal-ended.ensures.value ∙ ap (λ (m : Machine). m.state.journal) c.machine-in-turns.ensures in
    let after : c.journal-journal.result.now ≡ c.turn.new.self.machine.state.journal = c.journal-journal.ensures.value ∙ ap (λ (m : Machine). m.state.journal) c.machine-in-turns-3.ensures in
    let more = grows now c.turn.new.self (w c.turns.out) (w c.turn.new.out) true took in
    let a = ap length before in
    let b = ap length after in
    omega (arith, more, a, b)

pub is_over-over-requires-in-turns : goal.is_over-over-requires-in-turns
is_over-over-requires-in-turns g c =
    let w = g.K.Sink.written in
    let old = c.args.self.now in
    let now = c.turns.self in
    let goes = c.turns.invariant.goes in
    let over : is_over c.args.wait now.machine.state.journal ≡ false = sym c.turns.invariant.over ∙ c.if-over.false in
    let begun : is_begun c.args.wait now.machine.state.flight ≡ false = ap (λ (m : Machine). is_begun c.args.wait m.state.flight) (sym c.machine-else-over.ensures) ∙ sym c.is_begun.ensures ∙ c.if-is_begun.false in
    let none : met_at old.machine c.args.wait goes.turns ≡ false = met-now (met_at old.machine c.args.wait) (told_at old.machine) old now (w c.args.out.now) (w c.turns.out) goes c.args.wait false (not-met c.args.wait now.machine.state over begun) in
    let took : TookTurn now c.turn.new.self (w c.turns.out) (w c.turn.new.out) true = subst (TookTurn now c.turn.new.self (w c.turns.out) (w c.turn.new.out)) c.if-not-branch.false c.in_ok-turn.ensures.turns in
    let before : c.journal-ended.result.now ≡ now.machine.state.journal = c.journal-ended.ensures.value ∙ ap (λ (m : Machine). m.state.journal) c.machine-in-turns.ensures in
    let after : c.journal-journal.result.now ≡ c.turn.new.self.machine.state.journal = c.journal-journal.ensures.value ∙ ap (λ (m : Machine). m.state.journal) c.machine-in-turns-3.ensures in
    let more = grows now c.turn.new.self (w c.turns.out) (w c.turn.new.out) true took in
    let a = ap length before in
    let b = ap length after in
    let front : take (length c.journal-ended.result.now) c.journal-journal.result.now ≡ now.machine.state.journal =
    ap (λ (j : List Entry). take (length j) c.journal-journal.result.now) before ∙ ap (take (length now.machine.state.journal)) after ∙ front-journal now c.turn.new.self (w c.turns.out) (w c.turn.new.out) true took in
    record { within = omega (arith, more, a, b); unseen = ap (stands_in c.args.wait) front ∙ over-stands c.args.wait now.machine.state.journal over }

pub returns-in_err-turn-clause-breaks : goal.returns-in_err-turn-clause-breaks
returns-in_err-turn-clause-breaks g c =
    let w = g.K.Sink.written in
    let old = c.args.self.now in
    let now = c.turns.self in
    let goes = c.turns.invariant.goes in
    let over : is_over c.args.wait now.machine.state.journal ≡ false = sym c.turns.invariant.over ∙ c.if-over.false in
    let begun : is_begun c.args.wait now.machine.state.flight ≡ false = ap (λ (m : Machine). is_begun c.args.wait m.state.flight) (sym c.machine-else-over.ensures) ∙ sym c.is_begun.ensures ∙ c.if-is_begun.false in
    let none : met_at old.machine c.args.wait goes.turns ≡ false = met-now (met_at old.machine c.args.wait) (told_at old.machine) old now (w c.args.out.now) (w c.turns.out) goes c.args.wait false (not-met c.args.wait now.machine.state over begun) in
    on_err c.from_residual.result
    (device-breaks (met_at old.machine c.args.wait) (told_at old.machine) old now (w c.args.out.now) (w c.turns.out) goes c.turn.new.self (w c.turn.new.out) no_text (told-holds old.machine) none c.in_err-turn.ensures.breaks)

pub returns-in_err-put_events-clause-breaks : goal.returns-in_err-put_events-clause-breaks
returns-in_err-put_events-clause-breaks g c =
    let w = g.K.Sink.written in
    let old = c.args.self.now in
    let now = c.turns.self in
    let goes = c.turns.invariant.goes in
    let over : is_over c.args.wait now.machine.state.journal ≡ false = sym c.turns.invariant.over ∙ c.if-over.false in
    let begun : is_begun c.args.wait now.machine.state.flight ≡ false = ap (λ (m : Machine). is_begun c.args.wait m.state.flight) (sym c.machine-else-over.ensures) ∙ sym c.is_begun.ensures ∙ c.if-is_begun.false in
    let none : met_at old.machine c.args.wait goes.turns ≡ false = met-now (met_at old.machine c.args.wait) (told_at old.machine) old now (w c.args.out.now) (w c.turns.out) goes c.args.wait false (not-met c.args.wait now.machine.state over begun) in
    let took : TookTurn now c.turn.new.self (w c.turns.out) (w c.turn.new.out) true = subst (TookTurn now c.turn.new.self (w c.turns.out) (w c.turn.new.out)) c.if-not-branch.false c.in_ok-turn.ensures.turns in
    let before : c.journal-ended.result.now ≡ now.machine.state.journal = c.journal-ended.ensures.value ∙ ap (λ (m : Machine). m.state.journal) c.machine-in-turns.ensures in
    let after : c.journal-journal.result.now ≡ c.turn.new.self.machine.state.journal = c.journal-journal.ensures.value ∙ ap (λ (m : Machine). m.state.journal) c.machine-in-turns-3.ensures in
    let lines : c.entries_from.result.now ≡ entries_at now.machine now.machine.turns =
    c.entries_from.ensures ∙ ap (λ (j : List Entry). drop (length j) c.journal-journal.result.now) before ∙ ap (drop (length now.machine.state.journal)) after ∙ added-entries now c.turn.new.self (w c.turns.out) (w c.turn.new.out) took in
    on_err c.from_residual-in_err-put_events.result
    (line-breaks (met_at old.machine c.args.wait) (told_at old.machine) old now (w c.args.out.now) (w c.turns.out) goes c.turn.new.self (w c.turn.new.out) no_text (w c.put_events.new.out) c.entries_from.result.now (told-holds old.machine) refl none took lines c.in_err-put_events.ensures.front)

pub returns-then-not-branch-clause-runs : goal.returns-then-not-branch-clause-runs
returns-then-not-branch-clause-runs g c =
    let w = g.K.Sink.written in
    let old = c.args.self.now in
    let now = c.turns.self in
    let took : TookTurn now c.turn.new.self (w c.turns.out) (w c.turn.new.out) false = subst (TookTurn now c.turn.new.self (w c.turns.out) (w c.turn.new.out)) c.if-not-branch.true c.in_ok-turn.ensures.turns in
    took-all (met_at old.machine c.args.wait) (told_at old.machine) old now (w c.args.out.now) (w c.turns.out) c.turns.invariant.goes c.turn.new.self (w c.turn.new.out) took
