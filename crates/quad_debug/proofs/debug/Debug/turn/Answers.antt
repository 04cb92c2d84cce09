use Rattle.std.proofs.Common.{◌≡◌, ◌∙◌, ◌++◌, ap, sym, subst, refl, arith, length, drop, nat_lt, List, ℕ}
use Rattle.circular_buffer.specs.Buffer.{Buffer}
use Rattle.hum_outside.proofs.Fronts.{on_err}
use Rattle.vm_turn.specs.declared.journal.Entry.{Entry}
use Rattle.vm_machine.specs.Machine.{Machine}
use Rattle.quad_debug.specs.Kept.{Debugged, Keeps}
use Rattle.quad_debug.specs.Parts.{TookTurn, BrokeTurn}
use Rattle.quad_debug.proofs.Keeping.{keeps-more}
use Rattle.quad_debug.proofs.Turned.{took-turn, broke-turn, extended, grows}
use Rattle.quad_debug.proofs.debug.Debug.turn.Goals as goal

pub returns-in_err-_answer-clause-breaks : goal.returns-in_err-_answer-clause-breaks
returns-in_err-_answer-clause-breaks g c =
    let inside = c.self.inside in
    let m = inside.machine in
    let old : Debugged = record { machine = m; began = inside.began } in
    let new : Debugged = record { machine = c.turn.new.self; began = inside.began } in
    let run = c.turns_of-turns.ensures.stands.run in
    let e = c.in_err-_answer.ensures in
    let w = g.K.Sink.written in
    let same : new ≡ old = ap (λ (x : Machine). record { machine = x; began = inside.began }) (e.unchanged refl) in
    let broke = broke-turn old new c.in_err-_answer.field-0.0 (w c.args.out.now) (w c.turn.new.out) (g.K.Sink.faults c.args.out.now) (g.K.Sink.faults c.turn.new.out) run same e.turn e.quiet in
    on_err c.from_residual.result (subst (λ (d : Debugged). BrokeTurn d new (w c.args.out.now) (w c.turn.new.out)) c.self.view_is broke)

pub entries_from-added-requires : goal.entries_from-added-requires
entries_from-added-requires g c =
    let inside = c.self.inside in
    let m = inside.machine in
    let old : Debugged = record { machine = m; began = inside.began } in
    let new : Debugged = record { machine = c.turn.new.self; began = inside.began } in
    let run = c.turns_of-turns.ensures.stands.run in
    let e = c.in_ok-_answer.ensures in
    let w = g.K.Sink.written in
    let took = took-turn old new c.in_ok-_answer._answer (w c.args.out.now) (w c.turn.new.out) run c.turns_of-now.ensures.stands.memory e.image e.grant e.lanes e.seed e.turns e.turn e.unchanged refl (nat_lt m.turns c.turn.new.self.turns) refl in
    let more = grows old new (w c.args.out.now) (w c.turn.new.out) (nat_lt m.turns c.turn.new.self.turns) took in
    let before = ap length c.journal-ended.ensures.value in
    let now = ap length c.journal.ensures.value in
    omega (arith, more, before, now)

pub invariant_of-self-2 : goal.invariant_of-self-2
invariant_of-self-2 g c =
    let inside = c.self.inside in
    let m = inside.machine in
    let old : Debugged = record { machine = m; began = inside.began } in
    let new : Debugged = record { machine = c.turn.new.self; began = inside.began } in
    let run = c.turns_of-turns.ensures.stands.run in
    let e = c.in_ok-_answer.ensures in
    let w = g.K.Sink.written in
    let took = took-turn old new c.in_ok-_answer._answer (w c.args.out.now) (w c.turn.new.out) run c.turns_of-now.ensures.stands.memory e.image e.grant e.lanes e.seed e.turns e.turn e.unchanged refl (nat_lt m.turns c.turn.new.self.turns) refl in
    let added = c.entries_from-added.result.now in
    let cut : added ≡ drop (length m.state.journal) c.turn.new.self.state.journal =
    c.entries_from-added.ensures ∙ ap (λ (j : List Entry). drop (length j) c.journal.result.now) c.journal-ended.ensures.value ∙ ap (drop (length m.state.journal)) c.journal.ensures.value in
    let journal : c.turn.new.self.state.journal ≡ m.state.journal ++ added =
    extended old new (w c.args.out.now) (w c.turn.new.out) (nat_lt m.turns c.turn.new.self.turns) took ∙ ap (λ (es : List Entry). m.state.journal ++ es) (sym cut) in
    subst (λ (b : Buffer Entry). Keeps c.turn.new.self inside.began b) (sym c.extend_from_slice.ensures) (keeps-more m c.turn.new.self inside.began inside.entries added c.self.invariant journal)

pub returns-clause-turns : goal.returns-clause-turns
returns-clause-turns g c =
    let inside = c.self.inside in
    let m = inside.machine in
    let old : Debugged = record { machine = m; began = inside.began } in
    let new : Debugged = record { machine = c.turn.new.self; began = inside.began } in
    let run = c.turns_of-turns.ensures.stands.run in
    let e = c.in_ok-_answer.ensures in
    let w = g.K.Sink.written in
    let more = nat_lt c.turns_of-turns.result c.turns_of-now.result in
    let told : more ≡ nat_lt m.turns c.turn.new.self.turns = ap (λ (n : ℕ). nat_lt n c.turns_of-now.result) c.turns_of-turns.ensures.value ∙ ap (nat_lt m.turns) c.turns_of-now.ensures.value in
    let took = took-turn old new c.in_ok-_answer._answer (w c.args.out.now) (w c.turn.new.out) run c.turns_of-now.ensures.stands.memory e.image e.grant e.lanes e.seed e.turns e.turn e.unchanged refl more told in
    subst (λ (d : Debugged). TookTurn d new (w c.args.out.now) (w c.turn.new.out) more) c.self.view_is took
