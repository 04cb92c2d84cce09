use Rattle.std.proofs.Common.{◌≡◌, ℕ, ◌<◌, true, false, ap, sym, ◌∙◌, subst}
use Rattle.std.specs.Prelude.{slice_get}
use Rattle.vm_turn.specs.declared.journal.Outcome.TheVariants.{Committed, Failed}
use Rattle.vm_turn.specs.declared.journal.Turn.TheVariants.{Stepped, Finished}
use Rattle.vm_turn.specs.State.{State}
use Rattle.vm_turn.specs.Turn.{entry}
use Rattle.instr_table.specs.Code.{fetched}
use Rattle.vm_machine.specs.Steps.{starts}
use Rattle.vm_machine.specs.View.{state_of}
use Rattle.vm_machine.specs.Whole.{Waits}
use Rattle.vm_machine.proofs.Waiting.{waits-on}
use Rattle.vm_machine.proofs.Taking.{paid, going-on, going-step, committing, commit-step, aborting, abort-step, running-out, run-out-step, whole-again, sent-room, lane-there, lane-same, turned}
use Rattle.vm_machine.proofs.turn.take.Goals as goal

no : {A : Type 0} → false ≡ true → A
no h = cc

pub commit-requires-clause-fits : goal.commit-requires-clause-fits
commit-requires-clause-fits c =
    let p = c.loosen.new.parts in
    let q = c.instruct-end.new.parts in
    let i = c.args.place in
    let l = lane-there p i (subst (λ (n : ℕ). i < n) (sym c.loosen.ensures.place) c.requires.place) in
    let x = committing (state_of p) (state_of q) i l.0 c.instruct-end.result (c.instruct-end.ensures.state l.0 l.1) c.in-Commit.is in
    sent-room p q c.loosen.ensures.whole c.instruct-end.ensures.queue i (paid (state_of p) (state_of q) i l.0) x.state

pub run_out-requires-clause-whole : goal.run_out-requires-clause-whole
run_out-requires-clause-whole c =
    let p = c.loosen.new.parts in
    let q = c.instruct-end.new.parts in
    let i = c.args.place in
    let l = lane-there p i (subst (λ (n : ℕ). i < n) (sym c.loosen.ensures.place) c.requires.place) in
    let x = running-out (state_of p) (state_of q) i l.0 c.instruct-end.result c.in-RanOut.kind (c.instruct-end.ensures.state l.0 l.1) c.in-RanOut.is in
    whole-again p q c.loosen.ensures.whole c.instruct-end.ensures.kept c.instruct-end.ensures.grant c.instruct-end.ensures.stuck x.state

pub returns-in-Going-clause-waits : goal.returns-in-Going-clause-waits
returns-in-Going-clause-waits c = λ h.
    let p = c.loosen.new.parts in
    let q = c.instruct-end.new.parts in
    let i = c.args.place in
    let l = lane-there p i (subst (λ (n : ℕ). i < n) (sym c.loosen.ensures.place) c.requires.place) in
    let x = going-on (state_of p) (state_of q) i l.0 c.instruct-end.result (c.instruct-end.ensures.state l.0 l.1) c.in-Going.is in
    let b = sym c.instruct-end.ensures.stuck ∙ h in
    let quiet = c.loosen.ensures.stuck b l.0 (ap (λ (y : State). slice_get y.flight i) (sym c.loosen.ensures.state) ∙ l.1) in
    subst (λ (y : State). Waits y) (sym x.state)
    (waits-on p.grant (state_of p) c.loosen.ensures.whole.sound i l.0 x.going l.1 x.outcome (subst (λ (y : State). starts (fetched y.store l.0.code) ≡ false) (sym c.loosen.ensures.state) quiet) (c.loosen.ensures.whole.waits b))

pub returns-in-Going-clause-state : goal.returns-in-Going-clause-state
returns-in-Going-clause-state c = λ l h.
    let p = c.loosen.new.parts in
    let q = c.instruct-end.new.parts in
    let i = c.args.place in
    let at = lane-same (state_of p) (state_of c.args.parts.now) i l c.loosen.ensures.state h in
    let x = going-on (state_of p) (state_of q) i l c.instruct-end.result (c.instruct-end.ensures.state l at) c.in-Going.is in
    (turned (state_of p) (state_of c.args.parts.now) (state_of q) Stepped i l c.loosen.ensures.state (going-step (state_of p) (state_of q) i l x)).0

pub returns-in-Going-clause-turn : goal.returns-in-Going-clause-turn
returns-in-Going-clause-turn c = λ l h.
    let p = c.loosen.new.parts in
    let q = c.instruct-end.new.parts in
    let i = c.args.place in
    let at = lane-same (state_of p) (state_of c.args.parts.now) i l c.loosen.ensures.state h in
    let x = going-on (state_of p) (state_of q) i l c.instruct-end.result (c.instruct-end.ensures.state l at) c.in-Going.is in
    (turned (state_of p) (state_of c.args.parts.now) (state_of q) Stepped i l c.loosen.ensures.state (going-step (state_of p) (state_of q) i l x)).1

pub returns-in-Commit-clause-waits : goal.returns-in-Commit-clause-waits
returns-in-Commit-clause-waits c = λ h. no (sym c.commit.ensures.stuck ∙ h)

pub returns-in-Commit-clause-state : goal.returns-in-Commit-clause-state
returns-in-Commit-clause-state c = λ l h.
    let p = c.loosen.new.parts in
    let q = c.instruct-end.new.parts in
    let i = c.args.place in
    let at = lane-same (state_of p) (state_of c.args.parts.now) i l c.loosen.ensures.state h in
    let x = committing (state_of p) (state_of q) i l c.instruct-end.result (c.instruct-end.ensures.state l at) c.in-Commit.is in
    (turned (state_of p) (state_of c.args.parts.now) (state_of c.commit.new.parts) (Finished (entry l.number Committed)) i l c.loosen.ensures.state (commit-step (state_of p) (state_of q) i l (state_of c.commit.new.parts) x at c.commit.ensures.state)).0

pub returns-in-Commit-clause-turn : goal.returns-in-Commit-clause-turn
returns-in-Commit-clause-turn c = λ l h.
    let p = c.loosen.new.parts in
    let q = c.instruct-end.new.parts in
    let i = c.args.place in
    let at = lane-same (state_of p) (state_of c.args.parts.now) i l c.loosen.ensures.state h in
    let x = committing (state_of p) (state_of q) i l c.instruct-end.result (c.instruct-end.ensures.state l at) c.in-Commit.is in
    ap Finished (c.commit.ensures.entry l (ap (λ (y : State). slice_get y.flight i) x.state ∙ at)) ∙
    (turned (state_of p) (state_of c.args.parts.now) (state_of c.commit.new.parts) (Finished (entry l.number Committed)) i l c.loosen.ensures.state (commit-step (state_of p) (state_of q) i l (state_of c.commit.new.parts) x at c.commit.ensures.state)).1

pub returns-in-Abort-clause-waits : goal.returns-in-Abort-clause-waits
returns-in-Abort-clause-waits c = λ h. no (sym c.fail.ensures.stuck ∙ h)

pub returns-in-Abort-clause-state : goal.returns-in-Abort-clause-state
returns-in-Abort-clause-state c = λ l h.
    let p = c.loosen.new.parts in
    let q = c.instruct-end.new.parts in
    let i = c.args.place in
    let at = lane-same (state_of p) (state_of c.args.parts.now) i l c.loosen.ensures.state h in
    let x = aborting (state_of p) (state_of q) i l c.instruct-end.result c.in-Abort.reason (c.instruct-end.ensures.state l at) c.in-Abort.is in
    (turned (state_of p) (state_of c.args.parts.now) (state_of c.fail.new.parts) (Finished (entry l.number (Failed c.in-Abort.reason))) i l c.loosen.ensures.state (abort-step (state_of p) (state_of q) i l (state_of c.fail.new.parts) c.in-Abort.reason x at c.fail.ensures.state)).0

pub returns-in-Abort-clause-turn : goal.returns-in-Abort-clause-turn
returns-in-Abort-clause-turn c = λ l h.
    let p = c.loosen.new.parts in
    let q = c.instruct-end.new.parts in
    let i = c.args.place in
    let at = lane-same (state_of p) (state_of c.args.parts.now) i l c.loosen.ensures.state h in
    let x = aborting (state_of p) (state_of q) i l c.instruct-end.result c.in-Abort.reason (c.instruct-end.ensures.state l at) c.in-Abort.is in
    ap Finished (c.fail.ensures.entry l (ap (λ (y : State). slice_get y.flight i) x.state ∙ at)) ∙
    (turned (state_of p) (state_of c.args.parts.now) (state_of c.fail.new.parts) (Finished (entry l.number (Failed c.in-Abort.reason))) i l c.loosen.ensures.state (abort-step (state_of p) (state_of q) i l (state_of c.fail.new.parts) c.in-Abort.reason x at c.fail.ensures.state)).1

pub returns-in-RanOut-clause-waits : goal.returns-in-RanOut-clause-waits
returns-in-RanOut-clause-waits c = λ h. no (sym c.run_out.ensures.stuck ∙ h)

pub returns-in-RanOut-clause-state : goal.returns-in-RanOut-clause-state
returns-in-RanOut-clause-state c = λ l h.
    let p = c.loosen.new.parts in
    let q = c.instruct-end.new.parts in
    let i = c.args.place in
    let at = lane-same (state_of p) (state_of c.args.parts.now) i l c.loosen.ensures.state h in
    let x = running-out (state_of p) (state_of q) i l c.instruct-end.result c.in-RanOut.kind (c.instruct-end.ensures.state l at) c.in-RanOut.is in
    (turned (state_of p) (state_of c.args.parts.now) (state_of c.run_out.new.parts) c.run_out.result i l c.loosen.ensures.state (run-out-step (state_of p) (state_of q) i l (state_of c.run_out.new.parts) c.run_out.result c.in-RanOut.kind x at c.run_out.ensures.state c.run_out.ensures.turn)).0

pub returns-in-RanOut-clause-turn : goal.returns-in-RanOut-clause-turn
returns-in-RanOut-clause-turn c = λ l h.
    let p = c.loosen.new.parts in
    let q = c.instruct-end.new.parts in
    let i = c.args.place in
    let at = lane-same (state_of p) (state_of c.args.parts.now) i l c.loosen.ensures.state h in
    let x = running-out (state_of p) (state_of q) i l c.instruct-end.result c.in-RanOut.kind (c.instruct-end.ensures.state l at) c.in-RanOut.is in
    (turned (state_of p) (state_of c.args.parts.now) (state_of c.run_out.new.parts) c.run_out.result i l c.loosen.ensures.state (run-out-step (state_of p) (state_of q) i l (state_of c.run_out.new.parts) c.run_out.result c.in-RanOut.kind x at c.run_out.ensures.state c.run_out.ensures.turn)).1
