use Rattle.std.proofs.Common.{◌≡◌, ℕ, ◌<◌, length, Option, Some, ap, sym, ◌∙◌, subst, arith}
use Rattle.std.specs.Prelude.{slice_get}
use Rattle.cap_words.specs.Words.{W, same_word}
use Rattle.cap_words.specs.Frame.{Among}
use Rattle.instr_table.specs.declared.charge.Quota.{Quota}
use Rattle.instr_table.specs.Event.{no_effects}
use Rattle.instr_table.specs.Sheet.{stop, prepared}
use Rattle.instr_table.specs.Lane.{Lane as Flying}
use Rattle.instr_table.specs.Reach.{Every}
use Rattle.vm_turn.specs.declared.journal.Outcome.TheVariants.{RanOut}
use Rattle.vm_turn.specs.State.{State, root}
use Rattle.vm_turn.specs.Turn.{entry, finish, out_by, released, spent_by}
use Rattle.vm_turn.specs.Sound.{message_words, sent_by}
use Rattle.event_queue.specs.Pending.{Pending}
use Rattle.vm_step.specs.Flight.{lane_of}
use Rattle.vm_machine.specs.declared.parts.Parts.{Parts}
use Rattle.vm_machine.specs.View.{state_of}
use Rattle.vm_machine.proofs.Lists.{get-map}
use Rattle.vm_machine.proofs.Ended.{lane-at, flies-at}
use Rattle.vm_machine.proofs.Exhausting.{signal-fits, signal-left, signal-unsent, stopped-failed}
use Rattle.vm_machine.proofs.exhausted.run_out.Goals as goal

-- the state after the event ended, and after the signal was released, where that sponsor was stopped
abbrev failed : Parts → ℕ → Flying → Quota → W → State
failed p i l kind who = finish (state_of p) i l (stop (state_of p).sheet who) no_effects (RanOut kind)

abbrev run_by : Parts → ℕ → Flying → Quota → W → State
run_by p i l kind who = released (prepared (state_of p).sheet who) kind (failed p i l kind who)

pub payer_of-who-requires : goal.payer_of-who-requires
payer_of-who-requires c =
    let p = c.args.parts.now in
    let lane = c.index.result.now in
    (flies-at p c.args.place lane (lane-at p.flight.items c.args.place lane c.requires.place c.index.ensures) c.requires.whole.kept).held.event

pub release_any-requires-clause-room : goal.release_any-requires-clause-room
release_any-requires-clause-room c = λ w h.
    let p = c.args.parts.now in
    let fits = signal-fits p.grant (state_of p) c.requires.whole.sound c.payer_of-who.result w (sym c.stop-signal.ensures.signal ∙ h) in
    subst (λ (q : Pending). length q.given < q.room) (sym (c.fail-entry.ensures.queue ∙ c.stop-signal.ensures.queue)) (omega (arith, fits, c.requires.whole.kept.queue_room))

pub release_any-requires-clause-no_message : goal.release_any-requires-clause-no_message
release_any-requires-clause-no_message c = λ w h.
    let p = c.args.parts.now in
    let lane = c.index.result.now in
    let e = lane-at p.flight.items c.args.place lane c.requires.place c.index.ensures in
    let l = lane_of p.quads.store lane in
    let at = get-map (lane_of p.quads.store) p.flight.items c.args.place lane e in
    let sheet = stop (state_of p).sheet c.payer_of-who.result in
    let ends = stopped-failed (state_of p) (state_of c.stop-signal.new.parts) (state_of c.fail-entry.new.parts) c.args.place l sheet (RanOut c.args.kind) c.stop-signal.ensures.state at c.fail-entry.ensures.state in
    subst (λ (x : State). Among w (message_words x.messages) → ⊥) (sym ends)
    (signal-left p.grant (state_of p) c.requires.whole.sound c.payer_of-who.result w (sym c.stop-signal.ensures.signal ∙ h) c.args.place l sheet (RanOut c.args.kind))

pub release_any-requires-clause-not_sent : goal.release_any-requires-clause-not_sent
release_any-requires-clause-not_sent c = λ w h.
    let p = c.args.parts.now in
    let lane = c.index.result.now in
    let e = lane-at p.flight.items c.args.place lane c.requires.place c.index.ensures in
    let l = lane_of p.quads.store lane in
    let at = get-map (lane_of p.quads.store) p.flight.items c.args.place lane e in
    let sheet = stop (state_of p).sheet c.payer_of-who.result in
    let ends = stopped-failed (state_of p) (state_of c.stop-signal.new.parts) (state_of c.fail-entry.new.parts) c.args.place l sheet (RanOut c.args.kind) c.stop-signal.ensures.state at c.fail-entry.ensures.state in
    subst (λ (x : State). Every (λ (k : Flying). Among w (sent_by k) → ⊥) x.flight) (sym ends)
    (signal-unsent p.grant (state_of p) c.requires.whole.sound c.payer_of-who.result w (sym c.stop-signal.ensures.signal ∙ h) c.args.place l sheet (RanOut c.args.kind))

pub returns-clause-state : goal.returns-clause-state
returns-clause-state c = λ l at.
    let p = c.args.parts.now in
    let lane = c.index.result.now in
    let e = lane-at p.flight.items c.args.place lane c.requires.place c.index.ensures in
    let own : lane_of p.quads.store lane ≡ l = some (sym (get-map (lane_of p.quads.store) p.flight.items c.args.place lane e) ∙ at) in
    let who : c.payer_of-who.result ≡ l.own.sponsor = c.payer_of-who.ensures ∙ ap (λ (x : Flying). x.own.sponsor) own in
    let sheet = stop (state_of p).sheet c.payer_of-who.result in
    let ends = stopped-failed (state_of p) (state_of c.stop-signal.new.parts) (state_of c.fail-entry.new.parts) c.args.place l sheet (RanOut c.args.kind) c.stop-signal.ensures.state at c.fail-entry.ensures.state in
    let gone : state_of c.release_any.new.parts ≡ run_by p c.args.place l c.args.kind c.payer_of-who.result =
    c.release_any.ensures.state ∙ ap (released c.stop-signal.result c.args.kind) ends ∙ ap (λ (o : Option W). released o c.args.kind (failed p c.args.place l c.args.kind c.payer_of-who.result)) c.stop-signal.ensures.signal in
    c.end_run.ensures.state ∙ ap (out_by (same_word c.payer_of-who.result root) c.args.kind) gone ∙ ap (λ (w : W). out_by (same_word w root) c.args.kind (run_by p c.args.place l c.args.kind w)) who
  where
    some : {x y : Flying} → Some x ≡ Some y → x ≡ y
    some k = cc

pub returns-clause-turn : goal.returns-clause-turn
returns-clause-turn c = λ l at.
    let p = c.args.parts.now in
    let lane = c.index.result.now in
    let e = lane-at p.flight.items c.args.place lane c.requires.place c.index.ensures in
    let own : lane_of p.quads.store lane ≡ l = some (sym (get-map (lane_of p.quads.store) p.flight.items c.args.place lane e) ∙ at) in
    let who : c.payer_of-who.result ≡ l.own.sponsor = c.payer_of-who.ensures ∙ ap (λ (x : Flying). x.own.sponsor) own in
    let it : c.fail-entry.result ≡ entry l.number (RanOut c.args.kind) = subst (λ (x : State). slice_get x.flight c.args.place ≡ Some l → c.fail-entry.result ≡ entry l.number (RanOut c.args.kind)) c.stop-signal.ensures.state (c.fail-entry.ensures.entry l) at in
    c.end_run.ensures.turn ∙ ap (λ x. spent_by (same_word c.payer_of-who.result root) c.args.kind x) it ∙ ap (λ (w : W). spent_by (same_word w root) c.args.kind (entry l.number (RanOut c.args.kind))) who
  where
    some : {x y : Flying} → Some x ≡ Some y → x ≡ y
    some k = cc
