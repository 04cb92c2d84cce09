use Rattle.std.proofs.Common.{◌≡◌, ℕ, ◌∷◌, [], Option, Some, None, is_some, ap, sym, ◌∙◌, refl, subst, arith}
use Rattle.cap_words.specs.Words.{W}
use Rattle.cap_words.specs.Frame.{Framed}
use Rattle.instr_table.specs.Event.{no_effects}
use Rattle.instr_table.specs.Lane.{Lane as Flying}
use Rattle.vm_turn.specs.Turn.{entry, finish}
use Rattle.vm_step.specs.Flight.{lane_of}
use Rattle.vm_machine.specs.View.{state_of}
use Rattle.vm_machine.proofs.Lists.{get-map}
use Rattle.vm_machine.proofs.Ended.{lane-at, flies-at, own-cell, own-seen}
use Rattle.vm_machine.proofs.Failing.{kept-failed, state-failed}
use Rattle.vm_machine.proofs.finish.fail.Goals as goal

pub target_of-actor-requires : goal.target_of-actor-requires
target_of-actor-requires c =
    let p = c.args.parts.now in
    let lane = c.remove-lane.result in
    (flies-at p c.args.place lane (lane-at p.flight.items c.args.place lane c.requires.place c.remove-lane.ensures.value) c.requires.kept).held.event

pub drop_all-requires : goal.drop_all-requires
drop_all-requires c =
    let p = c.args.parts.now in
    let lane = c.remove-lane.result in
    ap is_some (own-cell p c.args.place lane (lane-at p.flight.items c.args.place lane c.requires.place c.remove-lane.ensures.value) c.requires.kept c.target_of-actor.result c.target_of-actor.ensures)

pub returns-clause-kept : goal.returns-clause-kept
returns-clause-kept c =
    let p = c.args.parts.now in
    let lane = c.remove-lane.result in
    let e = lane-at p.flight.items c.args.place lane c.requires.place c.remove-lane.ensures.value in
    let b = (flies-at p c.args.place lane e c.requires.kept).busy in
    kept-failed p c.args.place lane e c.requires.kept c.drop_all.new.quads c.remove-lane.new.self c.note.new.journal c.args.outcome b.0 b.1
    (subst (λ (w : W). Framed p.quads.store c.drop_all.new.quads.store (w ∷ [])) c.target_of-actor.ensures c.drop_all.ensures.frame)
    (own-seen p c.args.place lane e c.requires.kept c.drop_all.new.quads.store c.target_of-actor.result None c.target_of-actor.ensures c.drop_all.ensures.seen)
    c.drop_all.ensures.room c.remove-lane.ensures.items (omega (arith, c.remove-lane.ensures.len, c.requires.place)) (omega (arith, c.remove-lane.ensures.capacity)) c.note.ensures.items c.note.ensures.len c.note.ensures.capacity

pub returns-clause-state : goal.returns-clause-state
returns-clause-state c = λ l h.
    let p = c.args.parts.now in
    let lane = c.remove-lane.result in
    let e = lane-at p.flight.items c.args.place lane c.requires.place c.remove-lane.ensures.value in
    let b = (flies-at p c.args.place lane e c.requires.kept).busy in
    let same : lane_of p.quads.store lane ≡ l = some (sym (get-map (lane_of p.quads.store) p.flight.items c.args.place lane e) ∙ h) in
    state-failed p c.args.place lane e c.requires.kept c.drop_all.new.quads c.remove-lane.new.self c.note.new.journal c.args.outcome b.0 b.1
    (subst (λ (w : W). Framed p.quads.store c.drop_all.new.quads.store (w ∷ [])) c.target_of-actor.ensures c.drop_all.ensures.frame)
    (own-seen p c.args.place lane e c.requires.kept c.drop_all.new.quads.store c.target_of-actor.result None c.target_of-actor.ensures c.drop_all.ensures.seen)
    c.drop_all.ensures.room c.remove-lane.ensures.items (omega (arith, c.remove-lane.ensures.len, c.requires.place)) (omega (arith, c.remove-lane.ensures.capacity)) c.note.ensures.items c.note.ensures.len c.note.ensures.capacity refl refl
    ∙ ap (λ (x : Flying). finish (state_of p) c.args.place x (state_of p).sheet no_effects c.args.outcome) same
  where
    some : {x y : Flying} → Some x ≡ Some y → x ≡ y
    some k = cc

pub returns-clause-entry : goal.returns-clause-entry
returns-clause-entry c = λ l h.
    let p = c.args.parts.now in
    let lane = c.remove-lane.result in
    let e = lane-at p.flight.items c.args.place lane c.requires.place c.remove-lane.ensures.value in
    ap (λ (o : Option Flying). entry (number_or o) c.args.outcome) (sym (get-map (lane_of p.quads.store) p.flight.items c.args.place lane e) ∙ h)
  where
    number_or : Option Flying → ℕ
    number_or None = 0
    number_or (Some x) = x.number
