use Rattle.std.proofs.Common.{◌≡◌, ℕ, ◌∷◌, [], length, List, Option, Some, None, is_some, false, ap, sym, ◌∙◌, refl, subst, arith, pos}
use Rattle.std.proofs.lemmas.List.{length-map}
use Rattle.cap_words.specs.Words.{W, Fix, undef}
use Rattle.cap_words.specs.Seen.{ActorSlot, seen}
use Rattle.cap_words.specs.Store.{opaque_cell}
use Rattle.cap_words.specs.declared.word.Tag.TheVariants.{Actor, Event}
use Rattle.cap_words.specs.Frame.{Framed}
use Rattle.instr_table.specs.Event.{Behaviour, Made, Sent, has_created}
use Rattle.instr_table.specs.Lane.{Lane as Flying}
use Rattle.vm_effects.specs.Links.{walk}
use Rattle.vm_effects.specs.Gathered.{effects_of, next_of, made_from, made_at, sent_from, sent_at, sent_words}
use Rattle.vm_effects.proofs.Chains.{length-walk}
use Rattle.vm_effects.proofs.Apart.{has_created-committed}
use Rattle.vm_turn.specs.declared.journal.Outcome.TheVariants.{Committed}
use Rattle.vm_turn.specs.Actors.{resting}
use Rattle.vm_turn.specs.Turn.{entry, finish}
use Rattle.vm_step.specs.Flight.{own_at, lane_of}
use Rattle.event_queue.specs.Pending.{appended}
use Rattle.vm_machine.specs.View.{state_of}
use Rattle.vm_machine.proofs.Lists.{get-map}
use Rattle.vm_machine.proofs.Ended.{lane-at, flies-at, own-cell, own-seen}
use Rattle.vm_machine.proofs.Committing.{created-room, kept-committed, state-committed, resting-slot, code_after, state_after}
use Rattle.vm_machine.proofs.finish.commit.Goals as goal

pub target_of-actor-requires : goal.target_of-actor-requires
target_of-actor-requires c =
    let p = c.args.parts.now in
    let lane = c.remove-lane.result in
    (flies-at p c.args.place lane (lane-at p.flight.items c.args.place lane c.requires.place c.remove-lane.ensures.value) c.requires.kept).held.event

pub commit-released-requires-clause-linked : goal.commit-released-requires-clause-linked
commit-released-requires-clause-linked c =
    let p = c.args.parts.now in
    let lane = c.remove-lane.result in
    (flies-at p c.args.place lane (lane-at p.flight.items c.args.place lane c.requires.place c.remove-lane.ensures.value) c.requires.kept).held.linked

pub commit-released-requires-clause-actor : goal.commit-released-requires-clause-actor
commit-released-requires-clause-actor c =
    let p = c.args.parts.now in
    let lane = c.remove-lane.result in
    ap is_some (own-cell p c.args.place lane (lane-at p.flight.items c.args.place lane c.requires.place c.remove-lane.ensures.value) c.requires.kept c.target_of-actor.result c.target_of-actor.ensures)

pub commit-released-requires-clause-other : goal.commit-released-requires-clause-other
commit-released-requires-clause-other c =
    let p = c.args.parts.now in
    let lane = c.remove-lane.result in
    let f = flies-at p c.args.place lane (lane-at p.flight.items c.args.place lane c.requires.place c.remove-lane.ensures.value) c.requires.kept in
    subst (λ (w : W). has_created w (effects_of p.quads.store lane.effects).created ≡ false) (sym c.target_of-actor.ensures)
    (has_created-committed p.quads.store lane.effects f.held.linked (own_at (seen p.quads.store) lane.event).actor f.busy.0 f.busy.1 (Fix (pos lane.number)) f.busy.2)

pub append_all-requires : goal.append_all-requires
append_all-requires c =
    let p = c.args.parts.now in
    let lane = c.remove-lane.result in
    let e = lane-at p.flight.items c.args.place lane c.requires.place c.remove-lane.ensures.value in
    let fits = c.requires.fits (lane_of p.quads.store lane) (get-map (lane_of p.quads.store) p.flight.items c.args.place lane e) in
    let t = c.commit-released.new.quads.store in
    let r = c.commit-released.result in
    let ws = walk (opaque_cell t Event) r.events r.first_event in
    let n : length (sent_from t r.events r.first_event) ≡ r.events = length-map ws (sent_at t) ∙ length-walk (opaque_cell t Event) r.events r.first_event in
    let m : length (sent_from t r.events r.first_event) ≡ length (effects_of p.quads.store lane.effects).sent = ap (λ (l : List Sent). length l) c.commit-released.ensures.sent in
    omega (arith, fits, n, m)

pub enter_all-requires : goal.enter_all-requires
enter_all-requires c =
    let p = c.args.parts.now in
    let lane = c.remove-lane.result in
    let e = lane-at p.flight.items c.args.place lane c.requires.place c.remove-lane.ensures.value in
    let t = c.commit-released.new.quads.store in
    let r = c.commit-released.result in
    let ws = walk (opaque_cell t Actor) r.actors r.first_actor in
    let n : length (made_from t r.actors r.first_actor) ≡ r.actors = length-map ws (made_at t) ∙ length-walk (opaque_cell t Actor) r.actors r.first_actor in
    let m : length (made_from t r.actors r.first_actor) ≡ length (effects_of p.quads.store lane.effects).created = ap (λ (l : List Made). length l) c.commit-released.ensures.created in
    let k = created-room p c.args.place lane e c.requires.kept in
    omega (arith, k, n, m)

pub returns-clause-kept : goal.returns-clause-kept
returns-clause-kept c =
    let p = c.args.parts.now in
    let lane = c.remove-lane.result in
    let e = lane-at p.flight.items c.args.place lane c.requires.place c.remove-lane.ensures.value in
    let b = (flies-at p c.args.place lane e c.requires.kept).busy in
    let t = c.commit-released.new.quads in
    let r = c.commit-released.result in
    let next = next_of lane.effects in
    let at = own-seen p c.args.place lane e c.requires.kept t.store c.target_of-actor.result next c.target_of-actor.ensures c.commit-released.ensures.seen in
    kept-committed p c.args.place lane e c.requires.kept t c.make_idle.new.quads r.actors r.first_actor c.remove-lane.new.self c.enter_all.new.roll c.append_all.new.queue c.note.new.journal (code_after next b.0) (state_after next b.1)
    (subst (λ (w : W). Framed p.quads.store t.store (w ∷ [])) c.target_of-actor.ensures c.commit-released.ensures.frame)
    (at ∙ resting-slot next b.0 b.1 (Fix (pos lane.number)) (seen p.quads.store) (own_at (seen p.quads.store) lane.event).actor)
    c.commit-released.ensures.room c.commit-released.ensures.created c.commit-released.ensures.created_linked c.make_idle.ensures.frame c.make_idle.ensures.seen c.make_idle.ensures.room
    (c.append_all.ensures ∙ ap (λ (l : List Sent). appended p.queue (sent_words l)) c.commit-released.ensures.sent)
    (c.requires.fits (lane_of p.quads.store lane) (get-map (lane_of p.quads.store) p.flight.items c.args.place lane e))
    c.enter_all.ensures.items c.enter_all.ensures.capacity
    c.remove-lane.ensures.items (omega (arith, c.remove-lane.ensures.len, c.requires.place)) (omega (arith, c.remove-lane.ensures.capacity)) c.note.ensures.items c.note.ensures.len c.note.ensures.capacity

pub returns-clause-state : goal.returns-clause-state
returns-clause-state c = λ l h.
    let p = c.args.parts.now in
    let lane = c.remove-lane.result in
    let e = lane-at p.flight.items c.args.place lane c.requires.place c.remove-lane.ensures.value in
    let b = (flies-at p c.args.place lane e c.requires.kept).busy in
    let t = c.commit-released.new.quads in
    let r = c.commit-released.result in
    let next = next_of lane.effects in
    let at = own-seen p c.args.place lane e c.requires.kept t.store c.target_of-actor.result next c.target_of-actor.ensures c.commit-released.ensures.seen in
    let same : lane_of p.quads.store lane ≡ l = some (sym (get-map (lane_of p.quads.store) p.flight.items c.args.place lane e) ∙ h) in
    state-committed p c.args.place lane e c.requires.kept t c.make_idle.new.quads r.actors r.first_actor c.remove-lane.new.self c.enter_all.new.roll c.append_all.new.queue c.note.new.journal (code_after next b.0) (state_after next b.1)
    (subst (λ (w : W). Framed p.quads.store t.store (w ∷ [])) c.target_of-actor.ensures c.commit-released.ensures.frame)
    (at ∙ resting-slot next b.0 b.1 (Fix (pos lane.number)) (seen p.quads.store) (own_at (seen p.quads.store) lane.event).actor)
    c.commit-released.ensures.room c.commit-released.ensures.created c.commit-released.ensures.created_linked c.make_idle.ensures.frame c.make_idle.ensures.seen c.make_idle.ensures.room
    (c.append_all.ensures ∙ ap (λ (l : List Sent). appended p.queue (sent_words l)) c.commit-released.ensures.sent)
    (c.requires.fits (lane_of p.quads.store lane) (get-map (lane_of p.quads.store) p.flight.items c.args.place lane e))
    c.enter_all.ensures.items c.enter_all.ensures.capacity
    c.remove-lane.ensures.items (omega (arith, c.remove-lane.ensures.len, c.requires.place)) (omega (arith, c.remove-lane.ensures.capacity)) c.note.ensures.items c.note.ensures.len c.note.ensures.capacity
    next (slot-after next b.0 b.1) refl
    ∙ ap (λ (x : Flying). finish (state_of p) c.args.place x (state_of p).sheet x.effects Committed) same
  where
    some : {x y : Flying} → Some x ≡ Some y → x ≡ y
    some k = cc

    slot-after : (next : Option Behaviour) (code state : W) → ActorSlot (code_after next code) (state_after next state) undef ≡ resting next code state
    slot-after None code state = refl
    slot-after (Some b) code state = refl

pub returns-clause-entry : goal.returns-clause-entry
returns-clause-entry c = λ l h.
    let p = c.args.parts.now in
    let lane = c.remove-lane.result in
    let e = lane-at p.flight.items c.args.place lane c.requires.place c.remove-lane.ensures.value in
    ap (λ (o : Option Flying). entry (number_or o) Committed) (sym (get-map (lane_of p.quads.store) p.flight.items c.args.place lane e) ∙ h)
  where
    number_or : Option Flying → ℕ
    number_or None = 0
    number_or (Some x) = x.number
