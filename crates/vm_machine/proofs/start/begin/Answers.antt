use Rattle.std.proofs.Common.{◌∷◌, [], ◌++◌, ap, ◌∙◌, subst, arith, pos}
use Rattle.std.proofs.lemmas.Option.{slice_get_within}
use Rattle.cap_words.specs.Words.{W, Fix, nil}
use Rattle.cap_words.specs.Store.{cap_place}
use Rattle.cap_words.specs.Seen.{ActorSlot, seen, slot_seen, altered}
use Rattle.cap_words.specs.Frame.{Framed}
use Rattle.vm_machine.proofs.Beginning.{startable, startable-target, actor-marked, few-events, kept-begun, state-begun}
use Rattle.vm_machine.proofs.start.begin.Goals as goal

pub actor_cell-actor-requires : goal.actor_cell-actor-requires
actor_cell-actor-requires c =
    let s = c.args.parts.now.quads.store in
    let can = startable s c.args.event c.requires.starts in
    (can.code, can.state, ap (slot_seen (seen s)) (startable-target s c.args.event c.event_cell.result can c.event_cell.ensures) ∙ can.actor)

pub busy_mark-requires : goal.busy_mark-requires
busy_mark-requires c =
    let p = c.args.parts.now in
    let k = c.requires.kept in
    let within = slice_get_within p.queue.given c.args.number c.args.event c.requires.event in
    let few = few-events p.grant.memory p.grant.events p.grant.cycles k.granted in
    omega (arith, within, few, k.given_room, k.queue_room)

pub returns-clause-kept : goal.returns-clause-kept
returns-clause-kept c =
    let p = c.args.parts.now in
    let s = p.quads.store in
    let can = startable s c.args.event c.requires.starts in
    let target = startable-target s c.args.event c.event_cell.result can c.event_cell.ensures in
    let there = ap (slot_seen (seen s)) target ∙ can.actor in
    let m = actor-marked p.quads c.set_actor.new.self c.event_cell.result.target can.code can.state c.actor_cell-actor.result c.busy_mark.result (pos c.args.number) there c.actor_cell-actor.ensures c.busy_mark.ensures c.set_actor.ensures in
    let x = c.begin.result in
    kept-begun p c.requires.kept c.args.number c.args.event c.requires.free c.requires.ready c.requires.event can c.set_actor.new.self c.remove.new.self c.add_lane.new.flight x
    c.begin.ensures.effects c.begin.ensures.linked
    (subst (λ (w : W). Framed s c.set_actor.new.self.store (w ∷ [])) target m.1) (m.0 ∙ ap (λ (w : W). altered (seen s) (cap_place w) (ActorSlot can.code can.state (Fix (pos c.args.number)))) target) m.2
    c.remove.ensures
    (c.add_lane.ensures.items ∙ ap (λ (w : W). p.flight.items ++ record { number = c.args.number; event = c.args.event; code = w; stack = nil; depth = 0; effects = x } ∷ []) m.3) c.add_lane.ensures.len c.add_lane.ensures.capacity

pub returns-clause-state : goal.returns-clause-state
returns-clause-state c =
    let p = c.args.parts.now in
    let s = p.quads.store in
    let can = startable s c.args.event c.requires.starts in
    let target = startable-target s c.args.event c.event_cell.result can c.event_cell.ensures in
    let there = ap (slot_seen (seen s)) target ∙ can.actor in
    let m = actor-marked p.quads c.set_actor.new.self c.event_cell.result.target can.code can.state c.actor_cell-actor.result c.busy_mark.result (pos c.args.number) there c.actor_cell-actor.ensures c.busy_mark.ensures c.set_actor.ensures in
    let x = c.begin.result in
    state-begun p c.requires.kept c.args.number c.args.event c.requires.free c.requires.ready c.requires.event can c.set_actor.new.self c.remove.new.self c.add_lane.new.flight x
    c.begin.ensures.effects c.begin.ensures.linked
    (subst (λ (w : W). Framed s c.set_actor.new.self.store (w ∷ [])) target m.1) (m.0 ∙ ap (λ (w : W). altered (seen s) (cap_place w) (ActorSlot can.code can.state (Fix (pos c.args.number)))) target) m.2
    c.remove.ensures
    (c.add_lane.ensures.items ∙ ap (λ (w : W). p.flight.items ++ record { number = c.args.number; event = c.args.event; code = w; stack = nil; depth = 0; effects = x } ∷ []) m.3) c.add_lane.ensures.len c.add_lane.ensures.capacity
