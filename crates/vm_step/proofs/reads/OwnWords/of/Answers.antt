use Rattle.std.proofs.Common.{◌≡◌, Option, ap, sym, ◌∙◌}
use Rattle.cap_words.specs.Seen.{Slot, seen, slot_seen}
use Rattle.vm_turn.specs.Actors.{sent_in}
use Rattle.vm_step.specs.Flight.{own_at}
use Rattle.vm_step.proofs.Known.{event-known, actor-known, event-seen}
use Rattle.vm_step.proofs.reads.OwnWords.of.Goals as goal

pub known_event-message-requires : goal.known_event-message-requires
known_event-message-requires c = let e = c.requires.sent in event-known c.args.quads.now.store c.args.event e.0 e.1 e.2 e.3

pub known_actor-actor-requires : goal.known_actor-actor-requires
known_actor-actor-requires c =
    let s = c.args.quads.now.store in
    let message = c.known_event-message.result in
    let target : (own_at (seen s) c.args.event).actor ≡ message.target = ap (λ (o : Option Slot). (sent_in c.args.event o).target) (event-seen s c.args.event message c.known_event-message.ensures) in
    let a = c.requires.actor in
    actor-known s message.target a.0 a.1 a.2 (ap (slot_seen (seen s)) (sym target) ∙ a.3)
