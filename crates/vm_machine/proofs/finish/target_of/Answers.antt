use Rattle.std.proofs.Common.{Option, ap, sym}
use Rattle.cap_words.specs.Seen.{Slot}
use Rattle.vm_turn.specs.Actors.{sent_in}
use Rattle.vm_step.proofs.Known.{event-known, event-seen}
use Rattle.vm_machine.proofs.finish.target_of.Goals as goal

pub known_event-requires : goal.known_event-requires
known_event-requires c = let e = c.requires in event-known c.args.quads.now.store c.args.event e.0 e.1 e.2 e.3

pub returns : goal.returns
returns c =
    let cell = event-seen c.args.quads.now.store c.args.event c.known_event.result c.known_event.ensures in
    sym (ap (λ (o : Option Slot). (sent_in c.args.event o).target) cell)
