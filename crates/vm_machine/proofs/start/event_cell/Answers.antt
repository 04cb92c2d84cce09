use Rattle.vm_step.proofs.Known.{event-known}
use Rattle.vm_machine.proofs.Beginning.{startable}
use Rattle.vm_machine.proofs.start.event_cell.Goals as goal

pub known_event-requires : goal.known_event-requires
known_event-requires c =
    let s = c.args.quads.now.store in
    let can = startable s c.args.event c.requires in
    event-known s c.args.event can.sponsor can.target can.content can.event
