use Rattle.std.proofs.Common.{List, ap, ◌∙◌}
use Rattle.vm_step.specs.declared.lane.Lane.{Lane}
use Rattle.vm_turn.specs.Turn.{is_in_flight}
use Rattle.vm_machine.specs.Flight.{flight_of}
use Rattle.vm_machine.specs.Machine.{Machine}
use Rattle.vm_machine.proofs.machine.Machine.in_flight.Goals as goal

pub returns : goal.returns
returns c =
    let s = c.self.inside.parts.quads.store in
    c.flies.ensures s ∙ ap (λ (ls : List Lane). is_in_flight c.args.number (flight_of s ls)) c.deref.ensures.value ∙ ap (λ (m : Machine). is_in_flight c.args.number m.state.flight) c.self.view_is
