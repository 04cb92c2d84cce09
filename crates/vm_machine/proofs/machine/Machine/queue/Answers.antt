use Rattle.std.proofs.Common.{◌≡◌, false, subst}
use Rattle.instr_table.specs.Lane.{Lane as Flying}
use Rattle.instr_table.specs.Reach.{Every}
use Rattle.vm_sponsor.specs.Ledger.{names}
use Rattle.vm_machine.specs.Machine.{Machine}
use Rattle.vm_machine.specs.Messages.{is_among}
use Rattle.vm_machine.proofs.Counting.{none-ready}
use Rattle.vm_machine.proofs.machine.Machine.queue.Goals as goal

pub returns-clause-ready : goal.returns-clause-ready
returns-clause-ready c =
    let p = c.self.inside.parts in
    subst (λ (m : Machine). Every (λ (l : Flying). is_among l.number p.queue.ready ≡ false) m.state.flight) c.self.view_is
    (none-ready p.quads.store (names p.sheet.rows) p.queue.given p.queue.ready p.flight.items c.self.invariant.0.kept.flying)
