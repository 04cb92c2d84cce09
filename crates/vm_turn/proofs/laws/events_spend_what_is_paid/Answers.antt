use Rattle.vm_turn.proofs.Charged.{events-spend_paid}
use Rattle.vm_turn.proofs.laws.events_spend_what_is_paid.Goals as goal

pub returns : goal.returns
returns c = events-spend_paid
