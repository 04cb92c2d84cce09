use Rattle.vm_turn.proofs.Order.{least-goes-first}
use Rattle.vm_turn.proofs.laws.least_goes_first.Goals as goal

pub returns : goal.returns
returns c = least-goes-first
