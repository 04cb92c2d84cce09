use Rattle.vm_turn.proofs.Changed.{turns-change}
use Rattle.vm_turn.proofs.laws.turns_change.Goals as goal

pub returns : goal.returns
returns c = turns-change
