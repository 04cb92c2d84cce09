use Rattle.vm_turn.proofs.Alone.{run-under}
use Rattle.vm_turn.proofs.laws.root_stays_alone.Goals as goal

pub returns : goal.returns
returns c = run-under
