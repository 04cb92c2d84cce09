use Rattle.vm_turn.proofs.RunsSound.{turns-end}
use Rattle.vm_turn.proofs.laws.turns_end.Goals as goal

pub returns : goal.returns
returns c = turns-end
