use Rattle.vm_turn.proofs.Rolls.{rolls-stand}
use Rattle.vm_turn.proofs.laws.rolls_stand.Goals as goal

pub returns : goal.returns
returns c = rolls-stand
