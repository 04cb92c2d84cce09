use Rattle.vm_turn.proofs.RunsSound.{grants-are_conserved}
use Rattle.vm_turn.proofs.laws.grants_are_conserved.Goals as goal

pub returns : goal.returns
returns c = grants-are_conserved
