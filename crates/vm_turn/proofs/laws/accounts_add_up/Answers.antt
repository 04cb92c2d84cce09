use Rattle.vm_turn.proofs.RunsSound.{accounts-add_up}
use Rattle.vm_turn.proofs.laws.accounts_add_up.Goals as goal

pub returns : goal.returns
returns c = accounts-add_up
