use Rattle.vm_turn.proofs.RunsSound.{events-stand_once}
use Rattle.vm_turn.proofs.laws.events_stand_once.Goals as goal

pub returns : goal.returns
returns c = events-stand_once
