use Rattle.vm_turn.proofs.Ended.{ended-actors-rest}
use Rattle.vm_turn.proofs.laws.ended_actors_rest.Goals as goal

pub returns : goal.returns
returns c = ended-actors-rest
