use Rattle.hum_sim.proofs.Turned.{turns_keep_the_standing}
use Rattle.hum_sim.proofs.laws.turns_keep_the_standing.Goals as goal

pub returns : goal.returns
returns c = turns_keep_the_standing
