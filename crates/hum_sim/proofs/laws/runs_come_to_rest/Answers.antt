use Rattle.hum_sim.proofs.OneLane.{runs_come_to_rest}
use Rattle.hum_sim.proofs.laws.runs_come_to_rest.Goals as goal

pub returns : goal.returns
returns c = runs_come_to_rest
