use Rattle.hum_sim.proofs.Stops.{runs_follow_their_journals}
use Rattle.hum_sim.proofs.laws.runs_follow_their_journals.Goals as goal

pub returns : goal.returns
returns c = runs_follow_their_journals
