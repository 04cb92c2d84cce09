use Rattle.hum_core.proofs.Meant.{lowered_means}
use Rattle.hum_core.proofs.laws.lowered_trees_mean_the_same.Goals as goal

pub returns : goal.returns
returns c = lowered_means
