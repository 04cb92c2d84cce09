use Rattle.hum_core.proofs.Meant.{resolved_means}
use Rattle.hum_core.proofs.laws.resolved_trees_mean_the_same.Goals as goal

pub returns : goal.returns
returns c = resolved_means
