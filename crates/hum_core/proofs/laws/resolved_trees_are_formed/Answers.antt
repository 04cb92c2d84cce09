use Rattle.hum_core.proofs.ResolvedFormed.{resolved-trees-are-formed}
use Rattle.hum_core.proofs.laws.resolved_trees_are_formed.Goals as goal

pub returns : goal.returns
returns c = resolved-trees-are-formed
