use Rattle.hum_syntax.proofs.FormedTrees.{spelled_formed}
use Rattle.hum_syntax.proofs.laws.spelled_trees_are_formed.Goals as goal

pub returns : goal.returns
returns c = spelled_formed
