use Rattle.hum_syntax.proofs.SizedTrees.{spelled_size}
use Rattle.hum_syntax.proofs.laws.trees_are_light.Goals as goal

pub returns : goal.returns
returns c = spelled_size
