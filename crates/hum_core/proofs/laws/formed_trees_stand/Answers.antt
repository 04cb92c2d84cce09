use Rattle.hum_core.proofs.Standing.{formed-trees-stand}
use Rattle.hum_core.proofs.laws.formed_trees_stand.Goals as goal

pub returns : goal.returns
returns c = formed-trees-stand
