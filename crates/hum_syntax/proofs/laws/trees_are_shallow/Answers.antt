use Rattle.hum_syntax.proofs.ShallowTrees.{shallow}
use Rattle.hum_syntax.proofs.laws.trees_are_shallow.Goals as goal

pub returns : goal.returns
returns c = shallow
