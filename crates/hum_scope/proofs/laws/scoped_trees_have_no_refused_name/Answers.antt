use Rattle.hum_scope.proofs.Counts.{scoped-trees}
use Rattle.hum_scope.proofs.laws.scoped_trees_have_no_refused_name.Goals as goal

pub returns : goal.returns
returns c = scoped-trees
