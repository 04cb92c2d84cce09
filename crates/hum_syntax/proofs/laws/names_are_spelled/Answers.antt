use Rattle.hum_syntax.proofs.NamedTrees.{spelled_names}
use Rattle.hum_syntax.proofs.laws.names_are_spelled.Goals as goal

pub returns : goal.returns
returns c = spelled_names
