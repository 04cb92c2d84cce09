use Rattle.hum_syntax.proofs.NamedTrees.{spelled_name_at}
use Rattle.hum_syntax.proofs.laws.names_have_tokens.Goals as goal

pub returns : goal.returns
returns c = spelled_name_at
