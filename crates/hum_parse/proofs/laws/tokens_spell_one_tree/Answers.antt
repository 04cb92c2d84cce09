use Rattle.hum_parse.proofs.Answered.{one_tree}
use Rattle.hum_parse.proofs.laws.tokens_spell_one_tree.Goals as goal

pub returns : goal.returns
returns c = one_tree
