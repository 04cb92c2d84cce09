use Rattle.hum_parse.proofs.Answered.{one_at_each_level}
use Rattle.hum_parse.proofs.laws.tokens_spell_one_tree_at_each_level.Goals as goal

pub returns : goal.returns
returns c = one_at_each_level
