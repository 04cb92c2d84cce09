use Rattle.hum_parse.proofs.Decided.{one_of_both}
use Rattle.hum_parse.proofs.laws.tokens_spell_a_tree_or_are_refused.Goals as goal

pub returns : goal.returns
returns c = one_of_both
