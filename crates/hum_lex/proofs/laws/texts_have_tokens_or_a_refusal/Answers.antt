use Rattle.hum_lex.proofs.Decided.{one_of_both}
use Rattle.hum_lex.proofs.laws.texts_have_tokens_or_a_refusal.Goals as goal

pub returns : goal.returns
returns c = one_of_both
