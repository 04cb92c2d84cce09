use Rattle.hum_lex.proofs.Refusals.{never_both}
use Rattle.hum_lex.proofs.laws.refused_texts_have_no_tokens.Goals as goal

pub returns : goal.returns
returns c = never_both
