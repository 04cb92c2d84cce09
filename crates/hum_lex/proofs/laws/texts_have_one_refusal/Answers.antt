use Rattle.hum_lex.proofs.Refusals.{one_refusal}
use Rattle.hum_lex.proofs.laws.texts_have_one_refusal.Goals as goal

pub returns : goal.returns
returns c = one_refusal
