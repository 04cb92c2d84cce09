use Rattle.hum_lex.proofs.Wholes.{one_list}
use Rattle.hum_lex.proofs.laws.texts_have_one_token_list.Goals as goal

pub returns : goal.returns
returns c = one_list
