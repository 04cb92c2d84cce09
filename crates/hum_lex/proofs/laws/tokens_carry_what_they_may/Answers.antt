use Rattle.hum_lex.proofs.Places.{tokens_are_carried}
use Rattle.hum_lex.proofs.laws.tokens_carry_what_they_may.Goals as goal

pub returns : goal.returns
returns c = tokens_are_carried
