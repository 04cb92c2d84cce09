use Rattle.hum_lex.proofs.Places.{tokens_stand}
use Rattle.hum_lex.proofs.laws.tokens_stand_at_their_places.Goals as goal

pub returns : goal.returns
returns c = tokens_stand
