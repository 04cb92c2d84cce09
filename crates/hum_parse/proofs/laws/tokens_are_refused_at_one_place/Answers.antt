use Rattle.hum_parse.proofs.Place.{one_place}
use Rattle.hum_parse.proofs.laws.tokens_are_refused_at_one_place.Goals as goal

pub returns : goal.returns
returns c = one_place
