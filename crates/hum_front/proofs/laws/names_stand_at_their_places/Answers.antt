use Rattle.hum_front.proofs.NamePlaces.{names_stand}
use Rattle.hum_front.proofs.laws.names_stand_at_their_places.Goals as goal

pub returns : goal.returns
returns c = names_stand
