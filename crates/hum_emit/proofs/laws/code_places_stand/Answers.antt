use Rattle.hum_emit.proofs.CodePlaces.{code_places_stand}
use Rattle.hum_emit.proofs.laws.code_places_stand.Goals as goal

pub returns : goal.returns
returns c = code_places_stand
