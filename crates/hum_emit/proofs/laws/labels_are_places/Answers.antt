use Rattle.hum_emit.proofs.Compiling.{labels_are_places}
use Rattle.hum_emit.proofs.laws.labels_are_places.Goals as goal

pub returns : goal.returns
returns c = labels_are_places
