use Rattle.hum_core.proofs.SizedUnits.{programs_are_small}
use Rattle.hum_core.proofs.laws.programs_are_small.Goals as goal

pub returns : goal.returns
returns c = programs_are_small
