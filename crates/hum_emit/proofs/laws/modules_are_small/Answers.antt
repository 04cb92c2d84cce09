use Rattle.hum_emit.proofs.SizeUnits.{modules_are_small}
use Rattle.hum_emit.proofs.laws.modules_are_small.Goals as goal

pub returns : goal.returns
returns c = modules_are_small
