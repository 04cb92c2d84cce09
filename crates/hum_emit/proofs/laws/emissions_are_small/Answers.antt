use Rattle.hum_emit.proofs.SizeUnits.{emissions_are_small}
use Rattle.hum_emit.proofs.laws.emissions_are_small.Goals as goal

pub returns : goal.returns
returns c = emissions_are_small
