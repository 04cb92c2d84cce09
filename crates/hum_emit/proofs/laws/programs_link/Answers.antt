use Rattle.hum_emit.proofs.SizeUnits.{programs_link}
use Rattle.hum_emit.proofs.laws.programs_link.Goals as goal

pub returns : goal.returns
returns c = programs_link
