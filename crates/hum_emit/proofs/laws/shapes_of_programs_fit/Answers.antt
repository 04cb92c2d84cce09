use Rattle.hum_emit.proofs.ShapeFiles.{shapes-fit}
use Rattle.hum_emit.proofs.laws.shapes_of_programs_fit.Goals as goal

pub returns : goal.returns
returns c = shapes-fit
