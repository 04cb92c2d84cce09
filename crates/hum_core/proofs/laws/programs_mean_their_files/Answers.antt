use Rattle.hum_core.proofs.Programs.{programs_mean}
use Rattle.hum_core.proofs.laws.programs_mean_their_files.Goals as goal

pub returns : goal.returns
returns c = programs_mean
