use Rattle.hum_code.proofs.Programs.{programs_follow}
use Rattle.hum_code.proofs.laws.programs_follow.Goals as goal

pub returns : goal.returns
returns c = programs_follow
