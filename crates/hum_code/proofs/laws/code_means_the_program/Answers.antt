use Rattle.hum_code.proofs.Law.{events_follow}
use Rattle.hum_code.proofs.laws.code_means_the_program.Goals as goal

pub returns : goal.returns
returns c = events_follow
