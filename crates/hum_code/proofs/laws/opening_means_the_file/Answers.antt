use Rattle.hum_code.proofs.Law.{openings_follow}
use Rattle.hum_code.proofs.laws.opening_means_the_file.Goals as goal

pub returns : goal.returns
returns c = openings_follow
