use Rattle.hum_front.proofs.Programs.{never_both}
use Rattle.hum_front.proofs.laws.refused_texts_are_not_accepted.Goals as goal

pub returns : goal.returns
returns c = never_both
