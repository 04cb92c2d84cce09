use Rattle.hum_front.proofs.Programs.{one_of_both}
use Rattle.hum_front.proofs.laws.each_text_is_accepted_or_refused.Goals as goal

pub returns : goal.returns
returns c = one_of_both
