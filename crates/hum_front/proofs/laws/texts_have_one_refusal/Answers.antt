use Rattle.hum_front.proofs.Programs.{one_refusal}
use Rattle.hum_front.proofs.laws.texts_have_one_refusal.Goals as goal

pub returns : goal.returns
returns c = one_refusal
