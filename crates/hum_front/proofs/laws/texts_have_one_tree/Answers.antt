use Rattle.hum_front.proofs.Programs.{same_reading}
use Rattle.hum_front.proofs.laws.texts_have_one_tree.Goals as goal

pub returns : goal.returns
returns c = same_reading
