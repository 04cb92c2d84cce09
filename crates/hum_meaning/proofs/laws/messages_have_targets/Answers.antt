use Rattle.hum_meaning.proofs.SoundLaw.{target_there}
use Rattle.hum_meaning.proofs.laws.messages_have_targets.Goals as goal

pub returns : goal.returns
returns c = target_there
