use Rattle.hum_code.proofs.Programs.{messages_under_own}
use Rattle.hum_code.proofs.laws.messages_are_under_the_payer.Goals as goal

pub returns : goal.returns
returns c = messages_under_own
