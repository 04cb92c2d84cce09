use Rattle.vm_turn.proofs.Rights.{events-keep_authority}
use Rattle.vm_turn.proofs.laws.events_keep_authority.Goals as goal

pub returns : goal.returns
returns c = events-keep_authority
