use Rattle.vm_turn.proofs.Started.{events-have_begun}
use Rattle.vm_turn.proofs.laws.events_have_begun.Goals as goal

pub returns : goal.returns
returns c = events-have_begun
