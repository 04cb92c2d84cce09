use Rattle.vm_turn.proofs.Order.{others-wait}
use Rattle.vm_turn.proofs.laws.others_wait.Goals as goal

pub returns : goal.returns
returns c = others-wait
