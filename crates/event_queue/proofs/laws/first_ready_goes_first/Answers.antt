use Rattle.event_queue.proofs.FirstToGo.{first-ready_goes_first}
use Rattle.event_queue.proofs.laws.first_ready_goes_first.Goals as goal

pub returns : goal.returns
returns c = first-ready_goes_first
