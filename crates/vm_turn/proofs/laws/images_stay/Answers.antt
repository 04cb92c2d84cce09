use Rattle.vm_turn.proofs.Images.{run-rom}
use Rattle.vm_turn.proofs.laws.images_stay.Goals as goal

pub returns : goal.returns
returns c = run-rom
