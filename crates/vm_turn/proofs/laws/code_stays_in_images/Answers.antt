use Rattle.vm_turn.proofs.Images.{run-code_out}
use Rattle.vm_turn.proofs.laws.code_stays_in_images.Goals as goal

pub returns : goal.returns
returns c = run-code_out
