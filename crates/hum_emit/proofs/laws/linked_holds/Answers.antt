use Rattle.hum_emit.proofs.Images.{linked_holds}
use Rattle.hum_emit.proofs.laws.linked_holds.Goals as goal

pub returns : goal.returns
returns c = linked_holds
