use Rattle.vm_devices.proofs.Trees.{trees_are}
use Rattle.vm_devices.proofs.laws.trees_are_unfoldings.Goals as goal

pub returns : goal.returns
returns c = trees_are
