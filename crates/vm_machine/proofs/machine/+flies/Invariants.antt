use Rattle.std.proofs.Common.{length}
use Rattle.vm_machine.proofs.machine.+flies.Given as goal

abbrev pub decreases-flies : goal.decreases-flies
decreases-flies l = length l.flight.now
