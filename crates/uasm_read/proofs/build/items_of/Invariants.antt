use Rattle.std.proofs.Common.{◌≡◌, ◌++◌, [], length}
use Rattle.uasm_read.specs.Assembles.{items_of as items_in}
use Rattle.uasm_read.proofs.build.items_of.Given as goal

abbrev pub invariant-loop-rest : goal.invariant-loop-rest
invariant-loop-rest l = l.items.items ++ items_in l.labels.items l.rest ≡ items_in [] l.lines

abbrev pub decreases-loop-rest : goal.decreases-loop-rest
decreases-loop-rest l = length l.rest
