use Rattle.std.proofs.Common.{map, length}
use Rattle.uasm_read.specs.Reading.{holds}
use Rattle.uasm_link.proofs.Twice.{Before}
use Rattle.uasm_link.proofs.names.first_twice.Given as goal

abbrev pub invariant-loop-rest : goal.invariant-loop-rest
invariant-loop-rest l = Before (holds l.before) (map (λ name. name.now) l.rest) (map (λ name. name.now) l.names)

abbrev pub decreases-loop-rest : goal.decreases-loop-rest
decreases-loop-rest l = length l.rest
