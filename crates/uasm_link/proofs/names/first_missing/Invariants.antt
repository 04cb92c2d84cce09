use Rattle.std.proofs.Common.{◌≡◌, map, not, length}
use Rattle.std.specs.List.{find}
use Rattle.uasm_read.specs.Reading.{holds}
use Rattle.uasm_link.proofs.names.first_missing.Given as goal

abbrev pub invariant-loop-rest : goal.invariant-loop-rest
invariant-loop-rest l = find (λ name. not (holds l.set name)) (map (λ name. name.now) l.rest) ≡ find (λ name. not (holds l.set name)) (map (λ name. name.now) l.names)

abbrev pub decreases-loop-rest : goal.decreases-loop-rest
decreases-loop-rest l = length l.rest
