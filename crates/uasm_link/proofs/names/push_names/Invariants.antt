use Rattle.std.proofs.Common.{◌≡◌, ◌++◌, map, length}
use Rattle.uasm_link.proofs.names.push_names.Given as goal

abbrev pub invariant-loop-rest : goal.invariant-loop-rest
invariant-loop-rest l = map (λ name. name.now) l.found.items ++ l.rest ≡ map (λ name. name.now) l.fn.found.items ++ l.names

abbrev pub decreases-loop-rest : goal.decreases-loop-rest
decreases-loop-rest l = length l.rest
