use Rattle.std.proofs.Common.{◌≡◌, ◌≤◌, ◌<◌, ◌^◌, ◌++◌, ◌+◌, length, reverse}
use Rattle.std.specs.List.{All}
use Rattle.hum_emit.specs.Module as spec
use Rattle.hum_emit.proofs.module.add_code_items.Given as goal

abbrev pub invariant-loop-rest : goal.invariant-loop-rest
invariant-loop-rest l =
    (l.items.items ++ spec.code_items (length l.code) (reverse l.rest) l.k l.later ≡ l.fn.items.items ++ spec.code_items (length l.code) (reverse l.code) 0 l.entries)
    × (l.k + length l.rest ≤ length l.code) × All (λ x. x.operation < 2 ^ 30) l.rest

abbrev pub decreases-loop-rest : goal.decreases-loop-rest
decreases-loop-rest l = length l.rest
