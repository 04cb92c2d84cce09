use Rattle.std.proofs.Common.{◌≡◌, map, length}
use Rattle.std.specs.Prelude.{◌||◌}
use Rattle.uasm_read.specs.Texts.{Name, has_name}
use Rattle.uasm_read.specs.Reading.{holds}
use Rattle.uasm_link.proofs.names.set_of.Given as goal

abbrev pub invariant-loop-rest : goal.invariant-loop-rest
invariant-loop-rest l = (name : Name) → (holds l.set name || has_name (map (λ name. name.now) l.rest) name) ≡ has_name (map (λ name. name.now) l.names) name

abbrev pub decreases-loop-rest : goal.decreases-loop-rest
decreases-loop-rest l = length l.rest
