use Rattle.std.proofs.Common.{◌≡◌, length}
use Rattle.std.specs.Prelude.{◌||◌}
use Rattle.std.specs.List.{flat_map}
use Rattle.uasm_read.specs.Texts.{Name, has_name}
use Rattle.uasm_read.specs.Reading.{holds, names_by}
use Rattle.uasm_read.proofs.faults.names_of.Given as goal

abbrev pub invariant-loop-rest : goal.invariant-loop-rest
invariant-loop-rest l = (name : Name) → (holds l.names name || has_name (flat_map (names_by l.which) l.rest) name) ≡ has_name (flat_map (names_by l.which) l.lines) name

abbrev pub decreases-loop-rest : goal.decreases-loop-rest
decreases-loop-rest l = length l.rest
