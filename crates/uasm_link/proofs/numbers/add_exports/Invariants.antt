use Rattle.std.proofs.Common.{◌≡◌, length}
use Rattle.std.specs.Option.{option_or}
use Rattle.std.specs.Prelude.{None, if◌then◌else◌}
use Rattle.uasm_read.specs.Texts.{Name, has_name}
use Rattle.uasm_link.specs.Numbering.{number_in}
use Rattle.uasm_link.proofs.numbers.add_exports.Given as goal

abbrev pub invariant-loop-rest : goal.invariant-loop-rest
invariant-loop-rest l = (name : Name) → option_or (number_in l.numbers name) (if has_name l.rest name then number_in l.labels name else None) ≡ option_or (number_in l.fn.numbers name) (if has_name l.exports name then number_in l.labels name else None)

abbrev pub decreases-loop-rest : goal.decreases-loop-rest
decreases-loop-rest l = length l.rest
