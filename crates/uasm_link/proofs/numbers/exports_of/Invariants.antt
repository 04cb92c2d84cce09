use Rattle.std.proofs.Common.{◌≡◌, ◌+◌, ◌≤◌, length}
use Rattle.std.specs.Option.{option_or}
use Rattle.uasm_read.specs.Texts.{Name}
use Rattle.uasm_link.specs.Numbering.{number_in}
use Rattle.uasm_read.specs.Links.{export_number, first_number, count_of_items, item_limit}
use Rattle.uasm_link.proofs.numbers.exports_of.Given as goal

abbrev pub invariant-loop-rest : goal.invariant-loop-rest
invariant-loop-rest l = record {
  numbered : (name : Name) → option_or (number_in l.numbers name) (export_number l.at l.rest name) ≡ export_number first_number l.modules name;
  within : l.at + count_of_items l.rest ≤ first_number + item_limit;
}

abbrev pub decreases-loop-rest : goal.decreases-loop-rest
decreases-loop-rest l = length l.rest
