use Rattle.std.proofs.Common.{◌≡◌, ◌+◌, ◌<◌, ◌^◌, length}
use Rattle.std.specs.Option.{option_or}
use Rattle.uasm_read.specs.Texts.{Name}
use Rattle.uasm_link.specs.Numbering.{number_in}
use Rattle.uasm_read.specs.Links.{label_number}
use Rattle.uasm_link.proofs.numbers.labels_of.Given as goal

abbrev pub invariant-loop-rest : goal.invariant-loop-rest
invariant-loop-rest l = record {
  numbered : (name : Name) → option_or (number_in l.numbers name) (label_number l.at l.rest name) ≡ label_number l.fn.at l.items name;
  within : l.at + length l.rest < 2 ^ 29;
}

abbrev pub decreases-loop-rest : goal.decreases-loop-rest
decreases-loop-rest l = length l.rest
