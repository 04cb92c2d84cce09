use Rattle.std.proofs.Common.{◌≡◌, ℕ, ◌+◌, Option, Some, None, refl, sym, ap, ◌∙◌, arith}
use Rattle.std.specs.Option.{option_or}
use Rattle.uasm_read.specs.Texts.{has_name}
use Rattle.uasm_read.proofs.Fronts.{behind, front_item, no_item, length-behind}
use Rattle.uasm_link.specs.Numbering.{number_in}
use Rattle.uasm_link.proofs.Steps.{step_if, label_front, no_label}
use Rattle.uasm_read.specs.Links.{label_number}
use Rattle.uasm_link.proofs.numbers.labels_of.Goals as goal

pub loop-rest-preserved : goal.loop-rest-preserved
loop-rest-preserved c =
    let rest = c.loop-rest.rest.now in
    let item = c.item-item.result in
    let split = front_item rest item c.in-len1-up.len_at_least c.item-item.is in
    record {
      numbered = λ name.
          step_if (number_in c.loop-rest.numbers name) (number_in c.add_labels.new.numbers name) (has_name item.labels name) c.loop-rest.at (label_number (c.loop-rest.at + 1) (behind rest) name) (rw c.as_slice.ensures at (c.in_ok-add_labels.ensures name))
          ∙ ap (option_or (number_in c.loop-rest.numbers name)) (sym (label_front c.loop-rest.at rest item (behind rest) name split)) ∙ c.loop-rest.invariant.numbered name;
      within = omega (arith, length-behind rest c.in-len1-up.len_at_least, c.loop-rest.invariant.within);
    }

or_nothing : (o : Option ℕ) → option_or o None ≡ o
or_nothing None = refl
or_nothing (Some x) = refl

pub returns : goal.returns
returns c = λ name.
    sym (or_nothing (number_in c.loop-rest.numbers name))
    ∙ ap (option_or (number_in c.loop-rest.numbers name)) (sym (ap (λ r. label_number c.loop-rest.at r name) (no_item c.loop-rest.rest.now c.in_default.len_below) ∙ no_label c.loop-rest.at name))
    ∙ c.loop-rest.invariant.numbered name
