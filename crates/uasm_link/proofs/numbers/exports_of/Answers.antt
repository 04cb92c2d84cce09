use Rattle.std.proofs.Common.{◌≡◌, ℕ, ◌+◌, length, Option, Some, None, refl, sym, ap, ◌∙◌, arith}
use Rattle.std.specs.Prelude.{if◌then◌else◌}
use Rattle.std.specs.Option.{option_or}
use Rattle.uasm_read.specs.Texts.{has_name}
use Rattle.uasm_read.proofs.Fronts.{behind, front_item, no_item}
use Rattle.uasm_link.specs.Numbering.{number_in}
use Rattle.uasm_link.proofs.Steps.{step_some, export_found, export_front, count_front, no_export}
use Rattle.uasm_read.specs.Links.{label_number, export_number}
use Rattle.uasm_link.proofs.numbers.exports_of.Goals as goal

pub labels_of-requires : goal.labels_of-requires
labels_of-requires c =
    let rest = c.loop-rest.rest.now in
    let counted = count_front rest c.part-item.result (behind rest) (front_item rest c.part-item.result c.in-len1-up.len_at_least c.part-item.is) in
    let same = ap length c.items-items.ensures.value in
    omega (arith, counted, same, c.loop-rest.invariant.within)

pub overflow_cast-at : goal.overflow_cast-at
overflow_cast-at c =
    let rest = c.loop-rest.rest.now in
    let counted = count_front rest c.part-item.result (behind rest) (front_item rest c.part-item.result c.in-len1-up.len_at_least c.part-item.is) in
    let same = ap length c.items-items.ensures.value in
    omega (arith, counted, same, c.loop-rest.invariant.within)

pub overflow_add-at : goal.overflow_add-at
overflow_add-at c =
    let rest = c.loop-rest.rest.now in
    let counted = count_front rest c.part-item.result (behind rest) (front_item rest c.part-item.result c.in-len1-up.len_at_least c.part-item.is) in
    let same = ap length c.items-items.ensures.value in
    omega (arith, counted, same, c.loop-rest.invariant.within)

pub loop-rest-preserved : goal.loop-rest-preserved
loop-rest-preserved c =
    let rest = c.loop-rest.rest.now in
    let m = c.part-item.result in
    let split = front_item rest m c.in-len1-up.len_at_least c.part-item.is in
    let counted = count_front rest m (behind rest) split in
    let same = ap length c.items-items.ensures.value in
    record {
      numbered = λ name.
          rw c.items-items.ensures.value
          (step_some (number_in c.loop-rest.numbers name) (number_in c.add_exports.new.numbers name) (label_number c.loop-rest.at m.items name) (has_name m.exports name) (export_number (c.loop-rest.at + length m.items) (behind rest) name)
          (c.in_ok-add_exports.ensures name
          ∙ ap (λ es. option_or (number_in c.loop-rest.numbers name) (if has_name es name then number_in c.in_ok-labels.labels name else None)) c.exports.ensures.value
          ∙ ap (λ o. option_or (number_in c.loop-rest.numbers name) (if has_name m.exports name then o else None)) (c.in_ok-labels.ensures name ∙ ap (λ items. label_number c.loop-rest.at items name) c.items-items.ensures.value))
          (export_found c.loop-rest.at m name c.items-items.ensures.is_module)
          ∙ ap (option_or (number_in c.loop-rest.numbers name)) (sym (export_front c.loop-rest.at rest m (behind rest) name split)) ∙ c.loop-rest.invariant.numbered name);
      within = omega (arith, counted, same, c.loop-rest.invariant.within);
    }

or_nothing : (o : Option ℕ) → option_or o None ≡ o
or_nothing None = refl
or_nothing (Some x) = refl

pub returns : goal.returns
returns c = λ name.
    sym (or_nothing (number_in c.loop-rest.numbers name))
    ∙ ap (option_or (number_in c.loop-rest.numbers name)) (sym (ap (λ r. export_number c.loop-rest.at r name) (no_item c.loop-rest.rest.now c.in_default.len_below) ∙ no_export c.loop-rest.at name))
    ∙ c.loop-rest.invariant.numbered name
