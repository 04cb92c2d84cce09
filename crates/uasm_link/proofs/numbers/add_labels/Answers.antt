use Rattle.std.proofs.Common.{Some, None, sym, ap, ◌∙◌}
use Rattle.std.specs.Prelude.{if◌then◌else◌}
use Rattle.std.specs.Option.{option_or}
use Rattle.std.specs.Str.{bytes_eq}
use Rattle.uasm_read.specs.Texts.{has_name}
use Rattle.uasm_read.proofs.Fronts.{behind, front_item}
use Rattle.uasm_link.specs.Numbering.{number_in}
use Rattle.uasm_link.proofs.Steps.{step_or}
use Rattle.uasm_link.proofs.numbers.add_labels.Goals as goal

pub loop-rest-preserved : goal.loop-rest-preserved
loop-rest-preserved c = λ name.
    let rest = c.loop-rest.rest.now in
    let label = c.label-item.result in
    let split = front_item rest label c.in-len1-up.len_at_least c.label-item.is in
    step_or (number_in c.loop-rest.numbers name) (number_in c.put.new.numbers name) (Some c.args.number) (bytes_eq name label) (has_name (behind rest) name) (rw c.bytes.ensures.value at (c.in_ok-put.ensures name))
    ∙ ap (λ r. option_or (number_in c.loop-rest.numbers name) (if has_name r name then Some c.args.number else None)) (sym split) ∙ c.loop-rest.invariant name
