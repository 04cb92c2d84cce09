use Rattle.std.proofs.Common.{None, sym, ap, ◌∙◌}
use Rattle.std.specs.Prelude.{if◌then◌else◌}
use Rattle.std.specs.Option.{option_or}
use Rattle.std.specs.Str.{bytes_eq}
use Rattle.uasm_read.specs.Texts.{has_name}
use Rattle.uasm_read.proofs.Fronts.{behind, front_item}
use Rattle.uasm_link.specs.Numbering.{number_in}
use Rattle.uasm_link.proofs.Steps.{step_or}
use Rattle.uasm_link.proofs.numbers.add_exports.Goals as goal

pub loop-rest-preserved : goal.loop-rest-preserved
loop-rest-preserved c = λ name.
    let rest = c.loop-rest.rest.now in
    let export = c.export-item.result in
    let split = front_item rest export c.in-len1-up.len_at_least c.export-item.is in
    step_or (number_in c.loop-rest.numbers name) (number_in c.put_export.new.numbers name) (number_in c.args.labels.now name) (bytes_eq name export) (has_name (behind rest) name) (rw c.bytes.ensures.value at (c.in_ok-put_export.ensures name))
    ∙ ap (λ r. option_or (number_in c.loop-rest.numbers name) (if has_name r name then number_in c.args.labels.now name else None)) (sym split) ∙ c.loop-rest.invariant name
