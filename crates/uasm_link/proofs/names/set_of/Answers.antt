use Rattle.std.proofs.Common.{◌≡◌, true, map, sym, ap, ◌∙◌, subst}
use Rattle.std.specs.Prelude.{cond}
use Rattle.std.specs.Str.{bytes_eq}
use Rattle.uasm_read.specs.Texts.{has_name}
use Rattle.uasm_read.proofs.Fronts.{behind, front_item}
use Rattle.uasm_read.specs.Reading.{holds}
use Rattle.std.specs.Prelude.{◌||◌}
use Rattle.uasm_link.proofs.Twice.{set_on}
use Rattle.uasm_link.proofs.names.set_of.Goals as goal

pub loop-rest-preserved : goal.loop-rest-preserved
loop-rest-preserved c = λ name.
    let rest = c.loop-rest.rest.now in
    let split = front_item rest c.name-item.result c.in-len1-up.len_at_least c.name-item.is in
    set_on (holds c.loop-rest.set) (holds c.insert.new.self) c.name-item.result.now (map (λ name. name.now) (behind rest))
    (λ other. subst (λ n. holds c.insert.new.self other ≡ cond (bytes_eq n other) true (holds c.loop-rest.set other)) c.bytes.ensures.value (c.in_ok-insert.ensures.updates.0 (record { ref_ptr = (0, 0); now = other }))) name
    ∙ ap (λ r. (holds c.loop-rest.set name || has_name (map (λ name. name.now) r) name)) (sym split) ∙ c.loop-rest.invariant name
