use Rattle.std.proofs.Common.{◌≡◌, ◌∷◌, Some, None, sym, ◌∙◌, subst, arith}
use Rattle.uasm_read.specs.Faults as spec
use Rattle.uasm_read.specs.Faults.{labels_of, defined_in}
use Rattle.uasm_read.specs.Texts.{has_name}
use Rattle.uasm_read.specs.Reading.{holds}
use Rattle.uasm_read.proofs.Searches.{Searched, ended, refused_here, went_on, unknown_same}
use Rattle.uasm_read.proofs.Fronts.{behind, front_item, no_item, length-behind}
use Rattle.uasm_read.proofs.faults.first_unknown.Goals as goal

pub returns-in-Some : goal.returns-in-Some
unfolding labels_of defined_in
returns-in-Some c =
    let rest = c.loop-rest.rest.now in
    let line = c.line-item.result in
    let test = spec.name_unknown c.args.lines.now in
    let s : Searched test c.args.lines.now (line ∷ behind rest) c.loop-rest.at =
    subst (λ r. Searched test c.args.lines.now r c.loop-rest.at) (front_item rest line c.in-len1-up.len_at_least c.line-item.is) c.loop-rest.invariant.searched in
    let here : test s.before line (behind rest) ≡ Some c.in-Some.cause =
    unknown_same (has_name (labels_of c.args.lines.now)) (has_name (defined_in c.args.lines.now)) (holds c.in_ok-labels.labels) (holds c.in_ok-names.names)
    (λ name. sym (c.in_ok-labels.ensures name)) (λ name. sym (c.in_ok-names.ensures name)) line ∙ sym c.unknown_by.ensures ∙ c.in-Some.is in
    sym (refused_here test c.args.lines.now line (behind rest) c.loop-rest.at c.in-Some.cause s here)

pub loop-rest-preserved : goal.loop-rest-preserved
unfolding labels_of defined_in
loop-rest-preserved c =
    let rest = c.loop-rest.rest.now in
    let line = c.line-item.result in
    let test = spec.name_unknown c.args.lines.now in
    let s : Searched test c.args.lines.now (line ∷ behind rest) c.loop-rest.at =
    subst (λ r. Searched test c.args.lines.now r c.loop-rest.at) (front_item rest line c.in-len1-up.len_at_least c.line-item.is) c.loop-rest.invariant.searched in
    let here : test s.before line (behind rest) ≡ None =
    unknown_same (has_name (labels_of c.args.lines.now)) (has_name (defined_in c.args.lines.now)) (holds c.in_ok-labels.labels) (holds c.in_ok-names.names)
    (λ name. sym (c.in_ok-labels.ensures name)) (λ name. sym (c.in_ok-names.ensures name)) line ∙ sym c.unknown_by.ensures ∙ c.in_default-unknown_by.is in
    record {
      searched = went_on test c.args.lines.now line (behind rest) c.loop-rest.at s here;
      within = omega (arith, length-behind rest c.in-len1-up.len_at_least, c.loop-rest.invariant.within);
    }

pub returns : goal.returns
returns c = sym (ended (spec.name_unknown c.args.lines.now) c.args.lines.now c.loop-rest.at (subst (λ r. Searched (spec.name_unknown c.args.lines.now) c.args.lines.now r c.loop-rest.at) (no_item c.loop-rest.rest.now c.in_default.len_below) c.loop-rest.invariant.searched))
