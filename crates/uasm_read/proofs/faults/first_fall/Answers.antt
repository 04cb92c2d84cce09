use Rattle.std.proofs.Common.{◌≡◌, ◌∷◌, Some, None, sym, ◌∙◌, subst, arith}
use Rattle.uasm_read.specs.Faults as spec
use Rattle.uasm_read.proofs.Searches.{Searched, ended, refused_here, went_on}
use Rattle.uasm_read.proofs.Fronts.{behind, front_item, no_item, length-behind}
use Rattle.uasm_read.proofs.faults.first_fall.Goals as goal

pub returns-in-Some : goal.returns-in-Some
returns-in-Some c =
    let rest = c.loop-rest.rest.now in
    let line = c.line-item.result in
    let s : Searched spec.falls_off c.args.lines.now (line ∷ behind rest) c.loop-rest.at =
    subst (λ r. Searched spec.falls_off c.args.lines.now r c.loop-rest.at) (front_item rest line c.in-len1-up.len_at_least c.line-item.is) c.loop-rest.invariant.searched in
    let here : spec.falls_off s.before line (behind rest) ≡ Some c.in-Some.cause = sym c.falls_by.ensures ∙ c.in-Some.is in
    sym (refused_here spec.falls_off c.args.lines.now line (behind rest) c.loop-rest.at c.in-Some.cause s here)

pub loop-rest-preserved : goal.loop-rest-preserved
loop-rest-preserved c =
    let rest = c.loop-rest.rest.now in
    let line = c.line-item.result in
    let s : Searched spec.falls_off c.args.lines.now (line ∷ behind rest) c.loop-rest.at =
    subst (λ r. Searched spec.falls_off c.args.lines.now r c.loop-rest.at) (front_item rest line c.in-len1-up.len_at_least c.line-item.is) c.loop-rest.invariant.searched in
    let here : spec.falls_off s.before line (behind rest) ≡ None = sym c.falls_by.ensures ∙ c.in_default-falls_by.is in
    record {
      searched = went_on spec.falls_off c.args.lines.now line (behind rest) c.loop-rest.at s here;
      within = omega (arith, length-behind rest c.in-len1-up.len_at_least, c.loop-rest.invariant.within);
    }

pub returns : goal.returns
returns c = sym (ended spec.falls_off c.args.lines.now c.loop-rest.at (subst (λ r. Searched spec.falls_off c.args.lines.now r c.loop-rest.at) (no_item c.loop-rest.rest.now c.in_default.len_below) c.loop-rest.invariant.searched))
