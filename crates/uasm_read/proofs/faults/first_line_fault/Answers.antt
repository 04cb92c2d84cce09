use Rattle.std.proofs.Common.{◌≡◌, ◌∷◌, Some, None, refl, sym, ◌∙◌, subst, arith}
use Rattle.uasm_read.specs.Faults as spec
use Rattle.uasm_read.specs.Reading.{holds}
use Rattle.uasm_read.proofs.Searches.{Searched, Checked, ended, refused_here, checked_test, checked_on, checked_begun}
use Rattle.uasm_read.proofs.Fronts.{behind, front_item, no_item, length-behind}
use Rattle.uasm_read.proofs.faults.first_line_fault.Goals as goal

pub loop-rest-init : goal.loop-rest-init
loop-rest-init c = record {
  checked = checked_begun c.args.lines.now (holds c.new-names.result) c.count_items-left.result (λ name. rw c.new-names.ensures.empty refl) c.count_items-left.ensures.value;
  within = omega arith;
}

pub returns-in-Some : goal.returns-in-Some
returns-in-Some c =
    let rest = c.loop-rest.rest.now in
    let line = c.line-item.result in
    let k : Checked c.args.lines.now (line ∷ behind rest) c.loop-rest.at (holds c.loop-rest.names) c.loop-rest.follows c.loop-rest.left =
    subst (λ r. Checked c.args.lines.now r c.loop-rest.at (holds c.loop-rest.names) c.loop-rest.follows c.loop-rest.left) (front_item rest line c.in-len1-up.len_at_least c.line-item.is) c.loop-rest.invariant.checked in
    let here : spec.line_fault k.searched.before line (behind rest) ≡ Some c.in-Some.cause =
    sym (checked_test _ _ _ _ _ _ _ k) ∙ (rw (← c.left_behind-left.ensures) (sym c.fault_by.ensures ∙ c.in-Some.is)) in
    sym (refused_here spec.line_fault c.args.lines.now line (behind rest) c.loop-rest.at c.in-Some.cause k.searched here)

pub loop-rest-preserved : goal.loop-rest-preserved
loop-rest-preserved c =
    let rest = c.loop-rest.rest.now in
    let line = c.line-item.result in
    let k : Checked c.args.lines.now (line ∷ behind rest) c.loop-rest.at (holds c.loop-rest.names) c.loop-rest.follows c.loop-rest.left =
    subst (λ r. Checked c.args.lines.now r c.loop-rest.at (holds c.loop-rest.names) c.loop-rest.follows c.loop-rest.left) (front_item rest line c.in-len1-up.len_at_least c.line-item.is) c.loop-rest.invariant.checked in
    let here : spec.line_fault k.searched.before line (behind rest) ≡ None =
    sym (checked_test _ _ _ _ _ _ _ k) ∙ (rw (← c.left_behind-left.ensures) (sym c.fault_by.ensures ∙ c.in_default-fault_by.is)) in
    record {
      checked = rw (c.follows_after-follows.ensures, c.left_behind-left.ensures) (checked_on _ _ _ _ _ (holds c.note.new.names) _ _ k here c.in_ok-note.ensures);
      within = omega (arith, length-behind rest c.in-len1-up.len_at_least, c.loop-rest.invariant.within);
    }

pub returns : goal.returns
returns c = sym (ended spec.line_fault c.args.lines.now c.loop-rest.at (subst (λ r. Searched spec.line_fault c.args.lines.now r c.loop-rest.at) (no_item c.loop-rest.rest.now c.in_default.len_below) c.loop-rest.invariant.checked.searched))
