use Rattle.std.proofs.Common.{◌≡◌, true, false, ◌∷◌, map, refl, sym, ◌∙◌, subst}
use Rattle.std.specs.Prelude.{cond}
use Rattle.std.specs.Str.{bytes_eq}
use Rattle.uasm_read.proofs.Fronts.{behind, front_item, no_item}
use Rattle.uasm_read.specs.Reading.{holds}
use Rattle.uasm_link.proofs.Twice.{Before, before_begun, before_ended, before_here, before_on}
use Rattle.uasm_link.proofs.Steps.{not_true, not_false}
use Rattle.uasm_link.proofs.names.first_twice.Goals as goal

pub loop-rest-init : goal.loop-rest-init
loop-rest-init c = before_begun (holds c.new-before.result) (map (λ name. name.now) c.args.names.now) (λ name. rw c.new-before.ensures.empty refl)

pub returns-then-not-branch : goal.returns-then-not-branch
returns-then-not-branch c =
    let rest = c.loop-rest.rest.now in
    let split = front_item rest c.name-item.result c.in-len1-up.len_at_least c.name-item.is in
    let b : Before (holds c.loop-rest.before) (c.name-item.result.now ∷ map (λ name. name.now) (behind rest)) (map (λ name. name.now) c.args.names.now) =
    subst (λ r. Before (holds c.loop-rest.before) (map (λ name. name.now) r) (map (λ name. name.now) c.args.names.now)) split c.loop-rest.invariant in
    let here : holds c.loop-rest.before c.name-item.result.now ≡ true = subst (λ n. holds c.loop-rest.before n ≡ true) c.bytes.ensures.value (not_true _ (sym c.in_ok-insert.ensures.added ∙ c.if-not-branch.true)) in
    sym (before_here (holds c.loop-rest.before) c.name-item.result.now (map (λ name. name.now) (behind rest)) (map (λ name. name.now) c.args.names.now) b here)

pub loop-rest-preserved : goal.loop-rest-preserved
loop-rest-preserved c =
    let rest = c.loop-rest.rest.now in
    let split = front_item rest c.name-item.result c.in-len1-up.len_at_least c.name-item.is in
    let b : Before (holds c.loop-rest.before) (c.name-item.result.now ∷ map (λ name. name.now) (behind rest)) (map (λ name. name.now) c.args.names.now) =
    subst (λ r. Before (holds c.loop-rest.before) (map (λ name. name.now) r) (map (λ name. name.now) c.args.names.now)) split c.loop-rest.invariant in
    let here : holds c.loop-rest.before c.name-item.result.now ≡ false = subst (λ n. holds c.loop-rest.before n ≡ false) c.bytes.ensures.value (not_false _ (sym c.in_ok-insert.ensures.added ∙ c.if-not-branch.false)) in
    before_on (holds c.loop-rest.before) (holds c.insert.new.self) c.name-item.result.now (map (λ name. name.now) (behind rest)) (map (λ name. name.now) c.args.names.now) b here
    (λ other. subst (λ n. holds c.insert.new.self other ≡ cond (bytes_eq n other) true (holds c.loop-rest.before other)) c.bytes.ensures.value (c.in_ok-insert.ensures.updates.0 (record { ref_ptr = (0, 0); now = other })))

pub returns : goal.returns
returns c = sym (before_ended (holds c.loop-rest.before) (map (λ name. name.now) c.args.names.now)
    (subst (λ r. Before (holds c.loop-rest.before) (map (λ name. name.now) r) (map (λ name. name.now) c.args.names.now)) (no_item c.loop-rest.rest.now c.in_default.len_below) c.loop-rest.invariant))
