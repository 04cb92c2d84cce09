use Rattle.std.proofs.Common.{◌≡◌, true, false, map, Some, refl, sym, ap, ◌∙◌, subst}
use Rattle.std.specs.Prelude.{not}
use Rattle.uasm_read.specs.Texts.{Name}
use Rattle.uasm_read.proofs.Fronts.{behind, front_item}
use Rattle.uasm_read.specs.Reading.{holds}
use Rattle.std.specs.List.{find}
use Rattle.std.proofs.lemmas.Bool.{cond-true, cond-false}
use Rattle.uasm_link.proofs.names.first_missing.Goals as goal

pub returns-then-not-contains : goal.returns-then-not-contains
returns-then-not-contains c =
    let rest = c.loop-rest.rest.now in
    let split = front_item rest c.name-item.result c.in-len1-up.len_at_least c.name-item.is in
    let p = λ (name : Name). not (holds c.args.set.now name) in
    let here : holds c.args.set.now c.name-item.result.now ≡ false = subst (λ n. holds c.args.set.now n ≡ false) c.bytes.ensures.value (sym c.if-not-contains.ensures) in
    sym (cond-true (p c.name-item.result.now) (Some c.name-item.result.now) (find p (map (λ name. name.now) (behind rest))) (rw here refl))
    ∙ ap (λ r. find p (map (λ name. name.now) r)) (sym split) ∙ c.loop-rest.invariant

pub loop-rest-preserved : goal.loop-rest-preserved
loop-rest-preserved c =
    let rest = c.loop-rest.rest.now in
    let split = front_item rest c.name-item.result c.in-len1-up.len_at_least c.name-item.is in
    let p = λ (name : Name). not (holds c.args.set.now name) in
    let here : holds c.args.set.now c.name-item.result.now ≡ true = subst (λ n. holds c.args.set.now n ≡ true) c.bytes.ensures.value (sym c.if-not-contains.ensures) in
    sym (cond-false (p c.name-item.result.now) (Some c.name-item.result.now) (find p (map (λ name. name.now) (behind rest))) (rw here refl))
    ∙ ap (λ r. find p (map (λ name. name.now) r)) (sym split) ∙ c.loop-rest.invariant
