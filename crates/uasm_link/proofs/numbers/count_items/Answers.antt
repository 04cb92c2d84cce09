use Rattle.std.proofs.Common.{◌≡◌, true, length, sym, ap, ◌∙◌, subst, arith}
use Rattle.uasm_read.proofs.Fronts.{behind, front_item, no_item}
use Rattle.uasm_link.proofs.Steps.{count_front, no_count}
use Rattle.std.specs.List.{list_all}
use Rattle.uasm_read.specs.Modules.{is_module}
use Rattle.uasm_read.specs.Links.{count_of_items}
use Rattle.std.proofs.lemmas.Bool.{and_from}
use Rattle.uasm_link.proofs.numbers.count_items.Goals as goal

pub loop-rest-preserved : goal.loop-rest-preserved
loop-rest-preserved c =
    let rest = c.loop-rest.rest.now in
    let m = c.part-item.result in
    let split = front_item rest m c.in-len1-up.len_at_least c.part-item.is in
    let counted = count_front rest m (behind rest) split in
    let same = ap length c.items.ensures.value in
    record {
      counted = omega (arith, counted, same, c.min-count.ensures, c.min.ensures, c.loop-rest.invariant.counted, c.loop-rest.invariant.few);
      few = omega (arith, c.min-count.ensures);
      kept = λ more. c.loop-rest.invariant.kept (subst (λ r. list_all is_module r ≡ true) (sym split) (and_from (is_module m) _ c.items.ensures.is_module more));
    }

pub returns-clause-count : goal.returns-clause-count
returns-clause-count c =
    let none = ap count_of_items (no_item c.loop-rest.rest.now c.in_default.len_below) ∙ no_count in
    omega (arith, none, c.loop-rest.invariant.counted, c.loop-rest.invariant.few)
