use Rattle.std.proofs.Common.{ℕ, ◌++◌, ◌-◌, false, get_or, sym, ap, ◌∙◌, arith, append_assoc, append-nil}
use Rattle.uasm_read.proofs.Fronts.{behind, front_item, no_item, length-behind}
use Rattle.uasm_image.proofs.Marks.{items_front, no_items}
use Rattle.uasm_image.proofs.listings.cell_items.Goals as goal

pub overflow_sub-is_named : goal.overflow_sub-is_named
overflow_sub-is_named c = c.loop-rest.invariant.from

pub bounds-named-at : goal.bounds-named-at
bounds-named-at c = omega (arith, c.requires.count, c.loop-rest.invariant.from, c.loop-rest.invariant.place, c.in-len1-up.len_at_least)

pub loop-rest-preserved : goal.loop-rest-preserved
loop-rest-preserved c =
    let rest = c.loop-rest.rest.now in
    let q = c.cell-item.result in
    let at = c.loop-rest.at in
    let marks = λ (at : ℕ). get_or c.args.named.now (at - 16) false in
    let split = front_item rest q c.in-len1-up.len_at_least c.cell-item.is in
    record {
      made = rw (c.in_ok-push.ensures.items, c.in_ok-cell_item.ensures, append_assoc)
          (ap (λ items. c.loop-rest.items.items ++ items) (sym (items_front c.args.boot marks at rest (behind rest) q split))
          ∙ c.loop-rest.invariant.made);
      from = omega (arith, c.loop-rest.invariant.from);
      place = omega (arith, length-behind rest c.in-len1-up.len_at_least, c.loop-rest.invariant.place);
    }

pub returns : goal.returns
returns c =
    let marks = λ (at : ℕ). get_or c.args.named.now (at - 16) false in
    sym (append-nil c.loop-rest.items.items)
    ∙ ap (λ items. c.loop-rest.items.items ++ items) (sym (no_items c.args.boot marks c.loop-rest.at c.loop-rest.rest.now
    (no_item c.loop-rest.rest.now c.in_default.len_below)))
    ∙ c.loop-rest.invariant.made
