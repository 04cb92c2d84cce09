use Rattle.std.proofs.Common.{◌≡◌, true, ◌++◌, length, sym, ap, ◌∙◌, subst, arith, append_assoc, append-nil}
use Rattle.uasm_read.proofs.Fronts.{behind, front_item, no_item}
use Rattle.uasm_read.specs.Links.{linked_cells, linked_modules, name_word}
use Rattle.uasm_link.specs.Numbering.{number_in, resolved}
use Rattle.uasm_link.specs.Linkable.{are_linkable}
use Rattle.uasm_read.specs.Links.{label_number}
use Rattle.uasm_link.proofs.Steps.{count_front, module_kept}
use Rattle.uasm_link.proofs.Images.{items_linkable, cells_same, word_resolved, modules_front, no_modules}
use Rattle.uasm_link.proofs.cells.cells_of.Goals as goal

pub labels_of-requires : goal.labels_of-requires
labels_of-requires c =
    let rest = c.loop-rest.rest.now in
    let counted = count_front rest c.part-item.result (behind rest) (front_item rest c.part-item.result c.in-len1-up.len_at_least c.part-item.is) in
    let same = ap length c.items-items.ensures.value in
    omega (arith, counted, same, c.loop-rest.invariant.within, c.requires.few)

pub push_cells-requires-clause-place : goal.push_cells-requires-clause-place
push_cells-requires-clause-place c =
    let rest = c.loop-rest.rest.now in
    let counted = count_front rest c.part-item.result (behind rest) (front_item rest c.part-item.result c.in-len1-up.len_at_least c.part-item.is) in
    let same = ap length c.items-items.ensures.value in
    omega (arith, counted, same, c.loop-rest.invariant.within, c.requires.few)

pub push_cells-requires-clause-linkable : goal.push_cells-requires-clause-linkable
push_cells-requires-clause-linkable c = subst (λ items. are_linkable items ≡ true) (sym c.items-items.ensures.value) (items_linkable c.part-item.result.items (module_kept c.part-item.result c.items-items.ensures.is_module).items)

pub overflow_cast-at : goal.overflow_cast-at
overflow_cast-at c =
    let rest = c.loop-rest.rest.now in
    let counted = count_front rest c.part-item.result (behind rest) (front_item rest c.part-item.result c.in-len1-up.len_at_least c.part-item.is) in
    let same = ap length c.items-items.ensures.value in
    omega (arith, counted, same, c.loop-rest.invariant.within, c.requires.few)

pub overflow_add-at : goal.overflow_add-at
overflow_add-at c =
    let rest = c.loop-rest.rest.now in
    let counted = count_front rest c.part-item.result (behind rest) (front_item rest c.part-item.result c.in-len1-up.len_at_least c.part-item.is) in
    let same = ap length c.items-items.ensures.value in
    omega (arith, counted, same, c.loop-rest.invariant.within, c.requires.few)

pub loop-rest-preserved : goal.loop-rest-preserved
loop-rest-preserved c =
    let rest = c.loop-rest.rest.now in
    let m = c.part-item.result in
    let all = c.args.modules.now in
    let split = front_item rest m c.in-len1-up.len_at_least c.part-item.is in
    let counted = count_front rest m (behind rest) split in
    let same = ap length c.items-items.ensures.value in
    let words : linked_cells (resolved c.in_ok-labels.labels c.args.exports.now) c.loop-rest.at m.items ≡ linked_cells (name_word all c.loop-rest.at m) c.loop-rest.at m.items =
    cells_same (resolved c.in_ok-labels.labels c.args.exports.now) (name_word all c.loop-rest.at m)
    (λ name. word_resolved all c.loop-rest.at m name (number_in c.in_ok-labels.labels name) (number_in c.args.exports.now name)
    (c.in_ok-labels.ensures name ∙ ap (λ items. label_number c.loop-rest.at items name) c.items-items.ensures.value) (c.requires.numbered name)
    (omega (arith, counted, c.loop-rest.invariant.within)) c.requires.few)
    c.loop-rest.at m.items in
    record {
      linked = rw (c.in_ok-push_cells.ensures, c.items-items.ensures.value, words, append_assoc)
          (ap (λ cells. c.loop-rest.cells.items ++ cells) (sym (modules_front all c.loop-rest.at rest m (behind rest) split)) ∙ c.loop-rest.invariant.linked);
      within = omega (arith, counted, same, c.loop-rest.invariant.within);
    }

pub returns : goal.returns
returns c =
    let all = c.args.modules.now in
    sym (append-nil c.loop-rest.cells.items) ∙ ap (λ cells. c.loop-rest.cells.items ++ cells) (sym (ap (linked_modules all c.loop-rest.at) (no_item c.loop-rest.rest.now c.in_default.len_below) ∙ no_modules all c.loop-rest.at)) ∙ c.loop-rest.invariant.linked
