use Rattle.std.proofs.Common.{◌≡◌, true, ◌∷◌, ◌++◌, sym, ap, ◌∙◌, subst, arith, append_assoc, append-nil}
use Rattle.std.specs.List.{list_all}
use Rattle.uasm_read.proofs.Fronts.{behind, front_item, no_item, length-behind}
use Rattle.std.proofs.lemmas.Bool.{and_parts}
use Rattle.uasm_read.specs.Links.{linked_cells}
use Rattle.uasm_link.specs.Numbering.{resolved}
use Rattle.uasm_link.specs.Linkable.{is_linkable, are_linkable}
use Rattle.uasm_link.proofs.Images.{cells_front, no_cells}
use Rattle.uasm_link.proofs.cells.push_cells.Goals as goal

pub loop-rest-preserved : goal.loop-rest-preserved
loop-rest-preserved c =
    let rest = c.loop-rest.rest.now in
    let item = c.item-item.result in
    let words = resolved c.args.labels.now c.args.exports.now in
    let split = front_item rest item c.in-len1-up.len_at_least c.item-item.is in
    let linkable : are_linkable (item ∷ behind rest) ≡ true = subst (λ r. are_linkable r ≡ true) split c.loop-rest.invariant.linkable in
    record {
      linked = rw (c.in_ok-push.ensures.items, c.linked_cell.ensures, append_assoc) (ap (λ cells. c.loop-rest.cells.items ++ cells) (sym (cells_front words c.loop-rest.at rest item (behind rest) split)) ∙ c.loop-rest.invariant.linked);
      linkable = (and_parts (list_all is_linkable item.cell) _ linkable).1;
      within = omega (arith, length-behind rest c.in-len1-up.len_at_least, c.loop-rest.invariant.within);
    }

pub returns : goal.returns
returns c =
    let words = resolved c.args.labels.now c.args.exports.now in
    sym (append-nil c.loop-rest.cells.items) ∙ ap (λ cells. c.loop-rest.cells.items ++ cells) (sym (ap (linked_cells words c.loop-rest.at) (no_item c.loop-rest.rest.now c.in_default.len_below) ∙ no_cells words c.loop-rest.at)) ∙ c.loop-rest.invariant.linked
