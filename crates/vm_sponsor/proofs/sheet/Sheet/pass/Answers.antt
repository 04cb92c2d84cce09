use Rattle.std.proofs.Common.{◌∙◌, ap, arith}
use Rattle.quad_memory.specs.declared.cells.SponsorCell.{SponsorCell}
use Rattle.vm_sponsor.specs.Ledger.{Ledger, row_of, of_kind, at_row, row_passing}
use Rattle.vm_sponsor.proofs.Rows.{memory_after}
use Rattle.vm_sponsor.proofs.Steps.{Read, read-held, held-most, passed-room, passed}
use Rattle.vm_sponsor.proofs.sheet.Sheet.pass.Goals as goal

pub overflow_sub-left : goal.overflow_sub-left
overflow_sub-left c =
    let cell = c.sponsor_cell-cell in
    let s = c.args.quads.now.store in
    let rows = c.args.self.now.rows in
    let k : Read s rows c.args.from cell.result = record { named = c.requires.from; cell = cell.ensures.cell; amounts = cell.ensures.amounts } in
    let is = read-held s rows c.args.from cell.result c.args.kind c.held_of.result k (c.held_of.ensures (row_of c.args.from rows)) in
    omega (arith, is, c.requires.enough)

pub with_held-requires : goal.with_held-requires
with_held-requires c =
    let cell = c.sponsor_cell-cell in
    let s = c.args.quads.now.store in
    let rows = c.args.self.now.rows in
    let k : Read s rows c.args.from cell.result = record { named = c.requires.from; cell = cell.ensures.cell; amounts = cell.ensures.amounts } in
    let is = read-held s rows c.args.from cell.result c.args.kind c.held_of.result k (c.held_of.ensures (row_of c.args.from rows)) in
    omega (arith, is, held-most s c.args.self.now c.args.from c.args.kind c.requires.belongs)

pub add_passed-requires-clause-fits : goal.add_passed-requires-clause-fits
add_passed-requires-clause-fits c =
    let cell = c.sponsor_cell-cell in
    let s = c.args.quads.now.store in
    let k : Read s c.args.self.now.rows c.args.from cell.result = record { named = c.requires.from; cell = cell.ensures.cell; amounts = cell.ensures.amounts } in
    let room = passed-room s c.args.self.now c.args.from cell.result c.args.kind c.args.n c.requires.belongs k c.requires.few c.ranges.n.fits in
    let same = ap (λ (l : Ledger). of_kind c.args.kind (row_of c.args.from l.rows).passed) c.self.view_is in
    omega (arith, room, same)

pub returns : goal.returns
returns c =
    let cell = c.sponsor_cell-cell in
    let s = c.args.quads.now.store in
    let m = c.args.quads.now in
    let w = c.args.from in
    let kind = c.args.kind in
    let n = c.args.n in
    let h = c.held_of.result in
    let k : Read s c.args.self.now.rows w cell.result = record { named = c.requires.from; cell = cell.ensures.cell; amounts = cell.ensures.amounts } in
    let after = c.set_sponsor.ensures ∙ ap (λ (x : SponsorCell). memory_after m w x) c.with_held.ensures in
    let rows = c.add_passed.ensures.rows ∙ ap (λ (l : Ledger). at_row w (row_passing kind n) l.rows) c.self.view_is in
    let is = c.self.view_is in
    let end = passed m c.set_sponsor.new.self c.args.self.now (record { rows = c.add_passed.new.rows.items; transfers = c.self.inside.transfers; room = c.self.inside.room }) w cell.result kind n h c.requires.belongs k c.requires.enough (c.held_of.ensures (row_of w c.args.self.now.rows)) after
    (λ i. record { rows = rows i; transfers = (is i).transfers; room = (is i).room }) in
    record { sheet = end.0; keeps = end.1; transfers = ap (λ (l : Ledger). l.transfers) is }
