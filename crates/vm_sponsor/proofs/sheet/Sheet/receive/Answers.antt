use Rattle.std.proofs.Common.{◌+◌, ◌∙◌, ap, arith}
use Rattle.quad_memory.specs.declared.cells.SponsorCell.{SponsorCell}
use Rattle.vm_sponsor.specs.Ledger.{Ledger, row_of, of_kind, at_row, row_receiving}
use Rattle.vm_sponsor.proofs.Rows.{memory_after}
use Rattle.vm_sponsor.proofs.Steps.{Read, read-held, held-more, received-room, received}
use Rattle.vm_sponsor.proofs.sheet.Sheet.receive.Goals as goal

pub overflow_add-more : goal.overflow_add-more
overflow_add-more c =
    let cell = c.sponsor_cell-cell in
    let s = c.args.quads.now.store in
    let rows = c.args.self.now.rows in
    let k : Read s rows c.args.to cell.result = record { named = c.requires.to; cell = cell.ensures.cell; amounts = cell.ensures.amounts } in
    let is = read-held s rows c.args.to cell.result c.args.kind c.held_of.result k (c.held_of.ensures (row_of c.args.to rows)) in
    let most = held-more s c.args.self.now c.args.to c.args.kind c.args.n (c.requires.fits c.args.kind) in
    omega (arith, is, most)

pub with_held-requires : goal.with_held-requires
with_held-requires c =
    let cell = c.sponsor_cell-cell in
    let s = c.args.quads.now.store in
    let rows = c.args.self.now.rows in
    let k : Read s rows c.args.to cell.result = record { named = c.requires.to; cell = cell.ensures.cell; amounts = cell.ensures.amounts } in
    let is = read-held s rows c.args.to cell.result c.args.kind c.held_of.result k (c.held_of.ensures (row_of c.args.to rows)) in
    omega (arith, is, held-more s c.args.self.now c.args.to c.args.kind c.args.n (c.requires.fits c.args.kind))

pub add_received-requires-clause-fits : goal.add_received-requires-clause-fits
add_received-requires-clause-fits c =
    let cell = c.sponsor_cell-cell in
    let s = c.args.quads.now.store in
    let k : Read s c.args.self.now.rows c.args.to cell.result = record { named = c.requires.to; cell = cell.ensures.cell; amounts = cell.ensures.amounts } in
    let room = received-room s c.args.self.now c.args.to cell.result c.args.kind c.args.n c.requires.belongs k c.requires.few c.ranges.n.fits in
    let same = ap (λ (l : Ledger). of_kind c.args.kind (row_of c.args.to l.rows).received) c.self.view_is in
    omega (arith, room, same)

pub returns : goal.returns
returns c =
    let cell = c.sponsor_cell-cell in
    let s = c.args.quads.now.store in
    let m = c.args.quads.now in
    let w = c.args.to in
    let kind = c.args.kind in
    let n = c.args.n in
    let h = c.held_of.result in
    let k : Read s c.args.self.now.rows w cell.result = record { named = c.requires.to; cell = cell.ensures.cell; amounts = cell.ensures.amounts } in
    let after = c.set_sponsor.ensures ∙ ap (λ (x : SponsorCell). memory_after m w x) c.with_held.ensures in
    let rows = c.add_received.ensures.rows ∙ ap (λ (l : Ledger). at_row w (row_receiving kind n) l.rows) c.self.view_is in
    let is = c.self.view_is in
    let end = received m c.set_sponsor.new.self c.args.self.now (record { rows = c.add_received.new.rows.items; transfers = c.self.inside.transfers + 1; room = c.self.inside.room }) w cell.result kind n h c.requires.belongs k c.requires.fits (c.held_of.ensures (row_of w c.args.self.now.rows)) after
    (λ i. record { rows = rows i; transfers = (is i).transfers + 1; room = (is i).room }) in
    record { sheet = end.0; keeps = end.1; transfers = ap (λ (l : Ledger). l.transfers + 1) is }
