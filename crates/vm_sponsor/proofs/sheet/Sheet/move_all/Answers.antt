use Rattle.std.proofs.Common.{ℕ, ◌∙◌, ap, arith}
use Rattle.instr_table.specs.Sheet.{transfer}
use Rattle.vm_sponsor.specs.Ledger.{row_of}
use Rattle.vm_sponsor.specs.Sheets.{sheet_of}
use Rattle.vm_sponsor.proofs.Steps.{Read, read-held}
use Rattle.vm_sponsor.proofs.sheet.Sheet.move_all.Goals as goal

pub transfer-requires-clause-enough : goal.transfer-requires-clause-enough
transfer-requires-clause-enough c =
    let cell = c.sponsor_cell in
    let s = c.args.quads.now.store in
    let rows = c.args.self.now.rows in
    let k : Read s rows c.args.from cell.result = record { named = c.requires.from; cell = cell.ensures.cell; amounts = cell.ensures.amounts } in
    let is = read-held s rows c.args.from cell.result c.args.kind c.held_of-holds.result k (c.held_of-holds.ensures (row_of c.args.from rows)) in
    omega (arith, is)

pub returns-clause-sheet : goal.returns-clause-sheet
returns-clause-sheet c =
    let cell = c.sponsor_cell in
    let s = c.args.quads.now.store in
    let rows = c.args.self.now.rows in
    let k : Read s rows c.args.from cell.result = record { named = c.requires.from; cell = cell.ensures.cell; amounts = cell.ensures.amounts } in
    let is = read-held s rows c.args.from cell.result c.args.kind c.held_of-holds.result k (c.held_of-holds.ensures (row_of c.args.from rows)) in
    c.transfer.ensures.sheet ∙ ap (λ (n : ℕ). transfer (sheet_of s rows) c.args.from c.args.to c.args.kind n) is
