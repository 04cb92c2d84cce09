use Rattle.std.proofs.Common.{sym, ◌∙◌, ap, subst, ◌∷◌, ◌++◌, []}
use Rattle.cap_words.specs.Store.{taken}
use Rattle.quad_memory.specs.declared.cells.SponsorCell.{SponsorCell}
use Rattle.quad_memory.specs.Memory.{Memory}
use Rattle.quad_memory.specs.Cells.{sponsor_cells}
use Rattle.vm_sponsor.specs.Ledger.{Ledger, no_amounts}
use Rattle.vm_sponsor.specs.Sheets.{Belongs}
use Rattle.vm_sponsor.proofs.Made.{Made, made, fresh_row}
use Rattle.vm_sponsor.proofs.sheet.Sheet.make.Goals as goal

facts : (c : goal.After-push_row) → Made c.args.quads.now.store c.take_sponsor-sponsor.new.self.store c.args.self.now c.push_row.new.rows.items c.take_sponsor-sponsor.result
facts c =
    let s = c.args.quads.now.store in
    let w = c.take_sponsor-sponsor.result in
    let after = ap (λ (m : Memory). m.store) c.take_sponsor-sponsor.ensures.after ∙ ap (λ (cell : SponsorCell). taken s (sponsor_cells cell)) c.fresh_cell.ensures in
    let pushed = c.push_row.ensures.rows ∙ ap (λ (l : Ledger). l.rows ++ fresh_row w no_amounts ∷ []) c.self.view_is in
    made s c.take_sponsor-sponsor.new.self.store c.args.self.now c.push_row.new.rows.items w c.requires.belongs c.take_sponsor-sponsor.ensures.word after pushed

pub returns-clause-sheet : goal.returns-clause-sheet
returns-clause-sheet c = (facts c).sheet

pub returns-clause-names : goal.returns-clause-names
returns-clause-names c = (facts c).all_names

pub returns-clause-belongs : goal.returns-clause-belongs
returns-clause-belongs c =
    let k = facts c in
    subst (λ (l : Ledger). Belongs c.take_sponsor-sponsor.new.self.store (record { rows = c.push_row.new.rows.items; transfers = l.transfers; room = l.room })) (sym c.self.view_is) k.belongs

pub returns-clause-frame : goal.returns-clause-frame
returns-clause-frame c = (facts c).frame
