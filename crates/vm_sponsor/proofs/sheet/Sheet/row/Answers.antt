use Rattle.std.proofs.Common.{◌<◌, length, ap, ◌∙◌, subst, Some, arith}
use Rattle.std.specs.Prelude.{option_map, slice_get}
use Rattle.cap_words.specs.Frame.{Among}
use Rattle.vm_sponsor.specs.Ledger.{Ledger, names}
use Rattle.vm_sponsor.specs.Sheets.{sheet_of, shown}
use Rattle.vm_sponsor.proofs.Rows.{row-named, account-shown}
use Rattle.vm_sponsor.proofs.sheet.Sheet.row.Goals as goal

pub sponsor_cell-requires : goal.sponsor_cell-requires
sponsor_cell-requires c =
    let r = c.index.result.now in
    let rows = c.self.inside.rows in
    let within : c.args.k < length rows.items = omega (arith, c.if-place-len.false, c.len.ensures, rows.ok.0) in
    let named = row-named rows.items c.args.k r r within c.index.ensures in
    c.requires.there r.sponsor (subst (λ (l : Ledger). Among r.sponsor (names l.rows)) c.self.view_is named)

pub returns : goal.returns
returns c =
    let r = c.index.result.now in
    let rows = c.self.inside.rows in
    let s = c.args.quads.now.store in
    let within : c.args.k < length rows.items = omega (arith, c.if-place-len.false, c.len.ensures, rows.ok.0) in
    let there = account-shown s rows.items c.args.k r r c.sponsor_cell.result within c.index.ensures c.sponsor_cell.ensures.cell in
    ap Some c.shown_row.ensures ∙ there ∙ ap (λ (l : Ledger). option_map shown (slice_get (sheet_of s l.rows) c.args.k)) c.self.view_is
