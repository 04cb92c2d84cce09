use Rattle.std.proofs.Common.{◌≡◌, length}
use Rattle.cap_words.specs.Words.{W}
use Rattle.cap_words.specs.Frame.{Among}
use Rattle.instr_table.specs.Sheet.{held}
use Rattle.vm_sponsor.specs.Ledger.{names}
use Rattle.vm_sponsor.specs.Sheets.{IsThere, sheet_of}
use Rattle.vm_sponsor.proofs.sheet.Sheet.held.Given as goal

abbrev pub invariant-rows : goal.invariant-rows
invariant-rows l = record {
  there : (w : W) → Among w (names l.rest) → IsThere l.quads.store w;
  same : held (sheet_of l.quads.store l.rest) l.who l.kind ≡ held (sheet_of l.quads.store l.self.rows) l.who l.kind;
}

abbrev pub decreases-rows : goal.decreases-rows
decreases-rows l = length l.rest
