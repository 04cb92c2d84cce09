-- What parts of the code answer.
use Rattle.std.specs.Prelude.{ℕ, Bool, not}
use Rattle.instr_table.specs.declared.charge.Quota.{Quota}
use Rattle.instr_table.specs.Sheet.{Amount}
use Rattle.vm_sponsor.specs.declared.amounts.SheetRow.{SheetRow}
use Rattle.vm_sponsor.specs.Ledger.{of_kind}
use Rattle.uasm_read.specs.Texts.{is_blank, is_line_feed}
use Rattle.quad_debug.specs.declared.texts.Class.{Class}
use Rattle.quad_debug.specs.declared.texts.Class.TheVariants as class

-- whether a byte is of a class
abbrev pub is_in : Class → ℕ → Bool
is_in class.Blank b = is_blank b
is_in class.Part b = not (is_blank b)
is_in class.Line b = not (is_line_feed b)

-- what a row of the sheet has of one kind
abbrev pub row_amount : Quota → SheetRow → Amount
row_amount kind r = record {
  received = of_kind kind r.received;
  passed = of_kind kind r.passed;
  spent = of_kind kind r.spent;
  held = of_kind kind r.held;
}
