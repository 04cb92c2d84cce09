-- What the sponsors of a machine keep in step with its quads.
use Rattle.std.specs.Prelude.{◌≡◌, ℕ, ◌+◌, ◌≤◌, true, List}
use Rattle.std.specs.List.{sum_by}
use Rattle.cap_words.specs.Words.{W}
use Rattle.cap_words.specs.Store.{used}
use Rattle.cap_words.specs.Seen.{seen}
use Rattle.cap_words.specs.Frame.{Among}
use Rattle.quad_memory.specs.Memory.{Memory}
use Rattle.instr_table.specs.Types.{is_sponsor}
use Rattle.instr_table.specs.Sheet.{Account}
use Rattle.instr_table.specs.SponsorRows.{most_sponsors}
use Rattle.vm_sponsor.specs.Ledger.{Ledger, names}
use Rattle.vm_sponsor.specs.Sheets.{sheet_of, Belongs}

-- the quads that all sponsors together still hold
abbrev pub held_quads : List Account → ℕ
held_quads sheet = sum_by (λ (a : Account). a.memory.held) sheet

-- the sheet belongs to the quads, has a row for each sponsor there and as many rows as a machine may have; and the quads that sponsors
-- still hold are free
pub record Books (m : Memory) (sheet : Ledger) : Type 0 where
  pub belongs : Belongs m.store sheet
  pub listed : (w : W) → is_sponsor (seen m.store) w ≡ true → Among w (names sheet.rows)
  pub rows_room : sheet.room ≡ most_sponsors
  pub covered : used m.store + held_quads (sheet_of m.store sheet.rows) ≤ m.room
