-- A row that is shown is one of the sheet's.
use Rattle.std.proofs.Common.{◌≡◌, ap, inl, inr, ℕ, zero, suc, List, [], ◌∷◌, Option, Some, None, slice_get}
use Rattle.std.specs.Prelude.{option_map}
use Rattle.cap_words.specs.Store.{Store}
use Rattle.cap_words.specs.Frame.{Among}
use Rattle.vm_sponsor.specs.declared.amounts.Row.{Row}
use Rattle.vm_sponsor.specs.declared.amounts.SheetRow.{SheetRow}
use Rattle.vm_sponsor.specs.Ledger.{names}
use Rattle.vm_sponsor.specs.Sheets.{sheet_of, shown}

abbrev sponsor_or : SheetRow → Option SheetRow → SheetRow
sponsor_or other (Some r) = r
sponsor_or other None = other

pub shown_row_is_named : (s : Store) (rows : List Row) (k : ℕ) (r : SheetRow) → Some r ≡ option_map shown (slice_get (sheet_of s rows) k)
    → Among r.sponsor (names rows)
shown_row_is_named s [] k r h = absurd (cc)
shown_row_is_named s (x ∷ rows) zero r h = inl (ap (λ o. (sponsor_or r o).sponsor) h)
shown_row_is_named s (x ∷ rows) (suc k) r h = inr (shown_row_is_named s rows k r h)
