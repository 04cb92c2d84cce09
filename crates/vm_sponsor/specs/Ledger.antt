-- What callers see of a sheet.
use Rattle.std.specs.Prelude.{ℕ, ◌+◌, suc, if◌then◌else◌, List, [], ◌∷◌}
use Rattle.cap_words.specs.Words.{W, same_word}
use Rattle.instr_table.specs.declared.charge.Quota.{Quota}
use Rattle.instr_table.specs.declared.charge.Quota.TheVariants.{Memory, Events, Cycles}
use Rattle.vm_sponsor.specs.declared.amounts.Amounts.{Amounts}
use Rattle.vm_sponsor.specs.declared.amounts.Row.{Row}

-- the rows in order of making, how many transfers were made, and how many rows there may be
pub record Ledger : Type 0 where
  pub rows : List Row
  pub transfers : ℕ
  pub room : ℕ

-- the sponsors of the rows
abbrev pub names : List Row → List W
names [] = []
names (r ∷ rows) = r.sponsor ∷ names rows

abbrev pub no_amounts : Amounts
no_amounts = record { memory = 0; events = 0; cycles = 0 }

-- the amount of one kind
abbrev pub of_kind : Quota → Amounts → ℕ
of_kind Memory a = a.memory
of_kind Events a = a.events
of_kind Cycles a = a.cycles

-- amounts with more of one kind
abbrev pub raised : Quota → ℕ → Amounts → Amounts
raised Memory n a = record a { memory = a.memory + n }
raised Events n a = record a { events = a.events + n }
raised Cycles n a = record a { cycles = a.cycles + n }

-- the row after its sponsor passed on or received n of one kind
abbrev pub row_passing : Quota → ℕ → Row → Row
row_passing kind n r = record r { passed = raised kind n r.passed }

abbrev pub row_receiving : Quota → ℕ → Row → Row
row_receiving kind n r = record r { received = raised kind n r.received }

-- the row of a sponsor
abbrev pub row_of : W → List Row → Row
row_of w [] = record { sponsor = w; received = no_amounts; passed = no_amounts }
row_of w (r ∷ rows) = if same_word r.sponsor w then r else row_of w rows

-- the place of a sponsor's row
abbrev pub place_of : W → List Row → ℕ
place_of w [] = 0
place_of w (r ∷ rows) = if same_word r.sponsor w then 0 else suc (place_of w rows)

-- the rows with one sponsor's row changed
abbrev pub at_row : W → (Row → Row) → List Row → List Row
at_row w change [] = []
at_row w change (r ∷ rows) = if same_word r.sponsor w then change r ∷ rows else r ∷ at_row w change rows
