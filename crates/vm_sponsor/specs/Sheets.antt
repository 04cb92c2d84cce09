-- The plain sheet that rows and sponsors' cells stand for.
use Rattle.std.specs.Prelude.{◌≡◌, ℕ, ◌+◌, ◌≤◌, pos, negsuc, if◌then◌else◌, List, [], ◌∷◌, map, Option, Some, None}
use Rattle.cap_words.specs.Words.{W, Fix, Rom, Ram, Cap, same_word, undef, nil}
use Rattle.cap_words.specs.Store.{Store, cap_place}
use Rattle.cap_words.specs.Frame.{Among}
use Rattle.quad_memory.specs.declared.cells.SponsorCell.{SponsorCell}
use Rattle.quad_memory.specs.Cells.{sponsor_at}
use Rattle.instr_table.specs.declared.charge.Quota.{Quota}
use Rattle.instr_table.specs.declared.charge.Quota.TheVariants.{Memory, Events, Cycles}
use Rattle.instr_table.specs.Sheet.{Account, Standing, Stopped, Running, holding}
use Rattle.vm_sponsor.specs.declared.amounts.Amounts.{Amounts}
use Rattle.vm_sponsor.specs.declared.amounts.Row.{Row}
use Rattle.vm_sponsor.specs.declared.amounts.SheetRow.{SheetRow}
use Rattle.vm_sponsor.specs.Ledger.{Ledger, names, no_amounts}
use Rattle.vm_sponsor.specs.Totals.{IsSound, most_held}

-- ---- one sponsor

-- the number in a word
abbrev pub amount_in : W → ℕ
amount_in (Fix (pos n)) = n
amount_in (Fix (negsuc n)) = 0
amount_in (Rom n) = 0
amount_in (Ram n) = 0
amount_in (Cap n) = 0

-- how a sponsor stands: stopped where its signal is `#?`, running with none prepared where it is `#nil`
abbrev pub standing_in : W → Standing
standing_in w = if same_word w undef then Stopped else if same_word w nil then Running None else Running (Some w)

-- the account of a row whose sponsor's cell is this
abbrev pub account_with : Row → SponsorCell → Account
account_with r c = record {
  sponsor = r.sponsor;
  memory = record { received = r.received.memory; passed = r.passed.memory; spent = amount_in c.memory_spent; held = amount_in c.memory };
  events = record { received = r.received.events; passed = r.passed.events; spent = amount_in c.events_spent; held = amount_in c.events };
  cycles = record { received = r.received.cycles; passed = r.passed.cycles; spent = amount_in c.cycles_spent; held = amount_in c.cycles };
  standing = standing_in c.signal;
}

-- the cell of a sponsor that holds these amounts and has spent nothing
abbrev pub fresh_cell : W → Amounts → SponsorCell
fresh_cell signal a = record { signal = signal; memory = Fix (pos a.memory); events = Fix (pos a.events); cycles = Fix (pos a.cycles); memory_spent = Fix (pos 0); events_spent = Fix (pos 0); cycles_spent = Fix (pos 0) }

-- the sponsor that is there, or a new one, which holds nothing and is stopped
abbrev pub cell_or_new : Option SponsorCell → SponsorCell
cell_or_new None = fresh_cell undef no_amounts
cell_or_new (Some c) = c

-- the account of a row
abbrev pub account_in : Store → Row → Account
account_in s r = account_with r (cell_or_new (sponsor_at s r.sponsor))

-- the plain sheet
abbrev pub sheet_of : Store → List Row → List Account
sheet_of s rows = map (account_in s) rows

-- the account of the first sponsor: it holds the grant and runs, with no prepared signal
abbrev pub root_account : W → Amounts → Account
root_account w grant = record { sponsor = w; memory = holding grant.memory; events = holding grant.events; cycles = holding grant.cycles; standing = Running None }

-- a row as it is shown
abbrev pub shown : Account → SheetRow
shown a = record {
  sponsor = a.sponsor;
  received = record { memory = a.memory.received; events = a.events.received; cycles = a.cycles.received };
  passed = record { memory = a.memory.passed; events = a.events.passed; cycles = a.cycles.passed };
  spent = record { memory = a.memory.spent; events = a.events.spent; cycles = a.cycles.spent };
  held = record { memory = a.memory.held; events = a.events.held; cycles = a.cycles.held };
}

-- a sponsor that holds this much of one kind
abbrev pub with_held : Quota → ℕ → SponsorCell → SponsorCell
with_held Memory n c = record c { memory = Fix (pos n) }
with_held Events n c = record c { events = Fix (pos n) }
with_held Cycles n c = record c { cycles = Fix (pos n) }

-- ---- the sheet and the quads

-- the word is a number from 0 on
abbrev pub IsAmount : W → Type 0
IsAmount w = w ≡ Fix (pos (amount_in w))

-- each amount of a sponsor is a number
pub record HasAmounts (c : SponsorCell) : Type 0 where
  pub memory : IsAmount c.memory
  pub events : IsAmount c.events
  pub cycles : IsAmount c.cycles
  pub memory_spent : IsAmount c.memory_spent
  pub events_spent : IsAmount c.events_spent
  pub cycles_spent : IsAmount c.cycles_spent

-- what it spent and holds of each kind fits a fixnum
pub record Fits (c : SponsorCell) : Type 0 where
  pub memory : amount_in c.memory_spent + amount_in c.memory ≤ most_held
  pub events : amount_in c.events_spent + amount_in c.events ≤ most_held
  pub cycles : amount_in c.cycles_spent + amount_in c.cycles ≤ most_held

-- the word names a sponsor there
abbrev pub IsThere : Store → W → Type 0
IsThere s w = (c : SponsorCell) × (sponsor_at s w ≡ Some c) × HasAmounts c

-- no word is there twice
abbrev pub Apart : List W → Type 0
Apart [] = Unit {0}
Apart (w ∷ ws) = (Among w ws → ⊥) × Apart ws

-- the sheet belongs to the quads: its rows name different sponsors there, and the plain sheet that they stand for is sound
pub record Belongs (s : Store) (sheet : Ledger) : Type 0 where
  pub apart : Apart (names sheet.rows)
  pub there : (w : W) → Among w (names sheet.rows) → IsThere s w
  pub sound : IsSound sheet.transfers (sheet_of s sheet.rows)

-- the words of a sponsor's two quads
abbrev pub quads_of : W → List W
quads_of w = w ∷ Cap (cap_place w + 1) ∷ []
