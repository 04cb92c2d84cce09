-- The rows of the operations on sponsors, which act on the sheet at once.
use Rattle.std.specs.Prelude.{ℕ, nat_lt, nat_le, if◌then◌else◌, ℤ, pos, negsuc, List, [], ◌∷◌, length, Option, Some, None}
use Rattle.std.specs.Ordering.{int_eq}
use Rattle.cap_words.specs.Words.{W, Cap, number_of, undef}
use Rattle.cap_words.specs.Seen.{Seen, EventSlot, SponsorSlot, SpentSlot}
use Rattle.instr_table.specs.declared.charge.Quota.{Quota}
use Rattle.instr_table.specs.declared.charge.Quota.TheVariants.{Memory, Events, Cycles}
use Rattle.instr_table.specs.Types.{is_actor, is_sponsor}
use Rattle.instr_table.specs.Lists.{next_quad, item}
use Rattle.instr_table.specs.Event.{Sponsors, Grants, Reclaims, Starts, Stops}
use Rattle.instr_table.specs.Sheet.{Account, held, spend, runs}
use Rattle.instr_table.specs.Outcome.{Row, charge, does, goes, faults, not_actor, not_sponsor, short_of, is_running}

-- how many sponsors a machine may have
abbrev pub most_sponsors : ℕ
most_sponsors = 65536

-- `-- sponsor`
abbrev pub new_row : Seen → List Account → W → Row
new_row s sheet k =
    if nat_lt (length sheet) most_sponsors
    then does 0 (SponsorSlot ∷ SpentSlot ∷ []) (Cap (next_quad s) ∷ []) k (Sponsors (Cap (next_quad s)))
    else goes 0 (undef ∷ []) k

-- memory, events or cycles, by its number from 1 on
abbrev pub kind_of_grant : ℤ → Quota
kind_of_grant n = if int_eq n (pos 1) then Memory else if int_eq n (pos 2) then Events else Cycles

-- the number, where it lies from 0 to what is held
abbrev pub grantable : Option ℤ → ℕ → Option ℕ
grantable None most = None
grantable (Some (pos n)) most = if nat_le n most then Some n else None
grantable (Some (negsuc n)) most = None

-- the row of a grant of that number, where it is one
abbrev pub grant_of : Option ℕ → Quota → Seen → W → W → Row
grant_of None kind s sponsor k = faults 0 0 short_of
grant_of (Some n) kind s sponsor k = if is_sponsor s sponsor then does 1 [] [] k (Grants sponsor kind n) else faults 0 0 not_sponsor

-- `sponsor n -- sponsor`; what the payer holds is looked at after this instruction was paid
abbrev pub grant_row : Quota → W → Seen → List Account → List W → W → Row
grant_row kind payer s sheet vs k = grant_of (grantable (number_of (item vs 1)) (held (spend sheet payer (charge 0 0)) payer kind)) kind s (item vs 2) k

-- `sponsor -- sponsor`
abbrev pub reclaim_row : Seen → List W → W → Row
reclaim_row s vs k = if is_sponsor s (item vs 1) then does 0 [] [] k (Reclaims (item vs 1)) else faults 0 0 not_sponsor

-- `sponsor controller --`; the signal has no message until it is released
abbrev pub start_row : W → Seen → List Account → List W → W → Row
start_row payer s sheet vs k =
    if is_actor s (item vs 1)
    then if is_sponsor s (item vs 2)
    then if runs sheet (item vs 2) then faults 1 1 is_running
    else does 2 (EventSlot payer (item vs 1) undef ∷ []) [] k (Starts (item vs 2) (Cap (next_quad s)))
    else faults 1 1 not_sponsor
    else faults 1 1 not_actor

-- `sponsor -- sponsor`
abbrev pub stop_row : Seen → List W → W → Row
stop_row s vs k = if is_sponsor s (item vs 1) then does 0 [] [] k (Stops (item vs 1)) else faults 0 0 not_sponsor
