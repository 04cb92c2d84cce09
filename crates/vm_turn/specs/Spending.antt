-- What events have spent since their dispatch: the charges of their turns.
use Rattle.std.specs.Prelude.{◌≡◌, ℕ, ◌+◌, nat_eq, if◌then◌else◌, ◌%◌, List, [], ◌∷◌, length, Option, Some, None, slice_get}
use Rattle.std.specs.List.{sum_by}
use Rattle.quad_memory.specs.Image.{RomImage}
use Rattle.instr_table.specs.declared.charge.Charge.{Charge}
use Rattle.instr_table.specs.declared.charge.Quota.{Quota}
use Rattle.instr_table.specs.Spent.{Spent, unspent, spent_more, spent_in_kind}
use Rattle.instr_table.specs.Sheet.{account, short}
use Rattle.instr_table.specs.Outcome.{Row}
use Rattle.instr_table.specs.Lane.{Lane, lane_row}
use Rattle.vm_sponsor.specs.declared.amounts.Amounts.{Amounts}
use Rattle.vm_turn.specs.declared.journal.Entry.{Entry}
use Rattle.vm_turn.specs.State.{Message, State}
use Rattle.vm_turn.specs.Boot.{booted}
use Rattle.vm_turn.specs.Turn.{dispatchable, turn}
use Rattle.vm_turn.specs.Run.{run}
use Rattle.vm_turn.specs.Sound.{spent_by_all}

-- what the event of each message has spent, by the number of the message
abbrev pub Spending : Type 0
Spending = ℕ → Spent

-- no event has spent anything
abbrev pub none_spent : Spending
none_spent number = unspent

-- the event of one number has spent that
abbrev pub with_spent : Spending → ℕ → Spent → Spending
with_spent before number spent n = if nat_eq n number then spent else before n

-- the event of one number is charged once more
abbrev pub with_charge : Spending → ℕ → Charge → Spending
with_charge before number c = with_spent before number (spent_more (before number) c)

-- the event takes the instruction of that row; it is not charged where its sponsor is short of anything
abbrev pub charged_spending : Spending → Lane → Row → Option Quota → Spending
charged_spending before l r (Some kind) = before
charged_spending before l r None = with_charge before l.number r.charge

-- the event that was picked takes its next instruction
abbrev pub step_spending : Spending → State → Option Lane → Spending
step_spending before s None = before
step_spending before s (Some l) =
    let row = lane_row s.store s.sheet l in charged_spending before l row (short (account s.sheet l.own.sponsor) row.charge)

-- an event begins with nothing spent, and a device's message ends so
abbrev pub go_spending : Spending → State → ℕ → Option Message → Spending
go_spending before s pick (Some m) = with_spent before m.number unspent
go_spending before s pick None = step_spending before s (slice_get s.flight (pick % length s.flight))

-- once the root ran out nothing is charged
abbrev pub unless_out_spending : Spending → State → ℕ → Option Quota → Spending
unless_out_spending before s pick (Some kind) = before
unless_out_spending before s pick None = go_spending before s pick (dispatchable s)

-- after one turn
abbrev pub turn_spending : Spending → State → ℕ → Spending
turn_spending before s pick = unless_out_spending before s pick s.out_of

-- after turns with these picks
abbrev pub spending_after : Spending → State → List ℕ → Spending
spending_after before s [] = before
spending_after before s (p ∷ ps) = spending_after (turn_spending before s p) (turn s p).0 ps

-- after turns with these picks from boot on
abbrev pub spent_in_run : RomImage → Amounts → ℕ → List ℕ → Spending
spent_in_run image grant lanes picks = spending_after none_spent (booted image grant lanes) picks

-- how much of a kind these events in flight have spent, and those that ended with these entries
abbrev pub spent_in_flight : Quota → Spending → List Lane → ℕ
spent_in_flight kind spending ls = sum_by (λ (l : Lane). spent_in_kind kind (spending l.number)) ls

abbrev pub spent_by_ended : Quota → Spending → List Entry → ℕ
spent_by_ended kind spending es = sum_by (λ (e : Entry). spent_in_kind kind (spending e.message)) es

-- After every run all sponsors together have spent of each kind what the events that ended and those in flight have: what an event has spent is
-- what its sponsor paid for it.
abbrev pub EventsSpendWhatIsPaid : Type 0
EventsSpendWhatIsPaid =
    (image : RomImage) (grant : Amounts) (lanes : ℕ) (picks : List ℕ) (kind : Quota)
    → spent_by_all kind (run image grant lanes picks).sheet
    ≡ spent_by_ended kind (spent_in_run image grant lanes picks) (run image grant lanes picks).journal
    + spent_in_flight kind (spent_in_run image grant lanes picks) (run image grant lanes picks).flight
