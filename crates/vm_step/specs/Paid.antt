-- What an operation does once it is paid.
use Rattle.std.specs.Prelude.{◌≡◌, ℕ, ◌+◌, ◌≤◌, List}
use Rattle.cap_words.specs.Words.{W, number_of}
use Rattle.cap_words.specs.Store.{used}
use Rattle.cap_words.specs.Seen.{Seen, seen}
use Rattle.quad_memory.specs.Memory.{Memory}
use Rattle.instr_table.specs.declared.charge.Quota.{Quota}
use Rattle.instr_table.specs.declared.op.Op.{Op}
use Rattle.instr_table.specs.declared.op.Op.TheVariants.{SponsorGrant}
use Rattle.instr_table.specs.Event.{Own, Effects}
use Rattle.instr_table.specs.Sheet.{Account, held, sheet_after}
use Rattle.instr_table.specs.Lists.{item}
use Rattle.instr_table.specs.Outcome.{Going, Outcome, Goes, Faults, Commits, Row}
use Rattle.instr_table.specs.SponsorRows.{kind_of_grant, grantable, grant_of}
use Rattle.instr_table.specs.Row.{row}
use Rattle.instr_table.specs.Lane.{after_going, gone}
use Rattle.vm_sponsor.specs.Ledger.{Ledger, names}
use Rattle.vm_effects.specs.Gathered.{effects_of}
use Rattle.vm_step.specs.declared.lane.Lane.{Lane}
use Rattle.vm_step.specs.declared.lane.StepEnd.{StepEnd}
use Rattle.vm_step.specs.declared.lane.StepEnd.TheVariants.{Going as GoingOn, Commit, Abort}
use Rattle.vm_step.specs.Flight.{own_at, stack_of, lane_of, lane_words, Held, Aside}
use Rattle.vm_step.specs.Books.{Books, held_quads}
use Rattle.vm_step.specs.Step.{sheet_in, payer}
use Rattle.vm_step.specs.Moves.{values_of}

-- a grant's row, over the sheet after the payment
abbrev pub paid_grant : Quota → W → Seen → List Account → List W → W → Row
paid_grant kind who s sheet vs k = grant_of (grantable (number_of (item vs 1)) (held sheet who kind)) kind s (item vs 2) k

-- the row of an operation, over the sheet after the payment
abbrev pub paid_row : Own → Op → Seen → List Account → Effects → List W → W → Row
paid_row own (SponsorGrant n) s sheet e vs k = paid_grant (kind_of_grant n) own.sponsor s sheet vs k
paid_row own op s sheet e vs k = row own op s sheet e vs k

-- the same, over what an operation of a lane finds
abbrev pub paid_row_in : Memory → Ledger → Lane → Op → W → Row
paid_row_in m sheet l op next = paid_row (own_at (seen m.store) l.event) op (seen m.store) (sheet_in m sheet) (effects_of m.store l.effects) (values_of m l) next

-- the row before the payment
abbrev pub unpaid_row_in : Memory → Ledger → Lane → Op → W → Row
unpaid_row_in m sheet l op next = row (own_at (seen m.store) l.event) op (seen m.store) (sheet_in m sheet) (effects_of m.store l.effects) (values_of m l) next

-- the books are kept, the lane's words name what they are to, and beside what sponsors hold as many quads are free as were paid for
pub record Paid (m : Memory) (sheet : Ledger) (l : Lane) (quads : ℕ) : Type 0 where
  pub books : Books m sheet
  pub held : Held m.store (names sheet.rows) l
  pub free : used m.store + quads + held_quads (sheet_in m sheet) ≤ m.room

module _ (before after : Memory) (old new : Ledger) (l m : Lane) where
  -- the event goes on so
  pub record GoesBy (g : Going) : Type 0 where
    pub seen_is : seen after.store ≡ (after_going (seen before.store) (stack_of before.store l) g).0
    pub lane_is : lane_of after.store m ≡ gone (seen before.store) (lane_of before.store l) g
    pub sheet_is : sheet_in after new ≡ sheet_after (sheet_in before old) (payer before l) g.effect
    pub event_is : m.event ≡ l.event
    pub held : Held after.store (names new.rows) m
    pub aside : Aside before.store after.store (lane_words before.store l)

  -- an operation that was paid: the event goes on, or ends, and then nothing more changes
  abbrev pub Acts : Outcome → StepEnd → Type 0
  Acts (Goes g) end = (end ≡ GoingOn) × GoesBy g
  Acts (Faults w) end = (end ≡ Abort w) × (after ≡ before) × (new ≡ old) × (m ≡ l)
  Acts Commits end = (end ≡ Commit) × (after ≡ before) × (new ≡ old) × (m ≡ l)
