-- What one instruction does to the quads, the sheet and its lane.
use Rattle.std.specs.Prelude.{◌≡◌, ◌+◌, ◌≤◌, List, [], Option, Some, None}
use Rattle.cap_words.specs.Words.{W}
use Rattle.cap_words.specs.Seen.{seen}
use Rattle.cap_words.specs.Frame.{Among}
use Rattle.quad_memory.specs.Memory.{Memory}
use Rattle.instr_table.specs.declared.charge.Charge.{Charge}
use Rattle.instr_table.specs.declared.charge.Quota.{Quota}
use Rattle.instr_table.specs.Sheet.{Account, account, short, spend, sheet_after}
use Rattle.instr_table.specs.Outcome.{Going, Outcome, Goes, Faults, Commits, Row}
use Rattle.instr_table.specs.Lane.{after_going, gone, lane_row}
use Rattle.vm_sponsor.specs.Ledger.{Ledger, names}
use Rattle.vm_sponsor.specs.Sheets.{sheet_of}
use Rattle.vm_step.specs.declared.lane.Lane.{Lane}
use Rattle.vm_step.specs.declared.lane.StepEnd.{StepEnd}
use Rattle.vm_step.specs.declared.lane.StepEnd.TheVariants.{Going as GoingOn, Commit, Abort, RanOut}
use Rattle.vm_step.specs.Flight.{own_at, stack_of, lane_of, lane_words, Held, Aside}
use Rattle.vm_step.specs.Books.{Books}

-- the plain sheet of a memory and a ledger
abbrev pub sheet_in : Memory → Ledger → List Account
sheet_in m sheet = sheet_of m.store sheet.rows

-- who pays for a lane's instructions
abbrev pub payer : Memory → Lane → W
payer m l = (own_at (seen m.store) l.event).sponsor

-- the row of a lane's next instruction
abbrev pub row_in : Memory → Ledger → Lane → Row
row_in m sheet l = lane_row (seen m.store) (sheet_in m sheet) (lane_of m.store l)

module _ (before after : Memory) (old new : Ledger) (l m : Lane) where
  -- the instruction goes on as the row says, paid by this charge: what is seen, the lane, and the sheet; every other event and actor is
  -- as it was
  pub record GoesOn (c : Charge) (g : Going) : Type 0 where
    pub seen_is : seen after.store ≡ (after_going (seen before.store) (stack_of before.store l) g).0
    pub lane_is : lane_of after.store m ≡ gone (seen before.store) (lane_of before.store l) g
    pub sheet_is : sheet_in after new ≡ sheet_after (spend (sheet_in before old) (payer before l) c) (payer before l) g.effect
    pub event_is : m.event ≡ l.event
    pub held : Held after.store (names new.rows) m
    pub aside : Aside before.store after.store (lane_words before.store l)

  -- the instruction is paid, and changes nothing else
  pub record PaysOnly (c : Charge) : Type 0 where
    pub seen_is : seen after.store ≡ seen before.store
    pub lane_is : m ≡ l
    pub sheet_is : sheet_in after new ≡ spend (sheet_in before old) (payer before l) c
    pub aside : Aside before.store after.store []

  -- what an instruction comes to that was paid
  abbrev pub ActsBy : Charge → Outcome → StepEnd → Type 0
  ActsBy c (Goes g) end = (end ≡ GoingOn) × GoesOn c g
  ActsBy c (Faults w) end = (end ≡ Abort w) × PaysOnly c
  ActsBy c Commits end = (end ≡ Commit) × PaysOnly c

  -- where the payer is short of some kind nothing changes, and else the instruction is paid and does what its row says
  abbrev pub StepsBy : Option Quota → Row → StepEnd → Type 0
  StepsBy (Some kind) r end = (end ≡ RanOut kind) × (after ≡ before) × (new ≡ old) × (m ≡ l)
  StepsBy None r end = ActsBy r.charge r.outcome end

-- what stays through every instruction
pub record Stays (before after : Memory) (old new : Ledger) : Type 0 where
  pub books : Books after new
  pub room_is : after.room ≡ before.room
  pub sponsors : (w : W) → Among w (names old.rows) → Among w (names new.rows)
  pub transfers : new.transfers ≤ old.transfers + 3

-- one instruction of a lane is its row's
abbrev pub Steps : Memory → Memory → Ledger → Ledger → Lane → Lane → StepEnd → Type 0
Steps before after old new l m end =
    StepsBy before after old new l m (short (account (sheet_in before old) (payer before l)) (row_in before old l).charge) (row_in before old l) end
