-- What one instruction of an event in flight does to the state of a machine.
use Rattle.std.specs.Prelude.{◌≡◌, ℕ, ◌%◌, length, slice_get, Bool, true, false, List, Option, Some, None}
use Rattle.cap_words.specs.Words.{W}
use Rattle.instr_table.specs.declared.op.Op.{Op}
use Rattle.instr_table.specs.declared.op.Op.TheVariants.{SponsorStart}
use Rattle.instr_table.specs.declared.charge.Quota.{Quota}
use Rattle.instr_table.specs.Sheet.{Account, account, short, spend}
use Rattle.instr_table.specs.Outcome.{Outcome, Goes, Faults, Commits, Row}
use Rattle.instr_table.specs.Lane.{Lane as Flying, lane_row}
use Rattle.vm_turn.specs.State.{State}
use Rattle.vm_turn.specs.declared.journal.Turn.{Turn as Answer}
use Rattle.vm_turn.specs.Turn.{go_on, step}
use Rattle.vm_step.specs.declared.lane.StepEnd.{StepEnd}
use Rattle.vm_step.specs.declared.lane.StepEnd.TheVariants.{Going as GoingOn, Commit, Abort, RanOut}

-- it was paid, and the event goes on, or is still to end
abbrev pub PaidTo : Outcome → StepEnd → State → State → ℕ → Flying → List Account → Type 0
PaidTo (Goes g) end s t i l sheet = (end ≡ GoingOn) × (t ≡ go_on s i l sheet g)
PaidTo (Faults w) end s t i l sheet = (end ≡ Abort w) × (t ≡ record s { sheet = sheet })
PaidTo Commits end s t i l sheet = (end ≡ Commit) × (t ≡ record s { sheet = sheet })

-- nothing was done where the sponsor is short of some kind
abbrev pub StepsAs : Option Quota → Row → StepEnd → State → State → ℕ → Flying → Type 0
StepsAs (Some kind) r end s t i l = (end ≡ RanOut kind) × (t ≡ s)
StepsAs None r end s t i l = PaidTo r.outcome end s t i l (spend s.sheet l.own.sponsor r.charge)

-- the event at place i takes one instruction
abbrev pub StepsTo : State → State → ℕ → Flying → StepEnd → Type 0
StepsTo s t i l end = StepsAs (short (account s.sheet l.own.sponsor) (lane_row s.store s.sheet l).charge) (lane_row s.store s.sheet l) end s t i l

-- whether the instruction is `sponsor start`
abbrev pub is_start : Op → Bool
is_start SponsorStart = true
is_start op = false

abbrev pub starts : Option (Op × W) → Bool
starts None = false
starts (Some o) = is_start o.0

-- the event in flight that the pick chooses takes one instruction, where one is in flight
abbrev pub TakesOne : State → ℕ → State → Answer → Type 0
TakesOne s pick t a = (t, a) ≡ step s (pick % length s.flight) (slice_get s.flight (pick % length s.flight))
