-- What a run's journal counts.
use Rattle.std.specs.Prelude.{ℕ, Bool, true, false, List, length}
use Rattle.std.specs.List.{filter}
use Rattle.vm_turn.specs.declared.journal.Entry.{Entry}
use Rattle.vm_turn.specs.declared.journal.Outcome.{Outcome}
use Rattle.vm_turn.specs.declared.journal.Outcome.TheVariants.{Committed, Failed, RanOut}
use Rattle.vm_turn.specs.State.{State}
use Rattle.hum_run.specs.declared.report.Report.{Report}

abbrev pub is_committed : Outcome → Bool
is_committed Committed = true
is_committed (Failed reason) = false
is_committed (RanOut kind) = false

abbrev pub is_failed : Outcome → Bool
is_failed Committed = false
is_failed (Failed reason) = true
is_failed (RanOut kind) = false

abbrev pub is_ran_out : Outcome → Bool
is_ran_out Committed = false
is_ran_out (Failed reason) = false
is_ran_out (RanOut kind) = true

-- how many of these entries ended so
abbrev pub count_of : (Outcome → Bool) → List Entry → ℕ
count_of ended entries = length (filter (λ (e : Entry). ended e.outcome) entries)

-- what the journal counts, and how many messages are pending
abbrev pub report_of : State → Report
report_of s = record {
  finished = length s.journal;
  committed = count_of is_committed s.journal;
  failed = count_of is_failed s.journal;
  spent = count_of is_ran_out s.journal;
  pending = length s.messages;
}
