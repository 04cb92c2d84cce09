-- The end of a run: its lines on err, and its answer.
use Rattle.std.specs.Prelude.{◌≡◌, ◌⊎◌, ℕ, ◌<◌, List, [], ◌∷◌, ◌++◌, codes, decimal}
use Rattle.std.specs.List.{concat}
use Rattle.instr_table.specs.declared.charge.Quota.{Quota}
use Rattle.instr_table.specs.declared.charge.Quota.TheVariants.{Memory, Events, Cycles}
use Rattle.hum_run.specs.declared.report.Report.{Report}
use Rattle.hum_run.specs.declared.stop.Stop.{Stop}
use Rattle.hum_run.specs.declared.stop.Stop.TheVariants.{Rest, Bound, Spent, Broken}
use Rattle.hum_command.specs.Writes.{Writes, Wrote, WroteFront}
use Rattle.hum_command.specs.declared.answer.Answer.{Answer}
use Rattle.hum_command.specs.declared.answer.Answer.TheVariants as answer

abbrev pub kind_name : Quota → List ℕ
kind_name Memory = codes "memory"
kind_name Events = codes "events"
kind_name Cycles = codes "cycles"

-- the line of what the root ran out of, if it did
abbrev pub spent_line : Stop → List ℕ
spent_line Rest = []
spent_line Bound = []
spent_line (Spent kind held) = concat (codes "spent " ∷ kind_name kind ∷ codes "\n" ∷ [])
spent_line Broken = []

-- the line of counts
abbrev pub counts_line : Report → List ℕ
counts_line r = concat (
    codes "finished " ∷ decimal r.finished ∷ codes " committed " ∷ decimal r.committed ∷ codes " failed " ∷ decimal r.failed
    ∷ codes " spent " ∷ decimal r.spent ∷ codes " pending " ∷ decimal r.pending ∷ codes "\n" ∷ [])

-- the lines that end a run
abbrev pub ending : Stop → Report → List ℕ
ending stop report = spent_line stop ++ counts_line report

-- the answer of a run that stopped for this and came to these counts
abbrev pub AnswersTo : Stop → Report → Answer → Type 0
AnswersTo Rest r a = ((r.failed ≡ 0) × (a ≡ answer.Done)) ⊎ ((0 < r.failed) × (a ≡ answer.EventFailed))
AnswersTo Bound r a = a ≡ answer.Bound
AnswersTo (Spent kind held) r a = a ≡ answer.Spent kind
AnswersTo Broken r a = a ≡ answer.Fault

-- the lines were written and it has that answer; or a front of them was, and the answer is a fault
abbrev pub EndsSo : Stop → Report → Answer → Writes → Type 0
EndsSo stop r a err = (AnswersTo stop r a × Wrote err (ending stop r)) ⊎ ((a ≡ answer.Fault) × WroteFront err (ending stop r))
