-- What the answer of a run says of its machine, and of what was written.
use Rattle.std.specs.Prelude.{◌≡◌, ◌⊎◌, ℕ, ◌<◌, List, [], ◌∷◌, ◌++◌, Option, Some, false}
use Rattle.hum_outside.specs.Outside.{Rose, AppendsFront, appended}
use Rattle.instr_table.specs.declared.charge.Quota.{Quota}
use Rattle.vm_turn.specs.declared.journal.Entry.{Entry}
use Rattle.vm_machine.specs.Machine.{Machine}
use Rattle.hum_run.specs.Report.{count_of, is_failed, report_of}
use Rattle.hum_run.specs.Drive.{is_reached, next_piece, entry_line, failed_lines, Stops, Unreached, RanOutLast}
use Rattle.hum_run.specs.declared.stop.Stop.{Stop}
use Rattle.hum_run.specs.declared.stop.Stop.TheVariants as stop
use Rattle.hum_command.specs.Writes.{Writes, Wrote}
use Rattle.hum_command.specs.Ending.{ending}
use Rattle.hum_command.specs.declared.answer.Answer.{Answer}
use Rattle.hum_command.specs.declared.answer.Answer.TheVariants as answer

-- the lines that end a run for this
abbrev pub last_lines : Stop → Machine → List ℕ
last_lines stop m = ending stop (report_of m.state)

-- No further turn was taken, for this, and none where the bound was reached. Out got all that the machine wrote, and err the lines of its
-- failed events and those that end the run.
pub record Ended (bound : Option ℕ) (stop : Stop) (m : Machine) (written : List ℕ) (out err : Writes) : Type 0 where
  pub stops : Stops bound stop m
  pub unreached : Unreached bound 0 m
  pub output : Wrote out written
  pub lines : Wrote err (failed_lines m.state.journal ++ last_lines stop m)

-- The root ran out of that kind, in the last turn: it held less of it than the next instruction of the chosen event costs.
pub record EndedShort (bound : Option ℕ) (kind : Quota) (m : Machine) (written : List ℕ) (out err : Writes) : Type 0 where
  pub held : ℕ
  pub ended : Ended bound (stop.Spent kind held) m written out err
  pub last : RanOutLast m kind

-- A write of an event failed: out also got a front of what the next turn writes, which was to be taken and writes something, and err the
-- lines of the failed events.
pub record FailedOut (bound : Option ℕ) (m : Machine) (written : List ℕ) (out err : Writes) : Type 0 where
  pub unreached : Unreached bound 0 m
  pub unreached_now : is_reached bound m.state ≡ false
  pub writes : next_piece m ≡ [] → ⊥
  pub output : AppendsFront (appended out.old written) out.new (next_piece m)
  pub rose : Rose out.faults_old out.faults_new
  pub lines : Wrote err (failed_lines m.state.journal)

-- The line of the last entry, which has one, failed: err got the lines before it and a front of it.
pub record FailedErr (bound : Option ℕ) (m : Machine) (written : List ℕ) (out err : Writes) : Type 0 where
  pub unreached : Unreached bound 0 m
  pub entries : List Entry
  pub last : Entry
  pub journal : m.state.journal ≡ entries ++ last ∷ []
  pub has_line : entry_line last ≡ [] → ⊥
  pub output : Wrote out written
  pub lines : AppendsFront (appended err.old (failed_lines entries)) err.new (entry_line last)
  pub rose : Rose err.faults_old err.faults_new

-- A line that ends the run failed: err got the lines of the failed events and a front of those that end the run.
pub record FailedEnd (bound : Option ℕ) (m : Machine) (written : List ℕ) (out err : Writes) : Type 0 where
  pub stop : Stop
  pub stops : Stops bound stop m
  pub unreached : Unreached bound 0 m
  pub output : Wrote out written
  pub lines : AppendsFront (appended err.old (failed_lines m.state.journal)) err.new (last_lines stop m)
  pub rose : Rose err.faults_old err.faults_new

-- how many events failed
abbrev pub failures : Machine → ℕ
failures m = count_of is_failed m.state.journal

abbrev pub MachineAnswers : Answer → Option ℕ → Machine → List ℕ → Writes → Writes → Type 0
-- The machine is at rest, and no event failed.
MachineAnswers answer.Done bound m written out err = (failures m ≡ 0) × Ended bound stop.Rest m written out err
-- The machine is at rest, and an event failed.
MachineAnswers answer.EventFailed bound m written out err = (0 < failures m) × Ended bound stop.Rest m written out err
-- The bound's number of events is finished, and a message is pending.
MachineAnswers answer.Bound bound m written out err = Ended bound stop.Bound m written out err
-- The root sponsor ran out of this kind.
MachineAnswers (answer.Spent kind) bound m written out err = EndedShort bound kind m written out err
-- A write failed: of an event's output, of its line, or of the lines that end the run.
MachineAnswers answer.Fault bound m written out err =
    FailedOut bound m written out err ⊎ FailedErr bound m written out err ⊎ FailedEnd bound m written out err
-- No run has another answer.
MachineAnswers answer bound m written out err = ⊥

-- the statuses of a run where no count rises: the last one only with a bound
abbrev pub EndsRun : Option ℕ → ℕ → Type 0
EndsRun bound status = (status ≡ 0) ⊎ (status ≡ 5) ⊎ (status ≡ 7) ⊎ (status ≡ 9) ⊎ ((status ≡ 6) × (n : ℕ) × (bound ≡ Some n))
