-- The runs of texts.
use Rattle.std.specs.Prelude.{◌≡◌, ℕ, List, [], Option}
use Rattle.instr_table.specs.declared.charge.Quota.{Quota}
use Rattle.vm_turn.specs.Run.{picks}
use Rattle.hum_syntax.specs.Forms.{Bytes}
use Rattle.hum_front.specs.Accepted.{Accepted}
use Rattle.hum_sim.specs.Compiled.{IsCompiled}
use Rattle.hum_sim.specs.Sim.{Sim, Stands, Completes, file_of, layout_in}
use Rattle.hum_sim.specs.Runs.{RanOutBecause, BoundsAlwaysFit}
use Rattle.hum_run.specs.Drive.{RunsFrom}
use Rattle.hum_run.specs.Run.{IsStart}
use Rattle.hum_run.specs.declared.run.Run.{Run}
use Rattle.hum_command.specs.Writes.{Writes}
use Rattle.hum_command.specs.Grants.{grant_of, lanes_of}
use Rattle.hum_command.specs.MachineAnswers.{MachineAnswers}
use Rattle.hum_command.specs.declared.keys.Keys.{Keys}
use Rattle.hum_command.specs.declared.answer.Answer.{Answer}
use Rattle.hum_command.specs.declared.answer.Answer.TheVariants.{Done, Fault, Spent, Bound, EventFailed}

-- It is a run of this text with these keys. The text is accepted, and the program is its. The machine was booted from the program's image with
-- what the keys grant, and is in the state of its run. It stands for the configuration that the deliveries of its journal lead to. With one
-- lane, where the deliveries come to rest within the grant, the root does not run out, and at rest they are made.
pub record RunsText (text : Bytes) (keys : Keys) (run : Run) : Type 0 where
  pub accepted : Accepted text run.sim.compiled.tree
  pub compiled : IsCompiled run.sim.compiled.tree run.sim.compiled.units run.sim.compiled.image
  pub from : RunsFrom run.sim.compiled.image (grant_of keys) keys.lanes keys.seed run.sim.machine
  pub stands : Stands run.sim
  pub completes : keys.lanes ≡ 1 → Completes run.sim

-- so it begins
pub record StartsText (text : Bytes) (keys : Keys) (run : Run) : Type 0 where
  pub accepted : Accepted text run.sim.compiled.tree
  pub compiled : IsCompiled run.sim.compiled.tree run.sim.compiled.units run.sim.compiled.image
  pub start : IsStart (grant_of keys) (lanes_of keys) run

-- the output of the configuration that the run's deliveries lead to
abbrev pub output_of : (run : Run) → Stands run.sim → List ℕ
output_of run stands = stands.run.follows.configuration.output

-- what an answer says of the machine and of what was written, where that output is all that was written
abbrev pub AnswersOf : Answer → Option ℕ → (run : Run) → Stands run.sim → Writes → Writes → Type 0
AnswersOf answer bound run stands out err = MachineAnswers answer bound run.sim.machine (output_of run stands) out err

-- why the root ran out of that kind, in terms of the deliveries: no choice of numbers of steps made the bounds of those in flight fit
abbrev pub RanOutFor : Quota → Sim → Type 0
RanOutFor kind s =
    RanOutBecause (file_of s) s.machine.image (layout_in s) s.machine.grant s.machine.state.lanes (picks s.machine.seed s.machine.turns) kind

-- at each moment of its run the bounds of all finished deliveries and of those in flight fit the grant
abbrev pub AlwaysFits : Sim → Type 0
AlwaysFits s =
    BoundsAlwaysFit (file_of s) s.machine.image (layout_in s) s.machine.grant s.machine.state.lanes (picks s.machine.seed s.machine.turns)

abbrev pub RunEnds : Answer → Option ℕ → (run : Run) → Stands run.sim → Writes → Writes → Type 0
-- No message is pending, and no event failed.
RunEnds Done bound run stands out err = (run.sim.machine.state.messages ≡ []) × AnswersOf Done bound run stands out err
-- No message is pending, and an event failed.
RunEnds EventFailed bound run stands out err = (run.sim.machine.state.messages ≡ []) × AnswersOf EventFailed bound run stands out err
-- The bound's number of events is finished, and a message is pending.
RunEnds Bound bound run stands out err = AnswersOf Bound bound run stands out err
-- The root sponsor ran out of this kind: it held too little for the instruction that was due, and the bounds of the deliveries did not fit.
RunEnds (Spent kind) bound run stands out err = RanOutFor kind run.sim × AnswersOf (Spent kind) bound run stands out err
-- A write failed: of an event's output, of its line, or of the lines that end the run.
RunEnds Fault bound run stands out err = AnswersOf Fault bound run stands out err
-- No run has another answer.
RunEnds answer bound run stands out err = ⊥

-- a run of this text, with that answer
pub record EndsText (text : Bytes) (keys : Keys) (answer : Answer) (run : Run) (out err : Writes) : Type 0 where
  pub runs : RunsText text keys run
  pub ends : RunEnds answer keys.bound run runs.stands out err
