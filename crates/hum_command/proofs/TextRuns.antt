-- From the turns of a text's run to its answer.
use Rattle.std.proofs.Common.{◌≡◌, ◌∙◌, ◌≤◌, ℕ, List, Bool, false, Option, Some, refl, sym, ap, subst, inl, inr}
use Rattle.instr_table.specs.declared.charge.Quota.{Quota}
use Rattle.vm_turn.specs.State.{State}
use Rattle.hum_syntax.specs.Forms.{Bytes}
use Rattle.hum_front.specs.Accepted.{Accepted}
use Rattle.hum_sim.specs.Compiled.{Compiled, IsCompiled}
use Rattle.hum_sim.specs.Sim.{Stands, Completes}
use Rattle.hum_run.specs.Report.{report_of}
use Rattle.hum_run.specs.Drive.{RunsFrom, written_by, Drives, Breaks, RoseOn, Unreached, RanOutSince, is_reached}
use Rattle.hum_run.specs.Run.{Halts}
use Rattle.hum_run.specs.declared.run.Run.{Run}
use Rattle.hum_run.specs.declared.stop.Stop.{Stop}
use Rattle.hum_run.specs.declared.stop.Stop.TheVariants as stop
use Rattle.hum_command.specs.Writes.{Writes}
use Rattle.hum_command.specs.Grants.{grant_of}
use Rattle.hum_command.specs.Ending.{EndsSo, AnswersTo}
use Rattle.hum_command.specs.MachineAnswers.{MachineAnswers}
use Rattle.hum_command.specs.TextRuns.{RunsText, StartsText, RunEnds, EndsText, AnswersOf, RanOutFor}
use Rattle.hum_command.specs.declared.keys.Keys.{Keys}
use Rattle.hum_command.specs.declared.answer.Answer.{Answer}
use Rattle.hum_command.specs.declared.answer.Answer.TheVariants as answer
use Rattle.hum_command.proofs.Ends.{sink, kept, kept-broken, failed, finished}

-- ---- in terms of the deliveries

module _ (run : Run) (stands : Stands run.sim) where
  -- the machine's output is the configuration's
  pub in_configuration : (x : Answer) (bound : Option ℕ) (out err : Writes) → MachineAnswers x bound run.sim.machine (written_by run.sim.machine) out err
      → AnswersOf x bound run stands out err
  in_configuration x bound out err a = subst (λ (o : List ℕ). MachineAnswers x bound run.sim.machine o out err) stands.run.what_follows.output a

  pub ran_out_for : (kind : Quota) → run.sim.machine.state.out_of ≡ Some kind → RanOutFor kind run.sim
  ran_out_for kind out = stands.run.why_out kind (ap (λ (s : State). s.out_of) (sym stands.is_there) ∙ out)

  -- a run that halted
  module _ (bound : Option ℕ) (out err : Writes) where
    halted : (stop : Stop) (x : Answer) → Halts false bound stop run.sim.machine → AnswersTo stop (report_of run.sim.machine.state) x
        → MachineAnswers x bound run.sim.machine (written_by run.sim.machine) out err → RunEnds x bound run stands out err
    halted stop.Rest x halts (inl done) a =
        let at_rest : RunEnds answer.Done bound run stands out err
        = (halts.1 refl, in_configuration answer.Done bound out err (subst (λ (y : Answer). MachineAnswers y bound run.sim.machine (written_by run.sim.machine) out err) done.1 a)) in
        subst (λ (y : Answer). RunEnds y bound run stands out err) (sym done.1) at_rest
    halted stop.Rest x halts (inr failed) a =
        let at_rest : RunEnds answer.EventFailed bound run stands out err
        = (halts.1 refl, in_configuration answer.EventFailed bound out err (subst (λ (y : Answer). MachineAnswers y bound run.sim.machine (written_by run.sim.machine) out err) failed.1 a)) in
        subst (λ (y : Answer). RunEnds y bound run stands out err) (sym failed.1) at_rest
    halted stop.Bound x halts answers a =
        let reached : RunEnds answer.Bound bound run stands out err
        = in_configuration answer.Bound bound out err (subst (λ (y : Answer). MachineAnswers y bound run.sim.machine (written_by run.sim.machine) out err) answers a) in
        subst (λ (y : Answer). RunEnds y bound run stands out err) (sym answers) reached
    halted (stop.Spent kind held) x halts answers a =
        let spent : RunEnds (answer.Spent kind) bound run stands out err
        = (ran_out_for kind halts.0.0, in_configuration (answer.Spent kind) bound out err (subst (λ (y : Answer). MachineAnswers y bound run.sim.machine (written_by run.sim.machine) out err) answers a)) in
        subst (λ (y : Answer). RunEnds y bound run stands out err) (sym answers) spent
    halted stop.Broken x halts answers a = absurd halts.0

-- ---- the run

module _ (text : Bytes) (keys : Keys) (old new : Run) (starts : StartsText text keys old) (compiled : new.sim.compiled ≡ old.sim.compiled) (stands : Stands new.sim)
    (completes : new.sim.machine.state.lanes ≡ 1 → Completes new.sim) where
  abbrev runs : RunsFrom old.sim.compiled.image (grant_of keys) keys.lanes keys.seed new.sim.machine → RunsText text keys new
  runs from = record {
    accepted = subst (λ (c : Compiled). Accepted text c.tree) (sym compiled) starts.accepted;
    compiled = subst (λ (c : Compiled). IsCompiled c.tree c.units c.image) (sym compiled) starts.compiled;
    from = subst (λ (c : Compiled). RunsFrom c.image (grant_of keys) keys.lanes keys.seed new.sim.machine) (sym compiled) from;
    stands = stands;
    completes = λ one. completes (from.lanes_are ∙ one);
  }

  module _ (oo on eo em en : Option (List ℕ)) (a b c d e : ℕ) (unreached : Unreached keys.bound old.sim.machine.turns new.sim.machine) where
    -- a write of an event failed
    pub text_failed : (on_err : Bool) → Breaks on_err old.sim.machine new.sim.machine oo on eo en
        → (on_err ≡ false → is_reached keys.bound new.sim.machine.state ≡ false) → RoseOn on_err a b c e
        → EndsText text keys answer.Fault new (sink oo on a b) (sink eo en c e)
    text_failed on_err broke now rose = record {
      runs = runs (kept-broken old.sim.compiled.image (grant_of keys) keys.lanes keys.seed old.sim.machine new.sim.machine on_err oo on eo en broke starts.start.from);
      ends = in_configuration new stands answer.Fault keys.bound (sink oo on a b) (sink eo en c e)
          (failed keys.bound old.sim.machine new.sim.machine oo on eo en a b c e starts.start.fresh unreached on_err broke now rose);
    }

    -- the run halted, and the last lines were written
    pub text_finished : (stop : Stop) (x : Answer) → Drives old.sim.machine new.sim.machine oo on eo em → RanOutSince old.sim.machine.state.out_of new.sim.machine
        → Halts false keys.bound stop new.sim.machine → c ≤ d → EndsSo stop (report_of new.sim.machine.state) x (sink em en d e)
        → EndsText text keys x new (sink oo on a b) (sink eo en c e)
    text_finished stop x drives ran_out halts later so = record {
      runs = runs (kept old.sim.compiled.image (grant_of keys) keys.lanes keys.seed old.sim.machine new.sim.machine drives.bytes drives.entries drives.advances starts.start.from);
      ends = by so;
    }
      where
        comes : MachineAnswers x keys.bound new.sim.machine (written_by new.sim.machine) (sink oo on a b) (sink eo en c e)
        comes = finished keys.bound old.sim.machine new.sim.machine oo on eo em en a b c d e starts.start.fresh unreached drives ran_out stop x halts.0 later so

        by : EndsSo stop (report_of new.sim.machine.state) x (sink em en d e) → RunEnds x keys.bound new stands (sink oo on a b) (sink eo en c e)
        by (inl done) = halted new stands keys.bound (sink oo on a b) (sink eo en c e) stop x halts done.0 comes
        by (inr fault) =
            let broke : RunEnds answer.Fault keys.bound new stands (sink oo on a b) (sink eo en c e)
            = in_configuration new stands answer.Fault keys.bound (sink oo on a b) (sink eo en c e)
            (subst (λ (y : Answer). MachineAnswers y keys.bound new.sim.machine (written_by new.sim.machine) (sink oo on a b) (sink eo en c e)) fault.0 comes) in
            subst (λ (y : Answer). RunEnds y keys.bound new stands (sink oo on a b) (sink eo en c e)) (sym fault.0) broke
