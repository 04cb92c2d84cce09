-- Commands that are obeyed one after another.
use Rattle.std.proofs.Common.{◌≡◌, ◌∙◌, ℕ, List, [], ◌∷◌, ◌++◌, length, Option, refl, sym, ap, subst}
use Rattle.quad_memory.specs.Image.{RomImage}
use Rattle.vm_sponsor.specs.declared.amounts.Amounts.{Amounts}
use Rattle.vm_machine.specs.Machine.{Machine}
use Rattle.quad_debug.specs.Kept.{Debugged}
use Rattle.quad_debug.specs.Obeys.{Obeys, IsAfter}
use Rattle.quad_debug.specs.declared.command.Command.{Command}
use Rattle.hum_run.specs.Drive.{RunsFrom, Fresh}
use Rattle.hum_command.specs.Writes.{Writes}
use Rattle.hum_command.specs.Debugging.{debugs, ObeysAll, BreaksOffIn, EndsDebugging}
use Rattle.hum_command.specs.declared.answer.Answer.{Answer}
use Rattle.hum_command.specs.declared.answer.Answer.TheVariants.{Done, Fault}

-- one more was obeyed
pub obeys-next : (commands : List Command) (command : Command) (old at new : Debugged) (out_old out_at out_new : Option (List ℕ))
    → ObeysAll commands old at out_old out_at → Obeys command at new out_at out_new → ObeysAll (commands ++ command ∷ []) old new out_old out_new
obeys-next [] command old at new out_old out_at out_new before next = (
  new,
  out_new,
  subst (λ (o : Option (List ℕ)). Obeys command old new o out_new) before.1 (subst (λ (d : Debugged). Obeys command d new out_at out_new) before.0 next),
  (refl, refl),
)
obeys-next (c ∷ cs) command old at new out_old out_at out_new before next =
    (before.0, before.1, before.2, obeys-next cs command before.0 at new before.1 out_at out_new before.3 next)

-- ---- the machine is in the state of its run

module _ (image : RomImage) (grant : Amounts) (lanes seed : ℕ) where
  runs_after : (old new : Machine) (turns : ℕ) → RunsFrom image grant lanes seed old → IsAfter old new turns → RunsFrom image grant lanes seed new
  runs_after old new turns runs after = record {
    image_is = after.image ∙ runs.image_is;
    grant_is = after.grant ∙ runs.grant_is;
    lanes_are = after.lanes ∙ runs.lanes_are;
    seed_is = after.seed ∙ runs.seed_is;
    run = let a = after.image in let b = after.grant in let d = after.lanes in let e = after.seed in let f = after.turns_are in let h = after.state in cc;
  }

  pub runs_on : (commands : List Command) (old new : Debugged) (out_old out_new : Option (List ℕ)) → RunsFrom image grant lanes seed old.machine
      → ObeysAll commands old new out_old out_new → RunsFrom image grant lanes seed new.machine
  runs_on [] old new out_old out_new runs obeys = subst (λ (d : Debugged). RunsFrom image grant lanes seed d.machine) (sym obeys.0) runs
  runs_on (command ∷ commands) old new out_old out_new runs obeys =
      runs_on commands obeys.0 new obeys.1 out_new (runs_after old.machine obeys.0.machine obeys.2.turns runs obeys.2.machine) obeys.3

  pub runs_broken : (commands : List Command) (old new : Debugged) (out_old out_new : Option (List ℕ)) → RunsFrom image grant lanes seed old.machine
      → BreaksOffIn commands old new out_old out_new → RunsFrom image grant lanes seed new.machine
  runs_broken commands old new out_old out_new runs b =
      runs_after b.at.machine new.machine b.breaks.completed (runs_on b.before old b.at out_old b.out_at runs b.obeyed) b.breaks.machine

  pub runs_to_end : (answer : Answer) (commands : List Command) (old new : Debugged) (out : Writes) → RunsFrom image grant lanes seed old.machine
      → EndsDebugging answer commands old new out → RunsFrom image grant lanes seed new.machine
  runs_to_end Done commands old new out runs ends = runs_on commands old new out.old out.new runs ends
  runs_to_end Fault commands old new out runs ends = runs_broken commands old new out.old out.new runs ends.0
  runs_to_end answer commands old new out runs ends = absurd ends

-- ---- where it began

debugged_at : Machine → ℕ → Debugged
debugged_at machine began = record { machine = machine; began = began }

pub began_fresh : (d : Debugged) (machine : Machine) → d.machine ≡ machine → d.began ≡ length machine.state.journal → Fresh machine → d ≡ debugs machine
unfolding debugged_at
began_fresh d machine same began fresh =
    ap (λ (m : Machine). debugged_at m d.began) same ∙ ap (debugged_at machine) (began ∙ ap length fresh.journal)
