-- Where nothing fails, the text of `run` or `chain` is run or refused.
use Rattle.std.proofs.Common.{true, false, ◌≡◌, ◌⊎◌, ◌∙◌, ℕ, List, [], Option, Some, None, refl, sym, ap, subst, inl, inr, ⊎_elim, arith}
use Rattle.std.proofs.lemmas.Option.{none-some, same_Some}
use Rattle.vm_sponsor.specs.declared.amounts.Amounts.{Amounts}
use Rattle.vm_turn.specs.declared.journal.Turn.TheVariants.{Rest}
use Rattle.vm_turn.specs.State.{State}
use Rattle.vm_turn.specs.Turn.{dispatchable, turn}
use Rattle.vm_turn.specs.Run as machine
use Rattle.vm_turn.specs.Run.{picks}
use Rattle.vm_turn.specs.Spending.{spent_in_run}
use Rattle.vm_machine.specs.Machine.{Machine}
use Rattle.hum_syntax.specs.declared.Tree.{Tree}
use Rattle.hum_syntax.specs.Forms.{Bytes}
use Rattle.hum_meaning.specs.Deliver.{Configuration}
use Rattle.hum_meaning.specs.Named.{Named, written}
use Rattle.hum_meaning.specs.Written.{humus}
use Rattle.hum_meaning.specs.After.{opening}
use Rattle.hum_front.specs.Accepted.{Accepted, IsRefusal}
use Rattle.hum_front.specs.declared.error.StartError.{StartError}
use Rattle.hum_front.specs.declared.error.StartError.TheVariants as start
use Rattle.hum_front.proofs.Programs.{same_reading, never_both}
use Rattle.hum_sim.specs.File.{StandsForFile}
use Rattle.hum_sim.specs.OneLane.{ComesToRest, CompletesThem}
use Rattle.hum_sim.specs.Sim.{Sim, file_of, layout_in, state_of}
use Rattle.hum_run.specs.Drive.{AtRest, is_reached}
use Rattle.hum_run.specs.declared.run.Run.{Run}
use Rattle.hum_run.proofs.Rests.{rests}
use Rattle.hum_command.specs.Writes.{Faultless}
use Rattle.hum_command.specs.Texts.{IsText, Unreadable}
use Rattle.hum_command.specs.Grants.{grant_of}
use Rattle.hum_command.specs.Call.{Call, Reads}
use Rattle.hum_command.specs.MachineAnswers.{MachineAnswers, EndsRun}
use Rattle.hum_command.specs.TextRuns.{AlwaysFits}
use Rattle.hum_command.specs.TextRefusals.{RefusesText}
use Rattle.hum_command.specs.RunAnswers.{RunsFile, RefusesFileText, FileAnswers, FileCompletes, RestsIn}
use Rattle.hum_command.specs.Answers.{status_of}
use Rattle.hum_command.specs.declared.keys.Keys.{Keys}
use Rattle.hum_command.specs.declared.record.Record.{Record}
use Rattle.hum_command.specs.declared.refusal.TextRefusal.{TextRefusal}
use Rattle.hum_command.specs.declared.refusal.TextRefusal.TheVariants.{TooLong, At}
use Rattle.hum_command.specs.declared.refusal.TextCause.TheVariants as cause
use Rattle.hum_command.specs.declared.answer.Answer.{Answer}
use Rattle.hum_command.specs.declared.answer.Answer.TheVariants.{Done, Unread, TextRefused, Fault, Spent, Bound, NoMemory, EventFailed}
use Rattle.hum_command.proofs.Texts.{text_of}

-- ---- what `run` and `exec` have in common

pub reached : (bound : Option ℕ) (s : State) → is_reached bound s ≡ true → (n : ℕ) × (bound ≡ Some n)
reached None s is = let no : false ≡ true = is in absurd (cc)
reached (Some n) s is = (n, refl)

-- a file that is told is there
pub file_there : (file : Option (Option (List ℕ))) (bytes : List ℕ) (c : Call) → file ≡ Some (Some bytes) → Reads c → Unreadable c.faults_old c.faults_new file → ⊥
file_there file bytes c is no_fault cause = ⊎_elim no_fault (λ none. let some = is in cc) cause

-- what holds of its text holds of the bytes that are told
pub told_of : (file : Option (Option (List ℕ))) (bytes : List ℕ) → file ≡ Some (Some bytes) → (P : List ℕ → Type 0) (text : List ℕ) → IsText file text → P text → P bytes
told_of file bytes is P text has p = subst P (text_of file bytes text is has) p

-- where no fault was counted no write failed
pub unbroken : (bound : Option ℕ) (m : Machine) (wrote : List ℕ) (c : Call) → Faultless c.out → Faultless c.err → MachineAnswers Fault bound m wrote c.out c.err → ⊥
unbroken bound m wrote c no_out no_err a = ⊎_elim (λ out. no_out out.rose) (⊎_elim (λ err. no_err err.rose) (λ end. no_err end.rose)) a

-- ---- accepted or refused

refusal_of : (text : Bytes) (why : TextRefusal) → RefusesText text why → (error : StartError) × IsRefusal text error
refusal_of text TooLong r = (start.TooLong, r)
refusal_of text (At place (cause.Tokens tokens)) r = (start.Lex (record { at = r.0; cause = tokens }), r.2)
refusal_of text (At place cause.Tree) r = (start.Parse r.0, r.2)
refusal_of text (At place (cause.Name kind name)) r = (start.Scope (record { at = r.0; cause = kind }), (name.items, r.2))

pub accepts : (text : Bytes) (tree : Tree) (why : TextRefusal) → Accepted text tree → RefusesText text why → ⊥
accepts text tree why accepted refused = let refusal = refusal_of text why refused in never_both text tree refusal.0 accepted refusal.1

module _ (file : Option (Option (List ℕ))) (name text : List ℕ) (keys : Keys) (c : Call) (is : file ≡ Some (Some text)) where
  ran_tree : (answer : Answer) (a : RunsFile file keys answer c) → Accepted text a.run.sim.compiled.tree
  ran_tree answer a = told_of file text is (λ (bs : List ℕ). Accepted bs a.run.sim.compiled.tree) a.text a.is_text a.ends.runs.accepted

  module _ (tree : Tree) (accepted : Accepted text tree) (no_fault : Reads c) (no_out : Faultless c.out) (no_err : Faultless c.err) where
    not_refused : (why : TextRefusal) → RefusesFileText file why → ⊥
    not_refused why a = accepts text tree why accepted (told_of file text is (λ (bs : List ℕ). RefusesText bs why) a.text a.is_text a.refused)

    run_runs : (answer : Answer) → FileAnswers file name keys answer c → EndsRun keys.bound (status_of answer)
    run_runs Done a = inl refl
    run_runs (Spent kind) a = inr (inl refl)
    run_runs NoMemory a = inr (inr (inl refl))
    run_runs EventFailed a = inr (inr (inr (inl refl)))
    run_runs Bound a = let some = reached keys.bound a.run.sim.machine.state a.ends.ends.stops.1 in inr (inr (inr (inr (refl, some.0, some.1))))
    run_runs Unread a = absurd (file_there file text c is no_fault a.0)
    run_runs (TextRefused why) a = absurd (not_refused why a.0)
    run_runs Fault a = absurd (unbroken keys.bound a.run.sim.machine a.ends.runs.stands.run.follows.configuration.output c no_out no_err a.ends.ends)
    run_runs answer a = absurd a.ends.ends

    -- ---- deliveries that come to rest

    module _ (one : keys.lanes ≡ 1) (free : keys.bound ≡ None) (d : Configuration (Named written)) (comes : ComesToRest humus (grant_of keys) (opening tree.statements) d) where
      abbrev Them : Sim → Type 0
      Them s = (r : ComesToRest humus s.machine.grant (opening (file_of s)) d) × CompletesThem (file_of s) s.machine.image (layout_in s) s.machine.grant (picks s.machine.seed s.machine.turns) d r.entries

      completed : (answer : Answer) (a : RunsFile file keys answer c) → Them a.run.sim
      completed answer a =
          let runs = a.ends.runs in
          let s = a.run.sim in
          let r : ComesToRest humus s.machine.grant (opening (file_of s)) d
          = subst (λ (t : Tree). ComesToRest humus s.machine.grant (opening t.statements) d) (same_reading text tree s.compiled.tree accepted (ran_tree answer a))
          (subst (λ (g : Amounts). ComesToRest humus g (opening tree.statements) d) (sym runs.from.grant_is) comes) in
          (r, runs.completes one d r)

      lanes_are : (answer : Answer) (a : RunsFile file keys answer c) → a.run.sim.machine.state.lanes ≡ 1
      lanes_are answer a = a.ends.runs.from.lanes_are ∙ one

      -- the root holds out
      holds_out : (answer : Answer) (a : RunsFile file keys answer c) → a.run.sim.machine.state.out_of ≡ None
      holds_out answer a =
          let m = a.run.sim.machine in
          ap (λ (s : State). s.out_of) a.ends.runs.stands.is_there
          ∙ subst (λ (n : ℕ). (machine.run m.image m.grant n (picks m.seed m.turns)).out_of ≡ None) (sym (lanes_are answer a)) (completed answer a).1.holds_out

      at_rest : (answer : Answer) (a : RunsFile file keys answer c) → AtRest a.run.sim.machine.state → StandsForFile (file_of a.run.sim) a.run.sim.machine.image (layout_in a.run.sim)
          (spent_in_run a.run.sim.machine.image a.run.sim.machine.grant a.run.sim.machine.state.lanes (picks a.run.sim.machine.seed a.run.sim.machine.turns)) (state_of a.run.sim) d
      at_rest answer a r =
          let s = a.run.sim in
          let m = s.machine in
          let same = a.ends.runs.stands.is_there in
          let there : AtRest (state_of s) = record {
            no_flight = ap (λ (x : State). x.flight) (sym same) ∙ r.no_flight;
            no_dispatch = ap dispatchable (sym same) ∙ r.no_dispatch;
            not_out = ap (λ (x : State). x.out_of) (sym same) ∙ r.not_out;
          } in
          let rest : (turn (machine.run m.image m.grant 1 (picks m.seed m.turns)) 0).1 ≡ Rest
          = subst (λ (n : ℕ). (turn (machine.run m.image m.grant n (picks m.seed m.turns)) 0).1 ≡ Rest) (lanes_are answer a) (rests (state_of s) 0 there) in
          subst (λ (n : ℕ). StandsForFile (file_of s) m.image (layout_in s) (spent_in_run m.image m.grant n (picks m.seed m.turns)) (machine.run m.image m.grant n (picks m.seed m.turns)) d)
          (sym (lanes_are answer a)) ((completed answer a).1.stands 0 rest)

      rests_in : (answer : Answer) (a : RunsFile file keys answer c) → AtRest a.run.sim.machine.state → a.run.sim.machine.state.messages ≡ [] → RestsIn d c
      rests_in answer a r none = record {
        run = a.run;
        left = ap (λ (x : Record). x.run) a.left;
        pending = none;
        stands = at_rest answer a r;
      }

      run_rests : (answer : Answer) → FileAnswers file name keys answer c → (status_of answer ≡ 7) ⊎ (((status_of answer ≡ 0) ⊎ (status_of answer ≡ 9)) × RestsIn d c)
      run_rests NoMemory a = inl refl
      run_rests Done a = inr (inl refl, rests_in Done a a.ends.ends.1.1.stops.0 a.ends.ends.0)
      run_rests EventFailed a = inr (inr refl, rests_in EventFailed a a.ends.ends.1.1.stops.0 a.ends.ends.0)
      run_rests (Spent kind) a = absurd (none-some kind (sym (holds_out (Spent kind) a) ∙ a.ends.ends.1.ended.stops.0))
      run_rests Bound a = let some = reached keys.bound a.run.sim.machine.state a.ends.ends.stops.1 in absurd (none-some some.0 (sym free ∙ some.1))
      run_rests Unread a = absurd (file_there file text c is no_fault a.0)
      run_rests (TextRefused why) a = absurd (not_refused why a.0)
      run_rests Fault a = absurd (unbroken keys.bound a.run.sim.machine a.ends.runs.stands.run.follows.configuration.output c no_out no_err a.ends.ends)
      run_rests answer a = absurd a.ends.ends

  module _ (why : StartError) (refusal : IsRefusal text why) (no_fault : Reads c) where
    runs_none : (answer : Answer) → RunsFile file keys answer c → ⊥
    runs_none answer a = never_both text a.run.sim.compiled.tree why (ran_tree answer a) refusal

    run_refused : (answer : Answer) → FileAnswers file name keys answer c → (status_of answer ≡ 3) ⊎ (status_of answer ≡ 7)
    run_refused (TextRefused other) a = inl refl
    run_refused NoMemory a = inr refl
    run_refused Unread a = absurd (file_there file text c is no_fault a.0)
    run_refused answer a = absurd (runs_none answer a)

-- ---- where the bounds fit

module _ (file : Option (Option (List ℕ))) (name : List ℕ) (keys : Keys) (c : Call) where
  same_run : (answer : Answer) (a : RunsFile file keys answer c) (run : Run) → c.last_new.run ≡ Some run → run ≡ a.run
  same_run answer a run last = same_Some run a.run (sym last ∙ ap (λ (x : Record). x.run) a.left)

  run_fits : (answer : Answer) → FileAnswers file name keys answer c → (run : Run) → c.last_new.run ≡ Some run → AlwaysFits run.sim → ¬ (status_of answer ≡ 5)
  run_fits (Spent kind) a run last fits = λ five.
      let stands = a.ends.runs.stands in
      let holds = stands.run.holds_out (subst (λ (r : Run). AlwaysFits r.sim) (same_run (Spent kind) a run last) fits) in
      none-some kind (sym holds ∙ ap (λ (s : State). s.out_of) (sym stands.is_there) ∙ a.ends.ends.1.ended.stops.0)
  run_fits answer a run last fits = λ five. omega (arith, five)

  pub run_completes : (answer : Answer) → FileAnswers file name keys answer c → FileCompletes file keys (status_of answer) c
  run_completes answer a = record {
    runs = λ text tree is accepted no_fault no_out no_err. run_runs file name text keys c is tree accepted no_fault no_out no_err answer a;
    refused = λ text why is refusal no_fault. run_refused file name text keys c is why refusal no_fault answer a;
    fits = run_fits answer a;
    rests = λ text tree is accepted one free d comes no_fault no_out no_err. run_rests file name text keys c is tree accepted no_fault no_out no_err one free d comes answer a;
  }
