-- An event of an actor with a behaviour: the behaviour is applied to the message, and the result is executed.
use Rattle.std.proofs.Common.{sym, subst, ℕ, suc, ◌+◌, ◌*◌, [], ◌∷◌, length, arith}
use Rattle.cap_words.specs.Words.{W}
use Rattle.cap_words.specs.Seen.{Seen}
use Rattle.instr_table.specs.Event.{Effects, no_effects}
use Rattle.instr_table.specs.Types.{Grows}
use Rattle.hum_meaning.specs.Action as action
use Rattle.hum_meaning.specs.Language.{Meaning}
use Rattle.hum_meaning.specs.Eval.{apply}
use Rattle.hum_meaning.specs.Exec.{perform}
use Rattle.hum_meaning.specs.Meaning.{meaning}
use Rattle.hum_meaning.specs.Deliver.{respond}
use Rattle.hum_core.specs.TestLists.{Tests, tests_language}
use Rattle.hum_code.specs.Bounds.{limits}
use Rattle.hum_code.specs.Comes.{point, Comes}
use Rattle.hum_code.specs.Code.{codes_to}
use Rattle.hum_code.specs.Stands.{Stands}
use Rattle.hum_code.specs.Emission.{Emission}
use Rattle.hum_code.proofs.World.{same}
use Rattle.hum_code.proofs.Steps.{push, own_state, message}
use Rattle.hum_code.proofs.Standing.{CoreValue, Gathered, longer_by, stands_later}
use Rattle.hum_code.proofs.Claims.{FunctionsRun, BlocksRun}
use Rattle.hum_code.proofs.Calls.{call_runs}
use Rattle.hum_code.proofs.Executing.{exec_runs}
use Rattle.hum_code.proofs.Compares.{follow_comes}
use Rattle.hum_code.proofs.Primitives.{primitives_run}
use Rattle.hum_code.proofs.Results.{Recorded, Facts, Gets, Ran, then_value}
use Rattle.hum_code.proofs.Committing.{Committed, committing_at}

-- the meaning of the program's trees within s steps
abbrev pub program_meaning : Emission → (s : ℕ) → Meaning Tests
program_meaning em s = meaning (tests_language em.layout.units) em.self (length em.setting.roll) s

-- nothing was gathered yet
pub nothing_recorded : (em : Emission) (t : Seen) → Recorded em t action.no_effects no_effects
nothing_recorded em t = record { created = tt; sent = tt; next = tt }

module _ (em : Emission) (s : ℕ) (functions : FunctionsRun em (limits s) (suc s) (codes_to em.setting em.layout (suc s)) (program_meaning em s))
    (blocks : BlocksRun em (limits s) (suc s) (program_meaning em s).exec) where
  -- the value is executed
  result_runs : (v : CoreValue) (f : Gathered) (left : ℕ) (t : Seen) (w : W) (d : Effects) (c q : ℕ) → Grows em.setting.base t
      → Facts em 0 46 no_effects 3 (1 + (1 + (1 + 0))) s v f left t w d c q
      → Gets em (limits s) (Committed em (limits s)) (perform (program_meaning em s) v f left) t (point em.code.runtime.applies.result (w ∷ []) d c q)
  result_runs v f left t w d c q above h =
      let r = em.code.runtime.applies in
      push r.executes (follow_comes em (limits s) (Ran em 9 r.ending [] d (suc c) (1 + q) left) (Committed em (limits s))
      (perform (program_meaning em s) v f left) t _ above
      (exec_runs em (limits s) (suc s) (program_meaning em s) blocks r.ending w [] d (suc c) (1 + q) left f t
      (omega (arith, h.cycles_in, h.steps)) above h.record_stands
      (omega (arith, h.cycles_in)) (omega (arith, h.quads_in)) (omega (arith, h.steps)) v h.stands)
      (λ u f' left' t' l g b e. subst (λ l. Comes em.setting (64 * suc s) (Committed em (limits s) u f' left') t' l) (sym e.is)
      (committing_at em (limits s) r.ending r.k r.commits f' left' t' e.effects e.cycles e.quads e.facts.record_stands
      (omega (arith, h.cycles_in, e.facts.cycles_in)) (omega (arith, h.quads_in, e.facts.quads_in)))))

  pub apply_comes : (behaviour v : CoreValue) → Stands em.layout em.setting.base em.setting.roll em.setting.own.state behaviour
      → Stands em.layout em.setting.base em.setting.roll em.setting.own.message v
      → Gets em (limits s) (Committed em (limits s))
      (respond (tests_language em.layout.units) em.self (length em.setting.roll) s behaviour v action.no_effects s)
      em.setting.base (point em.layout.apply [] no_effects 0 0)
  apply_comes behaviour v bs ms =
      let r = em.code.runtime.applies in
      let base = em.setting.base in
      own_state r.reads.1 (message r.reads.2 (push r.calls
      (then_value em (limits s) (Committed em (limits s)) 0 46 r.result [] no_effects 3 (1 + (1 + (1 + 0))) s
      (apply (tests_language em.layout.units) em.self (length em.setting.roll) (program_meaning em s) behaviour v action.no_effects s)
      _ base _ (same base)
      (call_runs em (limits s) (suc s) (program_meaning em s) functions (primitives_run em (limits s)) v r.result
      em.setting.own.message em.setting.own.state [] no_effects 3 (1 + (1 + (1 + 0))) s action.no_effects base (omega arith) (same base)
      (stands_later em.layout base base _ _ (same base) (longer_by em.setting.roll []) _ v ms)
      (nothing_recorded em base) (omega arith) (omega arith) (omega arith) behaviour
      (stands_later em.layout base base _ _ (same base) (longer_by em.setting.roll []) _ behaviour bs))
      (λ u f left t w d c q g b h. result_runs u f left t w d c q b h))))
