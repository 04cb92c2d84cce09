-- An event of the first actor: the outermost environment is made, and unit 0 runs in it.
use Rattle.std.proofs.Common.{◌≡◌, refl, ap, sym, subst, ◌∙◌, ℕ, zero, suc, pos, List, [], ◌∷◌, ◌++◌, length, reverse, Some, arith}
use Rattle.cap_words.specs.Words.{W, nil}
use Rattle.cap_words.specs.Seen.{Seen, cell_seen, grown}
use Rattle.instr_table.specs.declared.op.Op.TheVariants.{Pair}
use Rattle.instr_table.specs.Types.{Grows}
use Rattle.instr_table.specs.Lists.{next_quad, pair_quad, linked, last_linked, head_in, tail_in, nth}
use Rattle.instr_table.specs.Event.{Nothing, no_effects}
use Rattle.instr_table.specs.Outcome.{Going}
use Rattle.hum_meaning.specs.Value.{Actor, Plain, Function, Block, Outside, extend}
use Rattle.hum_meaning.specs.Action as action
use Rattle.hum_meaning.specs.Action.{Outcome, Undecided, and_then, ◌>>◌, step, pure, fail, no_match}
use Rattle.hum_meaning.specs.Language.{Matched}
use Rattle.hum_meaning.specs.Eval.{if_matched, eval_node}
use Rattle.hum_meaning.specs.Exec.{perform}
use Rattle.hum_meaning.specs.Meaning.{level}
use Rattle.hum_meaning.specs.Deliver.{respond}
use Rattle.hum_core.specs.declared.tested.Test.TheVariants as test
use Rattle.hum_core.specs.declared.tested.TestExpr.TheVariants as expr
use Rattle.hum_core.specs.Numbered.{Opening}
use Rattle.hum_core.specs.TestLists.{Tests, test_expr, one_test, tests_from, tests_language}
use Rattle.hum_code.specs.Bounds.{limits}
use Rattle.hum_code.specs.Comes.{Point, point, Comes, roll_with}
use Rattle.hum_code.specs.Stands.{Stands, StandsEnv}
use Rattle.hum_code.specs.Runtime.{outermost_words}
use Rattle.hum_core.specs.Openings.{outermost_values, outermost}
use Rattle.hum_code.specs.Opening.{Opens}
use Rattle.hum_code.specs.Emission.{Emission}
use Rattle.hum_code.proofs.World.{later, takes, read_in}
use Rattle.hum_code.proofs.Composing.{by_row}
use Rattle.hum_code.proofs.Steps.{push, state_}
use Rattle.hum_code.proofs.Standing.{CoreValue, longer_by, stands_later}
use Rattle.hum_code.proofs.Claims.{BlocksRun}
use Rattle.hum_code.proofs.Compares.{follow_comes}
use Rattle.hum_code.proofs.Results.{Ends, WorthEnv, Gets, Ran, runs_on}
use Rattle.hum_code.proofs.Committing.{Committed, committing_at}
use Rattle.hum_code.proofs.Chains.{AllStand, chain_stands}
use Rattle.hum_code.proofs.Applies.{program_meaning, nothing_recorded}

module _ (em : Emission) where
  -- what an event of the first actor is to do
  abbrev pub opening : ℕ → CoreValue → Ends (Unit {0})
  opening s v = respond (tests_language em.layout.units) em.self (length em.setting.roll) s (Function Opening outermost) v action.no_effects s

  -- a step for the function's pattern
  matched : (s n : ℕ) (v : CoreValue)
      → (program_meaning em s).matches (test.Skip ∷ []) v outermost [] action.no_effects n ≡ (step >> pure (Some [])) action.no_effects n
  unfolding level
  matched s n v =
      ap (λ x. (step >> one_test (level (tests_language em.layout.units) em.self (length em.setting.roll) s).eval x v [] outermost []
      (λ vs es. tests_from (level (tests_language em.layout.units) em.self (length em.setting.roll) s).eval [] vs outermost es))
      action.no_effects n) test.outs-Skip

  -- and one for the block
  valued_so : (s n : ℕ)
      → (program_meaning em s).eval (expr.Block 0) outermost action.no_effects n ≡ (step >> pure (Block 0 outermost)) action.no_effects n
  unfolding level
  valued_so s n = ap (λ x. (step >> eval_node (tests_language em.layout.units) em.self (length em.setting.roll)
      (level (tests_language em.layout.units) em.self (length em.setting.roll) s)
      (test_expr x) outermost) action.no_effects n) (expr.outs-Block 0)

  abbrev onward : ℕ → Ends (Matched Tests) → Ends (Unit {0})
  onward s o = and_then (and_then o (λ m. if_matched m (λ es. (program_meaning em s).eval (expr.Block 0) (extend es outermost)) (fail no_match)))
      (perform (program_meaning em s))

  none_left : (v : CoreValue) → opening 0 v ≡ Undecided
  none_left v = ap (onward 0) (matched 0 0 v)

  one_left : (v : CoreValue) → opening 1 v ≡ Undecided
  one_left v = ap (onward 1) (matched 1 1 v) ∙ ap (λ o. and_then o (perform (program_meaning em 1))) (valued_so 1 0)

  pub two_spent : (s : ℕ) (v : CoreValue) → opening (suc (suc s)) v ≡ (program_meaning em (suc (suc s))).exec 0 outermost action.no_effects s
  two_spent s v =
      ap (onward (suc (suc s))) (matched (suc (suc s)) (suc (suc s)) v)
      ∙ ap (λ o. and_then o (perform (program_meaning em (suc (suc s))))) (valued_so (suc (suc s)) (suc s))

-- what makes the list of the outermost environment
abbrev chaining : List W → W → Seen → Going
chaining ws k t = record {
  pops = 15;
  made = linked pair_quad (next_quad t) ws nil;
  pushed = last_linked (next_quad t) ws nil ∷ [];
  goes_to = k;
  effect = Nothing;
}

module _ (em : Emission) (opens : Opens em) where
  abbrev words : List W
  words = outermost_words em.setting em.layout ++ opens.devices.first ∷ opens.devices.second ∷ []

  -- they stand for the outermost values
  words_stand : (t : Seen) → Grows em.setting.base t → AllStand em.layout (roll_with em.setting.roll no_effects) t outermost_values words
  unfolding Stands
  words_stand t g =
      let at = λ (w : W) (v : CoreValue) (h : Stands em.layout em.setting.base em.setting.roll w v).
      stands_later em.layout em.setting.base t _ (roll_with em.setting.roll no_effects) g (longer_by em.setting.roll []) w v h in (
        refl,
        (
          refl,
          (
            refl,
            (
              refl,
              (
                refl,
                (
                  refl,
                  (
                    refl,
                    (
                      refl,
                      (
                        refl,
                        (
                          refl,
                          (
                            refl,
                            (
                              refl,
                              (at _ (Plain (Actor 1)) opens.devices.first_stands, (at _ (Plain (Actor 2)) opens.devices.second_stands, tt)),
                            ),
                          ),
                        ),
                      ),
                    ),
                  ),
                ),
              ),
            ),
          ),
        ),
      )

  env_made : (t : Seen) → Grows em.setting.base t
      → StandsEnv em.layout (grown t (linked pair_quad (next_quad t) words nil)) (roll_with em.setting.roll no_effects)
      (last_linked (next_quad t) words nil) outermost
  unfolding StandsEnv
  env_made t g = chain_stands em.layout (roll_with em.setting.roll no_effects) outermost_values words nil Outside t (words_stand t g) refl

  -- the devices are read from the state
  first_read : (t : Seen) → Grows em.setting.base t → nth t (pos 1) em.setting.own.state ≡ opens.devices.first
  first_read t g = ap head_in (read_in _ g opens.devices.begins)

  second_read : (t : Seen) → Grows em.setting.base t → nth t (pos 2) em.setting.own.state ≡ opens.devices.second
  second_read t g = ap (λ o. head_in (cell_seen t (tail_in o))) (read_in _ g opens.devices.begins) ∙ ap head_in (read_in _ g opens.devices.goes_on)

  -- from the first instruction to the code of unit 0
  to_file : (most : ℕ) (P : Seen → Point → Type 0)
      → ((t : Seen) (x : W) → Grows em.setting.base t → WorthEnv em t no_effects x outermost
      → Comes em.setting most P t (point (em.layout.place 0) (x ∷ em.code.runtime.boots.ending ∷ []) no_effects 17 31))
      → Comes em.setting most P em.setting.base (point em.layout.boot [] no_effects 0 0)
  to_file most P go =
      let r = em.code.runtime.boots in
      let at = r.pushes in
      push at.1 (push at.2.1 (push at.2.2.1 (push at.2.2.2.1 (push at.2.2.2.2.1 (push at.2.2.2.2.2.1 (push at.2.2.2.2.2.2.1
      (push at.2.2.2.2.2.2.2.1 (push at.2.2.2.2.2.2.2.2.1 (push at.2.2.2.2.2.2.2.2.2.1 (push at.2.2.2.2.2.2.2.2.2.2.1
      (push at.2.2.2.2.2.2.2.2.2.2.2.1 (push at.2.2.2.2.2.2.2.2.2.2.2.2.1 (push at.2.2.2.2.2.2.2.2.2.2.2.2.2.1
      (state_ (pos 1) at.2.2.2.2.2.2.2.2.2.2.2.2.2.2.1 first_read (state_ (pos 2) at.2.2.2.2.2.2.2.2.2.2.2.2.2.2.2.1 second_read
      (by_row em.setting most P (Pair (pos 14)) at.2.2.2.2.2.2.2.2.2.2.2.2.2.2.2.0 (em.layout.place 0) em.setting.base
      (opens.devices.second ∷ opens.devices.first ∷ reverse (outermost_words em.setting em.layout) ++ nil ∷ r.ending ∷ []) no_effects 16 16
      (chaining words (em.layout.place 0))
      at.2.2.2.2.2.2.2.2.2.2.2.2.2.2.2.2 (λ t sheet i. refl) (λ t i b. go _ _ (later i (takes t _)) (env_made t b))))))))))))))))))

  -- the event does what its delivery is
  pub boot_comes : (s : ℕ) → BlocksRun em (limits s) (suc s) (program_meaning em s).exec → (v : CoreValue)
      → Gets em (limits s) (Committed em (limits s)) (opening em s v) em.setting.base (point em.layout.boot [] no_effects 0 0)
  boot_comes zero blocks v = rw none_left (runs_on em.setting (limits 0) em.setting.base em.layout.boot [] no_effects 0 0 (omega arith))
  boot_comes (suc zero) blocks v =
      rw one_left (push em.code.runtime.boots.pushes.1
      (runs_on em.setting (limits 1) em.setting.base _ (em.code.runtime.boots.ending ∷ []) no_effects 1 _ (omega arith)))
  boot_comes (suc (suc s)) blocks v =
      let r = em.code.runtime.boots in
      let lim = limits (suc (suc s)) in
      rw two_spent (to_file lim.most _ (λ t x g h.
      follow_comes em lim (Ran em 2 r.ending [] no_effects 17 31 s) (Committed em lim)
      ((program_meaning em (suc (suc s))).exec 0 outermost action.no_effects s) t _ g
      (blocks.at 0 r.ending x [] outermost no_effects 17 31 s action.no_effects t opens.shape opens.file (omega arith) (record {
        above = g;
        env_stands = h;
        record_stands = nothing_recorded em t;
        cycles_fit = omega arith;
        quads_fit = omega arith;
        least_in = omega arith;
      }))
      (λ u f left t' l g' b e. subst (λ l. Comes em.setting lim.most (Committed em lim u f left) t' l) (sym e.is)
      (committing_at em lim r.ending r.k r.commits f left t' e.effects e.cycles e.quads e.facts.record_stands
      (omega (arith, e.facts.cycles_in)) (omega (arith, e.facts.quads_in))))))
