-- The code of `IF`.
use Rattle.std.proofs.Common.{refl, ℕ, suc, ◌+◌, ◌<◌, List, [], ◌∷◌, length, true, false, arith}
use Rattle.cap_words.specs.Words.{W}
use Rattle.cap_words.specs.Seen.{Seen}
use Rattle.instr_table.specs.Types.{Grows}
use Rattle.instr_table.specs.Event.{Effects}
use Rattle.hum_core.specs.declared.tested.TestExpr.{TestExpr}
use Rattle.hum_meaning.specs.Value.{Undefined, Nil, Truth, Number, Symbol, Actor, Plain, Pair, Function, Block, Primitive}
use Rattle.hum_meaning.specs.Action.{fail, not_a_truth_value, pure}
use Rattle.hum_meaning.specs.Language.{Meaning}
use Rattle.hum_meaning.specs.Eval.{if_true, branches}
use Rattle.hum_core.specs.TestLists.{Tests}
use Rattle.hum_code.specs.Bounds.{Limits}
use Rattle.hum_code.specs.Comes.{point, roll_with}
use Rattle.hum_code.specs.Layout.{shape_of}
use Rattle.hum_code.specs.Stands.{Stands}
use Rattle.hum_code.specs.Code.{Codes, BranchesAt}
use Rattle.hum_code.specs.Emission.{Emission}
use Rattle.hum_code.proofs.World.{same}
use Rattle.hum_code.proofs.Steps.{dup1, drop1, eq_, if_true as goes_true, if_false as goes_false}
use Rattle.hum_code.proofs.Standing.{CoreValue, CoreEnv, Gathered, longer_same}
use Rattle.hum_code.proofs.Gathering.{sends_stand}
use Rattle.hum_code.proofs.Results.{Facts, Valued, Ready, Evaluates, Gets, widen, then_value, ready_at, fails_at}
use Rattle.hum_code.proofs.Leaves.{block_made}
use Rattle.hum_code.proofs.TruthWords.{IsTruth, no_truth_word}

module _ (em : Emission) (lim : Limits) (n : ℕ) (codes : Codes) (below : Meaning Tests) (evaluates : Evaluates em lim n codes below.eval)
    (env : CoreEnv)
    (x k : W) (S : List W) where
  -- the code of branches runs from a to k
  unfoldable pub Branches : List (TestExpr × ℕ) → (other : ℕ) → W → Type 0
  Branches bs other a = (d : Effects) (c q s : ℕ) (f : Gathered) (t : Seen) → s < n → Ready em lim 0 env x d c q (suc s) f t
      → Gets em lim (Valued em 16 0 k S d c q (suc s)) (branches below bs other env f s) t (point a (x ∷ S) d c q)

  module _ (e : TestExpr) (u : ℕ) (more : List (TestExpr × ℕ)) (other : ℕ) (a : W) (at : BranchesAt em.setting em.layout codes (shape_of env)
      ((e, u) ∷ more) other a k)
      (rest : Branches more other at.7) (d : Effects) (c q s : ℕ) (f : Gathered) (t : Seen) (lt : s < n)
      (ready : Ready em lim 0 env x d c q (suc s) f t)
      (f1 : Gathered) (s1 : ℕ) (t1 : Seen) (w : W) (d1 : Effects) (c1 q1 : ℕ) (g : Grows t t1) (above : Grows em.setting.base t1) where
    abbrev Chosen : CoreValue → Type 0
    Chosen v = Facts em 16 0 d (suc c) (1 + q) s v f1 s1 t1 w d1 c1 q1
        → Gets em lim (Valued em 16 0 k S d c q (suc s)) (if_true v (pure (Block u env)) (branches below more other env) f1 s1) t1
        (point at.1 (w ∷ x ∷ S) d1 c1 q1)

    refused : (v : CoreValue) → (IsTruth v → ⊥) → Facts em 16 0 d (suc c) (1 + q) s v f1 s1 t1 w d1 c1 q1
        → Gets em lim (Valued em 16 0 k S d c q (suc s)) (fail not_a_truth_value f1 s1) t1 (point at.1 (w ∷ x ∷ S) d1 c1 q1)
    refused v other_value facts =
        dup1 at.10.1 (eq_ false at.10.2 (no_truth_word em.setting.base em.layout em.code.cells t1
        (roll_with em.setting.roll d1) above v w facts.stands other_value true)
        (goes_false at.11 (eq_ false at.14 (no_truth_word em.setting.base em.layout em.code.cells t1
        (roll_with em.setting.roll d1) above v w facts.stands other_value false)
        (goes_false at.15 (fails_at em lim 5 (length f1.sent) refl t1 _ d1 _ _ (sends_stand em.layout em.setting.roll t1 f1 d1 facts.record_stands)
        (omega (arith, facts.cycles_in, ready.cycles_fit)) (omega (arith, facts.quads_in, ready.quads_fit)))))))

    chosen : (v : CoreValue) → Chosen v
    unfolding Stands Branches
    chosen (Plain (Truth true)) facts =
        rw facts.stands (dup1 at.10.1 (eq_ true at.10.2 refl (goes_true at.11 (drop1 at.12
        (widen em lim 16 0 16 0 k S d1 d c1 q1 (suc s1) c q (suc s) (pure (Block u env) f1 s1) t1 _ above facts.longer
        (omega (arith, facts.cycles_in)) (omega (arith, facts.quads_in)) (omega (arith, facts.steps))
        (block_made em lim codes k S env x d1 c1 q1 s1 f1 t1 u at.5 _ _ at.13 (ready_on facts).env_stands facts.record_stands (omega arith)
        (omega arith) (omega arith)))))))
      where
        ready_on : Facts em 16 0 d (suc c) (1 + q) s (Plain (Truth true)) f1 s1 t1 w d1 c1 q1 → Ready em lim 0 env x d1 c1 q1 s1 f1 t1
        ready_on facts = ready_at em lim 0 0 env x d c q (suc s) f t d1 c1 q1 s1 f1 t1 ready g above facts.longer facts.record_stands
            (omega (arith, facts.cycles_in)) (omega (arith, facts.quads_in)) (omega (arith, facts.steps))
    chosen (Plain (Truth false)) facts =
        rw facts.stands (dup1 at.10.1 (eq_ false at.10.2 refl (goes_false at.11 (eq_ true at.14 refl (goes_true at.15
        (widen em lim 16 0 16 0 k S d1 d _ _ (suc s1) c q (suc s) (branches below more other env f1 s1) t1 _ above facts.longer
        (omega (arith, facts.cycles_in)) (omega (arith, facts.quads_in)) (omega (arith, facts.steps))
        (rest d1 _ _ s1 f1 t1 (omega (arith, lt, facts.cycles_in, facts.steps))
        (ready_at em lim 0 0 env x d c q (suc s) f t d1 _ _ (suc s1) f1 t1 ready g above facts.longer facts.record_stands
        (omega (arith, facts.cycles_in)) (omega (arith, facts.quads_in)) (omega (arith, facts.steps))))))))))
    chosen (Plain Undefined) facts = refused (Plain Undefined) (λ b. b) facts
    chosen (Plain Nil) facts = refused (Plain Nil) (λ b. b) facts
    chosen (Plain (Number z)) facts = refused (Plain (Number z)) (λ b. b) facts
    chosen (Plain (Symbol name)) facts = refused (Plain (Symbol name)) (λ b. b) facts
    chosen (Plain (Actor i)) facts = refused (Plain (Actor i)) (λ b. b) facts
    chosen (Pair v z) facts = refused (Pair v z) (λ b. b) facts
    chosen (Function v z) facts = refused (Function v z) (λ b. b) facts
    chosen (Block v z) facts = refused (Block v z) (λ b. b) facts
    chosen (Primitive v) facts = refused (Primitive v) (λ b. b) facts

  pub branches_run : (bs : List (TestExpr × ℕ)) (other : ℕ) (a : W) → BranchesAt em.setting em.layout codes (shape_of env) bs other a k
      → Branches bs other a
  unfolding Branches
  branches_run [] other a at = λ d c q s f t lt ready.
      block_made em lim codes k S env x d c q s f t other a c q at ready.env_stands ready.record_stands (omega arith) (omega arith) (omega arith)
  branches_run ((e, u) ∷ more) other a at = λ d c q s f t lt ready.
      dup1 at.8 (then_value em lim (Valued em 16 0 k S d c q (suc s)) 16 0 at.1 (x ∷ S) d (suc c) (1 + q) s (below.eval e env f s)
      (λ v. if_true v (pure (Block u env)) (branches below more other env)) t _ ready.above
      (evaluates.at e at.0 at.1 x (x ∷ S) env d (suc c) (1 + q) s f t at.9 lt
      (ready_at em lim 0 0 env x d c q (suc s) f t d (suc c) (1 + q) s f t ready (same t) ready.above (longer_same _) ready.record_stands
      (omega arith) (omega arith) (omega arith)))
      (λ v f1 s1 t1 w d1 c1 q1 g above facts.
      chosen e u more other a at (branches_run more other at.7 at.16) d c q s f t lt ready f1 s1 t1 w d1 c1 q1 g above v facts))
