-- The code of `CASE`.
use Rattle.std.proofs.Common.{refl, ap, sym, subst, ◌∙◌, ℕ, ◌+◌, ◌*◌, ◌≤◌, ◌<◌, List, [], ◌∷◌, length, Some, None, arith}
use Rattle.cap_words.specs.Words.{W}
use Rattle.cap_words.specs.Seen.{Seen}
use Rattle.instr_table.specs.Types.{Grows}
use Rattle.instr_table.specs.Event.{Effects}
use Rattle.hum_core.specs.declared.tested.TestExpr.{TestExpr}
use Rattle.hum_core.specs.declared.tested.Test.{Test}
use Rattle.hum_meaning.specs.Value.{extend}
use Rattle.hum_meaning.specs.Action.{and_then}
use Rattle.hum_meaning.specs.Language.{Meaning, Matched}
use Rattle.hum_meaning.specs.Eval.{if_matched, arms}
use Rattle.hum_core.specs.TestLists.{Tests}
use Rattle.hum_code.specs.Bounds.{Limits}
use Rattle.hum_code.specs.Comes.{Point, point}
use Rattle.hum_code.specs.Layout.{shape_of, with_singles}
use Rattle.hum_code.specs.Code.{Codes, bound_after, ArmAt}
use Rattle.hum_code.specs.Emission.{Emission}
use Rattle.hum_code.proofs.World.{later}
use Rattle.hum_code.proofs.Steps.{drop1, roll2}
use Rattle.hum_code.proofs.Standing.{CoreValue, CoreEnv, Gathered, env_later, list_later}
use Rattle.hum_code.proofs.Gathering.{sends_stand}
use Rattle.hum_code.proofs.Results.{Ends, bind_comes, Recorded, Extends, Valued, Evaluates, Gets, widen, fails_at}
use Rattle.hum_code.proofs.Tried.{Entries, Testing, Fits, Misses, Tried}
use Rattle.hum_code.proofs.Matching.{shape_extends, MatchesRun}

module _ (em : Emission) (lim : Limits) (n : ℕ) (codes : Codes) (below : Meaning Tests) (matching : MatchesRun em lim n codes below.matches)
    (evaluates : Evaluates em lim n codes below.eval) (env : CoreEnv) (v : CoreValue) (y x k : W) (S : List W) where
  -- the same value further on
  pub tested_on : (d : Effects) (c q s : ℕ) (f : Gathered) (t : Seen) (d' : Effects) (c' q' s' : ℕ) (f' : Gathered) (u : Seen)
      → Testing em lim env (v ∷ []) [] y x d c q s f t
      → Grows t u → Extends em d d' → Recorded em u f' d' → c' + 64 * s' ≤ lim.most → q' + 64 * s' ≤ lim.most → lim.least ≤ c' + s'
      → Testing em lim env (v ∷ []) [] y x d' c' q' s' f' u
  tested_on d c q s f t d' c' q' s' f' u h g j r p i m = record {
    above = later h.above g;
    list_stands = list_later em.layout t u _ _ g j y (v ∷ []) h.list_stands;
    env_stands = env_later em.layout t u _ _ g j x env h.env_stands;
    record_stands = r;
    cycles_fit = p;
    quads_fit = i;
    least_in = m;
  }

  -- ---- one arm

  module _ (ts : List Test) (e : TestExpr) (kept a miss : W) (d : Effects) (c q s : ℕ) (f : Gathered) (t : Seen) (other : Gathered → ℕ
      → Ends CoreValue)
      (at : ArmAt em.setting em.layout codes (shape_of env) (ts, e) miss a k) (lt : s < n) (h : Testing em lim env (v ∷ []) [] y x d c q s f t)
      (cf : c + 16 + 64 * s ≤ lim.most) (qf : q + 16 + 64 * s ≤ lim.most)
      (missed : (f' : Gathered) (left : ℕ) (u : Seen) (l : Point) → Grows t u → Grows em.setting.base u
      → Misses em miss (kept ∷ S) d c q s f' left u l
      → Gets em lim (Valued em 16 16 k S d c q s) (other f' left) u l) where
    -- the value of an arm that matched
    arm_value : (es : Entries) (f' : Gathered) (left : ℕ) (u : Seen) (l : Point) → Grows em.setting.base u
        → Fits em env (bound_after ts 0) at.0 (kept ∷ S) d c q s es f' left u l
        → Gets em lim (Valued em 16 16 k S d c q s) (below.eval e (extend es env) f' left) u l
    arm_value es f' left u l above h' =
        let shape = shape_extends env es ∙ ap (λ n. with_singles n (shape_of env)) h'.bound_is in
        subst (λ l. Gets em lim (Valued em 16 16 k S d c q s) (below.eval e (extend es env) f' left) u l) (sym h'.is)
        (drop1 at.3.1 (roll2 at.3.2.1 (drop1 at.3.2.2
        (widen em lim 16 0 16 16 k S h'.effects d _ _ left c q s (below.eval e (extend es env) f' left) u _ above h'.longer
        (omega (arith, h'.cycles_in)) (omega (arith, h'.quads_in)) (omega (arith, h'.steps))
        (evaluates.at e at.1 k h'.word S (extend es env) h'.effects _ _ left f' u (subst (λ shape. codes.ExprAt shape e at.1 k) (sym shape) at.4)
        (omega (arith, h'.cycles_in, h'.steps, lt)) (record {
          above = above;
          env_stands = h'.env_stands;
          record_stands = h'.record_stands;
          cycles_fit = omega (arith, h'.cycles_in, cf);
          quads_fit = omega (arith, h'.quads_in, qf);
          least_in = omega (arith, h'.steps, h.least_in);
        }))))))

    after_tests : (m : Matched Tests) (f' : Gathered) (left : ℕ) (u : Seen) (l : Point) → Grows t u → Grows em.setting.base u
        → Tried em env (bound_after ts 0) at.0 miss (kept ∷ S) d c q s m f' left u l
        → Gets em lim (Valued em 16 16 k S d c q s) (if_matched m (λ es. below.eval e (extend es env)) other f' left) u l
    after_tests (Some es) f' left u l g above h' = arm_value es f' left u l above h'
    after_tests None f' left u l g above h' = missed f' left u l g above h'

    pub arm_runs : Gets em lim (Valued em 16 16 k S d c q s)
        (and_then (below.matches ts v env [] f s) (λ m. if_matched m (λ es. below.eval e (extend es env)) other)) t (point a (y ∷ x ∷ kept ∷ S) d c q)
    arm_runs = bind_comes em.setting lim (Tried em env (bound_after ts 0) at.0 miss (kept ∷ S) d c q s) (Valued em 16 16 k S d c q s)
        (below.matches ts v env [] f s)
        (λ m. if_matched m (λ es. below.eval e (extend es env)) other) t _ h.above
        (matching.at ts a at.0 miss y x (kept ∷ S) v env d c q s f t at.2 lt h) after_tests

  -- no arm is left
  pub none_left : (kept : W) (d : Effects) (c q s : ℕ) (f' : Gathered) (left : ℕ) (u : Seen) (l : Point) → c + 16 + 64 * s ≤ lim.most
      → q + 16 + 64 * s ≤ lim.most
      → Misses em (em.layout.fail 1) (kept ∷ S) d c q s f' left u l → Gets em lim (Valued em 16 16 k S d c q s) (arms below [] v env f' left) u l
  none_left kept d c q s f' left u l cf qf h =
      subst (λ l. Gets em lim (Valued em 16 16 k S d c q s) (arms below [] v env f' left) u l) (sym h.is)
      (fails_at em lim 1 (length f'.sent) refl u _ h.effects h.cycles h.quads (sends_stand em.layout em.setting.roll u f' h.effects h.record_stands)
      (omega (arith, h.cycles_in, cf)) (omega (arith, h.quads_in, qf)))
