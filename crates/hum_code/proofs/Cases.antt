-- The code of `CASE`: its arms one after the other.
use Rattle.std.proofs.Common.{ap, sym, subst, ◌∙◌, ℕ, suc, ◌+◌, ◌*◌, ◌≤◌, ◌<◌, pos, List, [], ◌∷◌, arith}
use Rattle.cap_words.specs.Words.{W, nil}
use Rattle.cap_words.specs.Seen.{Seen, cell_seen}
use Rattle.instr_table.specs.declared.op.Op.TheVariants.{Dup, Nth, Pick}
use Rattle.instr_table.specs.Types.{Grows}
use Rattle.instr_table.specs.Lists.{head_in, tail_in}
use Rattle.instr_table.specs.Event.{Effects}
use Rattle.hum_core.specs.declared.tested.TestExpr.{TestExpr}
use Rattle.hum_core.specs.declared.tested.Test.{Test}
use Rattle.hum_meaning.specs.Language.{Meaning}
use Rattle.hum_meaning.specs.Eval.{arms}
use Rattle.hum_core.specs.TestLists.{Tests}
use Rattle.hum_code.specs.Bounds.{Limits}
use Rattle.hum_code.specs.Comes.{Setting, Point, point, Comes}
use Rattle.hum_code.specs.Layout.{shape_of}
use Rattle.hum_code.specs.Stands.{ShowsPair}
use Rattle.hum_code.specs.Code.{Codes, Line, LaterArmsAt, ArmsAt}
use Rattle.hum_code.specs.Emission.{Emission}
use Rattle.hum_code.proofs.World.{same, read_in}
use Rattle.hum_code.proofs.Steps.{dup1, drop2, pick2, nth_}
use Rattle.hum_code.proofs.Makings.{pair2, part2}
use Rattle.hum_code.proofs.Standing.{CoreValue, CoreEnv, Gathered, longer_same, effects_later}
use Rattle.hum_code.proofs.Results.{Valued, Evaluates, Gets, widen}
use Rattle.hum_code.proofs.Tried.{Testing, Misses}
use Rattle.hum_code.proofs.Matching.{MatchesRun}
use Rattle.hum_code.proofs.Arms.{tested_on, arm_runs, none_left}

-- a list of two words and a rest
record TwoFirst (t : Seen) (w x y z : W) : Type 0 where
  rest : W
  first : ShowsPair t w x rest
  second : ShowsPair t rest y z

two_later : (s t : Seen) (w x y z : W) → Grows s t → TwoFirst s w x y z → TwoFirst t w x y z
two_later s t w x y z g h = record { rest = h.rest; first = g.keeps w _ h.first; second = g.keeps h.rest _ h.second }

-- the two words are put back on top
restored : {m : Setting} {most : ℕ} {P : Seen → Point → Type 0} {a k kept x y z : W} {t : Seen} {S : List W} {d : Effects} {c q : ℕ}
    → Line m (Dup (pos 1) ∷ Nth (pos 2) ∷ Pick (pos 2) ∷ Nth (pos 1) ∷ []) a k → TwoFirst t kept y x z
    → Comes m most P t (point k (y ∷ x ∷ kept ∷ S) d (suc (suc (suc (suc c)))) (1 + (1 + (1 + (1 + q)))))
    → Comes m most P t (point a (kept ∷ S) d c q)
restored {m} {most} {P} {a} {k} {kept} h two go =
    dup1 h.1 (nth_ (pos 2) h.2.1 (λ u i. ap (λ o. head_in (cell_seen u (tail_in o))) (read_in kept i two.first) ∙ ap head_in
    (read_in two.rest i two.second))
    (pick2 h.2.2.1 (nth_ (pos 1) h.2.2.2 (λ u i. ap head_in (read_in kept i two.first)) go)))

module _ (em : Emission) (lim : Limits) (n : ℕ) (codes : Codes) (below : Meaning Tests) (matching : MatchesRun em lim n codes below.matches)
    (evaluates : Evaluates em lim n codes below.eval) (env : CoreEnv) (v : CoreValue) (y x k : W) (S : List W) where
  -- the code of arms behind one that did not match runs from a, with a list of the value and the environment on top
  unfoldable Later : List (List Test × TestExpr) → W → Type 0
  Later all a = (kept z1 z2 : W) (d : Effects) (c q s : ℕ) (f : Gathered) (t : Seen) → s < n → Testing em lim env (v ∷ []) [] y x d c q s f t
      → TwoFirst t kept y x nil → c + 21 + 64 * s ≤ lim.most → q + 21 + 64 * s ≤ lim.most
      → Gets em lim (Valued em 16 21 k S d c q s) (arms below all v env f s) t (point a (z1 ∷ z2 ∷ kept ∷ S) d c q)

  -- where an arm did not match
  missed : (more : List (List Test × TestExpr)) (next : W) → Later more next → (kept : W) (d : Effects) (c q s : ℕ) (f : Gathered) (t : Seen) → s < n
      → Testing em lim env (v ∷ []) [] y x d c q s f t → TwoFirst t kept y x nil → c + 16 + 64 * s ≤ lim.most → q + 16 + 64 * s ≤ lim.most
      → (f' : Gathered) (left : ℕ) (u : Seen) (l : Point) → Grows t u → Grows em.setting.base u → Misses em next (kept ∷ S) d c q s f' left u l
      → Gets em lim (Valued em 16 16 k S d c q s) (arms below more v env f' left) u l
  unfolding Later
  missed more next rest kept d c q s f t lt h two cf qf f' left u l g above a =
      subst (λ l. Gets em lim (Valued em 16 16 k S d c q s) (arms below more v env f' left) u l) (sym a.is)
      (widen em lim 16 21 16 16 k S a.effects d a.cycles a.quads left c q s (arms below more v env f' left) u _ above a.longer
      (omega (arith, a.cycles_in)) (omega (arith, a.quads_in)) (omega (arith, a.steps))
      (rest kept a.first a.second a.effects a.cycles a.quads left f' u (omega (arith, a.cycles_in, a.steps, lt))
      (tested_on em lim n codes below matching evaluates env v y x k S d c q s f t a.effects a.cycles a.quads left f' u h g a.longer
      a.record_stands
      (omega (arith, a.cycles_in, h.cycles_fit)) (omega (arith, a.quads_in, h.quads_fit)) (omega (arith, a.steps, h.least_in)))
      (two_later t u kept y x nil g two) (omega (arith, a.cycles_in, cf)) (omega (arith, a.quads_in, qf))))

  -- the same, a few instructions on
  tested_here : (d : Effects) (c q s : ℕ) (f : Gathered) (t : Seen) (c' q' : ℕ) → Testing em lim env (v ∷ []) [] y x d c q s f t → c ≤ c'
      → c' + 64 * s ≤ lim.most → q' + 64 * s ≤ lim.most → Testing em lim env (v ∷ []) [] y x d c' q' s f t
  tested_here d c q s f t c' q' h p cf qf =
      tested_on em lim n codes below matching evaluates env v y x k S d c q s f t d c' q' s f t h (same t) (longer_same _) h.record_stands cf qf
      (omega (arith, p, h.least_in))

  later_run : (all : List (List Test × TestExpr)) (a : W) → LaterArmsAt em.setting em.layout codes (shape_of env) all a k → Later all a
  unfolding Later
  later_run [] a at = absurd at
  later_run ((ts, e) ∷ []) a at = λ kept z1 z2 d c q s f t lt h two cf qf.
      drop2 at.1.1 (part2 at.1.2 two.first two.second
      (widen em lim 16 16 16 21 k S d d _ _ s c q s (arms below ((ts, e) ∷ []) v env f s) t _ h.above (longer_same _) (omega arith) (omega arith)
      (omega arith)
      (arm_runs em lim n codes below matching evaluates env v y x k S ts e nil at.0 (em.layout.fail 1) d _ _ s f t (arms below [] v env) at.2 lt
      (tested_here d c q s f t _ _ h (omega arith) (omega (arith, cf)) (omega (arith, qf))) (omega (arith, cf)) (omega (arith, qf))
      (λ f' left u l g above a. none_left em lim n codes below matching evaluates env v y x k S nil d _ _ s f' left u l (omega (arith, cf))
      (omega (arith, qf)) a))))
  later_run ((ts, e) ∷ other ∷ more) a at = λ kept z1 z2 d c q s f t lt h two cf qf.
      drop2 at.3 (restored at.4 two
      (widen em lim 16 16 16 21 k S d d _ _ s c q s (arms below ((ts, e) ∷ other ∷ more) v env f s) t _ h.above (longer_same _) (omega arith)
      (omega arith) (omega arith)
      (arm_runs em lim n codes below matching evaluates env v y x k S ts e kept at.1 at.2 d _ _ s f t (arms below (other ∷ more) v env) at.5 lt
      (tested_here d c q s f t _ _ h (omega arith) (omega (arith, cf)) (omega (arith, qf))) (omega (arith, cf)) (omega (arith, qf))
      (missed (other ∷ more) at.2 (later_run (other ∷ more) at.2 at.6) kept d _ _ s f t lt
      (tested_here d c q s f t _ _ h (omega arith) (omega (arith, cf)) (omega (arith, qf))) two (omega (arith, cf)) (omega (arith, qf))))))

  -- all arms, over the empty list
  pub arms_run : (all : List (List Test × TestExpr)) (a : W) (d : Effects) (c q s : ℕ) (f : Gathered) (t : Seen)
      → ArmsAt em.setting em.layout codes (shape_of env) all a k
      → s < n → Testing em lim env (v ∷ []) [] y x d c q s f t → c + 26 + 64 * s ≤ lim.most → q + 26 + 64 * s ≤ lim.most
      → Gets em lim (Valued em 16 26 k S d c q s) (arms below all v env f s) t (point a (y ∷ x ∷ nil ∷ S) d c q)
  arms_run [] a d c q s f t at lt h cf qf = absurd at
  arms_run ((ts, e) ∷ []) a d c q s f t at lt h cf qf =
      widen em lim 16 16 16 26 k S d d c q s c q s (arms below ((ts, e) ∷ []) v env f s) t _ h.above (longer_same _) (omega arith) (omega arith)
      (omega arith)
      (arm_runs em lim n codes below matching evaluates env v y x k S ts e nil a (em.layout.fail 1) d c q s f t (arms below [] v env) at lt h
      (omega (arith, cf)) (omega (arith, qf))
      (λ f' left u l g above a. none_left em lim n codes below matching evaluates env v y x k S nil d c q s f' left u l (omega (arith, cf))
      (omega (arith, qf)) a))
  arms_run ((ts, e) ∷ other ∷ more) a d c q s f t at lt h cf qf =
      pair2 at.3 (λ t1 kept rest g1 b1 is is' truthy. restored at.4 (record { rest = rest; first = is; second = is' })
      (widen em lim 16 16 16 26 k S d d _ _ s c q s (arms below ((ts, e) ∷ other ∷ more) v env f s) t1 _ b1 (longer_same _) (omega arith)
      (omega arith) (omega arith)
      (arm_runs em lim n codes below matching evaluates env v y x k S ts e kept at.1 at.2 d _ _ s f t1 (arms below (other ∷ more) v env) at.5 lt
      (moved t1 g1 _ _ (omega arith) (omega (arith, cf)) (omega (arith, qf))) (omega (arith, cf)) (omega (arith, qf))
      (missed (other ∷ more) at.2 (later_run (other ∷ more) at.2 at.6) kept d _ _ s f t1 lt
      (moved t1 g1 _ _ (omega arith) (omega (arith, cf)) (omega (arith, qf))) (record { rest = rest; first = is; second = is' })
      (omega (arith, cf)) (omega (arith, qf))))))
    where
      moved : (t1 : Seen) → Grows t t1 → (c' q' : ℕ) → c ≤ c' → c' + 64 * s ≤ lim.most → q' + 64 * s ≤ lim.most
          → Testing em lim env (v ∷ []) [] y x d c' q' s f t1
      moved t1 g c' q' p i j = tested_on em lim n codes below matching evaluates env v y x k S d c q s f t d c' q' s f t1 h g (longer_same _)
          (effects_later em.layout em.setting.roll t t1 f d g h.record_stands) i j (omega (arith, p, h.least_in))
