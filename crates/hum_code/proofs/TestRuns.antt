-- The code of the tests of a pattern.
use Rattle.std.proofs.Common.{◌≡◌, sym, subst, ◌∙◌, ℕ, zero, suc, ◌≤◌, ◌<◌, List, [], ◌∷◌, length, arith}
use Rattle.cap_words.specs.Words.{W}
use Rattle.cap_words.specs.Seen.{Seen}
use Rattle.instr_table.specs.Event.{Effects}
use Rattle.hum_core.specs.declared.tested.Test.{Test, out-Test}
use Rattle.hum_core.specs.declared.tested.Test.TheOpen as test
use Rattle.hum_meaning.specs.Language.{Evaluator}
use Rattle.hum_core.specs.TestLists.{Tests, one_test, tests_from}
use Rattle.hum_core.specs.Lowering.{TestNode, left_behind}
use Rattle.hum_code.specs.Bounds.{Limits}
use Rattle.hum_code.specs.Comes.{point}
use Rattle.hum_code.specs.Layout.{shape_of}
use Rattle.hum_code.specs.Code.{Codes, TestAt, TestsAt, bound_behind, bound_after}
use Rattle.hum_code.specs.Emission.{Emission}
use Rattle.hum_code.proofs.Standing.{CoreValue, CoreEnv, Gathered}
use Rattle.hum_code.proofs.Results.{Evaluates, Gets, runs_on}
use Rattle.hum_code.proofs.Tried.{Entries, Testing, Tried, widen_tried, fits}
use Rattle.hum_code.proofs.OneTests.{Left, Rest, skip_runs, bind_runs, pair_runs, is_runs}
use Rattle.hum_code.proofs.SameTests.{equal_test_runs}

module _ (em : Emission) (lim : Limits) (env : CoreEnv) (bound : ℕ) (k miss : W) (S : List W) (codes : Codes) (n : ℕ) (eval : Evaluator Tests)
    (below : Evaluates em lim n codes eval) where
  node_runs : (node : TestNode) (go : Left) (v : CoreValue) (vs : List CoreValue) (es : Entries) (y x : W) (d : Effects) (c q s : ℕ) (f : Gathered)
      (t : Seen)
      → Testing em lim env (v ∷ vs) es y x d c q (suc s) f t → (a b : W) (left count : ℕ) → length vs ≡ left → length es ≡ count
      → TestAt em.setting em.layout codes (shape_of env) miss node count a b → s < n
      → Rest em lim env bound k miss S go d c q (suc s) b (left_behind node left) (bound_behind node count)
      → Gets em lim (Tried em env bound k miss S d c q (suc s)) (one_test eval node v vs env es go f s) t (point a (y ∷ x ∷ S) d c q)
  node_runs test.Pair go v vs es y x d c q s f t h a b left count ev ee at lt rest =
      pair_runs em lim env bound k miss S go vs es y x d c q s f t codes a b left count ev ee v h at rest
  node_runs (test.Test::Is const) go v vs es y x d c q s f t h a b left count ev ee at lt rest =
      is_runs em lim env bound k miss S go vs es y x d c q s f t codes a b left count ev ee const at rest v h
  node_runs (test.Same e) go v vs es y x d c q s f t h a b left count ev ee at lt rest =
      equal_test_runs em lim env bound k miss S codes n eval below go v vs es y x d c q s f t h a b left ev e
      (subst (λ count. TestAt em.setting em.layout codes (shape_of env) miss (test.Same e) count a b) (sym ee) at)
      (λ vs' es' y' x' d' c' q' s' f' u ev' ee' h' g p i m. rest vs' es' y' x' d' c' q' s' f' u ev' (ee' ∙ ee) h' g p i m) lt
  node_runs test.Bind go v vs es y x d c q s f t h a b left count ev ee at lt rest =
      bind_runs em lim env bound k miss S go v vs es y x d c q s f t h a b left count ev ee codes at rest
  node_runs test.Skip go v vs es y x d c q s f t h a b left count ev ee at lt rest =
      skip_runs em lim env bound k miss S go v vs es y x d c q s f t h a b left count ev ee at rest

  pub tests_run : (ts : List Test) (vs : List CoreValue) (es : Entries) (y x : W) (d : Effects) (c q s : ℕ) (f : Gathered) (t : Seen) (a : W)
      (left count : ℕ)
      → length vs ≡ left → length es ≡ count → TestsAt em.setting em.layout codes (shape_of env) miss ts left count a k
      → bound_after ts count ≡ bound → s ≤ n
      → Testing em lim env vs es y x d c q s f t
      → Gets em lim (Tried em env bound k miss S d c q s) (tests_from eval ts vs env es f s) t (point a (y ∷ x ∷ S) d c q)
  tests_run [] vs es y x d c q s f t a left count ev ee at eb le h =
      rw at (fits em lim env bound k miss S es d c q s f t y x (ee ∙ eb) h.env_stands h.record_stands)
  tests_run (u ∷ ts) vs es y x d c q s f t a zero count ev ee at eb le h = absurd at
  tests_run (u ∷ ts) [] es y x d c q s f t a (suc left) count ev ee at eb le h = absurd (omega (arith, ev))
  tests_run (u ∷ ts) (v ∷ vs) es y x d c q zero f t a (suc left) count ev ee at eb le h = runs_on em.setting lim t a (y ∷ x ∷ S) d c q
      (omega (arith, h.least_in))
  tests_run (u ∷ ts) (v ∷ vs) es y x d c q (suc s) f t a (suc left) count ev ee at eb le h =
      let e : length vs ≡ left = omega (arith, ev) in
      node_runs (out-Test u) (λ vs es. tests_from eval ts vs env es) v vs es y x d c q s f t h a at.0 left count e ee at.1 (omega (arith, le))
      (λ vs' es' y' x' d' c' q' s' f' t' ev' ee' h' g p i m.
      widen_tried em lim env bound k miss S d' d c' q' s' c q (suc s) (tests_from eval ts vs' env es' f' s') t' _ h'.above g p i m
      (tests_run ts vs' es' y' x' d' c' q' s' f' t' at.0 _ _ ev' ee' at.2 eb (omega (arith, le, p, m)) h'))
