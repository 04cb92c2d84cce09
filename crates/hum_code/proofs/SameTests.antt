-- The code of a test for a value that an expression gives.
use Rattle.std.proofs.Common.{◌≡◌, refl, sym, subst, ℕ, suc, ◌+◌, ◌*◌, ◌≤◌, ◌<◌, pos, negsuc, Bool, true, false, List, [], ◌∷◌, length, None, arith}
use Rattle.cap_words.specs.Words.{W, truth}
use Rattle.cap_words.specs.Seen.{Seen}
use Rattle.instr_table.specs.Types.{Grows}
use Rattle.instr_table.specs.Lists.{nth}
use Rattle.instr_table.specs.Event.{Effects}
use Rattle.hum_core.specs.declared.tested.TestExpr.{TestExpr}
use Rattle.hum_core.specs.declared.tested.Test.TheOpen as test
use Rattle.hum_meaning.specs.Value.{extend}
use Rattle.hum_meaning.specs.Action.{Gives, Fails, Undecided, and_then, ◌>>=◌, pure}
use Rattle.hum_meaning.specs.Same.{same as same_value}
use Rattle.hum_meaning.specs.Language.{Evaluator}
use Rattle.hum_meaning.specs.Eval.{if_matched, keep_if, equals}
use Rattle.hum_core.specs.TestLists.{Tests, test_value}
use Rattle.hum_code.specs.Bounds.{Limits}
use Rattle.hum_code.specs.Comes.{point}
use Rattle.hum_code.specs.Layout.{shape_of, minus}
use Rattle.hum_code.specs.Stands.{StandsEnv}
use Rattle.hum_code.specs.Code.{Codes, TestAt}
use Rattle.hum_code.specs.Emission.{Emission}
use Rattle.hum_code.proofs.World.{later}
use Rattle.hum_code.proofs.Steps.{push, dup1, pick3, nth_, if_true, if_false}
use Rattle.hum_code.proofs.Standing.{CoreValue, CoreEnv, Gathered, stands_later}
use Rattle.hum_code.proofs.Access.{tails}
use Rattle.hum_code.proofs.Results.{Ends, bind_comes, WorthEnv, Recorded, Extends, Facts, Evaluates, Gets, then_value}
use Rattle.hum_code.proofs.Answers.{Answered, same_runs}
use Rattle.hum_code.proofs.Tried.{Entries, Testing, Tried, misses}
use Rattle.hum_code.proofs.OneTests.{Left, Rest, passes, head_is, tail_is, compared}

-- what follows two actions follows the second one
and_then_again : {A B C : Type 0} (o : Ends A) (g : A → Gathered → ℕ → Ends B) (h : B → Gathered → ℕ → Ends C)
    → and_then (and_then o g) h ≡ and_then o (λ a f left. and_then (g a f left) h)
and_then_again (Gives a f left) g h = refl
and_then_again (Fails code sends) g h = refl
and_then_again Undecided g h = refl

-- the word of the environment outside a pattern
record Outer (em : Emission) (t : Seen) (d : Effects) (env : CoreEnv) (count : ℕ) (x : W) : Type 0 where
  word : W
  reads : (u : Seen) → Grows t u → nth u (minus count) x ≡ word
  stands : WorthEnv em t d word env

outer : (em : Emission) (t : Seen) (d : Effects) (env : CoreEnv) (es : Entries) (x : W) → WorthEnv em t d x (extend es env)
    → Outer em t d env (length es) x
unfolding StandsEnv
outer em t d env [] x h = record { word = x; reads = λ u g. refl; stands = h }
outer em t d env (e ∷ es) x h =
    let o : Outer em t d env (length es) h.1 = outer em t d env es h.1 h.4 in
    record { word = o.word; reads = λ u g. tails (length es) t u x h.0 h.1 o.word h.2 g (o.reads u g); stands = o.stands }

module _ (em : Emission) (lim : Limits) (env : CoreEnv) (bound : ℕ) (k miss : W) (S : List W) (codes : Codes) (n : ℕ) (eval : Evaluator Tests)
    (below : Evaluates em lim n codes eval) (go : Left) (v : CoreValue) (vs : List CoreValue) (es : Entries) (y x : W) (d : Effects) (c q s : ℕ)
    (f : Gathered) (t : Seen) (h : Testing em lim env (v ∷ vs) es y x d c q (suc s) f t) (a b : W) (left : ℕ) (ev : length vs ≡ left) (e : TestExpr)
    (at : TestAt em.setting em.layout codes (shape_of env) miss (test.Same e) (length es) a b)
    (rest : Rest em lim env bound k miss S go d c q (suc s) b left (length es)) where
  -- after the comparison
  answered_runs : (d1 : Effects) (c1 q1 s1 : ℕ) (f1 : Gathered) (u : Seen) (answer : Bool) → Grows t u → Extends em d d1 → Recorded em u f1 d1
      → c1 + 18 + 64 * s1 ≤ c + 64 * suc s → q1 + 18 + 64 * s1 ≤ q + 64 * suc s → c + suc s ≤ c1 + s1
      → Gets em lim (Tried em env bound k miss S d c q (suc s)) (compared em lim env bound k miss S go vs es y x d c q s f t codes a b left
      (length es) ev refl answer f1 s1) u
      (point at.2 (truth answer ∷ y ∷ x ∷ S) d1 c1 q1)
  answered_runs d1 c1 q1 s1 f1 u true g j r ci qi m =
      if_true at.7 (nth_ (negsuc 0) at.8 (λ w i. tail_is em lim env bound k miss S go v vs es y x d c q s f t h a b left (length es) ev refl w
      (later g i))
      (rest vs es h.list_stands.1 x d1 _ _ s1 f1 u ev refl
      (passes em lim env bound k miss S go v vs es y x d c q s f t h a b left (length es) ev refl d1 _ _ s1 f1 u g j r (omega (arith, ci))
      (omega (arith, qi)) (omega (arith, m)))
      j (omega (arith, ci)) (omega (arith, qi)) (omega (arith, m))))
  answered_runs d1 c1 q1 s1 f1 u false g j r ci qi m =
      if_false at.7 (misses em lim env bound k miss S d d1 c q (suc s) _ _ s1 f1 u y x r j (omega (arith, ci)) (omega (arith, qi)) (omega (arith, m)))

  -- from the expression's value on
  value_runs : (z : CoreValue) (d1 : Effects) (c1 q1 s1 : ℕ) (f1 : Gathered) (u : Seen) (w : W) → Grows t u → Grows em.setting.base u
      → Facts em 16 0 d (4 + c) (4 + q) s z f1 s1 u w d1 c1 q1
      → Gets em lim (Tried em env bound k miss S d c q (suc s)) ((equals v z es >>= (λ m. if_matched m (go vs) (pure None))) f1 s1) u
      (point at.1 (w ∷ h.list_stands.0 ∷ y ∷ x ∷ S) d1 c1 q1)
  value_runs z d1 c1 q1 s1 f1 u w g above facts = push at.6
      (subst (λ o. Gets em lim (Tried em env bound k miss S d c q (suc s)) o u
      (point em.layout.same (at.2 ∷ w ∷ h.list_stands.0 ∷ y ∷ x ∷ S) d1 (suc c1) (1 + q1)))
      (sym (and_then_again (same_value v z f1 s1) (λ answer f left. Gives (keep_if answer es) f left) (λ m. if_matched m (go vs) (pure None))))
      (bind_comes em.setting lim (Answered em 33 at.2 (y ∷ x ∷ S) d1 (suc c1) (1 + q1) s1) (Tried em env bound k miss S d c q (suc s))
      (same_value v z f1 s1)
      (λ answer. if_matched (keep_if answer es) (go vs) (pure None)) u _ above
      (same_runs em lim at.2 (y ∷ x ∷ S) d1 v z h.list_stands.0 w f1 u above facts.record_stands
      (stands_later em.layout t u _ _ g facts.longer h.list_stands.0 v h.list_stands.3) facts.stands (suc c1) (1 + q1) s1
      (omega (arith, facts.cycles_in, h.cycles_fit)) (omega (arith, facts.quads_in, h.quads_fit)) (omega (arith, facts.steps, h.least_in)))
      (λ answer f2 s2 u2 l i j e. subst (λ l. Gets em lim (Tried em env bound k miss S d c q (suc s)) (if_matched (keep_if answer es) (go vs)
      (pure None) f2 s2) u2 l) (sym e.is)
      (answered_runs d1 e.cycles e.quads s2 f2 u2 answer (later g i) facts.longer e.record_stands
      (omega (arith, facts.cycles_in, e.cycles_in)) (omega (arith, facts.quads_in, e.quads_in)) (omega (arith, facts.steps, e.steps))))))

  -- from the environment outside the pattern on
  expr_runs : (o : Outer em t d env (length es) x) (c1 q1 : ℕ) → c1 ≡ 4 + c → q1 ≡ 4 + q → s < n
      → Gets em lim (Tried em env bound k miss S d c q (suc s)) ((test_value eval e v env es >>= (λ m. if_matched m (go vs) (pure None))) f s) t
      (point at.0 (o.word ∷ h.list_stands.0 ∷ y ∷ x ∷ S) d c1 q1)
  expr_runs o c1 q1 ec eq lt = rw (ec, eq)
      (subst (λ o'. Gets em lim (Tried em env bound k miss S d c q (suc s)) o' t (point at.0 (o.word ∷ h.list_stands.0 ∷ y ∷ x ∷ S) d (4 + c)
      (4 + q)))
      (sym (and_then_again (eval e env f s) (λ z. equals v z es) (λ m. if_matched m (go vs) (pure None))))
      (then_value em lim (Tried em env bound k miss S d c q (suc s)) 16 0 at.1 (h.list_stands.0 ∷ y ∷ x ∷ S) d (4 + c) (4 + q) s (eval e env f s)
      (λ z. equals v z es >>= (λ m. if_matched m (go vs) (pure None))) t _ h.above
      (below.at e at.0 at.1 o.word (h.list_stands.0 ∷ y ∷ x ∷ S) env d (4 + c) (4 + q) s f t at.5 lt
      (record {
        above = h.above;
        env_stands = o.stands;
        record_stands = h.record_stands;
        cycles_fit = omega (arith, h.cycles_fit);
        quads_fit = omega (arith, h.quads_fit);
        least_in = omega (arith, h.least_in);
      }))
      (λ z f1 s1 u w d1 c1 q1 g above facts. value_runs z d1 c1 q1 s1 f1 u w g above facts)))

  pub equal_test_runs : s < n
      → Gets em lim (Tried em env bound k miss S d c q (suc s)) ((test_value eval e v env es >>= (λ m. if_matched m (go vs) (pure None))) f s) t
      (point a (y ∷ x ∷ S) d c q)
  equal_test_runs lt =
      let o : Outer em t d env (length es) x = outer em t d env es x h.env_stands in
      dup1 at.4.1 (nth_ (pos 1) at.4.2.1 (head_is em lim env bound k miss S go v vs es y x d c q s f t h a b left (length es) ev refl)
      (pick3 at.4.2.2.1 (nth_ (minus (length es)) at.4.2.2.2 o.reads (expr_runs o _ _ (omega arith) (omega arith) lt))))
