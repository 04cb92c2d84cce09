-- The code that matches a value with a pattern, and of functions, which match their argument.
use Rattle.std.proofs.Common.{◌≡◌, refl, ap, sym, subst, ◌∙◌, ℕ, suc, ◌+◌, ◌*◌, ◌≤◌, ◌<◌, pos, List, [], ◌∷◌, length, Some, None, arith}
use Rattle.cap_words.specs.Words.{W, nil}
use Rattle.cap_words.specs.Seen.{Seen}
use Rattle.instr_table.specs.declared.op.Op.TheVariants.{Drop, Roll, Jump}
use Rattle.instr_table.specs.Types.{Grows}
use Rattle.instr_table.specs.Event.{Effects}
use Rattle.hum_core.specs.declared.tested.TestExpr.{TestExpr}
use Rattle.hum_core.specs.declared.tested.Test.{Test}
use Rattle.hum_meaning.specs.Value.{extend}
use Rattle.hum_meaning.specs.Action.{and_then, fail, no_match}
use Rattle.hum_meaning.specs.Language.{Meaning, Matcher, Matched}
use Rattle.hum_meaning.specs.Eval.{if_matched}
use Rattle.hum_meaning.specs.Meaning.{level}
use Rattle.hum_core.specs.TestLists.{Tests, tests_language}
use Rattle.hum_code.specs.Bounds.{Limits}
use Rattle.hum_code.specs.Comes.{Point, point, Comes, At}
use Rattle.hum_code.specs.Layout.{Single, shape_of, with_singles}
use Rattle.hum_code.specs.Stands.{ShowsPair}
use Rattle.hum_code.specs.Code.{Codes, codes_to, Line, bound_after}
use Rattle.hum_code.specs.Emission.{Emission}
use Rattle.hum_code.proofs.World.{later}
use Rattle.hum_code.proofs.Standing.{CoreValue, CoreEnv, Gathered, longer_same, longer_later, stands_later, env_later, effects_later}
use Rattle.hum_code.proofs.Steps.{push, drop1, roll2, jump}
use Rattle.hum_code.proofs.Makings.{pair1}
use Rattle.hum_code.proofs.Gathering.{sends_stand}
use Rattle.hum_code.proofs.Results.{Goal, Ends, bind_comes, Worth, Valued, Ready, Evaluates, Gets, valued, fails_at}
use Rattle.hum_code.proofs.Claims.{Bindings, PatternsRun, FunctionsRun}
use Rattle.hum_code.proofs.Compares.{follow_comes}
use Rattle.hum_code.proofs.Tried.{Entries, Testing, Tried}
use Rattle.hum_code.proofs.TestRuns.{tests_run}

-- the entries of a pattern are bindings
pub shape_extends : (env : CoreEnv) (es : Entries) → shape_of (extend es env) ≡ with_singles (length es) (shape_of env)
shape_extends env [] = refl
shape_extends env (e ∷ es) = ap (λ shape. Single ∷ shape) (shape_extends env es)

module _ (em : Emission) (lim : Limits) where
  -- the code of a pattern's tests, over a list of one value
  pub record MatchesRun (n : ℕ) (codes : Codes) (matches : Matcher Tests) : Type 0 where
    pub at : (ts : List Test) (a k miss y x : W) (S : List W) (v : CoreValue) (env : CoreEnv) (d : Effects) (c q s : ℕ) (f : Gathered) (t : Seen)
        → codes.TestsAt (shape_of env) miss ts 1 0 a k → s < n → Testing em lim env (v ∷ []) [] y x d c q s f t
        → Gets em lim (Tried em env (bound_after ts 0) k miss S d c q s) (matches ts v env [] f s) t (point a (y ∷ x ∷ S) d c q)

  -- at each level, where the level below evaluates
  pub matches_run : (self base n : ℕ) → Evaluates em lim n (codes_to em.setting em.layout n) (level (tests_language em.layout.units) self base n).eval
      → MatchesRun (suc n) (codes_to em.setting em.layout (suc n)) (level (tests_language em.layout.units) self base (suc n)).matches
  unfolding level
  matches_run self base n below = record {
    at = λ ts a k miss y x S v env d c q s f t code lt h.
        tests_run em lim env (bound_after ts 0) k miss S (codes_to em.setting em.layout n) n _ below ts
        (v ∷ []) [] y x d c q s f t a 1 0 refl refl code refl
        (omega (arith, lt)) h;
  }

  pub matches_nothing : (self base : ℕ) → MatchesRun 0 (codes_to em.setting em.layout 0) (level (tests_language em.layout.units) self base 0).matches
  matches_nothing self base = record { at = λ ts a k miss y x S v env d c q s f t code lt h. absurd (omega (arith, lt)) }

  module _ (n : ℕ) (codes : Codes) (below : Meaning Tests) (matching : MatchesRun n codes below.matches) where
    -- ---- a value on top of the environment

    module _ {B : Type 0} (Q : Goal B) (ts : List Test) (k x : W) (S : List W) (env : CoreEnv) (d : Effects) (c q s : ℕ) (f : Gathered) (t : Seen)
        (ready : Ready em lim 16 env x d c q s f t) (rest : Entries → Gathered → ℕ → Ends B)
        (go : (es : Entries) (f' : Gathered) (left : ℕ) (u : Seen) (x' : W) (d' : Effects) (c' q' : ℕ) → Grows t u → Grows em.setting.base u
        → Bindings em ts env d c q s es f' left u x' d' c' q' → Gets em lim Q (rest es f' left) u (point k (x' ∷ S) d' c' q'))
        (b : W) (drops : At em.setting b (Drop (pos 1)) k) where
      after_tests : (m : Matched Tests) (f' : Gathered) (left : ℕ) (u : Seen) (l : Point) → Grows t u → Grows em.setting.base u
          → Tried em env (bound_after ts 0) b (em.layout.fail 1) S d (3 + c) (5 + q) s m f' left u l
          → Gets em lim Q (if_matched m rest (fail no_match) f' left) u l
      after_tests (Some es) f' left u l g above h =
          subst (λ l. Gets em lim Q (rest es f' left) u l) (sym h.is) (drop1 drops (go es f' left u h.word h.effects _ _ g above (record {
            env_stands = h.env_stands;
            shape = shape_extends env es ∙ ap (λ n. with_singles n (shape_of env)) h.bound_is;
            record_stands = h.record_stands;
            longer = h.longer;
            cycles_in = omega (arith, h.cycles_in);
            quads_in = omega (arith, h.quads_in);
            steps = omega (arith, h.steps);
          })))
      after_tests None f' left u l g above h =
          subst (λ l. Gets em lim Q (fail no_match f' left) u l) (sym h.is)
          (fails_at em lim 1 (length f'.sent) refl u _ h.effects h.cycles h.quads
          (sends_stand em.layout em.setting.roll u f' h.effects h.record_stands)
          (omega (arith, h.cycles_in, ready.cycles_fit)) (omega (arith, h.quads_in, ready.quads_fit)))

      -- from the list of the value on
      tests_from_list : (w y : W) (v : CoreValue) (a : W) (t1 : Seen) (c1 q1 : ℕ) → c1 ≡ 3 + c → q1 ≡ 5 + q → Grows t t1 → Grows em.setting.base t1
          → ShowsPair t1 y w nil → Worth em t d w v → codes.TestsAt (shape_of env) (em.layout.fail 1) ts 1 0 a b → s < n
          → Gets em lim Q (and_then (below.matches ts v env [] f s) (λ m. if_matched m rest (fail no_match))) t1 (point a (y ∷ x ∷ S) d c1 q1)
      tests_from_list w y v a t1 c1 q1 ec eq g1 b1 is vs code lt = rw (ec, eq)
          (bind_comes em.setting lim (Tried em env (bound_after ts 0) b (em.layout.fail 1) S d (3 + c) (5 + q) s) Q (below.matches ts v env [] f s)
          (λ m. if_matched m rest (fail no_match)) t1 _ b1
          (matching.at ts a b (em.layout.fail 1) y x S v env d (3 + c) (5 + q) s f t1 code lt (record {
            above = b1;
            list_stands = (w, nil, is, stands_later em.layout t t1 _ _ g1 (longer_same _) w v vs, refl);
            env_stands = env_later em.layout t t1 _ _ g1 (longer_same _) x env ready.env_stands;
            record_stands = effects_later em.layout em.setting.roll t t1 f d g1 ready.record_stands;
            cycles_fit = omega (arith, ready.cycles_fit);
            quads_fit = omega (arith, ready.quads_fit);
            least_in = omega (arith, ready.least_in);
          }))
          (λ m f1 left u l g above h. after_tests m f1 left u l (later g1 g) above h))

    pub patterns_run : PatternsRun em lim n codes below
    patterns_run = record {
      at = λ {B} Q ts a k w x S v env d c q s f t rest code lt ready vs go.
          push code.2.1 (roll2 code.2.2.1 (pair1 code.2.2.2 (λ t1 y g1 b1 is.
          tests_from_list Q ts k x S env d c q s f t ready rest go code.1 code.4 w y v code.0 t1 _ _ (omega arith)
          (omega arith) g1 b1 is vs code.3 lt)));
    }

    -- ---- functions

    module _ (evaluates : Evaluates em lim n codes below.eval) where
      -- the body, and the way back
      body_runs : (ts : List Test) (e : TestExpr) (b j k r x : W) (S : List W) (env : CoreEnv) (d : Effects) (c q s : ℕ) (f : Gathered) (t : Seen)
          → codes.ExprAt (with_singles (bound_after ts 0) (shape_of env)) e b j → Line em.setting (Roll (pos 2) ∷ Jump ∷ []) j r → s < n
          → c + 36 + 64 * s ≤ lim.most → q + 36 + 64 * s ≤ lim.most → lim.least ≤ c + s
          → (es : Entries) (f' : Gathered) (left : ℕ) (u : Seen) (d' : Effects) (c' q' : ℕ) → Grows em.setting.base u
          → Bindings em ts env d (suc c) (2 + q) s es f' left u x d' c' q'
          → Gets em lim (Valued em 0 8 k S d c q s) (below.eval e (extend es env) f' left) u (point b (x ∷ k ∷ S) d' c' q')
      body_runs ts e b j k r x S env d c q s f t code back lt cf qf n es f' left u d' c' q' above h =
          follow_comes em lim (Valued em 16 0 j (k ∷ S) d' c' q' left) (Valued em 0 8 k S d c q s) (below.eval e (extend es env) f' left) u _ above
          (evaluates.at e b j x (k ∷ S) (extend es env) d' c' q' left f' u (subst (λ shape. codes.ExprAt shape e b j) (sym h.shape) code)
          (omega (arith, h.cycles_in, h.steps, lt)) (record {
            above = above;
            env_stands = h.env_stands;
            record_stands = h.record_stands;
            cycles_fit = omega (arith, h.cycles_in, cf);
            quads_fit = omega (arith, h.quads_in, qf);
            least_in = omega (arith, h.steps, n);
          }))
          (λ z f2 s2 u2 l i above2 a. subst (λ l. Comes em.setting lim.most (Valued em 0 8 k S d c q s z f2 s2) u2 l) (sym a.is)
          (roll2 back.1 (jump back.2 (valued em lim 0 8 k S d c q s z f2 s2 u2 a.word a.effects _ _ (record {
            stands = a.facts.stands;
            record_stands = a.facts.record_stands;
            longer = longer_later h.longer a.facts.longer;
            cycles_in = omega (arith, h.cycles_in, a.facts.cycles_in);
            quads_in = omega (arith, h.quads_in, a.facts.quads_in);
            steps = omega (arith, h.steps, a.facts.steps);
          })))))

      pub functions_run : FunctionsRun em lim n codes below
      functions_run = record {
        at = λ ts e a k w x S v env d c q s f t code lt above xs vs rs cf qf least.
            roll2 code.4 (patterns_run.at (Valued em 0 8 k S d c q s) ts code.0 code.1 w x (k ∷ S) v env d (suc c) (2 + q) s f t (λ es.
            below.eval e (extend es env))
            code.5 lt
            (record {
              above = above;
              env_stands = xs;
              record_stands = rs;
              cycles_fit = omega (arith, cf);
              quads_fit = omega (arith, qf);
              least_in = omega (arith, least);
            })
            vs
            (λ es f' left u x' d' c' q' g above' h.
            body_runs ts e code.1 code.2 k code.3 x' S env d c q s f t code.6 code.7 lt cf qf least es f' left u d' c' q' above' h));
      }
