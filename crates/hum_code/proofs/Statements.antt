-- The statements of a block.
use Rattle.std.proofs.Common.{refl, sym, ℕ, zero, suc, ◌+◌, ◌*◌, ◌<◌, ◌≤◌, List, [], ◌∷◌, length, arith, subst}
use Rattle.cap_words.specs.Words.{W}
use Rattle.cap_words.specs.Seen.{Seen}
use Rattle.instr_table.specs.Event.{Made, Effects}
use Rattle.hum_meaning.specs.Value.{Actor, Plain, Bind, Group, extend}
use Rattle.hum_meaning.specs.Language.{StmtNode, Let, Functions, Defined, Send, Create, Become, Throw, Do, Meaning}
use Rattle.hum_meaning.specs.Exec.{perform, statement, statements}
use Rattle.hum_core.specs.declared.tested.TestExpr.{TestExpr}
use Rattle.hum_core.specs.declared.tested.Test.{Test}
use Rattle.hum_core.specs.Numbered.{Code}
use Rattle.hum_core.specs.TestLists.{Tests}
use Rattle.hum_code.specs.Bounds.{Limits}
use Rattle.hum_code.specs.Comes.{point}
use Rattle.hum_code.specs.Layout.{shape_of}
use Rattle.hum_code.specs.Stands.{StandsEnv}
use Rattle.hum_code.specs.Code.{Codes, StatementsAt}
use Rattle.hum_code.specs.Emission.{Emission}
use Rattle.hum_code.proofs.World.{same, later}
use Rattle.hum_code.proofs.Standing.{CoreValue, CoreEnv, Gathered, longer_same, longer_eq, longer_later, env_later, effects_later, stands_later}
use Rattle.hum_code.proofs.Steps.{push, drop1, pick2, debug, jump}
use Rattle.hum_code.proofs.Makings.{made_at, with_made, pair1, create}
use Rattle.hum_code.proofs.Gathering.{sends_stand, number_stands, made_stands, longer_made}
use Rattle.hum_code.proofs.Results.{Extends, Ran, Ready, Evaluates, Gets, then_value, ready_at, ran, widen_ran, then_ran, runs_on, fails_at}
use Rattle.hum_code.proofs.Claims.{BlocksRun, PatternsRun}
use Rattle.hum_code.proofs.Executing.{exec_runs}
use Rattle.hum_code.proofs.Parts.{part, send_runs, become_runs}

module _ (em : Emission) (lim : Limits) (n : ℕ) (codes : Codes) (below : Meaning Tests) (ih : Evaluates em lim n codes below.eval)
    (patterns : PatternsRun em lim n codes below) (blocks : BlocksRun em lim n below.exec) (k : W) (S : List W) where
  abbrev base : ℕ
  base = length em.setting.roll

  -- the code of these statements runs from a, in this environment
  abbrev Runs : List (StmtNode Tests) → CoreEnv → W → Type 0
  Runs ss env a = (x : W) (d : Effects) (c q s : ℕ) (f : Gathered) (t : Seen) → s < suc n → Ready em lim 0 env x d c q s f t
      → Gets em lim (Ran em 2 k S d c q s) (statements base below ss env f s) t (point a (x ∷ k ∷ S) d c q)

  -- statements behind one that came to (d1, c1, q1) with s1 steps left
  onward : (more : List (StmtNode Tests)) (env : CoreEnv) (a : W) → Runs more env a
      → (x : W) (d d1 : Effects) (c q s c1 q1 s1 : ℕ) (f1 : Gathered) (t : Seen) → s1 < suc n
      → Ready em lim 0 env x d1 c1 q1 s1 f1 t → Extends em d d1 → c1 + 64 * s1 ≤ c + 64 * s → q1 + 64 * s1 ≤ q + 64 * s → c + s ≤ c1 + s1
      → Gets em lim (Ran em 2 k S d c q s) (statements base below more env f1 s1) t (point a (x ∷ k ∷ S) d1 c1 q1)
  onward more env a rest x d d1 c q s c1 q1 s1 f1 t lt ready l p i j =
      widen_ran em lim 2 2 k S d1 d c1 q1 s1 c q s (statements base below more env f1 s1) t _ ready.above l (omega (arith, p)) (omega (arith, i))
      (omega (arith, j))
      (rest x d1 c1 q1 s1 f1 t lt ready)

  group_runs : (fs : List (Unit {0} × Code)) (more : List (StmtNode Tests)) (env : CoreEnv) (a : W)
      (h : StatementsAt em.setting em.layout codes (Functions fs ∷ more) (shape_of env) a)
      → Runs more (Group fs env) h.0 → (x : W) (d : Effects) (c q s : ℕ) (f : Gathered) (t : Seen) → s < n → Ready em lim 0 env x d c q (suc s) f t
      → Gets em lim (Ran em 2 k S d c q (suc s)) (statements base below more (Group fs env) f s) t (point a (x ∷ k ∷ S) d c q)
  unfolding StandsEnv
  group_runs fs more env a h rest x d c q s f t lt ready =
      push h.1.1 (pair1 h.1.2 (λ t1 w g b shows.
      onward more (Group fs env) h.0 rest w d d c q (suc s) _ _ s f t1 (omega (arith, lt))
      (record {
        above = b;
        env_stands = (x, shows, env_later em.layout t t1 _ _ g (longer_same _) x env ready.env_stands);
        record_stands = effects_later em.layout em.setting.roll t t1 f d g ready.record_stands;
        cycles_fit = omega (arith, ready.cycles_fit);
        quads_fit = omega (arith, ready.quads_fit);
        least_in = omega (arith, ready.least_in);
      })
      (longer_same _) (omega arith) (omega arith) (omega arith)))

  let_runs : (ts : List Test) (e : TestExpr) (more : List (StmtNode Tests)) (env : CoreEnv) (a : W)
      (h : StatementsAt em.setting em.layout codes (Let ts e ∷ more) (shape_of env) a)
      → ((env' : CoreEnv) → StatementsAt em.setting em.layout codes more (shape_of env') h.1 → Runs more env' h.1)
      → (x : W) (d : Effects) (c q s : ℕ) (f : Gathered) (t : Seen) → s < n → Ready em lim 0 env x d c q (suc s) f t
      → Gets em lim (Ran em 2 k S d c q (suc s)) (statement base below (Let ts e) env (statements base below more) f s) t (point a (x ∷ k ∷ S) d c q)
  let_runs ts e more env a h rest x d c q s f t lt ready =
      part em lim n codes below ih (Ran em 2 k S d c q (suc s)) e a h.0 x (k ∷ S) env d c q s f t _ h.2 lt ready
      (λ v1 f1 s1 t1 w1 d1 c1 q1 g1 b1 k1.
      patterns.at (Ran em 2 k S d c q (suc s)) ts h.0 h.1 w1 x (k ∷ S) v1 env d1 c1 q1 s1 f1 t1
      (λ es. statements base below more (extend es env)) h.3
      (omega (arith, k1.cycles_in, k1.steps, lt))
      (ready_at em lim 0 16 env x d c q (suc s) f t d1 c1 q1 s1 f1 t1 ready g1 b1 k1.longer k1.record_stands
      (omega (arith, k1.cycles_in)) (omega (arith, k1.quads_in)) (omega (arith, k1.steps)))
      k1.stands
      (λ es f2 s2 t2 x2 d2 c2 q2 g2 b2 k2.
      onward more (extend es env) h.1
      (rest (extend es env) (subst (λ sh. StatementsAt em.setting em.layout codes more sh h.1) (sym k2.shape) h.4))
      x2 d d2 c q (suc s) c2 q2 s2 f2 t2 (omega (arith, k1.cycles_in, k1.steps, k2.cycles_in, k2.steps, lt))
      (record {
        above = b2;
        env_stands = k2.env_stands;
        record_stands = k2.record_stands;
        cycles_fit = omega (arith, k1.cycles_in, k2.cycles_in, ready.cycles_fit);
        quads_fit = omega (arith, k1.quads_in, k2.quads_in, ready.quads_fit);
        least_in = omega (arith, k1.steps, k2.steps, ready.least_in);
      })
      (longer_later k1.longer k2.longer) (omega (arith, k1.cycles_in, k2.cycles_in)) (omega (arith, k1.quads_in, k2.quads_in))
      (omega (arith, k1.steps, k2.steps))))

  send_statement : (e target : TestExpr) (more : List (StmtNode Tests)) (env : CoreEnv) (a : W)
      (h : StatementsAt em.setting em.layout codes (Send e target ∷ more) (shape_of env) a)
      → Runs more env h.5 → (x : W) (d : Effects) (c q s : ℕ) (f : Gathered) (t : Seen) → s < n → Ready em lim 0 env x d c q (suc s) f t
      → Gets em lim (Ran em 2 k S d c q (suc s)) (statement base below (Send e target) env (statements base below more) f s) t
      (point a (x ∷ k ∷ S) d c q)
  send_statement e target more env a h rest x d c q s f t lt ready =
      part em lim n codes below ih (Ran em 2 k S d c q (suc s)) e a h.0 x (k ∷ S) env d c q s f t _ h.6 lt ready
      (λ v1 f1 s1 t1 w1 d1 c1 q1 g1 b1 k1. pick2 h.7
      (then_value em lim (Ran em 2 k S d c q (suc s)) 16 0 h.2 (w1 ∷ x ∷ k ∷ S) d1 (suc c1) (1 + q1) s1 (below.eval target env f1 s1) _ t1 _ b1
      (ih.at target h.1 h.2 x (w1 ∷ x ∷ k ∷ S) env d1 (suc c1) (1 + q1) s1 f1 t1 h.8 (omega (arith, k1.cycles_in, k1.steps, lt))
      (ready_at em lim 0 0 env x d c q (suc s) f t d1 (suc c1) (1 + q1) s1 f1 t1 ready g1 b1 k1.longer k1.record_stands
      (omega (arith, k1.cycles_in)) (omega (arith, k1.quads_in)) (omega (arith, k1.steps))))
      (λ v2 f2 s2 t2 w2 d2 c2 q2 g2 b2 k2.
      send_runs em lim (Ran em 2 k S d c q (suc s)) h.2 h.3 h.4 h.5 h.9 h.10 h.11 v1 w2 w1 (x ∷ k ∷ S) d2 c2 q2 s2 f2 t2 b2
      (stands_later em.layout t1 t2 _ _ g2 k2.longer w1 v1 k1.stands) k2.record_stands
      (omega (arith, k1.cycles_in, k2.cycles_in, ready.cycles_fit)) (omega (arith, k1.quads_in, k2.quads_in, ready.quads_fit))
      (statements base below more env)
      (λ d3 f3 t3 g3 b3 same_roll rs3.
      let l3 = longer_later (longer_later k1.longer k2.longer) (longer_eq (sym same_roll)) in
      onward more env h.5 rest x d d3 c q (suc s) _ _ s2 f3 t3 (omega (arith, k1.cycles_in, k1.steps, k2.cycles_in, k2.steps, lt))
      (ready_at em lim 0 0 env x d c q (suc s) f t d3 _ _ s2 f3 t3 ready (later g1 (later g2 g3)) b3 l3 rs3
      (omega (arith, k1.cycles_in, k2.cycles_in)) (omega (arith, k1.quads_in, k2.quads_in)) (omega (arith, k1.steps, k2.steps)))
      l3 (omega (arith, k1.cycles_in, k2.cycles_in)) (omega (arith, k1.quads_in, k2.quads_in)) (omega (arith, k1.steps, k2.steps)))
      v2 k2.stands)))

  create_statement : (mark : Unit {0}) (e : TestExpr) (more : List (StmtNode Tests)) (env : CoreEnv) (a : W)
      (h : StatementsAt em.setting em.layout codes (Create mark e ∷ more) (shape_of env) a)
      → ((v : CoreValue) → Runs more (Bind mark v env) h.1) → (x : W) (d : Effects) (c q s : ℕ) (f : Gathered) (t : Seen) → s < n
      → Ready em lim 0 env x d c q (suc s) f t
      → Gets em lim (Ran em 2 k S d c q (suc s)) (statement base below (Create mark e) env (statements base below more) f s) t
      (point a (x ∷ k ∷ S) d c q)
  unfolding StandsEnv
  create_statement mark e more env a h rest x d c q s f t lt ready =
      part em lim n codes below ih (Ran em 2 k S d c q (suc s)) e a h.0 x (k ∷ S) env d c q s f t _ h.2 lt ready
      (λ v1 f1 s1 t1 w1 d1 c1 q1 g1 b1 k1. push h.3.1 (create h.3.2.1 (λ t2 w2 g2 b2 is2. pair1 h.3.2.2 (λ t3 w3 g3 b3 is3.
      let made : Made = made_at w2 w1 em.layout.apply in
      let e3 = effects_later em.layout em.setting.roll t1 t3 f1 d1 (later g2 g3) k1.record_stands in
      let l3 = longer_later k1.longer (longer_made em.setting.roll d1 made) in
      onward more (Bind mark (Plain (Actor (base + length f1.created))) env) h.1 (rest (Plain (Actor (base + length f1.created)))) w3 d
      (with_made d1 made) c q (suc s) _ _ s1 _ t3
      (omega (arith, k1.cycles_in, k1.steps, lt))
      (record {
        above = b3;
        env_stands = (
          w2,
          x,
          is3,
          number_stands em.layout em.setting.roll t3 f1 d1 e3 made (g3.keeps w2 _ is2),
          env_later em.layout t t3 _ _
              (later g1 (later g2 g3)) l3 x env ready.env_stands,
        );
        record_stands = made_stands em.layout em.setting.roll t3 f1 d1 e3 made v1
            (stands_later em.layout t1 t3 _ _ (later g2 g3) (longer_same _) w1 v1 k1.stands) refl;
        cycles_fit = omega (arith, k1.cycles_in, ready.cycles_fit);
        quads_fit = omega (arith, k1.quads_in, ready.quads_fit);
        least_in = omega (arith, k1.steps, ready.least_in);
      })
      l3 (omega (arith, k1.cycles_in)) (omega (arith, k1.quads_in)) (omega (arith, k1.steps))))))

  become_statement : (e : TestExpr) (more : List (StmtNode Tests)) (env : CoreEnv) (a : W)
      (h : StatementsAt em.setting em.layout codes (Become e ∷ more) (shape_of env) a)
      → Runs more env h.1 → (x : W) (d : Effects) (c q s : ℕ) (f : Gathered) (t : Seen) → s < n → Ready em lim 0 env x d c q (suc s) f t
      → Gets em lim (Ran em 2 k S d c q (suc s)) (statement base below (Become e) env (statements base below more) f s) t (point a (x ∷ k ∷ S) d c q)
  become_statement e more env a h rest x d c q s f t lt ready =
      part em lim n codes below ih (Ran em 2 k S d c q (suc s)) e a h.0 x (k ∷ S) env d c q s f t _ h.2 lt ready
      (λ v1 f1 s1 t1 w1 d1 c1 q1 g1 b1 k1. push h.3.1
      (become_runs em lim (Ran em 2 k S d c q (suc s)) h.3.0 h.1 h.3.2 v1 w1 (x ∷ k ∷ S) d1 (suc c1) (1 + q1) s1 f1 t1 k1.stands k1.record_stands
      (omega (arith, k1.cycles_in, ready.cycles_fit)) (omega (arith, k1.quads_in, ready.quads_fit)) (statements base below more env)
      (λ d3 f3 same_roll rs3.
      let l3 = longer_later k1.longer (longer_eq (sym same_roll)) in
      onward more env h.1 rest x d d3 c q (suc s) _ _ s1 f3 t1 (omega (arith, k1.cycles_in, k1.steps, lt))
      (ready_at em lim 0 0 env x d c q (suc s) f t d3 _ _ s1 f3 t1 ready g1 b1 l3 rs3 (omega (arith, k1.cycles_in))
      (omega (arith, k1.quads_in)) (omega (arith, k1.steps)))
      l3 (omega (arith, k1.cycles_in)) (omega (arith, k1.quads_in)) (omega (arith, k1.steps)))
      f1.next refl))

  do_statement : (e : TestExpr) (more : List (StmtNode Tests)) (env : CoreEnv) (a : W)
      (h : StatementsAt em.setting em.layout codes (Do e ∷ more) (shape_of env) a)
      → Runs more env h.1 → (x : W) (d : Effects) (c q s : ℕ) (f : Gathered) (t : Seen) → s < n → Ready em lim 0 env x d c q (suc s) f t
      → Gets em lim (Ran em 2 k S d c q (suc s)) (statement base below (Do e) env (statements base below more) f s) t (point a (x ∷ k ∷ S) d c q)
  do_statement e more env a h rest x d c q s f t lt ready =
      part em lim n codes below ih (Ran em 2 k S d c q (suc s)) e a h.0 x (k ∷ S) env d c q s f t _ h.2 lt ready
      (λ v1 f1 s1 t1 w1 d1 c1 q1 g1 b1 k1. push h.3
      (then_ran em lim (Ran em 2 k S d c q (suc s)) 9 h.1 (x ∷ k ∷ S) d1 (suc c1) (1 + q1) s1 (perform below v1 f1 s1) _ t1 _ b1
      (exec_runs em lim n below blocks h.1 w1 (x ∷ k ∷ S) d1 (suc c1) (1 + q1) s1 f1 t1
      (omega (arith, k1.cycles_in, k1.steps, lt)) b1 k1.record_stands
      (omega (arith, k1.cycles_in, ready.cycles_fit)) (omega (arith, k1.quads_in, ready.quads_fit))
      (omega (arith, k1.steps, ready.least_in)) v1 k1.stands)
      (λ u f2 s2 t2 d2 c2 q2 g2 b2 k2.
      let l2 = longer_later k1.longer k2.longer in
      onward more env h.1 rest x d d2 c q (suc s) c2 q2 s2 f2 t2 (omega (arith, k1.cycles_in, k1.steps, k2.cycles_in, k2.steps, lt))
      (ready_at em lim 0 0 env x d c q (suc s) f t d2 c2 q2 s2 f2 t2 ready (later g1 g2) b2 l2 k2.record_stands
      (omega (arith, k1.cycles_in, k2.cycles_in)) (omega (arith, k1.quads_in, k2.quads_in)) (omega (arith, k1.steps, k2.steps)))
      l2 (omega (arith, k1.cycles_in, k2.cycles_in)) (omega (arith, k1.quads_in, k2.quads_in)) (omega (arith, k1.steps, k2.steps)))))

  pub statements_run : (ss : List (StmtNode Tests)) (env : CoreEnv) (a : W) → StatementsAt em.setting em.layout codes ss (shape_of env) a
      → Runs ss env a
  statements_run [] env a h x d c q s f t lt ready =
      drop1 h.1.1 (jump h.1.2 (ran em lim 2 k S d c q s f s t d _ _
      (record {
        record_stands = ready.record_stands;
        longer = longer_same _;
        cycles_in = omega arith;
        quads_in = omega arith;
        steps = omega arith;
      })))
  statements_run (y ∷ more) env a h x d c q zero f t lt ready = runs_on em.setting lim t a (x ∷ k ∷ S) d c q (omega (arith, ready.least_in))
  statements_run (Functions fs ∷ more) env a h x d c q (suc s) f t lt ready =
      group_runs fs more env a h (statements_run more (Group fs env) h.0 h.2) x d c q s f t (omega (arith, lt)) ready
  statements_run (Let ts e ∷ more) env a h x d c q (suc s) f t lt ready =
      let_runs ts e more env a h (λ env' h'. statements_run more env' h.1 h') x d c q s f t (omega (arith, lt)) ready
  statements_run (Defined ∷ more) env a h x d c q (suc s) f t lt ready =
      debug h.1 (onward more env h.0 (statements_run more env h.0 h.2) x d d c q (suc s) _ _ s f t (omega (arith, lt))
      (ready_at em lim 0 0 env x d c q (suc s) f t d _ _ s f t ready (same t) ready.above (longer_same _) ready.record_stands (omega arith)
      (omega arith) (omega arith))
      (longer_same _) (omega arith) (omega arith) (omega arith))
  statements_run (Send e target ∷ more) env a h x d c q (suc s) f t lt ready =
      send_statement e target more env a h (statements_run more env h.5 h.12) x d c q s f t (omega (arith, lt)) ready
  statements_run (Create mark e ∷ more) env a h x d c q (suc s) f t lt ready =
      create_statement mark e more env a h (λ v. statements_run more (Bind mark v env) h.1 h.4) x d c q s f t (omega (arith, lt)) ready
  statements_run (Become e ∷ more) env a h x d c q (suc s) f t lt ready =
      become_statement e more env a h (statements_run more env h.1 h.4) x d c q s f t (omega (arith, lt)) ready
  statements_run (Throw e ∷ more) env a h x d c q (suc s) f t lt ready =
      part em lim n codes below ih (Ran em 2 k S d c q (suc s)) e a (em.layout.fail 7) x (k ∷ S) env d c q s f t _ h (omega (arith, lt)) ready
      (λ v1 f1 s1 t1 w1 d1 c1 q1 g1 b1 k1.
      fails_at em lim 7 (length f1.sent) refl t1 _ d1 c1 q1 (sends_stand em.layout em.setting.roll t1 f1 d1 k1.record_stands)
      (omega (arith, k1.cycles_in, ready.cycles_fit)) (omega (arith, k1.quads_in, ready.quads_fit)))
  statements_run (Do e ∷ more) env a h x d c q (suc s) f t lt ready =
      do_statement e more env a h (statements_run more env h.1 h.4) x d c q s f t (omega (arith, lt)) ready
