-- The code of each node of an expression.
use Rattle.std.proofs.Common.{◌≡◌, refl, ℕ, suc, ◌+◌, ◌<◌, List, [], ◌∷◌, length, Some, arith}
use Rattle.std.specs.Prelude.{map}
use Rattle.cap_words.specs.Words.{W}
use Rattle.cap_words.specs.Seen.{Seen}
use Rattle.instr_table.specs.declared.op.Op.TheVariants.{Push}
use Rattle.instr_table.specs.Types.{AnActor, Grows, look_up}
use Rattle.instr_table.specs.Event.{Effects}
use Rattle.hum_core.specs.declared.tested.TestExpr.{TestExpr}
use Rattle.hum_meaning.specs.Value.{Actor, Plain}
use Rattle.hum_meaning.specs.Action.{create, pure, ◌>>=◌}
use Rattle.hum_meaning.specs.Language as node
use Rattle.hum_meaning.specs.Language.{Meaning, ExprNode}
use Rattle.hum_meaning.specs.Eval.{apply, eval_node, tuple}
use Rattle.hum_core.specs.Numbered.{Opening, Of}
use Rattle.hum_core.specs.TestLists.{Tests, tests_language}
use Rattle.hum_code.specs.Bounds.{Limits}
use Rattle.hum_code.specs.Comes.{point, roll_with, At}
use Rattle.hum_code.specs.Layout.{shape_of}
use Rattle.hum_code.specs.Stands.{Stands}
use Rattle.hum_code.specs.Code.{codes_to, NodeAt}
use Rattle.hum_code.specs.Emission.{Emission}
use Rattle.hum_code.proofs.World.{same}
use Rattle.hum_code.proofs.Steps.{push, drop1, dup1, roll2, self, debug}
use Rattle.hum_code.proofs.Makings.{create as creates, made_at, with_made}
use Rattle.hum_code.proofs.Standing.{CoreValue, CoreEnv, Gathered, longer_by, longer_same, longer_later, stands_later, effects_later}
use Rattle.hum_code.proofs.Gathering.{longer_made, number_stands, made_stands}
use Rattle.hum_code.proofs.Results.{Worth, Facts, Valued, Ready, Evaluates, Gets, valued, widen, then_value, ready_at}
use Rattle.hum_code.proofs.Leaves.{leaf, function_made, block_made, var_runs, first_item, items_run}
use Rattle.hum_code.proofs.Claims.{PrimitivesRun, FunctionsRun, ChoicesRun}
use Rattle.hum_code.proofs.Calls.{call_runs}

module _ (em : Emission) (lim : Limits) (n : ℕ) (below : Meaning Tests) (evaluates : Evaluates em lim n (codes_to em.setting em.layout n) below.eval)
    (functions : FunctionsRun em lim n (codes_to em.setting em.layout n) below) (primitives : PrimitivesRun em lim)
    (choices : ChoicesRun em lim n (codes_to em.setting em.layout n) below) (k x : W) (S : List W) (env : CoreEnv) (d : Effects) (c q s : ℕ)
    (f : Gathered) (t : Seen) (ready : Ready em lim 0 env x d c q (suc s) f t) (lt : s < n) where
  -- the code of the node stands at a and runs to k
  abbrev Runs : ExprNode Tests → W → Type 0
  Runs e a = Gets em lim (Valued em 16 0 k S d c q (suc s))
      (eval_node (tests_language em.layout.units) em.self (length em.setting.roll) below e env f s) t (point a (x ∷ S) d c q)

  self_stands : Worth em t d em.setting.own.actor (Plain (Actor em.self))
  unfolding Stands
  self_stands = (
    (longer_by em.setting.roll (map (λ m. m.actor) d.created)).keeps em.self em.setting.own.actor em.self_is,
    ready.above.keeps em.setting.own.actor _ em.actor_is,
  )

  -- ---- calls

  -- the function and the argument are on the stack
  module _ (g : CoreValue) (f1 : Gathered) (s1 : ℕ) (t1 : Seen) (wg : W) (d1 : Effects) (c1 q1 : ℕ)
      (k1 : Facts em 16 0 d (suc c) (1 + q) s g f1 s1 t1 wg d1 c1 q1) where
    called : (v : CoreValue) (f2 : Gathered) (s2 : ℕ) (t2 : Seen) (wv : W) (d2 : Effects) (c2 q2 : ℕ) (l : W)
        → At em.setting l (Push k) em.layout.call
        → Grows t1 t2 → Grows em.setting.base t2 → Facts em 16 0 d1 (suc c1) (2 + q1) s1 v f2 s2 t2 wv d2 c2 q2
        → Gets em lim (Valued em 16 0 k S d c q (suc s)) (apply (tests_language em.layout.units) em.self (length em.setting.roll) below g v f2 s2) t2
        (point l (wv ∷ wg ∷ S) d2 c2 q2)
    called v f2 s2 t2 wv d2 c2 q2 l at g2 b2 k2 = push at
        (widen em lim 0 46 16 0 k S d2 d (suc c2) (1 + q2) s2 c q (suc s)
        (apply (tests_language em.layout.units) em.self (length em.setting.roll) below g v f2 s2) t2 _ b2 (longer_later k1.longer k2.longer)
        (omega (arith, k1.cycles_in, k2.cycles_in)) (omega (arith, k1.quads_in, k2.quads_in)) (omega (arith, k1.steps, k2.steps))
        (call_runs em lim n below functions primitives v k wv wg S d2 (suc c2) (1 + q2) s2 f2 t2
        (omega (arith, lt, k1.cycles_in, k1.steps, k2.cycles_in, k2.steps)) b2 k2.stands k2.record_stands
        (omega (arith, k1.cycles_in, k2.cycles_in, ready.cycles_fit)) (omega (arith, k1.quads_in, k2.quads_in, ready.quads_fit))
        (omega (arith, k1.steps, k2.steps, ready.least_in)) g (stands_later em.layout t1 t2 _ _ g2 k2.longer wg g k1.stands)))

  call_node : (e g : TestExpr) (a : W) → NodeAt em.setting em.layout (codes_to em.setting em.layout n) (shape_of env) (node.Call e g) a k
      → Runs (node.Call e g) a
  call_node e g a at = dup1 at.4
      (then_value em lim (Valued em 16 0 k S d c q (suc s)) 16 0 at.1 (x ∷ S) d (suc c) (1 + q) s (below.eval e env f s)
      (λ h. below.eval g env >>= (λ v. apply (tests_language em.layout.units) em.self (length em.setting.roll) below h v)) t _ ready.above
      (evaluates.at e at.0 at.1 x (x ∷ S) env d (suc c) (1 + q) s f t at.5 lt
      (ready_at em lim 0 0 env x d c q (suc s) f t d (suc c) (1 + q) s f t ready (same t) ready.above (longer_same _) ready.record_stands
      (omega arith) (omega arith) (omega arith)))
      (λ h f1 s1 t1 wg d1 c1 q1 g1 b1 k1. roll2 at.6
      (then_value em lim (Valued em 16 0 k S d c q (suc s)) 16 0 at.3 (wg ∷ S) d1 (suc c1) (2 + q1) s1 (below.eval g env f1 s1)
      (λ v. apply (tests_language em.layout.units) em.self (length em.setting.roll) below h v) t1 _ b1
      (evaluates.at g at.2 at.3 x (wg ∷ S) env d1 (suc c1) (2 + q1) s1 f1 t1 at.7 (omega (arith, lt, k1.cycles_in, k1.steps))
      (ready_at em lim 0 0 env x d c q (suc s) f t d1 (suc c1) (2 + q1) s1 f1 t1 ready g1 b1 k1.longer k1.record_stands
      (omega (arith, k1.cycles_in)) (omega (arith, k1.quads_in)) (omega (arith, k1.steps))))
      (λ v f2 s2 t2 wv d2 c2 q2 g2 b2 k2. called h f1 s1 t1 wg d1 c1 q1 k1 v f2 s2 t2 wv d2 c2 q2 at.3 at.8 g2 b2 k2))))

  -- ---- actors

  new_made : (v : CoreValue) (f1 : Gathered) (s1 : ℕ) (t1 t2 : Seen) (w w' : W) (d1 : Effects) (c1 q1 c2 q2 : ℕ) → Grows t1 t2
      → Facts em 16 0 d (suc c) (0 + q) s v f1 s1 t1 w d1 c1 q1 → look_up t2 w' ≡ Some AnActor → c2 ≡ 2 + c1 → q2 ≡ 3 + q1
      → Gets em lim (Valued em 16 0 k S d c q (suc s)) ((create (length em.setting.roll) v >>= (λ i. pure (Plain (Actor i)))) f1 s1) t2
      (point k (w' ∷ S) (with_made d1 (made_at w' w em.layout.apply)) c2 q2)
  new_made v f1 s1 t1 t2 w w' d1 c1 q1 c2 q2 g facts is ec eq =
      let r = effects_later em.layout em.setting.roll t1 t2 f1 d1 g facts.record_stands in
      let a = made_at w' w em.layout.apply in
      rw (ec, eq) (valued em lim 16 0 k S d c q (suc s) (Plain (Actor (length em.setting.roll + length f1.created))) _ s1 t2 w' (with_made d1 a)
      (2 + c1) (3 + q1) (record {
        stands = number_stands em.layout em.setting.roll t2 f1 d1 r a is;
        record_stands = made_stands em.layout em.setting.roll t2 f1 d1 r a v (stands_later em.layout t1 t2 _ _ g (longer_same _) w v facts.stands)
            refl;
        longer = longer_later facts.longer (longer_made em.setting.roll d1 a);
        cycles_in = omega (arith, facts.cycles_in);
        quads_in = omega (arith, facts.quads_in);
        steps = omega (arith, facts.steps);
      }))

  new_node : (e : TestExpr) (a : W) → NodeAt em.setting em.layout (codes_to em.setting em.layout n) (shape_of env) (node.New e) a k
      → Runs (node.New e) a
  new_node e a at = debug at.2
      (then_value em lim (Valued em 16 0 k S d c q (suc s)) 16 0 at.1 S d (suc c) (0 + q) s (below.eval e env f s)
      (λ v. create (length em.setting.roll) v >>= (λ i. pure (Plain (Actor i)))) t _ ready.above
      (evaluates.at e at.0 at.1 x S env d (suc c) (0 + q) s f t at.3 lt
      (ready_at em lim 0 0 env x d c q (suc s) f t d (suc c) (0 + q) s f t ready (same t) ready.above (longer_same _) ready.record_stands
      (omega arith) (omega arith) (omega arith)))
      (λ v f1 s1 t1 w d1 c1 q1 g1 b1 facts. push at.4.1 (creates at.4.2 (λ t2 w' g2 b2 is.
      new_made v f1 s1 t1 t2 w w' d1 c1 q1 _ _ g2 facts is (omega arith) (omega arith)))))

  -- ---- tuples

  tuple_node : (es : List TestExpr) (a : W) → NodeAt em.setting em.layout (codes_to em.setting em.layout n) (shape_of env) (node.Tuple es) a k
      → Runs (node.Tuple es) a
  tuple_node [] a at = absurd at
  tuple_node (e ∷ []) a at = absurd at
  tuple_node (e ∷ g ∷ more) a at =
      dup1 at.4 (widen em lim 20 0 16 0 k S d d (suc c) (1 + q) s c q (suc s) (tuple below (e ∷ g ∷ more) env f s) t _ ready.above (longer_same _)
      (omega arith) (omega arith) (omega arith)
      (first_item em lim n (codes_to em.setting em.layout n) below evaluates env x e g more at.0 at.1 at.2 at.3 at.8.0 k at.5 at.6 at.8.1 at.8.2
      (items_run em lim n (codes_to em.setting em.layout n) below evaluates env x (g ∷ more) at.2 at.3 at.7) S d (suc c) (1 + q) s f t lt
      (ready_at em lim 0 0 env x d c q (suc s) f t d (suc c) (1 + q) s f t ready (same t) ready.above (longer_same _) ready.record_stands
      (omega arith) (omega arith) (omega arith))))

  pub node_runs : (e : ExprNode Tests) (a : W) → NodeAt em.setting em.layout (codes_to em.setting em.layout n) (shape_of env) e a k → Runs e a
  node_runs (node.Is v) a at = drop1 at.1.1 (push at.1.2
      (leaf em lim k S d c q s v f t at.0 _ _ ready.record_stands (at.2 t (roll_with em.setting.roll d) ready.above) (omega arith) (omega arith)
      (omega arith)))
  node_runs (node.Var slot) a at = var_runs em lim (codes_to em.setting em.layout n) k S env x d c q s f t ready slot slot.member a at
  node_runs node.Myself a at = drop1 at.1 (self at.2
      (leaf em lim k S d c q s (Plain (Actor em.self)) f t em.setting.own.actor _ _ ready.record_stands self_stands (omega arith) (omega arith)
      (omega arith)))
  node_runs (node.Abs Opening) a at = absurd at
  node_runs (node.Abs (Of u)) a at = function_made em lim (codes_to em.setting em.layout n) k S env x d c q s f t u a c q at.0 at.1 at.2
      ready.env_stands ready.record_stands (omega arith) (omega arith) (omega arith)
  node_runs (node.BlockOf u) a at = block_made em lim (codes_to em.setting em.layout n) k S env x d c q s f t u a c q at
      ready.env_stands ready.record_stands (omega arith) (omega arith) (omega arith)
  node_runs (node.Call e g) a at = call_node e g a at
  node_runs (node.Tuple es) a at = tuple_node es a at
  node_runs (node.New e) a at = new_node e a at
  node_runs (node.Case e arms) a at = choices.case_at e arms a k x S env d c q s f t at lt ready
  node_runs (node.If branches other) a at = choices.if_at branches other a k x S env d c q s f t at lt ready
