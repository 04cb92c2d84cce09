-- Expressions without parts, and tuples.
use Rattle.std.proofs.Common.{◌≡◌, ℕ, suc, ◌+◌, ◌<◌, ◌≤◌, pos, List, [], ◌∷◌, Option, Some, None, arith}
use Rattle.cap_words.specs.Words.{W}
use Rattle.cap_words.specs.Seen.{Seen}
use Rattle.instr_table.specs.declared.op.Op.TheVariants as op
use Rattle.instr_table.specs.Event.{Effects}
use Rattle.hum_meaning.specs.Value.{Pair, Function, Block}
use Rattle.hum_meaning.specs.Action.{Gives}
use Rattle.hum_meaning.specs.Language.{Meaning}
use Rattle.hum_meaning.specs.Eval.{found, tuple}
use Rattle.hum_core.specs.declared.slot.Slot.{Slot}
use Rattle.hum_core.specs.declared.tested.TestExpr.{TestExpr}
use Rattle.hum_core.specs.Numbered.{Of, at_slot}
use Rattle.hum_core.specs.TestLists.{Tests}
use Rattle.hum_code.specs.Bounds.{Limits}
use Rattle.hum_code.specs.Comes.{point, Comes, At}
use Rattle.hum_code.specs.Layout.{shape_of, IsFunction, minus}
use Rattle.hum_code.specs.Stands.{Stands}
use Rattle.hum_code.specs.Code.{Codes, FunctionAt, BlockAt, VarAt, ItemsAt}
use Rattle.hum_code.specs.Emission.{Emission}
use Rattle.hum_code.proofs.World.{same, later}
use Rattle.hum_code.proofs.Standing.{CoreValue, CoreEnv, Gathered, longer_same, longer_later, env_later, effects_later, stands_later}
use Rattle.hum_code.proofs.Steps.{push, dup1, roll2, nth_}
use Rattle.hum_code.proofs.Makings.{pair1, function3, block3}
use Rattle.hum_code.proofs.Access.{found_in, group_in}
use Rattle.hum_code.proofs.Results.{Worth, WorthEnv, Recorded, Valued, Ready, Evaluates, Gets, valued, widen, then_value, ready_at}

module _ (em : Emission) (lim : Limits) where
  -- the value stands after a few instructions
  pub leaf : (k : W) (S : List W) (d : Effects) (c q s : ℕ) (v : CoreValue) (f : Gathered) (t : Seen) (w : W) (c' q' : ℕ) → Recorded em t f d
      → Worth em t d w v
      → c' ≤ c + 48 → q' ≤ q + 48 → suc c ≤ c' → Comes em.setting lim.most (Valued em 16 0 k S d c q (suc s) v f s) t (point k (w ∷ S) d c' q')
  leaf k S d c q s v f t w c' q' e h p i n =
      valued em lim 16 0 k S d c q (suc s) v f s t w d c' q'
      (record {
        stands = h;
        record_stands = e;
        longer = longer_same _;
        cycles_in = omega (arith, p);
        quads_in = omega (arith, i);
        steps = omega (arith, n);
      })

  -- the cell of a function, or of a block, is made of the environment on top
  module _ (codes : Codes) (k : W) (S : List W) (env : CoreEnv) (x : W) (d : Effects) (c q s : ℕ) (f : Gathered) (t : Seen) where
    pub function_made : (u : ℕ) (a : W) (c' q' : ℕ) → FunctionAt em.setting em.layout codes (shape_of env) u a k → em.layout.shape u ≡ shape_of env
        → IsFunction em.layout u
        → WorthEnv em t d x env → Recorded em t f d → c' ≤ c + 45 → q' ≤ q + 44 → c ≤ c'
        → Gets em lim (Valued em 16 0 k S d c q (suc s)) (Gives (Function (Of u) env) f s) t (point a (x ∷ S) d c' q')
    unfolding Stands
    function_made u a c' q' h shape is xs rs p i n =
        push h.1 (push h.2.1 (function3 h.2.2 (λ t1 w g b shows.
        leaf k S d c q s (Function (Of u) env) f t1 w _ _ (effects_later em.layout em.setting.roll t t1 f d g rs)
        (x, shows, env_later em.layout t t1 _ _ g (longer_same _) x env xs, shape, is) (omega (arith, p)) (omega (arith, i)) (omega (arith, n)))))

    pub block_made : (u : ℕ) (a : W) (c' q' : ℕ) → BlockAt em.setting em.layout codes (shape_of env) u a k
        → WorthEnv em t d x env → Recorded em t f d → c' ≤ c + 45 → q' ≤ q + 44 → c ≤ c'
        → Gets em lim (Valued em 16 0 k S d c q (suc s)) (Gives (Block u env) f s) t (point a (x ∷ S) d c' q')
    unfolding Stands
    block_made u a c' q' h xs rs p i n =
        push h.0.1 (push h.0.2.1 (block3 h.0.2.2 (λ t1 w g b shows.
        leaf k S d c q s (Block u env) f t1 w _ _ (effects_later em.layout em.setting.roll t t1 f d g rs)
        (x, shows, env_later em.layout t t1 _ _ g (longer_same _) x env xs, h.1, h.2) (omega (arith, p)) (omega (arith, i)) (omega (arith, n)))))

    module _ (ready : Ready em lim 0 env x d c q (suc s) f t) where
      pub var_runs : (slot : Slot) (member : Option ℕ) (a : W) → VarAt em.setting em.layout codes (shape_of env) slot.back member a k
          → Gets em lim (Valued em 16 0 k S d c q (suc s)) (found (at_slot env (record { back = slot.back; member = member })) f s) t
          (point a (x ∷ S) d c q)
      unfolding Stands
      var_runs slot None a h =
          let w = found_in em.layout t _ x env slot.back ready.env_stands h.1 in
          rw w.is (nth_ (pos (suc slot.back)) h.0 w.reads
          (leaf k S d c q s w.value f t w.word _ _ ready.record_stands w.stands (omega arith) (omega arith) (omega arith)))
      var_runs slot (Some i) a h =
          let w = group_in em.layout t _ x env slot.back i h.1 ready.env_stands h.4 in
          rw w.is (nth_ (minus slot.back) h.2 w.reads (push h.3.1 (push h.3.2.1 (function3 h.3.2.2 (λ u y g b shows.
          leaf k S d c q s (Function (Of h.1) w.inner) f u y _ _ (effects_later em.layout em.setting.roll t u f d g ready.record_stands)
          (w.word, shows, env_later em.layout t u _ _ g (longer_same _) w.word w.inner w.stands, w.shape, w.function) (omega arith)
          (omega arith) (omega arith))))))

  -- ---- tuples

  module _ (n : ℕ) (codes : Codes) (below : Meaning Tests) (ih : Evaluates em lim n codes below.eval) (env : CoreEnv) (x : W) where
    -- the code of items runs from a to k
    unfoldable pub Items : List TestExpr → W → W → Type 0
    Items es a k = (S : List W) (d : Effects) (c q s : ℕ) (f : Gathered) (t : Seen) → s < n → Ready em lim 1 env x d c q s f t
        → Gets em lim (Valued em 16 0 k S d c q s) (tuple below es env f s) t (point a (x ∷ S) d c q)

    pub first_item : (e g : TestExpr) (more : List TestExpr) (b0 b1 b2 b3 b4 k : W) → codes.ExprAt (shape_of env) e b0 b1
        → At em.setting b1 (op.Roll (pos 2)) b2
        → At em.setting b3 (op.Roll (pos 2)) b4 → At em.setting b4 (op.Pair (pos 1)) k → Items (g ∷ more) b2 b3
        → (S : List W) (d : Effects) (c q s : ℕ) (f : Gathered) (t : Seen) → s < n → Ready em lim 0 env x d c q s f t
        → Gets em lim (Valued em 20 0 k S d c q s) (tuple below (e ∷ g ∷ more) env f s) t (point b0 (x ∷ x ∷ S) d c q)
    unfolding Items Stands
    first_item e g more b0 b1 b2 b3 b4 k h h2 h4 h5 rest S d c q s f t lt ready =
        then_value em lim _ 16 0 b1 (x ∷ S) d c q s (below.eval e env f s) _ t _ ready.above (ih.at e b0 b1 x (x ∷ S) env d c q s f t h lt ready)
        (λ v f1 s1 t1 w1 d1 c1 q1 g1 above1 k1. roll2 h2
        (then_value em lim _ 16 0 b3 (w1 ∷ S) d1 (suc c1) (2 + q1) s1 (tuple below (g ∷ more) env f1 s1) _ t1 _ above1
        (rest (w1 ∷ S) d1 (suc c1) (2 + q1) s1 f1 t1 (omega (arith, k1.cycles_in, k1.steps, lt))
        (ready_at em lim 0 1 env x d c q s f t d1 (suc c1) (2 + q1) s1 f1 t1 ready g1 above1 k1.longer k1.record_stands
        (omega (arith, k1.cycles_in)) (omega (arith, k1.quads_in)) (omega (arith, k1.steps))))
        (λ v2 f2 s2 t2 w2 d2 c2 q2 g2 above2 k2. roll2 h4 (pair1 h5 (λ t3 w3 g3 above3 is3.
        valued em lim 20 0 k S d c q s (Pair v v2) f2 s2 t3 w3 d2 _ _ (record {
          stands = (
            w1,
            w2,
            is3,
            stands_later em.layout t1 t3 _ _ (later g2 g3) k2.longer w1 v k1.stands,
            stands_later em.layout t2 t3 _ _
                g3 (longer_same _) w2 v2 k2.stands,
          );
          record_stands = effects_later em.layout em.setting.roll t2 t3 f2 d2 g3 k2.record_stands;
          longer = longer_later k1.longer k2.longer;
          cycles_in = omega (arith, k1.cycles_in, k2.cycles_in);
          quads_in = omega (arith, k1.quads_in, k2.quads_in);
          steps = omega (arith, k1.steps, k2.steps);
        }))))))

    pub items_run : (es : List TestExpr) (a k : W) → ItemsAt em.setting em.layout codes (shape_of env) es a k → Items es a k
    unfolding Items
    items_run [] a k h = absurd h
    items_run (e ∷ []) a k h = λ S d c q s f t lt ready.
        ih.at e a k x S env d c q s f t h lt
        (ready_at em lim 1 0 env x d c q s f t d c q s f t ready (same t) ready.above (longer_same _) ready.record_stands (omega arith)
        (omega arith) (omega arith))
    items_run (e ∷ g ∷ more) a k h = λ S d c q s f t lt ready.
        dup1 h.4 (widen em lim 20 0 16 0 k S d d (suc c) (1 + q) s c q s (tuple below (e ∷ g ∷ more) env f s) t _ ready.above (longer_same _)
        (omega arith) (omega arith) (omega arith)
        (first_item e g more h.0 h.1 h.2 h.3 h.8.0 k h.5 h.6 h.8.1 h.8.2 (items_run (g ∷ more) h.2 h.3 h.7) S d (suc c) (1 + q) s f t lt
        (ready_at em lim 1 0 env x d c q s f t d (suc c) (1 + q) s f t ready (same t) ready.above (longer_same _) ready.record_stands
        (omega arith) (omega arith) (omega arith))))
