-- What functions, built-in functions and blocks do when they are run, as claims that other proofs take.
use Rattle.std.proofs.Common.{◌≡◌, ℕ, suc, ◌+◌, ◌*◌, ◌<◌, ◌≤◌, pos, List, [], ◌∷◌, length, Some}
use Rattle.cap_words.specs.Words.{W, Fix}
use Rattle.cap_words.specs.Seen.{Seen}
use Rattle.instr_table.specs.Types.{Grows}
use Rattle.instr_table.specs.Event.{Effects}
use Rattle.hum_meaning.specs.Value.{BuiltIn, Entry, extend}
use Rattle.hum_meaning.specs.Action.{and_then, fail, no_match}
use Rattle.hum_meaning.specs.BuiltIns.{built_in}
use Rattle.hum_meaning.specs.Language.{Case, If, Meaning, Executor}
use Rattle.hum_meaning.specs.Eval.{if_matched, enter, eval_node}
use Rattle.hum_core.specs.declared.tested.TestExpr.{TestExpr}
use Rattle.hum_core.specs.declared.tested.Test.{Test}
use Rattle.hum_core.specs.TestLists.{Tests, tests_language}
use Rattle.hum_code.specs.Bounds.{Limits}
use Rattle.hum_code.specs.Comes.{point}
use Rattle.hum_code.specs.Layout.{shape_of, with_singles, IsBlock, number_of_primitive}
use Rattle.hum_code.specs.Code.{Codes, bound_after, MatchAt, NodeAt, FunctionCode}
use Rattle.hum_code.specs.Emission.{Emission}
use Rattle.hum_code.proofs.Standing.{CoreValue, CoreEnv, Gathered}
use Rattle.hum_code.proofs.Results.{Goal, Ends, Worth, WorthEnv, Recorded, Extends, Valued, Ran, Ready, Gets}

-- a pattern matched: the word stands for the environment with its entries in front, and so much was spent
pub record Bindings (em : Emission) (ts : List Test) (env : CoreEnv) (d : Effects) (c q s : ℕ) (es : List (Entry Tests)) (f : Gathered) (left : ℕ)
    (t : Seen)
    (w : W) (d' : Effects) (c' q' : ℕ) : Type 0 where
  pub env_stands : WorthEnv em t d' w (extend es env)
  pub shape : shape_of (extend es env) ≡ with_singles (bound_after ts 0) (shape_of env)
  pub record_stands : Recorded em t f d'
  pub longer : Extends em d d'
  pub cycles_in : c' + 64 * left ≤ c + 6 + 64 * s
  pub quads_in : q' + 64 * left ≤ q + 6 + 64 * s
  pub steps : c + s ≤ c' + left

module _ (em : Emission) (lim : Limits) where
  -- the code of each built-in function, from `S return argument number` on
  pub record PrimitivesRun : Type 0 where
    pub at : (b : BuiltIn) (v : CoreValue) (k w : W) (S : List W) (d : Effects) (c q s : ℕ) (f : Gathered) (t : Seen)
        → Grows em.setting.base t → Worth em t d w v → Recorded em t f d → c + 36 + 64 * s ≤ lim.most → q + 36 + 64 * s ≤ lim.most → lim.least ≤ c + s
        → Gets em lim (Valued em 0 36 k S d c q s) (built_in b v f s) t (point (em.layout.routine b)
        (Fix (pos (number_of_primitive b)) ∷ w ∷ k ∷ S) d c q)

  -- the code of a function, from `S return argument env` on
  pub record FunctionsRun (n : ℕ) (codes : Codes) (below : Meaning Tests) : Type 0 where
    pub at : (ts : List Test) (e : TestExpr) (a k w x : W) (S : List W) (v : CoreValue) (env : CoreEnv) (d : Effects) (c q s : ℕ) (f : Gathered)
        (t : Seen)
        → FunctionCode em.setting em.layout codes ts e (shape_of env) a → s < n
        → Grows em.setting.base t → WorthEnv em t d x env → Worth em t d w v → Recorded em t f d
        → c + 36 + 64 * s ≤ lim.most → q + 36 + 64 * s ≤ lim.most → lim.least ≤ c + s
        → Gets em lim (Valued em 0 8 k S d c q s) (enter below (Some (ts, e)) env v f s) t (point a (x ∷ w ∷ k ∷ S) d c q)

  -- the code of a block, from `S return env` on
  pub record BlocksRun (n : ℕ) (exec : Executor Tests) : Type 0 where
    pub at : (u : ℕ) (k x : W) (S : List W) (env : CoreEnv) (d : Effects) (c q s : ℕ) (f : Gathered) (t : Seen)
        → em.layout.shape u ≡ shape_of env → IsBlock em.layout u → s < n → Ready em lim 0 env x d c q s f t
        → Gets em lim (Ran em 2 k S d c q s) (exec u env f s) t (point (em.layout.place u) (x ∷ k ∷ S) d c q)

  -- the code that matches the value on top with a pattern, from `S env value` on, and what follows it
  pub record PatternsRun (n : ℕ) (codes : Codes) (below : Meaning Tests) : Type 1 where
    pub at : {B : Type 0} (Q : Goal B) (ts : List Test) (a k w x : W) (S : List W) (v : CoreValue) (env : CoreEnv) (d : Effects) (c q s : ℕ)
        (f : Gathered) (t : Seen)
        (rest : List (Entry Tests) → Gathered → ℕ → Ends B)
        → MatchAt em.setting em.layout codes (shape_of env) ts a k → s < n → Ready em lim 16 env x d c q s f t → Worth em t d w v
        → ((es : List (Entry Tests)) (f' : Gathered) (left : ℕ) (u : Seen) (x' : W) (d' : Effects) (c' q' : ℕ) → Grows t u → Grows em.setting.base u
        → Bindings em ts env d c q s es f' left u x' d' c' q' → Gets em lim Q (rest es f' left) u (point k (x' ∷ S) d' c' q'))
        → Gets em lim Q (and_then (below.matches ts v env [] f s) (λ m. if_matched m rest (fail no_match))) t (point a (w ∷ x ∷ S) d c q)

  -- the code of nodes with arms and branches, once a step was spent on the node
  pub record ChoicesRun (n : ℕ) (codes : Codes) (below : Meaning Tests) : Type 0 where
    pub case_at : (e : TestExpr) (arms : List (List Test × TestExpr)) (a k x : W) (S : List W) (env : CoreEnv) (d : Effects) (c q s : ℕ)
        (f : Gathered) (t : Seen)
        → NodeAt em.setting em.layout codes (shape_of env) (Case e arms) a k → s < n → Ready em lim 0 env x d c q (suc s) f t
        → Gets em lim (Valued em 16 0 k S d c q (suc s)) (eval_node (tests_language em.layout.units) em.self (length em.setting.roll) below
        (Case e arms) env f s)
        t (point a (x ∷ S) d c q)
    pub if_at : (branches : List (TestExpr × ℕ)) (other : ℕ) (a k x : W) (S : List W) (env : CoreEnv) (d : Effects) (c q s : ℕ) (f : Gathered)
        (t : Seen)
        → NodeAt em.setting em.layout codes (shape_of env) (If branches other) a k → s < n → Ready em lim 0 env x d c q (suc s) f t
        → Gets em lim (Valued em 16 0 k S d c q (suc s)) (eval_node (tests_language em.layout.units) em.self (length em.setting.roll) below
        (If branches other) env f s)
        t (point a (x ∷ S) d c q)
