-- When a meaning of one language follows that of another, as long as there are few enough steps.
use Rattle.std.proofs.Common.{ℕ, suc, ◌<◌, ◌≤◌, List, ◌++◌, map}
use Rattle.hum_meaning.specs.Value.{Parts, Value, Env, Entry}
use Rattle.hum_meaning.specs.Action.{Action, Effects}
use Rattle.hum_meaning.specs.Language.{Language, Meaning}
use Rattle.hum_meaning.specs.Meaning.{level}
use Rattle.hum_core.specs.Alike.{Scope, scope_of, Both, Each, Reading, ArmAs, ExprNodeAs, StatementsAs, Alike, AlikeEnv, EntriesAs, EffectsAs, OutcomeAs}

module _ {L K : Parts} (r : Reading L K) where
  -- two courses of action have outcomes that are alike, with fewer than b steps
  pub record ActsAs {A B : Type 0} (b : ℕ) (R : A → B → Type 0) (p : Action L A) (q : Action K B) : Type 0 where
    pub at : (e : Effects L) (d : Effects K) (s : ℕ) → s < b → EffectsAs r e d → OutcomeAs r s R (p e s) (q d s)

  -- entries whose values are alike
  abbrev pub Bound : List (Entry L) → List (Entry K) → Type 0
  Bound es ds = Each (λ a b. Alike r a.1 b.1) es ds

  abbrev pub marks_of : List (Entry L) → List L.Mark
  marks_of es = map (λ e. e.0) es

  pub record Follows (b : ℕ) (m : Meaning L) (m' : Meaning K) : Type 0 where
    pub eval : (e : L.Expr) (d : K.Expr) (env : Env L) (env' : Env K) → AlikeEnv r env env' → r.ExprAs (scope_of env) e d
        → ActsAs b (Alike r) (m.eval e env) (m'.eval d env')
    pub matches : (p : L.Pattern) (q : K.Pattern) (v : Value L) (w : Value K) (env : Env L) (env' : Env K) (es : List (Entry L))
        (ds : List (Entry K))
        → AlikeEnv r env env' → r.PatternAs (scope_of env) p q → Alike r v w → Bound es ds
        → ActsAs b (Both (EntriesAs r (r.marks p ++ marks_of es))) (m.matches p v env es) (m'.matches q w env' ds)
    pub exec : (c : L.Body) (d : K.Body) (env : Env L) (env' : Env K) → AlikeEnv r env env' → r.BodyAs (scope_of env) c d
        → ActsAs b (λ x y. Unit {0}) (m.exec c env) (m'.exec d env')

-- What a reading has to keep, one node at a time. Of matching and choices it is asked whatever the depths are, as long as they are enough for b steps.
pub record Sound {L K : Parts} (r : Reading L K) (l : Language L) (k : Language K) : Type 0 where
  pub expr : (scope : Scope L) (e : L.Expr) (d : K.Expr) → r.ExprAs scope e d → ExprNodeAs r scope (l.expr e) (k.expr d)
  pub body : (scope : Scope L) (b : L.Body) (c : K.Body) → r.BodyAs scope b c → StatementsAs r scope (l.body b) (k.body c)
  pub abstraction : (scope : Scope L) (f : L.Abstraction) (g : K.Abstraction) → r.AbstractionAs scope f g
      → Both (ArmAs r scope) (l.abstraction f) (k.abstraction g)
  pub look : (env : Env L) (env' : Env K) (x : L.Reference) (y : K.Reference) → AlikeEnv r env env' → r.ReferenceAs (scope_of env) x y
      → Both (Alike r) (l.look env x) (k.look env' y)
  pub choosing : (b : ℕ) (m : Meaning L) (m' : Meaning K) → Follows r b m m' → (env : Env L) (env' : Env K) → AlikeEnv r env env'
      → (x : L.Choice) (y : K.Choice) (v : Value L) (w : Value K) → Alike r v w → r.ChoiceAs (scope_of env) x y
      → ActsAs r b (Alike r) (l.choose_node m x v env) (k.choose_node m' y w env')
  pub matching : (self base b : ℕ) → ((n n' : ℕ) → b ≤ n → b ≤ n' → Follows r b (level l self base n) (level k self base n')) → (n n' : ℕ)
      → b ≤ n → b ≤ n'
      → (p : L.Pattern) (q : K.Pattern) (v : Value L) (w : Value K) (env : Env L) (env' : Env K) (es : List (Entry L)) (ds : List (Entry K))
      → AlikeEnv r env env' → r.PatternAs (scope_of env) p q → Alike r v w → Bound r es ds
      → ActsAs r (suc b) (Both (EntriesAs r (r.marks p ++ marks_of r es)))
      (l.match_node (level l self base n).eval (level l self base n).matches p v env es) (k.match_node (level k self base n').eval (level k self base n').matches q w env' ds)
