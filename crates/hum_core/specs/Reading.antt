-- The reading of one language in another that goes by their nodes: a tree stands for a tree where it does to every depth.
use Rattle.std.specs.Prelude.{ℕ, zero, suc, List}
use Rattle.hum_meaning.specs.Value.{Parts, Value, Env}
use Rattle.hum_meaning.specs.Action.{Effects}
use Rattle.hum_meaning.specs.Language.{Language}
use Rattle.hum_meaning.specs.Meaning.{evaluate, match, execute}
use Rattle.hum_core.specs.Alike.{Scope, scope_of, with_marks, Both, Each, Reading, ArmAs, ExprNodeAs, StatementsAs, Alike, AlikeEnv, EntriesAs, EffectsAs, OutcomeAs}

-- how patterns, references and choices stand for one another, one node at a time, and the marks that a pattern binds; a choice is a part of
-- its node, so it goes by the expressions and patterns that are below
pub record Linking (L K : Parts) : Type 1 where
  pub ReferenceAs : Scope L → L.Reference → K.Reference → Type 0
  pub marks : L.Pattern → List L.Mark
  pub PatternNodeAs : Reading L K → Scope L → L.Pattern → K.Pattern → Type 0
  pub ChoiceAs : (Scope L → L.Expr → K.Expr → Type 0) → (Scope L → L.Pattern → K.Pattern → Type 0) → Scope L → L.Choice → K.Choice → Type 0

-- a choice by arms, one after the other
abbrev pub ArmsAs : (L K : Parts) → (L.Pattern → List L.Mark) → (Scope L → L.Expr → K.Expr → Type 0) → (Scope L → L.Pattern → K.Pattern → Type 0)
    → Scope L → List (L.Pattern × L.Expr) → List (K.Pattern × K.Expr) → Type 0
ArmsAs L K marks ExprAs PatternAs scope = Each (λ a b. PatternAs scope a.0 b.0 × ExprAs (with_marks (marks a.0) scope) a.1 b.1)

-- the relations of a reading that go by depth
pub record Relations (L K : Parts) : Type 1 where
  pub Exprs : Scope L → L.Expr → K.Expr → Type 0
  pub Patterns : Scope L → L.Pattern → K.Pattern → Type 0
  pub Bodies : Scope L → L.Body → K.Body → Type 0
  pub Abstractions : Scope L → L.Abstraction → K.Abstraction → Type 0

module _ {L K : Parts} (l : Language L) (k : Language K) (link : Linking L K) where
  abbrev pub reading_by : Relations L K → Reading L K
  reading_by x = record {
    ExprAs = x.Exprs;
    PatternAs = x.Patterns;
    ChoiceAs = link.ChoiceAs x.Exprs x.Patterns;
    BodyAs = x.Bodies;
    AbstractionAs = x.Abstractions;
    ReferenceAs = link.ReferenceAs;
    marks = link.marks;
  }

  -- one node, over a reading of what is below it
  abbrev pub one_more : Reading L K → Relations L K
  one_more r = record {
    Exprs = λ scope e d. ExprNodeAs r scope (l.expr e) (k.expr d);
    Patterns = link.PatternNodeAs r;
    Bodies = λ scope b c. StatementsAs r scope (l.body b) (k.body c);
    Abstractions = λ scope f g. Both (ArmAs r scope) (l.abstraction f) (k.abstraction g);
  }

  -- to depth n
  abbrev pub relations_to : ℕ → Relations L K
  relations_to zero = record {
    Exprs = λ scope e d. Unit {0};
    Patterns = λ scope p q. Unit {0};
    Bodies = λ scope b c. Unit {0};
    Abstractions = λ scope f g. Unit {0};
  }
  relations_to (suc n) = one_more (reading_by (relations_to n))

  abbrev pub reading_to : ℕ → Reading L K
  reading_to n = reading_by (relations_to n)

  -- to every depth
  abbrev pub whole_reading : Reading L K
  whole_reading = reading_by (record {
    Exprs = λ scope e d. (n : ℕ) → (relations_to n).Exprs scope e d;
    Patterns = λ scope p q. (n : ℕ) → (relations_to n).Patterns scope p q;
    Bodies = λ scope b c. (n : ℕ) → (relations_to n).Bodies scope b c;
    Abstractions = λ scope f g. (n : ℕ) → (relations_to n).Abstractions scope f g;
  })

-- ---- what a reading promises

-- What stands for one another means the same, for environments that are alike and every number of steps: the outcomes are alike, in both
-- directions.
pub record MeanAlike {L K : Parts} (r : Reading L K) (l : Language L) (k : Language K) : Type 0 where
  pub evaluation : (self base s : ℕ) (e : L.Expr) (d : K.Expr) (env : Env L) (env' : Env K) (f : Effects L) (g : Effects K)
      → r.ExprAs (scope_of env) e d → AlikeEnv r env env' → EffectsAs r f g
      → OutcomeAs r s (Alike r) (evaluate l self base e env f s) (evaluate k self base d env' g s)
  pub matching : (self base s : ℕ) (p : L.Pattern) (q : K.Pattern) (v : Value L) (w : Value K) (env : Env L) (env' : Env K) (f : Effects L) (g : Effects K)
      → r.PatternAs (scope_of env) p q → Alike r v w → AlikeEnv r env env' → EffectsAs r f g
      → OutcomeAs r s (Both (EntriesAs r (r.marks p))) (match l self base p v env f s) (match k self base q w env' g s)
  pub execution : (self base s : ℕ) (b : L.Body) (c : K.Body) (env : Env L) (env' : Env K) (f : Effects L) (g : Effects K)
      → r.BodyAs (scope_of env) b c → AlikeEnv r env env' → EffectsAs r f g
      → OutcomeAs r s (λ x y. Unit {0}) (execute l self base b env f s) (execute k self base c env' g s)
