-- How a pattern stands for a list of tests.
use Rattle.std.specs.Prelude.{◌≡◌, ℕ, zero, suc, List, [], ◌∷◌}
use Rattle.hum_core.specs.declared.resolved.CoreUnit.{CoreUnit}
use Rattle.hum_core.specs.declared.resolved.CoreExpr.{CoreExpr}
use Rattle.hum_core.specs.declared.resolved.CorePat.{CorePat, out-CorePat, fold-CorePat}
use Rattle.hum_core.specs.declared.resolved.CoreExpr.TheOpen.{CorePat-F}
use Rattle.hum_core.specs.declared.resolved.CoreExpr.TheOpen as core
use Rattle.hum_core.specs.declared.tested.TestUnit.{TestUnit}
use Rattle.hum_core.specs.declared.tested.TestExpr.{TestExpr}
use Rattle.hum_core.specs.declared.tested.Test.{Test, out-Test}
use Rattle.hum_core.specs.declared.tested.TestArm.{TestArm}
use Rattle.hum_core.specs.declared.tested.TestBranch.{TestBranch}
use Rattle.hum_core.specs.declared.tested.Test.TheOpen.{Test-F}
use Rattle.hum_core.specs.declared.tested.Test.TheOpen as test
use Rattle.hum_core.specs.Alike.{Scope, Reading}
use Rattle.hum_core.specs.Reading.{Linking, ArmsAs, whole_reading}
use Rattle.hum_core.specs.CoreTrees.{Core, core_language}
use Rattle.hum_core.specs.TestLists.{Tests, tests_language}
use Rattle.hum_core.specs.Agreement.{joined, NumberedPat}

-- ---- tests and the values that they take

abbrev pub TestNode : Type 0
TestNode = Test-F Test TestExpr TestArm TestBranch

-- how many values are left behind a test, where k are left beside its own
abbrev pub left_behind : TestNode → ℕ → ℕ
left_behind test.Pair k = suc (suc k)
left_behind _ k = k

-- the tests that take the first k values, and those behind them
abbrev pub split : List Test → (k : ℕ) → List Test × List Test
split ts zero = ([], ts)
split [] (suc k) = ([], [])
split (t ∷ ts) (suc k) = let parts = split ts (left_behind (out-Test t) k) in (t ∷ parts.0, parts.1)

abbrev pub first_value : List Test → List Test
first_value ts = (split ts 1).0

abbrev pub other_values : List Test → List Test
other_values ts = (split ts 1).1

-- ---- patterns

-- one mark for each name that a pattern binds
abbrev pub Marks : Type 0
Marks = List (Unit {0})

abbrev pub marks_node : CorePat-F (Unit {0}) Marks (Unit {0}) (Unit {0}) → Marks
marks_node core.Bind = tt ∷ []
marks_node (core.CorePat::Tuple marks) = joined marks
marks_node _ = []

abbrev pub marks_of : CorePat → Marks
marks_of = fold-CorePat (Unit {0}) Marks (Unit {0}) (Unit {0}) (λ _. tt) marks_node (λ _. tt) (λ _. tt)

abbrev pub SameAs : Reading Core Tests → Scope Core → CoreExpr → TestNode → Type 0
SameAs r scope e (test.Same d) = r.ExprAs scope e d
SameAs r scope e _ = ⊥

-- a tuple that has two items at least: `Pair`, then the tests of the first, which take the first value, and then those of the second, or of
-- the tuple of those that remain
abbrev pub ItemsAs : Reading Core Tests → Scope Core → CorePat → CorePat → List CorePat → List Test → Type 0
ItemsAs r scope p q more [] = ⊥
ItemsAs r scope p q [] (t ∷ ts) = (out-Test t ≡ test.Pair) × r.PatternAs scope p (first_value ts) × r.PatternAs scope q (other_values ts)
ItemsAs r scope p q (o ∷ more) (t ∷ ts) = (out-Test t ≡ test.Pair) × r.PatternAs scope p (first_value ts) × ItemsAs r scope q o more (other_values ts)

-- each other pattern is one test
abbrev pub TestsAs : Reading Core Tests → Scope Core → NumberedPat → List Test → Type 0
TestsAs r scope core.Any (t ∷ []) = out-Test t ≡ test.Skip
TestsAs r scope core.Bind (t ∷ []) = out-Test t ≡ test.Bind
TestsAs r scope (core.CorePat::Is c) (t ∷ []) = out-Test t ≡ test.Test::Is c
TestsAs r scope (core.Value e) (t ∷ []) = SameAs r scope e (out-Test t)
TestsAs r scope (core.CorePat::Tuple (p ∷ q ∷ more)) ts = ItemsAs r scope p q more ts
TestsAs r scope _ _ = ⊥

abbrev pub lowering : Linking Core Tests
lowering = record {
  ReferenceAs = λ scope x y. x ≡ y;
  marks = marks_of;
  PatternNodeAs = λ r scope p ts. TestsAs r scope (out-CorePat p) ts;
  ChoiceAs = ArmsAs Core Tests marks_of;
}

-- which trees of the first units the second ones stand for
abbrev pub Lowered : List CoreUnit → List TestUnit → Reading Core Tests
Lowered units tested = whole_reading (core_language units) (tests_language tested) lowering
