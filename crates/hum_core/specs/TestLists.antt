-- The meaning of numbered trees whose patterns are lists of tests.
use Rattle.std.specs.Prelude.{ℕ, List, [], ◌∷◌, map, Option, Some, None, slice_get}
use Rattle.hum_core.specs.declared.tested.TestUnit.{TestUnit}
use Rattle.hum_core.specs.declared.tested.TestUnit.TheVariants as unit
use Rattle.hum_core.specs.declared.tested.TestStmt.{TestStmt}
use Rattle.hum_core.specs.declared.tested.TestStmt.TheVariants as stmt
use Rattle.hum_core.specs.declared.tested.TestExpr.{TestExpr, out-TestExpr}
use Rattle.hum_core.specs.declared.tested.TestExpr.TheVariants as expr
use Rattle.hum_core.specs.declared.tested.Test.{Test, out-Test}
use Rattle.hum_core.specs.declared.tested.Test.TheVariants as test
use Rattle.hum_core.specs.declared.tested.Test.TheOpen.{Test-F, TestExpr-F}
use Rattle.hum_core.specs.declared.tested.Test.TheOpen as layer
use Rattle.hum_core.specs.declared.tested.TestArm.{TestArm, out-TestArm}
use Rattle.hum_core.specs.declared.tested.TestBranch.{TestBranch, out-TestBranch}
use Rattle.hum_meaning.specs.Value.{Parts, Value, Plain, Env, Entry, text_value}
use Rattle.hum_meaning.specs.Action.{Action, ◌>>=◌, ◌>>◌, pure, step}
use Rattle.hum_meaning.specs.Language.{ExprNode, Is, Var, Myself, Abs, BlockOf, Call, Tuple, New, Case, If, StmtNode, Let, Functions, Defined, Send, Create, Become, Throw, Do, Evaluator, Matched, Language}
use Rattle.hum_meaning.specs.Eval.{if_matched, if_pair, equals, arms}
use Rattle.hum_core.specs.Numbered.{Code, Opening, Of, Numbered, atom_of, members, at_slot}

abbrev pub Tests : Parts
Tests = Numbered TestExpr (List Test)

-- ---- one node

abbrev pub test_arm : TestArm → List Test × TestExpr
test_arm arm = ((out-TestArm arm).pattern, (out-TestArm arm).value)

abbrev pub test_branch : TestBranch → TestExpr × ℕ
test_branch branch = ((out-TestBranch branch).condition, (out-TestBranch branch).block)

abbrev pub test_expr : TestExpr-F Test TestExpr TestArm TestBranch → ExprNode Tests
test_expr (layer.TestExpr::Is c) = Is (Plain (atom_of c))
test_expr (layer.Text points) = Is (text_value points)
test_expr (layer.Var slot) = Var slot
test_expr layer.Myself = Myself
test_expr (layer.Abs k) = Abs (Of k)
test_expr (layer.Block k) = BlockOf k
test_expr (layer.Call f a) = Call f a
test_expr (layer.Tuple es) = Tuple es
test_expr (layer.New e) = New e
test_expr (layer.Case e arms) = Case e (map test_arm arms)
test_expr (layer.If branches k) = If (map test_branch branches) k

abbrev pub test_stmt : TestStmt → StmtNode Tests
test_stmt (stmt.Let p e) = Let p e
test_stmt (stmt.Group ks) = Functions (members ks)
test_stmt stmt.Defined = Defined
test_stmt (stmt.Send e a) = Send e a
test_stmt (stmt.Create e) = Create tt e
test_stmt (stmt.Become e) = Become e
test_stmt (stmt.Throw e) = Throw e
test_stmt (stmt.Do e) = Do e

-- ---- tests

-- what follows a test, over the values that are left and the entries so far
abbrev pub Rest : Type 0
Rest = List (Value Tests) → List (Entry Tests) → Action Tests (Matched Tests)

module _ (eval : Evaluator Tests) where
  abbrev pub test_value : TestExpr → Value Tests → Env Tests → List (Entry Tests) → Action Tests (Matched Tests)
  test_value e v env es = do
    w ← eval e env
    equals v w es

  -- one test of a value, over the values that are left behind it
  abbrev pub one_test : Test-F Test TestExpr TestArm TestBranch → Value Tests → List (Value Tests) → Env Tests → List (Entry Tests) → Rest
      → Action Tests (Matched Tests)
  one_test layer.Pair v vs env es rest = if_pair v (λ head tail. rest (head ∷ tail ∷ vs) es)
  one_test (layer.Test::Is c) v vs env es rest = equals v (Plain (atom_of c)) es >>= (λ m. if_matched m (rest vs) (pure None))
  one_test (layer.Same e) v vs env es rest = test_value e v env es >>= (λ m. if_matched m (rest vs) (pure None))
  one_test layer.Bind v vs env es rest = rest vs ((tt, v) ∷ es)
  one_test layer.Skip v vs env es rest = rest vs es

  -- in order, each of the first value that is left, and each one step
  abbrev pub tests_from : List Test → List (Value Tests) → Env Tests → List (Entry Tests) → Action Tests (Matched Tests)
  tests_from [] vs env es = pure (Some es)
  tests_from (t ∷ ts) [] env es = pure None
  tests_from (t ∷ ts) (v ∷ vs) env es = step >> one_test (out-Test t) v vs env es (λ vs es. tests_from ts vs env es)

-- ---- units

abbrev pub test_body : Option TestUnit → List (StmtNode Tests)
test_body (Some (unit.Block ss)) = map test_stmt ss
test_body _ = []

abbrev pub test_function : Option TestUnit → Option (List Test × TestExpr)
test_function (Some (unit.Abs ts e)) = Some (ts, e)
test_function _ = None

abbrev pub test_abstraction : List TestUnit → Code → Option (List Test × TestExpr)
test_abstraction units Opening = Some (test.Skip ∷ [], expr.Block 0)
test_abstraction units (Of k) = test_function (slice_get units k)

-- the language of these units
abbrev pub tests_language : List TestUnit → Language Tests
tests_language units = record {
  expr = λ e. test_expr (out-TestExpr e);
  body = λ k. test_body (slice_get units k);
  abstraction = test_abstraction units;
  look = at_slot;
  match_node = λ eval matches ts v env es. tests_from eval ts (v ∷ []) env es;
  choose_node = arms;
}
