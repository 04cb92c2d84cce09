-- How large each node becomes with its patterns as tests.
use Rattle.std.proofs.Common.{◌≡◌, ap, subst, ◌∙◌, ℕ, ◌+◌, ◌≤◌, List, [], ◌∷◌, ◌++◌, map, length, arith}
use Rattle.std.specs.Prelude.{sum}
use Rattle.hum_core.specs.declared.slot.Slot.{Slot}
use Rattle.hum_core.specs.declared.slot.Const.{Const}
use Rattle.hum_core.specs.declared.slot.Const.TheVariants as const
use Rattle.hum_core.specs.declared.resolved.CoreStmt.{CoreStmt}
use Rattle.hum_core.specs.declared.resolved.CoreStmt.TheVariants as stmt
use Rattle.hum_core.specs.declared.resolved.CoreExpr.{CoreExpr}
use Rattle.hum_core.specs.declared.resolved.CoreExpr.TheVariants as expr
use Rattle.hum_core.specs.declared.resolved.CorePat.{CorePat}
use Rattle.hum_core.specs.declared.resolved.CorePat.TheVariants as pat
use Rattle.hum_core.specs.declared.resolved.CoreArm.{CoreArm, roll-CoreArm}
use Rattle.hum_core.specs.declared.resolved.CoreBranch.{CoreBranch, roll-CoreBranch}
use Rattle.hum_core.specs.declared.resolved.CoreExpr.TheOpen.{CoreExpr-F, CorePat-F}
use Rattle.hum_core.specs.declared.resolved.CoreExpr.TheOpen as core
use Rattle.hum_core.specs.declared.resolved.CoreExpr.TheFolds as core_folds
use Rattle.hum_core.specs.declared.resolved.CoreExpr.TheViews.{roll-CoreExpr, roll-CorePat}
use Rattle.hum_core.specs.declared.tested.TestExpr.{TestExpr}
use Rattle.hum_core.specs.declared.tested.TestExpr.TheVariants as texpr
use Rattle.hum_core.specs.declared.tested.Test.{Test}
use Rattle.hum_core.specs.declared.tested.Test.TheVariants as test
use Rattle.hum_core.specs.declared.tested.TestArm.{TestArm}
use Rattle.hum_core.specs.declared.tested.TestBranch.{TestBranch}
use Rattle.hum_core.specs.declared.tested.Test.TheOpen.{Test-F, TestExpr-F}
use Rattle.hum_core.specs.declared.tested.Test.TheOpen as layer
use Rattle.hum_core.specs.declared.tested.Test.TheFolds as folds
use Rattle.hum_core.specs.declared.tested.Test.TheViews.{roll-TestExpr, roll-Test}
use Rattle.hum_core.specs.Lists.{expr_tested, pat_tested, arm_tested, branch_tested, tuple_tested, tested_expr, tested_pat, tested_arm, tested_branch, tested_stmt}
use Rattle.hum_core.specs.Sizes.{const_size, test_size, expr_size, arm_size, branch_size, size_of_expr, size_of_test, size_of_tests, size_of_arm, size_of_branch, size_of_stmt}
use Rattle.hum_syntax.proofs.SizedTrees.{sum-cons}
use Rattle.hum_core.proofs.Sums.{sum-append}

-- ---- the sizes of what parts become

abbrev pub expr_becomes : CoreExpr → ℕ
expr_becomes x = size_of_expr (tested_expr x)

abbrev pub pat_becomes : CorePat → ℕ
pat_becomes x = size_of_tests (tested_pat x)

abbrev pub arm_becomes : CoreArm → ℕ
arm_becomes x = size_of_arm (tested_arm x)

abbrev pub branch_becomes : CoreBranch → ℕ
branch_becomes x = size_of_branch (tested_branch x)

abbrev pub stmt_becomes : CoreStmt → ℕ
stmt_becomes x = size_of_stmt (tested_stmt x)

-- ---- one node with tests

abbrev sizes : TestExpr-F Test TestExpr TestArm TestBranch → TestExpr-F ℕ ℕ ℕ ℕ
sizes = folds.map-TestExpr Test TestExpr TestArm TestBranch ℕ ℕ ℕ ℕ size_of_test size_of_expr size_of_arm size_of_branch

abbrev test_sizes : Test-F Test TestExpr TestArm TestBranch → Test-F ℕ ℕ ℕ ℕ
test_sizes = folds.map-Test Test TestExpr TestArm TestBranch ℕ ℕ ℕ ℕ size_of_test size_of_expr size_of_arm size_of_branch

sized : (y : TestExpr-F Test TestExpr TestArm TestBranch) (a : TestExpr) → roll-TestExpr y ≡ a → size_of_expr a ≡ expr_size (sizes y)
sized y a rolls =
    subst (λ z. size_of_expr z ≡ expr_size (sizes y)) rolls (folds.fold-roll-TestExpr ℕ ℕ ℕ ℕ test_size expr_size arm_size branch_size y)

test_sized : (y : Test-F Test TestExpr TestArm TestBranch) (t : Test) → roll-Test y ≡ t → size_of_test t ≡ test_size (test_sizes y)
test_sized y t rolls =
    subst (λ z. size_of_test z ≡ test_size (test_sizes y)) rolls (folds.fold-roll-Test ℕ ℕ ℕ ℕ test_size expr_size arm_size branch_size y)

-- ---- one node that becomes one with tests

abbrev become : CoreExpr-F CoreExpr CorePat CoreArm CoreBranch → CoreExpr-F TestExpr (List Test) TestArm TestBranch
become =
    core_folds.map-CoreExpr CoreExpr CorePat CoreArm CoreBranch TestExpr (List Test) TestArm TestBranch tested_expr tested_pat tested_arm tested_branch

abbrev pat_become : CorePat-F CoreExpr CorePat CoreArm CoreBranch → CorePat-F TestExpr (List Test) TestArm TestBranch
pat_become =
    core_folds.map-CorePat CoreExpr CorePat CoreArm CoreBranch TestExpr (List Test) TestArm TestBranch tested_expr tested_pat tested_arm tested_branch

-- a node, the node that it becomes, and that one's size
expr_of : (x : CoreExpr-F CoreExpr CorePat CoreArm CoreBranch) (a : CoreExpr) → roll-CoreExpr x ≡ a
    → (y : TestExpr-F Test TestExpr TestArm TestBranch) → roll-TestExpr y ≡ expr_tested (become x) → expr_becomes a ≡ expr_size (sizes y)
expr_of x a rolls y rolls_y =
    subst (λ z. expr_becomes z ≡ expr_size (sizes y)) rolls
    (ap size_of_expr (core_folds.fold-roll-CoreExpr TestExpr (List Test) TestArm TestBranch expr_tested pat_tested arm_tested branch_tested x)
    ∙ sized y (expr_tested (become x)) rolls_y)

pub of_const : (c : Const) → expr_becomes (expr.Is c) ≡ const_size c
of_const c = expr_of (core.CoreExpr::Is c) _ (expr.rolls-Is c) (layer.TestExpr::Is c) (texpr.rolls-Is c)

pub of_text : (points : List ℕ) → expr_becomes (expr.Text points) ≡ 1 + length points
of_text points = expr_of (core.Text points) _ (expr.rolls-Text points) (layer.Text points) (texpr.rolls-Text points)

pub of_var : (slot : Slot) → expr_becomes (expr.Var slot) ≡ 1
of_var slot = expr_of (core.Var slot) _ (expr.rolls-Var slot) (layer.Var slot) (texpr.rolls-Var slot)

pub of_myself : expr_becomes expr.Myself ≡ 1
of_myself = expr_of core.Myself _ expr.rolls-Myself layer.Myself texpr.rolls-Myself

pub of_abs : (k : ℕ) → expr_becomes (expr.Abs k) ≡ 1
of_abs k = expr_of (core.Abs k) _ (expr.rolls-Abs k) (layer.Abs k) (texpr.rolls-Abs k)

pub of_block : (k : ℕ) → expr_becomes (expr.Block k) ≡ 1
of_block k = expr_of (core.Block k) _ (expr.rolls-Block k) (layer.Block k) (texpr.rolls-Block k)

pub of_call : (x y : CoreExpr) → expr_becomes (expr.Call x y) ≡ 1 + expr_becomes x + expr_becomes y
of_call x y =
    expr_of (core.Call x y) _ (expr.rolls-Call x y) (layer.Call (tested_expr x) (tested_expr y)) (texpr.rolls-Call (tested_expr x) (tested_expr y))

pub of_tuple : (xs : List CoreExpr) → expr_becomes (expr.Tuple xs) ≡ 1 + sum (map size_of_expr (map tested_expr xs))
of_tuple xs =
    expr_of (core.CoreExpr::Tuple xs) _ (expr.rolls-Tuple xs) (layer.Tuple (map tested_expr xs)) (texpr.rolls-Tuple (map tested_expr xs))

pub of_new : (x : CoreExpr) → expr_becomes (expr.New x) ≡ 1 + expr_becomes x
of_new x = expr_of (core.New x) _ (expr.rolls-New x) (layer.New (tested_expr x)) (texpr.rolls-New (tested_expr x))

pub of_case : (x : CoreExpr) (arms : List CoreArm)
    → expr_becomes (expr.Case x arms) ≡ 1 + expr_becomes x + sum (map size_of_arm (map tested_arm arms))
of_case x arms =
    expr_of (core.Case x arms) _ (expr.rolls-Case x arms) (layer.Case (tested_expr x) (map tested_arm arms))
    (texpr.rolls-Case (tested_expr x) (map tested_arm arms))

pub of_if : (branches : List CoreBranch) (k : ℕ)
    → expr_becomes (expr.If branches k) ≡ 1 + sum (map size_of_branch (map tested_branch branches))
of_if branches k =
    expr_of (core.If branches k) _ (expr.rolls-If branches k) (layer.If (map tested_branch branches) k) (texpr.rolls-If (map tested_branch branches) k)

pub of_arm : (x : CorePat) (y : CoreExpr) → arm_becomes (roll-CoreArm (record { pattern = x; value = y })) ≡ 1 + pat_becomes x + expr_becomes y
of_arm x y =
    ap size_of_arm (core_folds.fold-roll-CoreArm TestExpr (List Test) TestArm TestBranch expr_tested pat_tested arm_tested branch_tested
    (record { pattern = x; value = y }))
    ∙ folds.fold-roll-TestArm ℕ ℕ ℕ ℕ test_size expr_size arm_size branch_size (record { pattern = tested_pat x; value = tested_expr y })

pub of_branch : (x : CoreExpr) (k : ℕ) → branch_becomes (roll-CoreBranch (record { condition = x; block = k })) ≡ 1 + expr_becomes x
of_branch x k =
    ap size_of_branch (core_folds.fold-roll-CoreBranch TestExpr (List Test) TestArm TestBranch expr_tested pat_tested arm_tested branch_tested
    (record { condition = x; block = k }))
    ∙ folds.fold-roll-TestBranch ℕ ℕ ℕ ℕ test_size expr_size arm_size branch_size (record { condition = tested_expr x; block = k })

-- ---- patterns

pat_of : (x : CorePat-F CoreExpr CorePat CoreArm CoreBranch) (p : CorePat) → roll-CorePat x ≡ p → tested_pat p ≡ pat_tested (pat_become x)
pat_of x p rolls =
    subst (λ z. tested_pat z ≡ pat_tested (pat_become x)) rolls
    (core_folds.fold-roll-CorePat TestExpr (List Test) TestArm TestBranch expr_tested pat_tested arm_tested branch_tested x)

-- a list of one test
only : (t : Test) (n : ℕ) → size_of_test t ≡ n → size_of_tests (t ∷ []) ≡ n
only t n is = omega (arith, is, sum-cons size_of_test t [])

pub of_any : pat_becomes pat.Any ≡ 1
of_any = ap size_of_tests (pat_of core.Any _ pat.rolls-Any) ∙ only test.Skip 1 (test_sized layer.Skip _ test.rolls-Skip)

pub of_bind : pat_becomes pat.Bind ≡ 1
of_bind = ap size_of_tests (pat_of core.Bind _ pat.rolls-Bind) ∙ only test.Bind 1 (test_sized layer.Bind _ test.rolls-Bind)

pub of_pat_const : (c : Const) → pat_becomes (pat.Is c) ≡ const_size c
of_pat_const c =
    ap size_of_tests (pat_of (core.CorePat::Is c) _ (pat.rolls-Is c))
    ∙ only (test.Is c) (const_size c) (test_sized (layer.Test::Is c) _ (test.rolls-Is c))

pub of_value : (x : CoreExpr) → pat_becomes (pat.Value x) ≡ 1 + expr_becomes x
of_value x =
    ap size_of_tests (pat_of (core.Value x) _ (pat.rolls-Value x))
    ∙ only (test.Same (tested_expr x)) (1 + expr_becomes x) (test_sized (layer.Same (tested_expr x)) _ (test.rolls-Same (tested_expr x)))

-- a tuple has one test less than items, beside those of its items
tuple_tests : (ps : List CorePat) → size_of_tests (tuple_tested (map tested_pat ps)) ≤ sum (map (λ p. 1 + pat_becomes p) ps)
tuple_tests [] = omega arith
tuple_tests (p ∷ []) = omega (arith, sum-cons (λ p. 1 + pat_becomes p) p [])
tuple_tests (p ∷ q ∷ more) =
    let others = tuple_tested (map tested_pat (q ∷ more)) in
    omega (
      arith,
      sum-cons (λ p. 1 + pat_becomes p) p (q ∷ more),
      test_sized layer.Pair _ test.rolls-Pair,
      sum-cons size_of_test test.Pair (tested_pat p ++ others),
      sum-append size_of_test (tested_pat p) others,
      tuple_tests (q ∷ more),
    )

pub of_pat_tuple : (ps : List CorePat) → pat_becomes (pat.Tuple ps) ≤ sum (map (λ p. 1 + pat_becomes p) ps)
of_pat_tuple ps =
    let is = ap size_of_tests (pat_of (core.CorePat::Tuple ps) _ (pat.rolls-Tuple ps)) in
    omega (arith, is, tuple_tests ps)

-- ---- none is without size

pub some_const : (c : Const) → 1 ≤ const_size c
some_const const.Undef = omega arith
some_const const.Nil = omega arith
some_const const.True = omega arith
some_const const.False = omega arith
some_const (const.Num n) = omega arith
some_const (const.Sym name) = omega arith

pub some_stmt : (s : CoreStmt) → 1 ≤ stmt_becomes s
some_stmt (stmt.Let p e) = omega arith
some_stmt (stmt.Group ks) = omega arith
some_stmt stmt.Defined = omega arith
some_stmt (stmt.Send e a) = omega arith
some_stmt (stmt.Create e) = omega arith
some_stmt (stmt.Become e) = omega arith
some_stmt (stmt.Throw e) = omega arith
some_stmt (stmt.Do e) = omega arith
