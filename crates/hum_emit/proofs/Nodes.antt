-- What numbered trees become with tests, and what is inside of that, one node at a time.
use Rattle.std.proofs.Common.{◌≡◌, ap, sym, ◌∙◌, ℕ, suc, List, [], ◌∷◌, ◌++◌, map}
use Rattle.hum_core.specs.declared.slot.Slot.{Slot}
use Rattle.hum_core.specs.declared.slot.Const.{Const}
use Rattle.hum_core.specs.declared.resolved.CoreExpr.{CoreExpr}
use Rattle.hum_core.specs.declared.resolved.CoreExpr.TheVariants as expr
use Rattle.hum_core.specs.declared.resolved.CorePat.{CorePat}
use Rattle.hum_core.specs.declared.resolved.CorePat.TheVariants as pat
use Rattle.hum_core.specs.declared.resolved.CoreArm.{CoreArm, roll-CoreArm}
use Rattle.hum_core.specs.declared.resolved.CoreBranch.{CoreBranch, roll-CoreBranch}
use Rattle.hum_core.specs.declared.resolved.CoreExpr.TheOpen.{CoreExpr-F, CorePat-F}
use Rattle.hum_core.specs.declared.resolved.CoreExpr.TheOpen as core
use Rattle.hum_core.specs.declared.resolved.CoreExpr.TheFolds as folds
use Rattle.hum_core.specs.declared.resolved.CoreExpr.TheViews.{roll-CoreExpr, roll-CorePat}
use Rattle.hum_core.specs.declared.tested.TestExpr.{TestExpr}
use Rattle.hum_core.specs.declared.tested.TestExpr.TheVariants as t
use Rattle.hum_core.specs.declared.tested.Test.{Test}
use Rattle.hum_core.specs.declared.tested.Test.TheVariants as test
use Rattle.hum_core.specs.declared.tested.TestArm.{TestArm, roll-TestArm}
use Rattle.hum_core.specs.declared.tested.TestBranch.{TestBranch, roll-TestBranch}
use Rattle.hum_core.specs.declared.tested.Test.TheOpen.{Test-F, TestExpr-F}
use Rattle.hum_core.specs.declared.tested.Test.TheOpen as layer
use Rattle.hum_core.specs.declared.tested.Test.TheFolds as test_folds
use Rattle.hum_core.specs.declared.tested.Test.TheViews.{roll-TestExpr, roll-Test}
use Rattle.hum_core.specs.Lists.{expr_tested, pat_tested, arm_tested, branch_tested, tuple_tested, tested_expr, tested_pat, tested_arm, tested_branch}
use Rattle.hum_code.specs.Layout.{Shape, with_singles}
use Rattle.hum_emit.specs.Shapes.{Inside, OfTest, in_all, after_all, of_expr, of_test, of_arm, of_branch, in_expr, in_arm, in_branch, of_one_test, in_tests}

-- ---- what nodes become

tested_node : (x : CoreExpr-F CoreExpr CorePat CoreArm CoreBranch)
    → tested_expr (roll-CoreExpr x) ≡ expr_tested (folds.map-CoreExpr CoreExpr CorePat CoreArm CoreBranch TestExpr (List Test) TestArm TestBranch tested_expr tested_pat tested_arm tested_branch x)
tested_node x = folds.fold-roll-CoreExpr TestExpr (List Test) TestArm TestBranch expr_tested pat_tested arm_tested branch_tested x

tested_pat_node : (x : CorePat-F CoreExpr CorePat CoreArm CoreBranch)
    → tested_pat (roll-CorePat x) ≡ pat_tested (folds.map-CorePat CoreExpr CorePat CoreArm CoreBranch TestExpr (List Test) TestArm TestBranch tested_expr tested_pat tested_arm tested_branch x)
tested_pat_node x = folds.fold-roll-CorePat TestExpr (List Test) TestArm TestBranch expr_tested pat_tested arm_tested branch_tested x

pub tested_is : (c : Const) → tested_expr (expr.Is c) ≡ t.Is c
tested_is c = ap tested_expr (sym (expr.rolls-Is c)) ∙ tested_node (core.CoreExpr::Is c)

pub tested_text : (points : List ℕ) → tested_expr (expr.Text points) ≡ t.Text points
tested_text points = ap tested_expr (sym (expr.rolls-Text points)) ∙ tested_node (core.Text points)

pub tested_var : (slot : Slot) → tested_expr (expr.Var slot) ≡ t.Var slot
tested_var slot = ap tested_expr (sym (expr.rolls-Var slot)) ∙ tested_node (core.Var slot)

pub tested_myself : tested_expr expr.Myself ≡ t.Myself
tested_myself = ap tested_expr (sym expr.rolls-Myself) ∙ tested_node core.Myself

pub tested_abs : (k : ℕ) → tested_expr (expr.Abs k) ≡ t.Abs k
tested_abs k = ap tested_expr (sym (expr.rolls-Abs k)) ∙ tested_node (core.Abs k)

pub tested_block : (k : ℕ) → tested_expr (expr.Block k) ≡ t.Block k
tested_block k = ap tested_expr (sym (expr.rolls-Block k)) ∙ tested_node (core.Block k)

pub tested_call : (f x : CoreExpr) → tested_expr (expr.Call f x) ≡ t.Call (tested_expr f) (tested_expr x)
tested_call f x = ap tested_expr (sym (expr.rolls-Call f x)) ∙ tested_node (core.Call f x)

pub tested_tuple : (es : List CoreExpr) → tested_expr (expr.Tuple es) ≡ t.Tuple (map tested_expr es)
tested_tuple es = ap tested_expr (sym (expr.rolls-Tuple es)) ∙ tested_node (core.CoreExpr::Tuple es)

pub tested_new : (e : CoreExpr) → tested_expr (expr.New e) ≡ t.New (tested_expr e)
tested_new e = ap tested_expr (sym (expr.rolls-New e)) ∙ tested_node (core.New e)

pub tested_case : (e : CoreExpr) (arms : List CoreArm) → tested_expr (expr.Case e arms) ≡ t.Case (tested_expr e) (map tested_arm arms)
tested_case e arms = ap tested_expr (sym (expr.rolls-Case e arms)) ∙ tested_node (core.Case e arms)

pub tested_if : (bs : List CoreBranch) (k : ℕ) → tested_expr (expr.If bs k) ≡ t.If (map tested_branch bs) k
tested_if bs k = ap tested_expr (sym (expr.rolls-If bs k)) ∙ tested_node (core.If bs k)

pub tested_any : tested_pat pat.Any ≡ test.Skip ∷ []
tested_any = ap tested_pat (sym pat.rolls-Any) ∙ tested_pat_node core.Any

pub tested_bind : tested_pat pat.Bind ≡ test.Bind ∷ []
tested_bind = ap tested_pat (sym pat.rolls-Bind) ∙ tested_pat_node core.Bind

pub tested_constant : (c : Const) → tested_pat (pat.Is c) ≡ test.Is c ∷ []
tested_constant c = ap tested_pat (sym (pat.rolls-Is c)) ∙ tested_pat_node (core.CorePat::Is c)

pub tested_value : (e : CoreExpr) → tested_pat (pat.Value e) ≡ test.Same (tested_expr e) ∷ []
tested_value e = ap tested_pat (sym (pat.rolls-Value e)) ∙ tested_pat_node (core.Value e)

pub tested_items : (ps : List CorePat) → tested_pat (pat.Tuple ps) ≡ tuple_tested (map tested_pat ps)
tested_items ps = ap tested_pat (sym (pat.rolls-Tuple ps)) ∙ tested_pat_node (core.CorePat::Tuple ps)

pub tested_one_arm : (p : CorePat) (e : CoreExpr)
    → tested_arm (roll-CoreArm (record { pattern = p; value = e })) ≡ roll-TestArm (record { pattern = tested_pat p; value = tested_expr e })
tested_one_arm p e =
    folds.fold-roll-CoreArm TestExpr (List Test) TestArm TestBranch expr_tested pat_tested arm_tested branch_tested
    (record { pattern = p; value = e })

pub tested_one_branch : (e : CoreExpr) (k : ℕ)
    → tested_branch (roll-CoreBranch (record { condition = e; block = k })) ≡ roll-TestBranch (record { condition = tested_expr e; block = k })
tested_one_branch e k =
    folds.fold-roll-CoreBranch TestExpr (List Test) TestArm TestBranch expr_tested pat_tested arm_tested branch_tested
    (record { condition = e; block = k })

-- ---- what is inside of nodes

inside_node : (x : TestExpr-F Test TestExpr TestArm TestBranch)
    → in_expr (roll-TestExpr x) ≡ of_expr (test_folds.map-TestExpr Test TestExpr TestArm TestBranch OfTest Inside Inside Inside of_one_test in_expr in_arm in_branch x)
inside_node x = test_folds.fold-roll-TestExpr OfTest Inside Inside Inside of_test of_expr of_arm of_branch x

test_node : (x : Test-F Test TestExpr TestArm TestBranch)
    → of_one_test (roll-Test x) ≡ of_test (test_folds.map-Test Test TestExpr TestArm TestBranch OfTest Inside Inside Inside of_one_test in_expr in_arm in_branch x)
test_node x = test_folds.fold-roll-Test OfTest Inside Inside Inside of_test of_expr of_arm of_branch x

abbrev in_at : Shape → Inside → List Shape
in_at shape inside = inside shape

inside_is : (e : TestExpr) (x : TestExpr-F Test TestExpr TestArm TestBranch) (shape : Shape) → roll-TestExpr x ≡ e
    → in_expr e shape ≡ of_expr (test_folds.map-TestExpr Test TestExpr TestArm TestBranch OfTest Inside Inside Inside of_one_test in_expr in_arm in_branch x) shape
inside_is e x shape rolls = ap (λ d. in_expr d shape) (sym rolls) ∙ ap (in_at shape) (inside_node x)

pub inside_constant : (c : Const) (shape : Shape) → in_expr (t.Is c) shape ≡ []
inside_constant c shape = inside_is _ (layer.TestExpr::Is c) shape (t.rolls-Is c)

pub inside_text : (points : List ℕ) (shape : Shape) → in_expr (t.Text points) shape ≡ []
inside_text points shape = inside_is _ (layer.Text points) shape (t.rolls-Text points)

pub inside_var : (slot : Slot) (shape : Shape) → in_expr (t.Var slot) shape ≡ []
inside_var slot shape = inside_is _ (layer.Var slot) shape (t.rolls-Var slot)

pub inside_myself : (shape : Shape) → in_expr t.Myself shape ≡ []
inside_myself shape = inside_is _ layer.Myself shape t.rolls-Myself

pub inside_abs : (k : ℕ) (shape : Shape) → in_expr (t.Abs k) shape ≡ shape ∷ []
inside_abs k shape = inside_is _ (layer.Abs k) shape (t.rolls-Abs k)

pub inside_block : (k : ℕ) (shape : Shape) → in_expr (t.Block k) shape ≡ shape ∷ []
inside_block k shape = inside_is _ (layer.Block k) shape (t.rolls-Block k)

pub inside_call : (f x : TestExpr) (shape : Shape) → in_expr (t.Call f x) shape ≡ in_expr f shape ++ in_expr x shape
inside_call f x shape = inside_is _ (layer.Call f x) shape (t.rolls-Call f x)

pub inside_tuple : (es : List TestExpr) (shape : Shape) → in_expr (t.Tuple es) shape ≡ in_all (map in_expr es) shape
inside_tuple es shape = inside_is _ (layer.Tuple es) shape (t.rolls-Tuple es)

pub inside_new : (e : TestExpr) (shape : Shape) → in_expr (t.New e) shape ≡ in_expr e shape
inside_new e shape = inside_is _ (layer.New e) shape (t.rolls-New e)

pub inside_case : (e : TestExpr) (arms : List TestArm) (shape : Shape)
    → in_expr (t.Case e arms) shape ≡ in_expr e shape ++ in_all (map in_arm arms) shape
inside_case e arms shape = inside_is _ (layer.Case e arms) shape (t.rolls-Case e arms)

pub inside_if : (bs : List TestBranch) (k : ℕ) (shape : Shape) → in_expr (t.If bs k) shape ≡ in_all (map in_branch bs) shape ++ shape ∷ []
inside_if bs k shape = inside_is _ (layer.If bs k) shape (t.rolls-If bs k)

pub inside_arm : (ts : List Test) (e : TestExpr) (shape : Shape)
    → in_arm (roll-TestArm (record { pattern = ts; value = e })) shape ≡ in_tests ts shape ++ in_expr e (with_singles (after_all (map of_one_test ts) 0) shape)
inside_arm ts e shape =
    ap (in_at shape) (test_folds.fold-roll-TestArm OfTest Inside Inside Inside of_test of_expr of_arm of_branch (record { pattern = ts; value = e }))

pub inside_branch : (e : TestExpr) (k : ℕ) (shape : Shape) → in_branch (roll-TestBranch (record { condition = e; block = k })) shape ≡ in_expr e shape ++ shape ∷ []
inside_branch e k shape =
    ap (in_at shape) (test_folds.fold-roll-TestBranch OfTest Inside Inside Inside of_test of_expr of_arm of_branch (record { condition = e; block = k }))

-- ---- tests

pub of_pair : of_one_test test.Pair ≡ record { after = λ n. n; inside = λ shape. [] }
of_pair = ap of_one_test (sym test.rolls-Pair) ∙ test_node layer.Pair

pub of_constant : (c : Const) → of_one_test (test.Is c) ≡ record { after = λ n. n; inside = λ shape. [] }
of_constant c = ap of_one_test (sym (test.rolls-Is c)) ∙ test_node (layer.Test::Is c)

pub of_same : (e : TestExpr) → of_one_test (test.Same e) ≡ record { after = λ n. n; inside = in_expr e }
of_same e = ap of_one_test (sym (test.rolls-Same e)) ∙ test_node (layer.Same e)

pub of_bind : of_one_test test.Bind ≡ record { after = suc; inside = λ shape. [] }
of_bind = ap of_one_test (sym test.rolls-Bind) ∙ test_node layer.Bind

pub of_skip : of_one_test test.Skip ≡ record { after = λ n. n; inside = λ shape. [] }
of_skip = ap of_one_test (sym test.rolls-Skip) ∙ test_node layer.Skip
