-- Which lists of tests patterns become, part by part.
use Rattle.std.specs.Prelude.{List, [], ◌∷◌, ◌++◌, map}
use Rattle.hum_core.specs.declared.resolved.CoreUnit.{CoreUnit}
use Rattle.hum_core.specs.declared.resolved.CoreUnit.TheVariants as core_unit
use Rattle.hum_core.specs.declared.resolved.CoreStmt.{CoreStmt}
use Rattle.hum_core.specs.declared.resolved.CoreStmt.TheVariants as core_stmt
use Rattle.hum_core.specs.declared.resolved.CoreExpr.{CoreExpr, fold-CoreExpr}
use Rattle.hum_core.specs.declared.resolved.CorePat.{CorePat, fold-CorePat}
use Rattle.hum_core.specs.declared.resolved.CoreArm.{CoreArm, fold-CoreArm}
use Rattle.hum_core.specs.declared.resolved.CoreBranch.{CoreBranch, fold-CoreBranch}
use Rattle.hum_core.specs.declared.resolved.CoreExpr.TheOpen.{CoreExpr-F, CorePat-F, CoreArm-F, CoreBranch-F}
use Rattle.hum_core.specs.declared.resolved.CoreExpr.TheOpen as core
use Rattle.hum_core.specs.declared.tested.TestUnit.{TestUnit}
use Rattle.hum_core.specs.declared.tested.TestUnit.TheVariants as unit
use Rattle.hum_core.specs.declared.tested.TestStmt.{TestStmt}
use Rattle.hum_core.specs.declared.tested.TestStmt.TheVariants as stmt
use Rattle.hum_core.specs.declared.tested.TestExpr.{TestExpr}
use Rattle.hum_core.specs.declared.tested.TestExpr.TheVariants as expr
use Rattle.hum_core.specs.declared.tested.Test.{Test}
use Rattle.hum_core.specs.declared.tested.Test.TheVariants as test
use Rattle.hum_core.specs.declared.tested.TestArm.{TestArm, roll-TestArm}
use Rattle.hum_core.specs.declared.tested.TestBranch.{TestBranch, roll-TestBranch}

-- ---- one node, with what the nodes below become in their places

abbrev pub expr_tested : CoreExpr-F TestExpr (List Test) TestArm TestBranch → TestExpr
expr_tested (core.CoreExpr::Is c) = expr.Is c
expr_tested (core.Text points) = expr.Text points
expr_tested (core.Var slot) = expr.Var slot
expr_tested core.Myself = expr.Myself
expr_tested (core.Abs k) = expr.Abs k
expr_tested (core.Block k) = expr.Block k
expr_tested (core.Call f a) = expr.Call f a
expr_tested (core.CoreExpr::Tuple es) = expr.Tuple es
expr_tested (core.New e) = expr.New e
expr_tested (core.Case e arms) = expr.Case e arms
expr_tested (core.If branches k) = expr.If branches k

-- `Pair`, then the tests of the first item, and then those of the second, or of the tuple of those that remain
abbrev pub tuple_tested : List (List Test) → List Test
tuple_tested [] = []
tuple_tested (ts ∷ []) = ts
tuple_tested (ts ∷ us ∷ more) = test.Pair ∷ ts ++ tuple_tested (us ∷ more)

abbrev pub pat_tested : CorePat-F TestExpr (List Test) TestArm TestBranch → List Test
pat_tested core.Any = test.Skip ∷ []
pat_tested core.Bind = test.Bind ∷ []
pat_tested (core.CorePat::Is c) = test.Is c ∷ []
pat_tested (core.Value e) = test.Same e ∷ []
pat_tested (core.CorePat::Tuple ps) = tuple_tested ps

abbrev pub arm_tested : CoreArm-F TestExpr (List Test) TestArm TestBranch → TestArm
arm_tested arm = roll-TestArm (record { pattern = arm.pattern; value = arm.value })

abbrev pub branch_tested : CoreBranch-F TestExpr (List Test) TestArm TestBranch → TestBranch
branch_tested branch = roll-TestBranch (record { condition = branch.condition; block = branch.block })

-- ---- whole trees

abbrev pub tested_expr : CoreExpr → TestExpr
tested_expr = fold-CoreExpr TestExpr (List Test) TestArm TestBranch expr_tested pat_tested arm_tested branch_tested

abbrev pub tested_pat : CorePat → List Test
tested_pat = fold-CorePat TestExpr (List Test) TestArm TestBranch expr_tested pat_tested arm_tested branch_tested

abbrev pub tested_arm : CoreArm → TestArm
tested_arm = fold-CoreArm TestExpr (List Test) TestArm TestBranch expr_tested pat_tested arm_tested branch_tested

abbrev pub tested_branch : CoreBranch → TestBranch
tested_branch = fold-CoreBranch TestExpr (List Test) TestArm TestBranch expr_tested pat_tested arm_tested branch_tested

abbrev pub tested_stmt : CoreStmt → TestStmt
tested_stmt (core_stmt.Let p e) = stmt.Let (tested_pat p) (tested_expr e)
tested_stmt (core_stmt.Group ks) = stmt.Group ks
tested_stmt core_stmt.Defined = stmt.Defined
tested_stmt (core_stmt.Send e a) = stmt.Send (tested_expr e) (tested_expr a)
tested_stmt (core_stmt.Create e) = stmt.Create (tested_expr e)
tested_stmt (core_stmt.Become e) = stmt.Become (tested_expr e)
tested_stmt (core_stmt.Throw e) = stmt.Throw (tested_expr e)
tested_stmt (core_stmt.Do e) = stmt.Do (tested_expr e)

abbrev pub tested_unit : CoreUnit → TestUnit
tested_unit (core_unit.Abs p e) = unit.Abs (tested_pat p) (tested_expr e)
tested_unit (core_unit.Block ss) = unit.Block (map tested_stmt ss)

-- the same units with each pattern as its tests
abbrev pub tested : List CoreUnit → List TestUnit
tested = map tested_unit
