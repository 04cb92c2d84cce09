-- How large a numbered program is whose patterns are tests: one for each unit, statement, expression, test, arm and branch, one for each
-- byte of a symbol and one for each code point of a text.
use Rattle.std.specs.Prelude.{ℕ, ◌+◌, ◌*◌, ◌≤◌, List, length, sum, map}
use Rattle.hum_syntax.specs.declared.tree.Stmt.{Stmt}
use Rattle.hum_syntax.specs.Sizes.{size_of}
use Rattle.hum_core.specs.declared.slot.Const.{Const}
use Rattle.hum_core.specs.declared.slot.Const.TheVariants as const
use Rattle.hum_core.specs.declared.tested.TestUnit.{TestUnit}
use Rattle.hum_core.specs.declared.tested.TestUnit.TheVariants as unit
use Rattle.hum_core.specs.declared.tested.TestStmt.{TestStmt}
use Rattle.hum_core.specs.declared.tested.TestStmt.TheVariants as stmt
use Rattle.hum_core.specs.declared.tested.TestExpr.{TestExpr, fold-TestExpr}
use Rattle.hum_core.specs.declared.tested.Test.{Test, fold-Test}
use Rattle.hum_core.specs.declared.tested.TestArm.{TestArm, fold-TestArm}
use Rattle.hum_core.specs.declared.tested.TestBranch.{TestBranch, fold-TestBranch}
use Rattle.hum_core.specs.declared.tested.Test.TheOpen.{Test-F, TestExpr-F, TestArm-F, TestBranch-F}
use Rattle.hum_core.specs.declared.tested.Test.TheOpen as layer
use Rattle.hum_core.specs.Units.{resolved}
use Rattle.hum_core.specs.Lists.{tested}

-- ---- one node, with the sizes of the nodes below in their places

abbrev pub const_size : Const → ℕ
const_size (const.Sym name) = 1 + length name
const_size _ = 1

abbrev pub expr_size : TestExpr-F ℕ ℕ ℕ ℕ → ℕ
expr_size (layer.TestExpr::Is c) = const_size c
expr_size (layer.Text points) = 1 + length points
expr_size (layer.Call callee argument) = 1 + callee + argument
expr_size (layer.Tuple items) = 1 + sum items
expr_size (layer.New behaviour) = 1 + behaviour
expr_size (layer.Case subject arms) = 1 + subject + sum arms
expr_size (layer.If branches other) = 1 + sum branches
expr_size _ = 1

abbrev pub test_size : Test-F ℕ ℕ ℕ ℕ → ℕ
test_size (layer.Test::Is c) = const_size c
test_size (layer.Same value) = 1 + value
test_size _ = 1

abbrev pub arm_size : TestArm-F ℕ ℕ ℕ ℕ → ℕ
arm_size arm = 1 + sum arm.pattern + arm.value

abbrev pub branch_size : TestBranch-F ℕ ℕ ℕ ℕ → ℕ
branch_size branch = 1 + branch.condition

-- ---- whole trees

abbrev pub size_of_expr : TestExpr → ℕ
size_of_expr = fold-TestExpr ℕ ℕ ℕ ℕ test_size expr_size arm_size branch_size

abbrev pub size_of_test : Test → ℕ
size_of_test = fold-Test ℕ ℕ ℕ ℕ test_size expr_size arm_size branch_size

abbrev pub size_of_arm : TestArm → ℕ
size_of_arm = fold-TestArm ℕ ℕ ℕ ℕ test_size expr_size arm_size branch_size

abbrev pub size_of_branch : TestBranch → ℕ
size_of_branch = fold-TestBranch ℕ ℕ ℕ ℕ test_size expr_size arm_size branch_size

abbrev pub size_of_tests : List Test → ℕ
size_of_tests ts = sum (map size_of_test ts)

abbrev pub size_of_stmt : TestStmt → ℕ
size_of_stmt (stmt.Let pattern value) = 1 + size_of_tests pattern + size_of_expr value
size_of_stmt (stmt.Group numbers) = 1
size_of_stmt stmt.Defined = 1
size_of_stmt (stmt.Send message target) = 1 + size_of_expr message + size_of_expr target
size_of_stmt (stmt.Create behaviour) = 1 + size_of_expr behaviour
size_of_stmt (stmt.Become behaviour) = 1 + size_of_expr behaviour
size_of_stmt (stmt.Throw value) = 1 + size_of_expr value
size_of_stmt (stmt.Do value) = 1 + size_of_expr value

abbrev pub size_of_unit : TestUnit → ℕ
size_of_unit (unit.Abs pattern value) = 1 + size_of_tests pattern + size_of_expr value
size_of_unit (unit.Block statements) = 1 + sum (map size_of_stmt statements)

-- the units of a program
abbrev pub size_of_units : List TestUnit → ℕ
size_of_units units = sum (map size_of_unit units)

-- ---- what is so of it

-- the numbered program of a file is at most three times as large as the file, and one more
abbrev pub ProgramsAreSmall : Type 0
ProgramsAreSmall = (file : List Stmt) → size_of_units (tested (resolved file)) ≤ 3 * size_of file + 1
