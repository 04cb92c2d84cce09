-- How deep a tree is. An abstraction, a block, an argument, a `NEW`, a `CASE`, an `IF` and a `$` are one deeper than what stands
-- in them; each other node is as deep as the deepest below it.
use Rattle.std.specs.Prelude.{ℕ, suc, List, map, max, Some, None}
use Rattle.hum_syntax.specs.declared.tree.Stmt.{Stmt, fold-Stmt}
use Rattle.hum_syntax.specs.declared.tree.Expr.{Expr, fold-Expr}
use Rattle.hum_syntax.specs.declared.tree.Pat.{Pat, fold-Pat}
use Rattle.hum_syntax.specs.declared.tree.Arm.{Arm, fold-Arm}
use Rattle.hum_syntax.specs.declared.tree.Branch.{Branch, fold-Branch}
use Rattle.hum_syntax.specs.declared.tree.Expr.TheOpen.{Expr-F, Pat-F, Stmt-F, Arm-F, Branch-F}
use Rattle.hum_syntax.specs.declared.tree.Expr.TheOpen as layer
use Rattle.hum_syntax.specs.Prints.{most}

-- ---- one node, with the depths of the nodes below in their places

abbrev pub expr_depth : Expr-F ℕ ℕ ℕ ℕ ℕ → ℕ
expr_depth (layer.Abs pattern value) = suc (max pattern value)
expr_depth (layer.Block statements) = suc (most statements)
expr_depth (layer.Call callee argument) = max callee (suc argument)
expr_depth (layer.Expr::Tuple items) = most items
expr_depth (layer.New behaviour) = suc behaviour
expr_depth (layer.Case subject arms) = suc (max subject (most arms))
expr_depth (layer.If branches None) = suc (most branches)
expr_depth (layer.If branches (Some statements)) = suc (max (most branches) (most statements))
expr_depth _ = 0

abbrev pub pat_depth : Pat-F ℕ ℕ ℕ ℕ ℕ → ℕ
pat_depth (layer.Value value) = suc value
pat_depth (layer.Pat::Tuple items) = most items
pat_depth _ = 0

abbrev pub stmt_depth : Stmt-F ℕ ℕ ℕ ℕ ℕ → ℕ
stmt_depth (layer.Let pattern value) = max pattern value
stmt_depth (layer.Send message target) = max message target
stmt_depth (layer.Create name behaviour) = behaviour
stmt_depth (layer.Become behaviour) = behaviour
stmt_depth (layer.Throw value) = value
stmt_depth (layer.Do value) = value

abbrev pub arm_depth : Arm-F ℕ ℕ ℕ ℕ ℕ → ℕ
arm_depth arm = max arm.pattern arm.value

abbrev pub branch_depth : Branch-F ℕ ℕ ℕ ℕ ℕ → ℕ
branch_depth branch = max branch.condition (most branch.block)

-- ---- whole trees

abbrev pub depth_of_expr : Expr → ℕ
depth_of_expr = fold-Expr ℕ ℕ ℕ ℕ ℕ expr_depth pat_depth stmt_depth arm_depth branch_depth

abbrev pub depth_of_pat : Pat → ℕ
depth_of_pat = fold-Pat ℕ ℕ ℕ ℕ ℕ expr_depth pat_depth stmt_depth arm_depth branch_depth

abbrev pub depth_of_stmt : Stmt → ℕ
depth_of_stmt = fold-Stmt ℕ ℕ ℕ ℕ ℕ expr_depth pat_depth stmt_depth arm_depth branch_depth

abbrev pub depth_of_arm : Arm → ℕ
depth_of_arm = fold-Arm ℕ ℕ ℕ ℕ ℕ expr_depth pat_depth stmt_depth arm_depth branch_depth

abbrev pub depth_of_branch : Branch → ℕ
depth_of_branch = fold-Branch ℕ ℕ ℕ ℕ ℕ expr_depth pat_depth stmt_depth arm_depth branch_depth

-- the statements of a tree
abbrev pub depth_of : List Stmt → ℕ
depth_of xs = most (map depth_of_stmt xs)
