-- How large a tree is: one for each node but a statement that is an expression, one for each byte of a symbol and one for
-- each code point of a text.
use Rattle.std.specs.Prelude.{ℕ, ◌+◌, List, length, Some, None, sum, map}
use Rattle.hum_syntax.specs.declared.tree.Stmt.{Stmt, fold-Stmt}
use Rattle.hum_syntax.specs.declared.tree.Expr.{Expr, fold-Expr}
use Rattle.hum_syntax.specs.declared.tree.Pat.{Pat, fold-Pat}
use Rattle.hum_syntax.specs.declared.tree.Arm.{Arm, fold-Arm}
use Rattle.hum_syntax.specs.declared.tree.Branch.{Branch, fold-Branch}
use Rattle.hum_syntax.specs.declared.tree.Expr.TheOpen.{Expr-F, Pat-F, Stmt-F, Arm-F, Branch-F}
use Rattle.hum_syntax.specs.declared.tree.Expr.TheOpen as layer

-- ---- one node, with the sizes of the nodes below in their places

abbrev pub expr_size : Expr-F ℕ ℕ ℕ ℕ ℕ → ℕ
expr_size (layer.Expr::Sym run) = 1 + length run
expr_size (layer.Text cs) = 1 + length cs
expr_size (layer.Abs pattern value) = 1 + pattern + value
expr_size (layer.Block statements) = 1 + sum statements
expr_size (layer.Call callee argument) = 1 + callee + argument
expr_size (layer.Expr::Tuple items) = 1 + sum items
expr_size (layer.New behaviour) = 1 + behaviour
expr_size (layer.Case subject arms) = 1 + subject + sum arms
expr_size (layer.If branches None) = 1 + sum branches
expr_size (layer.If branches (Some statements)) = 1 + sum branches + sum statements
expr_size _ = 1

abbrev pub pat_size : Pat-F ℕ ℕ ℕ ℕ ℕ → ℕ
pat_size (layer.Pat::Sym run) = 1 + length run
pat_size (layer.Value value) = 1 + value
pat_size (layer.Pat::Tuple items) = 1 + sum items
pat_size _ = 1

abbrev pub stmt_size : Stmt-F ℕ ℕ ℕ ℕ ℕ → ℕ
stmt_size (layer.Let pattern value) = 1 + pattern + value
stmt_size (layer.Send message target) = 1 + message + target
stmt_size (layer.Create name behaviour) = 1 + behaviour
stmt_size (layer.Become behaviour) = 1 + behaviour
stmt_size (layer.Throw value) = 1 + value
stmt_size (layer.Do value) = value

abbrev pub arm_size : Arm-F ℕ ℕ ℕ ℕ ℕ → ℕ
arm_size arm = 1 + arm.pattern + arm.value

abbrev pub branch_size : Branch-F ℕ ℕ ℕ ℕ ℕ → ℕ
branch_size branch = 1 + branch.condition + sum branch.block

-- ---- whole trees

abbrev pub size_of_expr : Expr → ℕ
size_of_expr = fold-Expr ℕ ℕ ℕ ℕ ℕ expr_size pat_size stmt_size arm_size branch_size

abbrev pub size_of_pat : Pat → ℕ
size_of_pat = fold-Pat ℕ ℕ ℕ ℕ ℕ expr_size pat_size stmt_size arm_size branch_size

abbrev pub size_of_stmt : Stmt → ℕ
size_of_stmt = fold-Stmt ℕ ℕ ℕ ℕ ℕ expr_size pat_size stmt_size arm_size branch_size

abbrev pub size_of_arm : Arm → ℕ
size_of_arm = fold-Arm ℕ ℕ ℕ ℕ ℕ expr_size pat_size stmt_size arm_size branch_size

abbrev pub size_of_branch : Branch → ℕ
size_of_branch = fold-Branch ℕ ℕ ℕ ℕ ℕ expr_size pat_size stmt_size arm_size branch_size

-- the statements of a tree
abbrev pub size_of : List Stmt → ℕ
size_of xs = sum (map size_of_stmt xs)
