-- What every tree keeps, whatever it was made from.
use Rattle.std.specs.Prelude.{ℕ, Bool, true, not, ◌&&◌, nat_le, List, length, codes, Some, None}
use Rattle.std.specs.List.{list_all}
use Rattle.std.specs.Str.{bytes_eq}
use Rattle.hum_syntax.specs.declared.tree.Stmt.{Stmt, fold-Stmt}
use Rattle.hum_syntax.specs.declared.tree.Expr.{Expr, fold-Expr}
use Rattle.hum_syntax.specs.declared.tree.Pat.{Pat, fold-Pat}
use Rattle.hum_syntax.specs.declared.tree.Arm.{Arm, fold-Arm}
use Rattle.hum_syntax.specs.declared.tree.Branch.{Branch, fold-Branch}
use Rattle.hum_syntax.specs.declared.tree.Expr.TheOpen.{Expr-F, Pat-F, Stmt-F, Arm-F, Branch-F}
use Rattle.hum_syntax.specs.declared.tree.Expr.TheOpen as layer
use Rattle.hum_syntax.specs.Forms.{is_name, is_run, is_text, is_in_range}

abbrev pub all : List Bool → Bool
all = list_all (λ formed. formed)

-- The name of the timer, which no text spells. A statement that sends to it after a delay is to have it.
abbrev pub is_timer : List ℕ → Bool
is_timer name = bytes_eq name (codes "AFTER")

-- ---- one node, with what was found of the nodes below in their places

-- a tuple has two items at least, a `Case` an arm and an `If` a branch
abbrev pub expr_formed : Expr-F Bool Bool Bool Bool Bool → Bool
expr_formed (layer.Expr::Num z) = is_in_range z
expr_formed (layer.Expr::Sym run) = is_run run
expr_formed (layer.Text cs) = is_text cs
expr_formed (layer.Var name) = is_name name && not (is_timer name)
expr_formed (layer.Abs pattern value) = pattern && value
expr_formed (layer.Block statements) = all statements
expr_formed (layer.Call callee argument) = callee && argument
expr_formed (layer.Expr::Tuple items) = nat_le 2 (length items) && all items
expr_formed (layer.New behaviour) = behaviour
expr_formed (layer.Case subject arms) = nat_le 1 (length arms) && subject && all arms
expr_formed (layer.If branches None) = nat_le 1 (length branches) && all branches
expr_formed (layer.If branches (Some statements)) = nat_le 1 (length branches) && all branches && all statements
expr_formed _ = true

abbrev pub pat_formed : Pat-F Bool Bool Bool Bool Bool → Bool
pat_formed (layer.Bind name) = is_name name
pat_formed (layer.Pat::Num z) = is_in_range z
pat_formed (layer.Pat::Sym run) = is_run run
pat_formed (layer.Value value) = value
pat_formed (layer.Pat::Tuple items) = nat_le 2 (length items) && all items
pat_formed _ = true

abbrev pub stmt_formed : Stmt-F Bool Bool Bool Bool Bool → Bool
stmt_formed (layer.Let pattern value) = pattern && value
stmt_formed (layer.Send message target) = message && target
stmt_formed (layer.Create name behaviour) = is_name name && behaviour
stmt_formed (layer.Become behaviour) = behaviour
stmt_formed (layer.Throw value) = value
stmt_formed (layer.Do value) = value

abbrev pub arm_formed : Arm-F Bool Bool Bool Bool Bool → Bool
arm_formed arm = arm.pattern && arm.value

abbrev pub branch_formed : Branch-F Bool Bool Bool Bool Bool → Bool
branch_formed branch = branch.condition && all branch.block

-- ---- whole trees

abbrev pub is_formed_expr : Expr → Bool
is_formed_expr = fold-Expr Bool Bool Bool Bool Bool expr_formed pat_formed stmt_formed arm_formed branch_formed

abbrev pub is_formed_pat : Pat → Bool
is_formed_pat = fold-Pat Bool Bool Bool Bool Bool expr_formed pat_formed stmt_formed arm_formed branch_formed

abbrev pub is_formed_stmt : Stmt → Bool
is_formed_stmt = fold-Stmt Bool Bool Bool Bool Bool expr_formed pat_formed stmt_formed arm_formed branch_formed

abbrev pub is_formed_arm : Arm → Bool
is_formed_arm = fold-Arm Bool Bool Bool Bool Bool expr_formed pat_formed stmt_formed arm_formed branch_formed

abbrev pub is_formed_branch : Branch → Bool
is_formed_branch = fold-Branch Bool Bool Bool Bool Bool expr_formed pat_formed stmt_formed arm_formed branch_formed

-- the statements of a tree
abbrev pub are_formed : List Stmt → Bool
are_formed = list_all is_formed_stmt
