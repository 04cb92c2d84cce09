-- The names of a tree, in the order in which they are spelled.
use Rattle.std.specs.Prelude.{List, [], ◌∷◌, ◌++◌, Some, None}
use Rattle.std.specs.List.{flat_map}
use Rattle.hum_syntax.specs.declared.tree.Stmt.{Stmt, fold-Stmt}
use Rattle.hum_syntax.specs.declared.tree.Expr.{Expr, fold-Expr}
use Rattle.hum_syntax.specs.declared.tree.Pat.{Pat, fold-Pat}
use Rattle.hum_syntax.specs.declared.tree.Arm.{Arm, fold-Arm}
use Rattle.hum_syntax.specs.declared.tree.Branch.{Branch, fold-Branch}
use Rattle.hum_syntax.specs.declared.tree.Expr.TheOpen.{Expr-F, Pat-F, Stmt-F, Arm-F, Branch-F}
use Rattle.hum_syntax.specs.declared.tree.Expr.TheOpen as layer
use Rattle.hum_syntax.specs.declared.token.TokenKind.{TokenKind}
use Rattle.hum_syntax.specs.declared.token.TokenKind.TheVariants as k
use Rattle.hum_syntax.specs.Forms.{Bytes}

abbrev pub Names : Type 0
Names = List Bytes

abbrev pub joined : List Names → Names
joined = flat_map (λ names. names)

-- ---- one node, with the names of the nodes below in their places

abbrev pub expr_names : Expr-F Names Names Names Names Names → Names
expr_names (layer.Var name) = name ∷ []
expr_names (layer.Abs pattern value) = pattern ++ value
expr_names (layer.Block statements) = joined statements
expr_names (layer.Call callee argument) = callee ++ argument
expr_names (layer.Expr::Tuple items) = joined items
expr_names (layer.New behaviour) = behaviour
expr_names (layer.Case subject arms) = subject ++ joined arms
expr_names (layer.If branches None) = joined branches
expr_names (layer.If branches (Some statements)) = joined branches ++ joined statements
expr_names _ = []

abbrev pub pat_names : Pat-F Names Names Names Names Names → Names
pat_names (layer.Bind name) = name ∷ []
pat_names (layer.Value value) = value
pat_names (layer.Pat::Tuple items) = joined items
pat_names _ = []

abbrev pub stmt_names : Stmt-F Names Names Names Names Names → Names
stmt_names (layer.Let pattern value) = pattern ++ value
stmt_names (layer.Send message target) = message ++ target
stmt_names (layer.Create name behaviour) = name ∷ behaviour
stmt_names (layer.Become behaviour) = behaviour
stmt_names (layer.Throw value) = value
stmt_names (layer.Do value) = value

abbrev pub arm_names : Arm-F Names Names Names Names Names → Names
arm_names arm = arm.pattern ++ arm.value

abbrev pub branch_names : Branch-F Names Names Names Names Names → Names
branch_names branch = branch.condition ++ joined branch.block

-- ---- whole trees

abbrev pub names_of_expr : Expr → Names
names_of_expr = fold-Expr Names Names Names Names Names expr_names pat_names stmt_names arm_names branch_names

abbrev pub names_of_pat : Pat → Names
names_of_pat = fold-Pat Names Names Names Names Names expr_names pat_names stmt_names arm_names branch_names

abbrev pub names_of_stmt : Stmt → Names
names_of_stmt = fold-Stmt Names Names Names Names Names expr_names pat_names stmt_names arm_names branch_names

abbrev pub names_of_arm : Arm → Names
names_of_arm = fold-Arm Names Names Names Names Names expr_names pat_names stmt_names arm_names branch_names

abbrev pub names_of_branch : Branch → Names
names_of_branch = fold-Branch Names Names Names Names Names expr_names pat_names stmt_names arm_names branch_names

-- the statements of a tree
abbrev pub names_of : List Stmt → Names
names_of = flat_map names_of_stmt

-- ---- tokens

abbrev pub name_of_kind : TokenKind → Names
name_of_kind (k.Name name) = name ∷ []
name_of_kind _ = []

-- the names among tokens, in order
abbrev pub names_of_kinds : List TokenKind → Names
names_of_kinds = flat_map name_of_kind
