-- The language as it is written: its trees, and names.
use Rattle.std.specs.Prelude.{ℕ, true, false, List, [], map, Option, Some, None}
use Rattle.hum_syntax.specs.declared.tree.Expr.{Expr, out-Expr}
use Rattle.hum_syntax.specs.declared.tree.Pat.{Pat, out-Pat}
use Rattle.hum_syntax.specs.declared.tree.Stmt.{Stmt, out-Stmt}
use Rattle.hum_syntax.specs.declared.tree.Arm.{Arm, out-Arm}
use Rattle.hum_syntax.specs.declared.tree.Branch.{Branch, out-Branch}
use Rattle.hum_syntax.specs.declared.tree.Expr.TheOpen.{Expr-F, Pat-F, Stmt-F}
use Rattle.hum_syntax.specs.declared.tree.Expr.TheOpen as layer
use Rattle.hum_meaning.specs.Value.{Parts, Undefined, Nil, Truth, Number, Symbol, Plain, text_value}
use Rattle.hum_meaning.specs.Language.{ExprNode, Is, Var, Myself, Abs, BlockOf, Call, Tuple, New, Case, If}

abbrev pub Name : Type 0
Name = List ℕ

-- The types of trees, and how each is opened by one node. Those of hum_syntax are `written`; the worked examples have plain ones.
pub record Trees : Type 1 where
  pub Expr : Type 0
  pub Pat : Type 0
  pub Stmt : Type 0
  pub Arm : Type 0
  pub Branch : Type 0
  pub expr : Expr → Expr-F Expr Pat Stmt Arm Branch
  pub pat : Pat → Pat-F Expr Pat Stmt Arm Branch
  pub stmt : Stmt → Stmt-F Expr Pat Stmt Arm Branch
  pub arm : Arm → Pat × Expr
  pub branch : Branch → Expr × List Stmt

-- the trees that tokens spell
abbrev pub written : Trees
written = record {
  Expr = Expr;
  Pat = Pat;
  Stmt = Stmt;
  Arm = Arm;
  Branch = Branch;
  expr = out-Expr;
  pat = out-Pat;
  stmt = out-Stmt;
  arm = λ a. ((out-Arm a).pattern, (out-Arm a).value);
  branch = λ b. ((out-Branch b).condition, (out-Branch b).block);
}

module _ (t : Trees) where
  -- the pattern and the body of an abstraction
  abbrev pub Lambda : Type 0
  Lambda = t.Pat × t.Expr

  -- bindings and their uses are names, a choice is by arms, and a block's body is its statements
  abbrev pub Named : Parts
  Named = record {
    Expr = t.Expr;
    Pattern = t.Pat;
    Choice = List (t.Pat × t.Expr);
    Body = List t.Stmt;
    Abstraction = Lambda;
    Mark = Name;
    Reference = Name;
  }

  abbrev pub ExprTree : Type 0
  ExprTree = Expr-F t.Expr t.Pat t.Stmt t.Arm t.Branch

  abbrev pub PatTree : Type 0
  PatTree = Pat-F t.Expr t.Pat t.Stmt t.Arm t.Branch

  abbrev pub StmtTree : Type 0
  StmtTree = Stmt-F t.Expr t.Pat t.Stmt t.Arm t.Branch

  -- ---- expressions

  -- a missing `ELSE` is the empty block
  abbrev pub block_or_empty : Option (List t.Stmt) → List t.Stmt
  block_or_empty (Some ss) = ss
  block_or_empty None = []

  abbrev pub expr_node : ExprTree → ExprNode Named
  expr_node layer.Expr::Undef = Is (Plain Undefined)
  expr_node layer.Expr::Nil = Is (Plain Nil)
  expr_node layer.Expr::True = Is (Plain (Truth true))
  expr_node layer.Expr::False = Is (Plain (Truth false))
  expr_node (layer.Expr::Num n) = Is (Plain (Number n))
  expr_node (layer.Expr::Sym name) = Is (Plain (Symbol name))
  expr_node (layer.Text points) = Is (text_value points)
  expr_node (layer.Var name) = Var name
  expr_node layer.Myself = Myself
  expr_node (layer.Abs p e) = Abs (p, e)
  expr_node (layer.Block ss) = BlockOf ss
  expr_node (layer.Call f a) = Call f a
  expr_node (layer.Expr::Tuple es) = Tuple es
  expr_node (layer.New e) = New e
  expr_node (layer.Case e all) = Case e (map t.arm all)
  expr_node (layer.If bs other) = If (map t.branch bs) (block_or_empty other)
