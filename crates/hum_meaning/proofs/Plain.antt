-- Trees of plain data, on which the worked programs run by computation, and a way to write them.
use Rattle.std.proofs.Common.{ℕ, ℤ, pos, Bool, true, false, List, [], ◌∷◌, Some, None}
use Rattle.std.specs.Prelude.{codes}
use Prim.Native.String.{String}
use Rattle.hum_syntax.specs.declared.tree.Expr.TheOpen.{Expr-F, Pat-F, Stmt-F}
use Rattle.hum_syntax.specs.declared.tree.Expr.TheOpen as layer
use Rattle.hum_meaning.specs.Named.{Trees}

mutual
  pub data Expr : Type 0 where
    undefined nil myself : Expr
    truth : Bool → Expr
    int : ℤ → Expr
    symbol text var : String → Expr
    abs : Pat → Expr → Expr
    block_of : Stmts → Expr
    call : Expr → Expr → Expr
    tuple_of : Exprs → Expr
    new : Expr → Expr
    case_of : Expr → Arms → Expr
    if_of : Branches → Expr
    if_else_of : Branches → Stmts → Expr

  pub data Pat : Type 0 where
    any nil_pat : Pat
    bind : String → Pat
    int_pat : ℤ → Pat
    symbol_pat : String → Pat
    value : Expr → Pat
    tuple_pat_of : Pats → Pat

  pub data Stmt : Type 0 where
    let_ : Pat → Expr → Stmt
    send : Expr → Expr → Stmt
    create : String → Expr → Stmt
    become throw perform : Expr → Stmt

  pub data Arm : Type 0 where
    arm : Pat → Expr → Arm

  pub data Branch : Type 0 where
    branch_of : Expr → Stmts → Branch

  pub data Exprs : Type 0 where
    no_expr : Exprs
    and_expr : Expr → Exprs → Exprs

  pub data Pats : Type 0 where
    no_pat : Pats
    and_pat : Pat → Pats → Pats

  pub data Stmts : Type 0 where
    no_stmt : Stmts
    and_stmt : Stmt → Stmts → Stmts

  pub data Arms : Type 0 where
    no_arm : Arms
    and_arm : Arm → Arms → Arms

  pub data Branches : Type 0 where
    no_branch : Branches
    and_branch : Branch → Branches → Branches

-- ---- lists

abbrev pub list_exprs : Exprs → List Expr
list_exprs no_expr = []
list_exprs (and_expr x xs) = x ∷ list_exprs xs

abbrev pub list_pats : Pats → List Pat
list_pats no_pat = []
list_pats (and_pat x xs) = x ∷ list_pats xs

abbrev pub list_stmts : Stmts → List Stmt
list_stmts no_stmt = []
list_stmts (and_stmt x xs) = x ∷ list_stmts xs

abbrev pub list_arms : Arms → List Arm
list_arms no_arm = []
list_arms (and_arm x xs) = x ∷ list_arms xs

abbrev pub list_branches : Branches → List Branch
list_branches no_branch = []
list_branches (and_branch x xs) = x ∷ list_branches xs

abbrev pub exprs : List Expr → Exprs
exprs [] = no_expr
exprs (x ∷ xs) = and_expr x (exprs xs)

abbrev pub pats : List Pat → Pats
pats [] = no_pat
pats (x ∷ xs) = and_pat x (pats xs)

abbrev pub stmts : List Stmt → Stmts
stmts [] = no_stmt
stmts (x ∷ xs) = and_stmt x (stmts xs)

abbrev pub arms : List Arm → Arms
arms [] = no_arm
arms (x ∷ xs) = and_arm x (arms xs)

abbrev pub branches : List Branch → Branches
branches [] = no_branch
branches (x ∷ xs) = and_branch x (branches xs)

-- ---- nodes

abbrev pub open_expr : Expr → Expr-F Expr Pat Stmt Arm Branch
open_expr undefined = layer.Expr::Undef
open_expr nil = layer.Expr::Nil
open_expr myself = layer.Myself
open_expr (truth true) = layer.Expr::True
open_expr (truth false) = layer.Expr::False
open_expr (int n) = layer.Expr::Num n
open_expr (symbol name) = layer.Expr::Sym (codes name)
open_expr (text points) = layer.Text (codes points)
open_expr (var name) = layer.Var (codes name)
open_expr (abs p e) = layer.Abs p e
open_expr (block_of ss) = layer.Block (list_stmts ss)
open_expr (call f a) = layer.Call f a
open_expr (tuple_of es) = layer.Expr::Tuple (list_exprs es)
open_expr (new e) = layer.New e
open_expr (case_of e xs) = layer.Case e (list_arms xs)
open_expr (if_of bs) = layer.If (list_branches bs) None
open_expr (if_else_of bs ss) = layer.If (list_branches bs) (Some (list_stmts ss))

abbrev pub open_pat : Pat → Pat-F Expr Pat Stmt Arm Branch
open_pat any = layer.Any
open_pat nil_pat = layer.Pat::Nil
open_pat (bind name) = layer.Bind (codes name)
open_pat (int_pat n) = layer.Pat::Num n
open_pat (symbol_pat name) = layer.Pat::Sym (codes name)
open_pat (value e) = layer.Value e
open_pat (tuple_pat_of ps) = layer.Pat::Tuple (list_pats ps)

abbrev pub open_stmt : Stmt → Stmt-F Expr Pat Stmt Arm Branch
open_stmt (let_ p e) = layer.Let p e
open_stmt (send e a) = layer.Send e a
open_stmt (create name e) = layer.Create (codes name) e
open_stmt (become e) = layer.Become e
open_stmt (throw e) = layer.Throw e
open_stmt (perform e) = layer.Do e

abbrev pub open_arm : Arm → Pat × Expr
open_arm (arm p e) = (p, e)

abbrev pub open_branch : Branch → Expr × List Stmt
open_branch (branch_of e ss) = (e, list_stmts ss)

abbrev pub plain : Trees
plain = record {
  Expr = Expr;
  Pat = Pat;
  Stmt = Stmt;
  Arm = Arm;
  Branch = Branch;
  expr = open_expr;
  pat = open_pat;
  stmt = open_stmt;
  arm = open_arm;
  branch = open_branch;
}

-- ---- a way to write programs

abbrev pub num : ℕ → Expr
num n = int (pos n)

abbrev pub block : List Stmt → Expr
block ss = block_of (stmts ss)

abbrev pub pair : Expr → Expr → Expr
pair a b = tuple_of (exprs (a ∷ b ∷ []))

abbrev pub triple : Expr → Expr → Expr → Expr
triple a b c = tuple_of (exprs (a ∷ b ∷ c ∷ []))

abbrev pub pair_pat : Pat → Pat → Pat
pair_pat p q = tuple_pat_of (pats (p ∷ q ∷ []))

abbrev pub triple_pat : Pat → Pat → Pat → Pat
triple_pat p q r = tuple_pat_of (pats (p ∷ q ∷ r ∷ []))

-- LET f(p) = e
abbrev pub define : String → Pat → Expr → Stmt
define f p e = let_ (bind f) (abs p e)

-- LET x = e
abbrev pub set : String → Expr → Stmt
set x e = let_ (bind x) e

abbrev pub cases : Expr → List Arm → Expr
cases e xs = case_of e (arms xs)

abbrev pub when : Expr → List Stmt → Branch
when e ss = branch_of e (stmts ss)

abbrev pub println : Expr
println = var "println"

abbrev pub say : Expr
say = var "say"

-- a call with two arguments
abbrev pub call_both : String → Expr → Expr → Expr
call_both f a b = call (var f) (pair a b)
