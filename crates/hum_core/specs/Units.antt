-- Which numbered tree a program becomes, part by part.
use Rattle.std.specs.Prelude.{ℕ, suc, ◌+◌, Bool, true, false, ◌&&◌, List, [], ◌∷◌, ◌++◌, map, Option, Some, None, sum}
use Rattle.hum_syntax.specs.declared.tree.Stmt.{Stmt, fold-Stmt}
use Rattle.hum_syntax.specs.declared.tree.Expr.TheOpen.{Expr-F, Pat-F, Stmt-F, Arm-F, Branch-F}
use Rattle.hum_syntax.specs.declared.tree.Expr.TheOpen as layer
use Rattle.hum_meaning.specs.Named.{Name, written}
use Rattle.hum_meaning.specs.Look.{outermost}
use Rattle.hum_meaning.specs.Scope.{Binds, Function, Values, Nothing, grouped_after}
use Rattle.hum_core.specs.declared.slot.Slot.{Slot}
use Rattle.hum_core.specs.declared.slot.Const.{Const}
use Rattle.hum_core.specs.declared.slot.Const.TheVariants as const
use Rattle.hum_core.specs.declared.resolved.CoreUnit.{CoreUnit}
use Rattle.hum_core.specs.declared.resolved.CoreUnit.TheVariants as unit
use Rattle.hum_core.specs.declared.resolved.CoreStmt.{CoreStmt}
use Rattle.hum_core.specs.declared.resolved.CoreStmt.TheVariants as stmt
use Rattle.hum_core.specs.declared.resolved.CoreExpr.{CoreExpr}
use Rattle.hum_core.specs.declared.resolved.CoreExpr.TheVariants as expr
use Rattle.hum_core.specs.declared.resolved.CorePat.{CorePat}
use Rattle.hum_core.specs.declared.resolved.CorePat.TheVariants as pat
use Rattle.hum_core.specs.declared.resolved.CoreArm.{CoreArm, roll-CoreArm}
use Rattle.hum_core.specs.declared.resolved.CoreBranch.{CoreBranch, roll-CoreBranch}
use Rattle.hum_core.specs.Alike.{Marked, Many, scope_of, with_marks}
use Rattle.hum_core.specs.Agreement.{Names, newest, slot_of}

abbrev pub Scope : Type 0
Scope = List (Marked Name)

-- What a part becomes: how many units it has, and, in a scope and from the number of its first unit on, the part and its units in order.
pub record Part (A : Type 0) : Type 0 where
  pub size : ℕ
  pub make : Scope → ℕ → A × List CoreUnit

-- a part without units
abbrev pub plain : {A : Type 0} → (Scope → A) → Part A
plain f = record { size = 0; make = λ scope n. (f scope, []) }

module _ {A B : Type 0} where
  abbrev pub mapped : (A → B) → Part A → Part B
  mapped f a = record { size = a.size; make = λ scope n. let made = a.make scope n in (f made.0, made.1) }

module _ {A B C : Type 0} where
  -- one part and then another, which sees further names
  abbrev pub under : Names → (A → B → C) → Part A → Part B → Part C
  under names f a b = record {
    size = a.size + b.size;
    make = λ scope n. let x = a.make scope n in let y = b.make (with_marks names scope) (n + a.size) in (f x.0 y.0, x.1 ++ y.1);
  }

  abbrev pub both : (A → B → C) → Part A → Part B → Part C
  both = under []

module _ {A : Type 0} where
  abbrev pub in_order : List (Part A) → Part (List A)
  in_order [] = plain (λ scope. [])
  in_order (a ∷ more) = both (λ x xs. x ∷ xs) a (in_order more)

-- a unit of its own, before those that are in it, by its number
abbrev pub numbered : Part CoreUnit → Part ℕ
numbered a = record { size = suc a.size; make = λ scope n. let made = a.make scope (suc n) in (n, made.0 ∷ made.1) }

-- ---- what is made of the kinds of parts

-- an expression; whether it is an abstraction
pub record OfExpr : Type 0 where
  pub is_abstraction : Bool
  pub part : Part CoreExpr

-- a pattern; the names that it binds, the newest first; whether it is a name and nothing else
pub record OfPat : Type 0 where
  pub is_name : Bool
  pub names : Names
  pub part : Part CorePat

pub record OfStmt : Type 0 where
  pub binds : Binds
  pub part : Part CoreStmt

-- ---- blocks

-- the functions that are defined from here to the end of the stretch, with the numbers of their units
abbrev pub with_binds : Binds → ℕ → List (Names × ℕ) → List (Names × ℕ)
with_binds (Function names) n more = (names, n) ∷ more
with_binds (Values names) n more = []
with_binds Nothing n more = more

abbrev pub functions : ℕ → List OfStmt → List (Names × ℕ)
functions n [] = []
functions n (s ∷ more) = with_binds s.binds n (functions (n + s.part.size) more)

abbrev pub group_names : List (Names × ℕ) → Names
group_names [] = []
group_names (f ∷ more) = f.0 ++ group_names more

-- a statement with the group that it begins, if it is the first function of its stretch; and whether the group stands behind it
abbrev pub at_statement : Binds → (grouped : Bool) → List (Names × ℕ) → Scope → CoreStmt → CoreStmt
at_statement (Function names) false fs scope s = stmt.Group (map (λ f. f.1) fs)
at_statement _ grouped fs scope s = s

abbrev pub scope_at : Binds → (grouped : Bool) → List (Names × ℕ) → Scope → Scope
scope_at (Function names) false fs scope = Many (group_names fs) ∷ scope
scope_at _ grouped fs scope = scope

abbrev pub scope_after : Binds → Scope → Scope
scope_after (Values names) scope = with_marks names scope
scope_after _ scope = scope

abbrev pub statements : (grouped : Bool) → List OfStmt → Scope → ℕ → List CoreStmt × List CoreUnit
statements grouped [] scope n = ([], [])
statements grouped (s ∷ more) scope n =
    let fs = functions n (s ∷ more) in
    let here = scope_at s.binds grouped fs scope in
    let made = s.part.make here n in
    let others = statements (grouped_after s.binds grouped) more (scope_after s.binds here) (n + s.part.size) in
    (at_statement s.binds grouped fs here made.0 ∷ others.0, made.1 ++ others.1)

-- a block is a unit
abbrev pub block : List OfStmt → Part ℕ
block ss = numbered (record {
  size = sum (map (λ s. s.part.size) ss);
  make = λ scope n. let made = statements false ss scope n in (unit.Block made.0, made.1);
})

-- ---- one node, with what is made of the nodes below in their places

abbrev pub constant : Const → OfExpr
constant c = record { is_abstraction = false; part = plain (λ scope. expr.Is c) }

-- an expression that is no abstraction
abbrev pub other_expr : Part CoreExpr → OfExpr
other_expr part = record { is_abstraction = false; part = part }

-- each name of an accepted program has a slot
abbrev pub slot_or_newest : Option Slot → Slot
slot_or_newest (Some slot) = slot
slot_or_newest None = newest

abbrev pub exprs : List OfExpr → Part (List CoreExpr)
exprs es = in_order (map (λ e. e.part) es)

abbrev pub of_expr : Expr-F OfExpr OfPat OfStmt (Part CoreArm) (Part CoreBranch) → OfExpr
of_expr layer.Expr::Undef = constant const.Undef
of_expr layer.Expr::Nil = constant const.Nil
of_expr layer.Expr::True = constant const.True
of_expr layer.Expr::False = constant const.False
of_expr (layer.Expr::Num n) = constant (const.Num n)
of_expr (layer.Expr::Sym name) = constant (const.Sym name)
of_expr (layer.Text points) = other_expr (plain (λ scope. expr.Text points))
of_expr (layer.Var name) = other_expr (plain (λ scope. expr.Var (slot_or_newest (slot_of scope name))))
of_expr layer.Myself = other_expr (plain (λ scope. expr.Myself))
of_expr (layer.Abs p e) = record { is_abstraction = true; part = mapped expr.Abs (numbered (under p.names unit.Abs p.part e.part)) }
of_expr (layer.Block ss) = other_expr (mapped expr.Block (block ss))
of_expr (layer.Call f a) = other_expr (both expr.Call f.part a.part)
of_expr (layer.Expr::Tuple es) = other_expr (mapped expr.Tuple (exprs es))
of_expr (layer.New e) = other_expr (mapped expr.New e.part)
of_expr (layer.Case e arms) = other_expr (both expr.Case e.part (in_order arms))
of_expr (layer.If branches (Some ss)) = other_expr (both expr.If (in_order branches) (block ss))
of_expr (layer.If branches None) = other_expr (both expr.If (in_order branches) (block []))

abbrev pub constant_pat : Const → OfPat
constant_pat c = record { is_name = false; names = []; part = plain (λ scope. pat.Is c) }

abbrev pub item_names : List OfPat → Names
item_names [] = []
item_names (p ∷ ps) = item_names ps ++ p.names

abbrev pub of_pat : Pat-F OfExpr OfPat OfStmt (Part CoreArm) (Part CoreBranch) → OfPat
of_pat layer.Any = record { is_name = false; names = []; part = plain (λ scope. pat.Any) }
of_pat (layer.Bind name) = record { is_name = true; names = name ∷ []; part = plain (λ scope. pat.Bind) }
of_pat layer.Pat::Undef = constant_pat const.Undef
of_pat layer.Pat::Nil = constant_pat const.Nil
of_pat layer.Pat::True = constant_pat const.True
of_pat layer.Pat::False = constant_pat const.False
of_pat (layer.Pat::Num n) = constant_pat (const.Num n)
of_pat (layer.Pat::Sym name) = constant_pat (const.Sym name)
of_pat (layer.Value e) = record { is_name = false; names = []; part = mapped pat.Value e.part }
of_pat (layer.Pat::Tuple ps) = record { is_name = false; names = item_names ps; part = mapped pat.Tuple (in_order (map (λ p. p.part) ps)) }

-- the definition of a function is its abstraction's unit, and what stands for the statement is its block's concern
abbrev pub let_stmt : Bool → OfPat → OfExpr → OfStmt
let_stmt true p e = record { binds = Function p.names; part = mapped (λ d. stmt.Defined) e.part }
let_stmt false p e = record { binds = Values p.names; part = both stmt.Let p.part e.part }

abbrev pub act : Part CoreStmt → OfStmt
act part = record { binds = Nothing; part = part }

abbrev pub of_stmt : Stmt-F OfExpr OfPat OfStmt (Part CoreArm) (Part CoreBranch) → OfStmt
of_stmt (layer.Let p e) = let_stmt (p.is_name && e.is_abstraction) p e
of_stmt (layer.Create name e) = record { binds = Values (name ∷ []); part = mapped stmt.Create e.part }
of_stmt (layer.Send e a) = act (both stmt.Send e.part a.part)
of_stmt (layer.Become e) = act (mapped stmt.Become e.part)
of_stmt (layer.Throw e) = act (mapped stmt.Throw e.part)
of_stmt (layer.Do e) = act (mapped stmt.Do e.part)

abbrev pub of_arm : Arm-F OfExpr OfPat OfStmt (Part CoreArm) (Part CoreBranch) → Part CoreArm
of_arm arm = under arm.pattern.names (λ p e. roll-CoreArm (record { pattern = p; value = e })) arm.pattern.part arm.value.part

abbrev pub of_branch : Branch-F OfExpr OfPat OfStmt (Part CoreArm) (Part CoreBranch) → Part CoreBranch
of_branch branch = both (λ e k. roll-CoreBranch (record { condition = e; block = k })) branch.condition.part (block branch.block)

-- ---- whole programs

abbrev pub of_file : Stmt → OfStmt
of_file = fold-Stmt OfExpr OfPat OfStmt (Part CoreArm) (Part CoreBranch) of_expr of_pat of_stmt of_arm of_branch

-- the units of a file, which is unit 0
abbrev pub resolved : List Stmt → List CoreUnit
resolved file = ((block (map of_file file)).make (scope_of (outermost written)) 0).1
