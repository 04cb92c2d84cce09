-- Induction over trees, node by node.
use Rattle.std.proofs.Common.{◌≡◌, ℕ, ℤ, List, [], ◌∷◌, map, Some, None, refl, sym, ap, subst}
use Rattle.hum_syntax.specs.declared.tree.Expr.{Expr}
use Rattle.hum_syntax.specs.declared.tree.Pat.{Pat}
use Rattle.hum_syntax.specs.declared.tree.Stmt.{Stmt}
use Rattle.hum_syntax.specs.declared.tree.Arm.{Arm}
use Rattle.hum_syntax.specs.declared.tree.Branch.{Branch}
use Rattle.hum_syntax.specs.declared.tree.Expr.TheOpen.{Expr-F, Pat-F, Stmt-F, Arm-F, Branch-F}
use Rattle.hum_syntax.specs.declared.tree.Expr.TheOpen as layer
use Rattle.hum_syntax.specs.declared.tree.Expr.TheFolds as folds
use Rattle.hum_syntax.specs.declared.tree.Expr.TheViews.{roll-Expr, roll-Pat, roll-Stmt, roll-Arm, roll-Branch}
use Rattle.hum_syntax.specs.declared.tree.Expr.TheVariants as e
use Rattle.hum_syntax.specs.declared.tree.Pat.TheVariants as p
use Rattle.hum_syntax.specs.declared.tree.Stmt.TheVariants as s
use Rattle.hum_syntax.specs.Spells.{arm, branch}

-- nodes, with what is so of each
abbrev pub Each : {X : Type 0} → (X → Type 0) → Type 0
Each {X = X} Q = List ((x : X) × Q x)

-- the nodes alone
abbrev pub nodes : {X : Type 0} {Q : X → Type 0} → Each Q → List X
nodes xs = map (λ x. x.0) xs

-- what is so of a node, if it is of the nodes below
pub record Cases (E : Expr → Type 0) (P : Pat → Type 0) (S : Stmt → Type 0) (A : Arm → Type 0) (B : Branch → Type 0) : Type 0 where
  pub at_undef : E e.Undef
  pub at_nil : E e.Nil
  pub at_true : E e.True
  pub at_false : E e.False
  pub at_num : (z : ℤ) → E (e.Num z)
  pub at_sym : (t : List ℕ) → E (e.Sym t)
  pub at_text : (t : List ℕ) → E (e.Text t)
  pub at_var : (t : List ℕ) → E (e.Var t)
  pub at_myself : E e.Myself
  pub at_abs : (x : Pat) (a : Expr) → P x → E a → E (e.Abs x a)
  pub at_block : (xs : Each S) → E (e.Block (nodes xs))
  pub at_call : (f : Expr) (a : Expr) → E f → E a → E (e.Call f a)
  pub at_tuple : (xs : Each E) → E (e.Tuple (nodes xs))
  pub at_new : (a : Expr) → E a → E (e.New a)
  pub at_case : (a : Expr) (xs : Each A) → E a → E (e.Case a (nodes xs))
  pub at_if : (xs : Each B) → E (e.If (nodes xs) None)
  pub at_if_else : (xs : Each B) (ys : Each S) → E (e.If (nodes xs) (Some (nodes ys)))
  pub at_any : P p.Any
  pub at_bind : (t : List ℕ) → P (p.Bind t)
  pub at_pat_undef : P p.Undef
  pub at_pat_nil : P p.Nil
  pub at_pat_true : P p.True
  pub at_pat_false : P p.False
  pub at_pat_num : (z : ℤ) → P (p.Num z)
  pub at_pat_sym : (t : List ℕ) → P (p.Sym t)
  pub at_value : (a : Expr) → E a → P (p.Value a)
  pub at_pat_tuple : (xs : Each P) → P (p.Tuple (nodes xs))
  pub at_let : (x : Pat) (a : Expr) → P x → E a → S (s.Let x a)
  pub at_send : (a : Expr) (b : Expr) → E a → E b → S (s.Send a b)
  pub at_create : (t : List ℕ) (a : Expr) → E a → S (s.Create t a)
  pub at_become : (a : Expr) → E a → S (s.Become a)
  pub at_throw : (a : Expr) → E a → S (s.Throw a)
  pub at_do : (a : Expr) → E a → S (s.Do a)
  pub at_arm : (x : Pat) (a : Expr) → P x → E a → A (arm x a)
  pub at_branch : (a : Expr) (xs : Each S) → E a → B (branch a (nodes xs))

module _ {E : Expr → Type 0} {P : Pat → Type 0} {S : Stmt → Type 0} {A : Arm → Type 0} {B : Branch → Type 0} (c : Cases E P S A B) where
  abbrev EE : Type 0
  EE = (x : Expr) × E x

  abbrev PP : Type 0
  PP = (x : Pat) × P x

  abbrev SS : Type 0
  SS = (x : Stmt) × S x

  abbrev AA : Type 0
  AA = (x : Arm) × A x

  abbrev BB : Type 0
  BB = (x : Branch) × B x

  expr_step : (x : Expr-F Expr Pat Stmt Arm Branch) (y : Expr-F EE PP SS AA BB)
      → folds.map-Expr EE PP SS AA BB Expr Pat Stmt Arm Branch (λ z. z.0) (λ z. z.0) (λ z. z.0) (λ z. z.0) (λ z. z.0) y ≡ x → E (roll-Expr x)
  expr_step to layer.Expr::Undef is = subst (λ z. E (roll-Expr z)) is (subst E (sym e.rolls-Undef) c.at_undef)
  expr_step to layer.Expr::Nil is = subst (λ z. E (roll-Expr z)) is (subst E (sym e.rolls-Nil) c.at_nil)
  expr_step to layer.Expr::True is = subst (λ z. E (roll-Expr z)) is (subst E (sym e.rolls-True) c.at_true)
  expr_step to layer.Expr::False is = subst (λ z. E (roll-Expr z)) is (subst E (sym e.rolls-False) c.at_false)
  expr_step to (layer.Expr::Num z) is = subst (λ z. E (roll-Expr z)) is (subst E (sym (e.rolls-Num z)) (c.at_num z))
  expr_step to (layer.Expr::Sym t) is = subst (λ z. E (roll-Expr z)) is (subst E (sym (e.rolls-Sym t)) (c.at_sym t))
  expr_step to (layer.Text t) is = subst (λ z. E (roll-Expr z)) is (subst E (sym (e.rolls-Text t)) (c.at_text t))
  expr_step to (layer.Var t) is = subst (λ z. E (roll-Expr z)) is (subst E (sym (e.rolls-Var t)) (c.at_var t))
  expr_step to layer.Myself is = subst (λ z. E (roll-Expr z)) is (subst E (sym e.rolls-Myself) c.at_myself)
  expr_step to (layer.Abs x a) is = subst (λ z. E (roll-Expr z)) is (subst E (sym (e.rolls-Abs x.0 a.0)) (c.at_abs x.0 a.0 x.1 a.1))
  expr_step to (layer.Block xs) is = subst (λ z. E (roll-Expr z)) is (subst E (sym (e.rolls-Block (nodes xs))) (c.at_block xs))
  expr_step to (layer.Call f a) is = subst (λ z. E (roll-Expr z)) is (subst E (sym (e.rolls-Call f.0 a.0)) (c.at_call f.0 a.0 f.1 a.1))
  expr_step to (layer.Expr::Tuple xs) is = subst (λ z. E (roll-Expr z)) is (subst E (sym (e.rolls-Tuple (nodes xs))) (c.at_tuple xs))
  expr_step to (layer.New a) is = subst (λ z. E (roll-Expr z)) is (subst E (sym (e.rolls-New a.0)) (c.at_new a.0 a.1))
  expr_step to (layer.Case a xs) is = subst (λ z. E (roll-Expr z)) is (subst E (sym (e.rolls-Case a.0 (nodes xs))) (c.at_case a.0 xs a.1))
  expr_step to (layer.If xs None) is = subst (λ z. E (roll-Expr z)) is (subst E (sym (e.rolls-If (nodes xs) None)) (c.at_if xs))
  expr_step to (layer.If xs (Some ys)) is =
      subst (λ z. E (roll-Expr z)) is (subst E (sym (e.rolls-If (nodes xs) (Some (nodes ys)))) (c.at_if_else xs ys))

  pat_step : (x : Pat-F Expr Pat Stmt Arm Branch) (y : Pat-F EE PP SS AA BB)
      → folds.map-Pat EE PP SS AA BB Expr Pat Stmt Arm Branch (λ z. z.0) (λ z. z.0) (λ z. z.0) (λ z. z.0) (λ z. z.0) y ≡ x → P (roll-Pat x)
  pat_step to layer.Any is = subst (λ z. P (roll-Pat z)) is (subst P (sym p.rolls-Any) c.at_any)
  pat_step to (layer.Bind t) is = subst (λ z. P (roll-Pat z)) is (subst P (sym (p.rolls-Bind t)) (c.at_bind t))
  pat_step to layer.Pat::Undef is = subst (λ z. P (roll-Pat z)) is (subst P (sym p.rolls-Undef) c.at_pat_undef)
  pat_step to layer.Pat::Nil is = subst (λ z. P (roll-Pat z)) is (subst P (sym p.rolls-Nil) c.at_pat_nil)
  pat_step to layer.Pat::True is = subst (λ z. P (roll-Pat z)) is (subst P (sym p.rolls-True) c.at_pat_true)
  pat_step to layer.Pat::False is = subst (λ z. P (roll-Pat z)) is (subst P (sym p.rolls-False) c.at_pat_false)
  pat_step to (layer.Pat::Num z) is = subst (λ z. P (roll-Pat z)) is (subst P (sym (p.rolls-Num z)) (c.at_pat_num z))
  pat_step to (layer.Pat::Sym t) is = subst (λ z. P (roll-Pat z)) is (subst P (sym (p.rolls-Sym t)) (c.at_pat_sym t))
  pat_step to (layer.Value a) is = subst (λ z. P (roll-Pat z)) is (subst P (sym (p.rolls-Value a.0)) (c.at_value a.0 a.1))
  pat_step to (layer.Pat::Tuple xs) is = subst (λ z. P (roll-Pat z)) is (subst P (sym (p.rolls-Tuple (nodes xs))) (c.at_pat_tuple xs))

  stmt_step : (x : Stmt-F Expr Pat Stmt Arm Branch) (y : Stmt-F EE PP SS AA BB)
      → folds.map-Stmt EE PP SS AA BB Expr Pat Stmt Arm Branch (λ z. z.0) (λ z. z.0) (λ z. z.0) (λ z. z.0) (λ z. z.0) y ≡ x → S (roll-Stmt x)
  stmt_step to (layer.Let x a) is = subst (λ z. S (roll-Stmt z)) is (subst S (sym (s.rolls-Let x.0 a.0)) (c.at_let x.0 a.0 x.1 a.1))
  stmt_step to (layer.Send a b) is = subst (λ z. S (roll-Stmt z)) is (subst S (sym (s.rolls-Send a.0 b.0)) (c.at_send a.0 b.0 a.1 b.1))
  stmt_step to (layer.Create t a) is = subst (λ z. S (roll-Stmt z)) is (subst S (sym (s.rolls-Create t a.0)) (c.at_create t a.0 a.1))
  stmt_step to (layer.Become a) is = subst (λ z. S (roll-Stmt z)) is (subst S (sym (s.rolls-Become a.0)) (c.at_become a.0 a.1))
  stmt_step to (layer.Throw a) is = subst (λ z. S (roll-Stmt z)) is (subst S (sym (s.rolls-Throw a.0)) (c.at_throw a.0 a.1))
  stmt_step to (layer.Do a) is = subst (λ z. S (roll-Stmt z)) is (subst S (sym (s.rolls-Do a.0)) (c.at_do a.0 a.1))

  arm_step : (x : Arm-F Expr Pat Stmt Arm Branch) (y : Arm-F EE PP SS AA BB)
      → folds.map-Arm EE PP SS AA BB Expr Pat Stmt Arm Branch (λ z. z.0) (λ z. z.0) (λ z. z.0) (λ z. z.0) (λ z. z.0) y ≡ x → A (roll-Arm x)
  arm_step x y is = subst (λ z. A (roll-Arm z)) is (c.at_arm y.pattern.0 y.value.0 y.pattern.1 y.value.1)

  branch_step : (x : Branch-F Expr Pat Stmt Arm Branch) (y : Branch-F EE PP SS AA BB)
      → folds.map-Branch EE PP SS AA BB Expr Pat Stmt Arm Branch (λ z. z.0) (λ z. z.0) (λ z. z.0) (λ z. z.0) (λ z. z.0) y ≡ x → B (roll-Branch x)
  branch_step x y is = subst (λ z. B (roll-Branch z)) is (c.at_branch y.condition.0 y.block y.condition.1)

  pub every_expr : (x : Expr) → E x
  every_expr = folds.ind-Expr E P S A B expr_step pat_step stmt_step arm_step branch_step

  pub every_pat : (x : Pat) → P x
  every_pat = folds.ind-Pat E P S A B expr_step pat_step stmt_step arm_step branch_step

  pub every_stmt : (x : Stmt) → S x
  every_stmt = folds.ind-Stmt E P S A B expr_step pat_step stmt_step arm_step branch_step

  pub every_arm : (x : Arm) → A x
  every_arm = folds.ind-Arm E P S A B expr_step pat_step stmt_step arm_step branch_step

  pub every_branch : (x : Branch) → B x
  every_branch = folds.ind-Branch E P S A B expr_step pat_step stmt_step arm_step branch_step

  -- statements, with what is so of each
  abbrev pub each_stmt : List Stmt → Each S
  each_stmt xs = map (λ x. (x, every_stmt x)) xs

  pub nodes-each_stmt : (xs : List Stmt) → nodes (each_stmt xs) ≡ xs
  nodes-each_stmt [] = refl
  nodes-each_stmt (x ∷ xs) = ap (λ ys. x ∷ ys) (nodes-each_stmt xs)
