-- What a fold of trees gives at each kind of node, from what it gives at the nodes below.
use Rattle.std.proofs.Common.{◌≡◌, ℕ, ℤ, List, map, Some, None, sym, ap, ◌∙◌}
use Rattle.hum_syntax.specs.declared.tree.Stmt.{Stmt, fold-Stmt}
use Rattle.hum_syntax.specs.declared.tree.Expr.{Expr, fold-Expr}
use Rattle.hum_syntax.specs.declared.tree.Pat.{Pat, fold-Pat}
use Rattle.hum_syntax.specs.declared.tree.Arm.{Arm, fold-Arm}
use Rattle.hum_syntax.specs.declared.tree.Branch.{Branch, fold-Branch}
use Rattle.hum_syntax.specs.declared.tree.Expr.TheOpen.{Expr-F, Pat-F, Stmt-F, Arm-F, Branch-F}
use Rattle.hum_syntax.specs.declared.tree.Expr.TheOpen as layer
use Rattle.hum_syntax.specs.declared.tree.Expr.TheFolds as folds
use Rattle.hum_syntax.specs.declared.tree.Expr.TheVariants as e
use Rattle.hum_syntax.specs.declared.tree.Pat.TheVariants as p
use Rattle.hum_syntax.specs.declared.tree.Stmt.TheVariants as s
use Rattle.hum_syntax.specs.Spells.{arm, branch}

-- what each node gives
pub record Steps (E P S A B : Type 0) : Type 0 where
  pub expr : Expr-F E P S A B → E
  pub pat : Pat-F E P S A B → P
  pub stmt : Stmt-F E P S A B → S
  pub an_arm : Arm-F E P S A B → A
  pub a_branch : Branch-F E P S A B → B

module _ {E P S A B : Type 0} (g : Steps E P S A B) where
  abbrev pub of_expr : Expr → E
  of_expr = fold-Expr E P S A B g.expr g.pat g.stmt g.an_arm g.a_branch

  abbrev pub of_pat : Pat → P
  of_pat = fold-Pat E P S A B g.expr g.pat g.stmt g.an_arm g.a_branch

  abbrev pub of_stmt : Stmt → S
  of_stmt = fold-Stmt E P S A B g.expr g.pat g.stmt g.an_arm g.a_branch

  abbrev pub of_arm : Arm → A
  of_arm = fold-Arm E P S A B g.expr g.pat g.stmt g.an_arm g.a_branch

  abbrev pub of_branch : Branch → B
  of_branch = fold-Branch E P S A B g.expr g.pat g.stmt g.an_arm g.a_branch

  pub fold_undef : of_expr e.Undef ≡ g.expr layer.Expr::Undef
  fold_undef = ap of_expr (sym (e.rolls-Undef)) ∙ folds.fold-roll-Expr E P S A B g.expr g.pat g.stmt g.an_arm g.a_branch layer.Expr::Undef

  pub fold_nil : of_expr e.Nil ≡ g.expr layer.Expr::Nil
  fold_nil = ap of_expr (sym (e.rolls-Nil)) ∙ folds.fold-roll-Expr E P S A B g.expr g.pat g.stmt g.an_arm g.a_branch layer.Expr::Nil

  pub fold_true : of_expr e.True ≡ g.expr layer.Expr::True
  fold_true = ap of_expr (sym (e.rolls-True)) ∙ folds.fold-roll-Expr E P S A B g.expr g.pat g.stmt g.an_arm g.a_branch layer.Expr::True

  pub fold_false : of_expr e.False ≡ g.expr layer.Expr::False
  fold_false = ap of_expr (sym (e.rolls-False)) ∙ folds.fold-roll-Expr E P S A B g.expr g.pat g.stmt g.an_arm g.a_branch layer.Expr::False

  pub fold_num : (z : ℤ) → of_expr (e.Num z) ≡ g.expr (layer.Expr::Num z)
  fold_num z = ap of_expr (sym (e.rolls-Num z)) ∙ folds.fold-roll-Expr E P S A B g.expr g.pat g.stmt g.an_arm g.a_branch (layer.Expr::Num z)

  pub fold_sym : (t : List ℕ) → of_expr (e.Sym t) ≡ g.expr (layer.Expr::Sym t)
  fold_sym t = ap of_expr (sym (e.rolls-Sym t)) ∙ folds.fold-roll-Expr E P S A B g.expr g.pat g.stmt g.an_arm g.a_branch (layer.Expr::Sym t)

  pub fold_text : (t : List ℕ) → of_expr (e.Text t) ≡ g.expr (layer.Text t)
  fold_text t = ap of_expr (sym (e.rolls-Text t)) ∙ folds.fold-roll-Expr E P S A B g.expr g.pat g.stmt g.an_arm g.a_branch (layer.Text t)

  pub fold_var : (t : List ℕ) → of_expr (e.Var t) ≡ g.expr (layer.Var t)
  fold_var t = ap of_expr (sym (e.rolls-Var t)) ∙ folds.fold-roll-Expr E P S A B g.expr g.pat g.stmt g.an_arm g.a_branch (layer.Var t)

  pub fold_myself : of_expr e.Myself ≡ g.expr layer.Myself
  fold_myself = ap of_expr (sym (e.rolls-Myself)) ∙ folds.fold-roll-Expr E P S A B g.expr g.pat g.stmt g.an_arm g.a_branch layer.Myself

  pub fold_abs : (x : Pat) (a : Expr) → of_expr (e.Abs x a) ≡ g.expr (layer.Abs (of_pat x) (of_expr a))
  fold_abs x a = ap of_expr (sym (e.rolls-Abs x a)) ∙ folds.fold-roll-Expr E P S A B g.expr g.pat g.stmt g.an_arm g.a_branch (layer.Abs x a)

  pub fold_block : (xs : List Stmt) → of_expr (e.Block xs) ≡ g.expr (layer.Block (map of_stmt xs))
  fold_block xs = ap of_expr (sym (e.rolls-Block xs)) ∙ folds.fold-roll-Expr E P S A B g.expr g.pat g.stmt g.an_arm g.a_branch (layer.Block xs)

  pub fold_call : (f : Expr) (a : Expr) → of_expr (e.Call f a) ≡ g.expr (layer.Call (of_expr f) (of_expr a))
  fold_call f a = ap of_expr (sym (e.rolls-Call f a)) ∙ folds.fold-roll-Expr E P S A B g.expr g.pat g.stmt g.an_arm g.a_branch (layer.Call f a)

  pub fold_tuple : (xs : List Expr) → of_expr (e.Tuple xs) ≡ g.expr (layer.Expr::Tuple (map of_expr xs))
  fold_tuple xs = ap of_expr (sym (e.rolls-Tuple xs)) ∙ folds.fold-roll-Expr E P S A B g.expr g.pat g.stmt g.an_arm g.a_branch (layer.Expr::Tuple xs)

  pub fold_new : (a : Expr) → of_expr (e.New a) ≡ g.expr (layer.New (of_expr a))
  fold_new a = ap of_expr (sym (e.rolls-New a)) ∙ folds.fold-roll-Expr E P S A B g.expr g.pat g.stmt g.an_arm g.a_branch (layer.New a)

  pub fold_case : (a : Expr) (xs : List Arm) → of_expr (e.Case a xs) ≡ g.expr (layer.Case (of_expr a) (map of_arm xs))
  fold_case a xs = ap of_expr (sym (e.rolls-Case a xs)) ∙ folds.fold-roll-Expr E P S A B g.expr g.pat g.stmt g.an_arm g.a_branch (layer.Case a xs)

  pub fold_if : (xs : List Branch) → of_expr (e.If xs None) ≡ g.expr (layer.If (map of_branch xs) None)
  fold_if xs = ap of_expr (sym (e.rolls-If xs None)) ∙ folds.fold-roll-Expr E P S A B g.expr g.pat g.stmt g.an_arm g.a_branch (layer.If xs None)

  pub fold_if_else : (xs : List Branch) (ys : List Stmt) → of_expr (e.If xs (Some ys)) ≡ g.expr (layer.If (map of_branch xs) (Some (map of_stmt ys)))
  fold_if_else xs ys =
      ap of_expr (sym (e.rolls-If xs (Some ys))) ∙ folds.fold-roll-Expr E P S A B g.expr g.pat g.stmt g.an_arm g.a_branch (layer.If xs (Some ys))

  pub fold_any : of_pat p.Any ≡ g.pat layer.Any
  fold_any = ap of_pat (sym (p.rolls-Any)) ∙ folds.fold-roll-Pat E P S A B g.expr g.pat g.stmt g.an_arm g.a_branch layer.Any

  pub fold_bind : (t : List ℕ) → of_pat (p.Bind t) ≡ g.pat (layer.Bind t)
  fold_bind t = ap of_pat (sym (p.rolls-Bind t)) ∙ folds.fold-roll-Pat E P S A B g.expr g.pat g.stmt g.an_arm g.a_branch (layer.Bind t)

  pub fold_pat_undef : of_pat p.Undef ≡ g.pat layer.Pat::Undef
  fold_pat_undef = ap of_pat (sym (p.rolls-Undef)) ∙ folds.fold-roll-Pat E P S A B g.expr g.pat g.stmt g.an_arm g.a_branch layer.Pat::Undef

  pub fold_pat_nil : of_pat p.Nil ≡ g.pat layer.Pat::Nil
  fold_pat_nil = ap of_pat (sym (p.rolls-Nil)) ∙ folds.fold-roll-Pat E P S A B g.expr g.pat g.stmt g.an_arm g.a_branch layer.Pat::Nil

  pub fold_pat_true : of_pat p.True ≡ g.pat layer.Pat::True
  fold_pat_true = ap of_pat (sym (p.rolls-True)) ∙ folds.fold-roll-Pat E P S A B g.expr g.pat g.stmt g.an_arm g.a_branch layer.Pat::True

  pub fold_pat_false : of_pat p.False ≡ g.pat layer.Pat::False
  fold_pat_false = ap of_pat (sym (p.rolls-False)) ∙ folds.fold-roll-Pat E P S A B g.expr g.pat g.stmt g.an_arm g.a_branch layer.Pat::False

  pub fold_pat_num : (z : ℤ) → of_pat (p.Num z) ≡ g.pat (layer.Pat::Num z)
  fold_pat_num z = ap of_pat (sym (p.rolls-Num z)) ∙ folds.fold-roll-Pat E P S A B g.expr g.pat g.stmt g.an_arm g.a_branch (layer.Pat::Num z)

  pub fold_pat_sym : (t : List ℕ) → of_pat (p.Sym t) ≡ g.pat (layer.Pat::Sym t)
  fold_pat_sym t = ap of_pat (sym (p.rolls-Sym t)) ∙ folds.fold-roll-Pat E P S A B g.expr g.pat g.stmt g.an_arm g.a_branch (layer.Pat::Sym t)

  pub fold_value : (a : Expr) → of_pat (p.Value a) ≡ g.pat (layer.Value (of_expr a))
  fold_value a = ap of_pat (sym (p.rolls-Value a)) ∙ folds.fold-roll-Pat E P S A B g.expr g.pat g.stmt g.an_arm g.a_branch (layer.Value a)

  pub fold_pat_tuple : (xs : List Pat) → of_pat (p.Tuple xs) ≡ g.pat (layer.Pat::Tuple (map of_pat xs))
  fold_pat_tuple xs = ap of_pat (sym (p.rolls-Tuple xs)) ∙ folds.fold-roll-Pat E P S A B g.expr g.pat g.stmt g.an_arm g.a_branch (layer.Pat::Tuple xs)

  pub fold_let : (x : Pat) (a : Expr) → of_stmt (s.Let x a) ≡ g.stmt (layer.Let (of_pat x) (of_expr a))
  fold_let x a = ap of_stmt (sym (s.rolls-Let x a)) ∙ folds.fold-roll-Stmt E P S A B g.expr g.pat g.stmt g.an_arm g.a_branch (layer.Let x a)

  pub fold_send : (a : Expr) (b : Expr) → of_stmt (s.Send a b) ≡ g.stmt (layer.Send (of_expr a) (of_expr b))
  fold_send a b = ap of_stmt (sym (s.rolls-Send a b)) ∙ folds.fold-roll-Stmt E P S A B g.expr g.pat g.stmt g.an_arm g.a_branch (layer.Send a b)

  pub fold_create : (t : List ℕ) (a : Expr) → of_stmt (s.Create t a) ≡ g.stmt (layer.Create t (of_expr a))
  fold_create t a = ap of_stmt (sym (s.rolls-Create t a)) ∙ folds.fold-roll-Stmt E P S A B g.expr g.pat g.stmt g.an_arm g.a_branch (layer.Create t a)

  pub fold_become : (a : Expr) → of_stmt (s.Become a) ≡ g.stmt (layer.Become (of_expr a))
  fold_become a = ap of_stmt (sym (s.rolls-Become a)) ∙ folds.fold-roll-Stmt E P S A B g.expr g.pat g.stmt g.an_arm g.a_branch (layer.Become a)

  pub fold_throw : (a : Expr) → of_stmt (s.Throw a) ≡ g.stmt (layer.Throw (of_expr a))
  fold_throw a = ap of_stmt (sym (s.rolls-Throw a)) ∙ folds.fold-roll-Stmt E P S A B g.expr g.pat g.stmt g.an_arm g.a_branch (layer.Throw a)

  pub fold_do : (a : Expr) → of_stmt (s.Do a) ≡ g.stmt (layer.Do (of_expr a))
  fold_do a = ap of_stmt (sym (s.rolls-Do a)) ∙ folds.fold-roll-Stmt E P S A B g.expr g.pat g.stmt g.an_arm g.a_branch (layer.Do a)

  pub fold_arm : (x : Pat) (a : Expr) → of_arm (arm x a) ≡ g.an_arm (record { pattern = of_pat x; value = of_expr a })
  fold_arm x a = folds.fold-roll-Arm E P S A B g.expr g.pat g.stmt g.an_arm g.a_branch (record { pattern = x; value = a })

  pub fold_branch : (a : Expr) (xs : List Stmt) → of_branch (branch a xs) ≡ g.a_branch (record { condition = of_expr a; block = map of_stmt xs })
  fold_branch a xs = folds.fold-roll-Branch E P S A B g.expr g.pat g.stmt g.an_arm g.a_branch (record { condition = a; block = xs })
