-- A tree is at most one level deeper than the levels that are left for its tokens.
use Rattle.std.proofs.Common.{ℕ, suc, ◌≤◌, List, ◌∷◌, map, max, arith}
use Rattle.hum_syntax.specs.declared.tree.Expr.{Expr}
use Rattle.hum_syntax.specs.declared.tree.Pat.{Pat}
use Rattle.hum_syntax.specs.declared.tree.Stmt.{Stmt}
use Rattle.hum_syntax.specs.declared.tree.Arm.{Arm}
use Rattle.hum_syntax.specs.declared.tree.Branch.{Branch}
use Rattle.hum_syntax.specs.declared.tree.Expr.TheVariants as e
use Rattle.hum_syntax.specs.declared.tree.Pat.TheVariants as p
use Rattle.hum_syntax.specs.Prints.{most}
use Rattle.hum_syntax.specs.Depths.{expr_depth, pat_depth, stmt_depth, arm_depth, branch_depth, depth_of_expr, depth_of_pat, depth_of_stmt, depth_of_arm, depth_of_branch, depth_of}
use Rattle.hum_syntax.specs.Laws.{TreesAreShallow}
use Rattle.hum_syntax.specs.Spells as grammar
use Rattle.hum_syntax.specs.Spells.{Kinds, IsStmts, IsStmt, IsExpr, IsItems, IsTerm, IsCalls, IsAtom, IsBlock, IsBranches, IsArms, IsArm, IsPat, IsPats, IsPterm}
use Rattle.hum_syntax.proofs.Folding as folds
use Rattle.hum_syntax.proofs.Folding.{Steps}

abbrev deep : Steps ℕ ℕ ℕ ℕ ℕ
deep = record { expr = expr_depth; pat = pat_depth; stmt = stmt_depth; an_arm = arm_depth; a_branch = branch_depth }

mutual
  pub deep_stmts : {n : ℕ} {us : Kinds} {xs : List Stmt} → IsStmts n us xs → depth_of xs ≤ suc n
  deep_stmts grammar.stmts_none = omega arith
  deep_stmts (grammar.stmts_more h h') = omega (arith, deep_stmt h, deep_stmts h')

  deep_stmt : {n : ℕ} {us : Kinds} {x : Stmt} → IsStmt n us x → depth_of_stmt x ≤ suc n
  deep_stmt (grammar.let_is {x = x} {a = a} h h') = omega (arith, folds.fold_let deep x a, deep_pat h, deep_expr h')
  deep_stmt (grammar.let_unit {f = f} {a = a} h) =
      omega (arith, folds.fold_let deep (p.Bind f) (e.Abs p.Nil a), folds.fold_bind deep f, folds.fold_abs deep p.Nil a, folds.fold_pat_nil deep, deep_expr h)
  deep_stmt (grammar.let_fun {f = f} {x = x} {a = a} h h') =
      omega (arith, folds.fold_let deep (p.Bind f) (e.Abs x a), folds.fold_bind deep f, folds.fold_abs deep x a, deep_pat h, deep_expr h')
  deep_stmt (grammar.send {a = a} {b = b} h h') = omega (arith, folds.fold_send deep a b, deep_expr h, deep_expr h')
  deep_stmt (grammar.create {f = f} {a = a} h) = omega (arith, folds.fold_create deep f a, deep_expr h)
  deep_stmt (grammar.become {a = a} h) = omega (arith, folds.fold_become deep a, deep_expr h)
  deep_stmt (grammar.throw {a = a} h) = omega (arith, folds.fold_throw deep a, deep_expr h)
  deep_stmt (grammar.does {a = a} h) = omega (arith, folds.fold_do deep a, deep_expr h)

  deep_expr : {n : ℕ} {us : Kinds} {a : Expr} → IsExpr n us a → depth_of_expr a ≤ suc n
  deep_expr (grammar.expr_only h) = omega (arith, deep_items h)
  deep_expr (grammar.expr_tuple {a = a} {b = b} {xs = xs} h) = omega (arith, folds.fold_tuple deep (a ∷ b ∷ xs), deep_items h)

  deep_items : {n : ℕ} {us : Kinds} {xs : List Expr} → IsItems n us xs → most (map depth_of_expr xs) ≤ suc n
  deep_items (grammar.item_abs {x = x} {a = a} h h') = omega (arith, folds.fold_abs deep x a, deep_pat h, deep_expr h')
  deep_items (grammar.item_last h) = omega (arith, deep_term h)
  deep_items (grammar.item_comma h h') = omega (arith, deep_term h, deep_items h')

  deep_term : {n : ℕ} {us : Kinds} {a : Expr} → IsTerm n us a → depth_of_expr a ≤ suc n
  deep_term (grammar.chain h h') = omega (arith, deep_atom h, deep_calls h')
  deep_term (grammar.new {a = a} h) = omega (arith, folds.fold_new deep a, deep_term h)
  deep_term (grammar.case {a = a} {xs = xs} h h') = omega (arith, folds.fold_case deep a xs, deep_expr h, deep_arms h')
  deep_term (grammar.if {xs = xs} h) = omega (arith, folds.fold_if deep xs, deep_branches h)
  deep_term (grammar.if_else {xs = xs} {ys = ys} h h') = omega (arith, folds.fold_if_else deep xs ys, deep_branches h, deep_block h')

  -- a call's argument is one deeper than the call
  deep_calls : {n : ℕ} {us : Kinds} {f a : Expr} → IsCalls n f us a → depth_of_expr a ≤ max (depth_of_expr f) n
  deep_calls grammar.calls_done = omega arith
  deep_calls (grammar.calls_unit {f = f} h) = omega (arith, folds.fold_call deep f e.Nil, folds.fold_nil deep, deep_calls h)
  deep_calls (grammar.calls_call {f = f} {x = x} h h') = omega (arith, folds.fold_call deep f x, deep_expr h, deep_calls h')

  deep_atom : {n : ℕ} {us : Kinds} {a : Expr} → IsAtom n us a → depth_of_expr a ≤ suc n
  deep_atom (grammar.number {z = z}) = omega (arith, folds.fold_num deep z)
  deep_atom (grammar.symbol {t = t}) = omega (arith, folds.fold_sym deep t)
  deep_atom (grammar.text {t = t}) = omega (arith, folds.fold_text deep t)
  deep_atom grammar.true = omega (arith, folds.fold_true deep)
  deep_atom grammar.false = omega (arith, folds.fold_false deep)
  deep_atom grammar.nil = omega (arith, folds.fold_nil deep)
  deep_atom grammar.undef = omega (arith, folds.fold_undef deep)
  deep_atom (grammar.name {t = t}) = omega (arith, folds.fold_var deep t)
  deep_atom grammar.myself = omega (arith, folds.fold_myself deep)
  deep_atom grammar.empty = omega (arith, folds.fold_nil deep)
  deep_atom (grammar.paren h) = omega (arith, deep_expr h)
  deep_atom (grammar.block {xs = xs} h) = omega (arith, folds.fold_block deep xs, deep_block h)

  deep_block : {n : ℕ} {us : Kinds} {xs : List Stmt} → IsBlock n us xs → depth_of xs ≤ suc n
  deep_block (grammar.square h) = deep_stmts h

  deep_branches : {n : ℕ} {us : Kinds} {xs : List Branch} → IsBranches n us xs → most (map depth_of_branch xs) ≤ suc n
  deep_branches (grammar.branch_last {a = a} {ys = ys} h h') = omega (arith, folds.fold_branch deep a ys, deep_expr h, deep_block h')
  deep_branches (grammar.branch_elif {a = a} {ys = ys} h h' h'') =
      omega (arith, folds.fold_branch deep a ys, deep_expr h, deep_block h', deep_branches h'')

  deep_arms : {n : ℕ} {us : Kinds} {xs : List Arm} → IsArms n us xs → most (map depth_of_arm xs) ≤ suc n
  deep_arms (grammar.arms_last h) = omega (arith, deep_arm h)
  deep_arms (grammar.arms_more h h') = omega (arith, deep_arm h, deep_arms h')

  deep_arm : {n : ℕ} {us : Kinds} {x : Arm} → IsArm n us x → depth_of_arm x ≤ suc n
  deep_arm (grammar.colon {x = x} {a = a} h h') = omega (arith, folds.fold_arm deep x a, deep_pat h, deep_expr h')

  deep_pat : {n : ℕ} {us : Kinds} {x : Pat} → IsPat n us x → depth_of_pat x ≤ suc n
  deep_pat (grammar.pat_only h) = omega (arith, deep_pats h)
  deep_pat (grammar.pat_tuple {x = x} {y = y} {xs = xs} h) = omega (arith, folds.fold_pat_tuple deep (x ∷ y ∷ xs), deep_pats h)

  deep_pats : {n : ℕ} {us : Kinds} {xs : List Pat} → IsPats n us xs → most (map depth_of_pat xs) ≤ suc n
  deep_pats (grammar.pats_last h) = omega (arith, deep_pterm h)
  deep_pats (grammar.pats_comma h h') = omega (arith, deep_pterm h, deep_pats h')

  deep_pterm : {n : ℕ} {us : Kinds} {x : Pat} → IsPterm n us x → depth_of_pat x ≤ suc n
  deep_pterm grammar.p_any = omega (arith, folds.fold_any deep)
  deep_pterm (grammar.p_name {t = t}) = omega (arith, folds.fold_bind deep t)
  deep_pterm (grammar.p_number {z = z}) = omega (arith, folds.fold_pat_num deep z)
  deep_pterm (grammar.p_symbol {t = t}) = omega (arith, folds.fold_pat_sym deep t)
  deep_pterm grammar.p_true = omega (arith, folds.fold_pat_true deep)
  deep_pterm grammar.p_false = omega (arith, folds.fold_pat_false deep)
  deep_pterm grammar.p_nil = omega (arith, folds.fold_pat_nil deep)
  deep_pterm grammar.p_undef = omega (arith, folds.fold_pat_undef deep)
  deep_pterm (grammar.p_value {a = a} h) = omega (arith, folds.fold_value deep a, deep_term h)
  deep_pterm grammar.p_empty = omega (arith, folds.fold_pat_nil deep)
  deep_pterm (grammar.p_paren h) = omega (arith, deep_pat h)

pub shallow : TreesAreShallow
shallow n ks xs h = deep_stmts h
