-- A tree is no larger than its tokens weigh.
use Rattle.std.proofs.Common.{◌≡◌, ℕ, ◌+◌, ◌≤◌, List, [], ◌∷◌, ◌++◌, map, refl, ap, arith}
use Rattle.std.specs.Prelude.{sum}
use Rattle.std.proofs.lemmas.List.Sums.{sum_by-cons}
use Rattle.hum_syntax.specs.declared.token.TokenKind.TheVariants as k
use Rattle.hum_syntax.specs.declared.keyword.Keyword.TheVariants as w
use Rattle.hum_syntax.specs.declared.tree.Expr.{Expr}
use Rattle.hum_syntax.specs.declared.tree.Pat.{Pat}
use Rattle.hum_syntax.specs.declared.tree.Stmt.{Stmt}
use Rattle.hum_syntax.specs.declared.tree.Arm.{Arm}
use Rattle.hum_syntax.specs.declared.tree.Branch.{Branch}
use Rattle.hum_syntax.specs.declared.tree.Expr.TheVariants as e
use Rattle.hum_syntax.specs.declared.tree.Pat.TheVariants as p
use Rattle.hum_syntax.specs.Tokens.{Placed, weight_of, weight, all_placed, kinds_of, weight_of_kinds}
use Rattle.hum_syntax.specs.Sizes.{expr_size, pat_size, stmt_size, arm_size, branch_size, size_of_expr, size_of_pat, size_of_stmt, size_of_arm, size_of_branch, size_of}
use Rattle.hum_syntax.specs.Laws.{TreesAreLight}
use Rattle.hum_syntax.specs.declared.token.Token.{Token}
use Rattle.hum_syntax.specs.Spells as grammar
use Rattle.hum_syntax.specs.Spells.{Kinds, kinds, IsStmts, IsStmt, IsExpr, IsItems, IsTerm, IsCalls, IsAtom, IsBlock, IsBranches, IsArms, IsArm, IsPat, IsPats, IsPterm}
use Rattle.hum_syntax.proofs.Folding as folds
use Rattle.hum_syntax.proofs.Folding.{Steps}

abbrev pub sized : Steps ℕ ℕ ℕ ℕ ℕ
sized = record { expr = expr_size; pat = pat_size; stmt = stmt_size; an_arm = arm_size; a_branch = branch_size }

weight_of_kinds-append : (us vs : Kinds) → weight_of_kinds (us ++ vs) ≡ weight_of_kinds us + weight_of_kinds vs
weight_of_kinds-append [] vs = omega arith
weight_of_kinds-append (u ∷ us) vs = omega (arith, weight_of_kinds-append us vs)

pub weight-kinds : (ts : List Placed) → weight ts ≡ weight_of_kinds (kinds_of ts)
weight-kinds [] = refl
weight-kinds (t ∷ ts) = ap (λ n. weight_of t.kind + n) (weight-kinds ts)

pub sum-cons : {X : Type 0} (f : X → ℕ) (x : X) (xs : List X) → sum (map f (x ∷ xs)) ≡ f x + sum (map f xs)
sum-cons f x xs = sum_by-cons (λ n. n) (f x) (map f xs)

mutual
  pub sized_stmts : {n : ℕ} {us : Kinds} {xs : List Stmt} → IsStmts n us xs → size_of xs ≤ weight_of_kinds us
  sized_stmts grammar.stmts_none = omega arith
  sized_stmts (grammar.stmts_more {us = us} {vs = vs} {x = x} {xs = xs} h h') =
      omega (arith, sum-cons size_of_stmt x xs, weight_of_kinds-append us vs, sized_stmt h, sized_stmts h')

  pub sized_stmt : {n : ℕ} {us : Kinds} {x : Stmt} → IsStmt n us x → size_of_stmt x ≤ weight_of_kinds us
  sized_stmt (grammar.let_is {us = us} {vs = vs} {x = x} {a = a} h h') =
      omega (arith, folds.fold_let sized x a, weight_of_kinds-append us (k.Equals ∷ vs), sized_pat h, sized_expr h')
  sized_stmt (grammar.let_unit {f = f} {a = a} h) =
      omega (
        arith,
        folds.fold_let sized (p.Bind f) (e.Abs p.Nil a),
        folds.fold_bind sized f,
        folds.fold_abs sized p.Nil a,
        folds.fold_pat_nil sized,
        sized_expr h,
      )
  sized_stmt (grammar.let_fun {f = f} {us = us} {vs = vs} {x = x} {a = a} h h') =
      omega (
        arith,
        folds.fold_let sized (p.Bind f) (e.Abs x a),
        folds.fold_bind sized f,
        folds.fold_abs sized x a,
        weight_of_kinds-append us (k.ParenRight ∷ k.Equals ∷ vs),
        sized_pat h,
        sized_expr h',
      )
  sized_stmt (grammar.send {us = us} {vs = vs} {a = a} {b = b} h h') =
      omega (arith, folds.fold_send sized a b, weight_of_kinds-append us (k.Keyword w.KwTo ∷ vs), sized_expr h, sized_expr h')
  sized_stmt (grammar.create {f = f} {a = a} h) = omega (arith, folds.fold_create sized f a, sized_expr h)
  sized_stmt (grammar.become {a = a} h) = omega (arith, folds.fold_become sized a, sized_expr h)
  sized_stmt (grammar.throw {a = a} h) = omega (arith, folds.fold_throw sized a, sized_expr h)
  sized_stmt (grammar.does {a = a} h) = omega (arith, folds.fold_do sized a, sized_expr h)

  pub sized_expr : {n : ℕ} {us : Kinds} {a : Expr} → IsExpr n us a → size_of_expr a ≤ weight_of_kinds us
  sized_expr (grammar.expr_only {a = a} h) = omega (arith, sum-cons size_of_expr a [], sized_items h)
  -- there are as many commas as items, but one
  sized_expr (grammar.expr_tuple {a = a} {b = b} {xs = xs} h) = omega (arith, folds.fold_tuple sized (a ∷ b ∷ xs), commas h)

  -- a list of several items has a comma at least
  commas : {n : ℕ} {us : Kinds} {a b : Expr} {xs : List Expr} → IsItems n us (a ∷ b ∷ xs)
      → 1 + sum (map size_of_expr (a ∷ b ∷ xs)) ≤ weight_of_kinds us
  commas (grammar.item_comma {us = us} {vs = vs} {a = a} {xs = xs} h h') =
      omega (arith, sum-cons size_of_expr a xs, weight_of_kinds-append us (k.Comma ∷ vs), sized_term h, sized_items h')

  pub sized_items : {n : ℕ} {us : Kinds} {xs : List Expr} → IsItems n us xs → sum (map size_of_expr xs) ≤ weight_of_kinds us
  sized_items (grammar.item_abs {us = us} {vs = vs} {x = x} {a = a} h h') =
      omega (
        arith,
        sum-cons size_of_expr (e.Abs x a) [],
        folds.fold_abs sized x a,
        weight_of_kinds-append us (k.Dot ∷ vs),
        sized_pat h,
        sized_expr h',
      )
  sized_items (grammar.item_last {a = a} h) = omega (arith, sum-cons size_of_expr a [], sized_term h)
  sized_items (grammar.item_comma {us = us} {vs = vs} {a = a} {xs = xs} h h') =
      omega (arith, sum-cons size_of_expr a xs, weight_of_kinds-append us (k.Comma ∷ vs), sized_term h, sized_items h')

  pub sized_term : {n : ℕ} {us : Kinds} {a : Expr} → IsTerm n us a → size_of_expr a ≤ weight_of_kinds us
  sized_term (grammar.chain {us = us} {vs = vs} h h') = omega (arith, weight_of_kinds-append us vs, sized_atom h, sized_calls h')
  sized_term (grammar.new {a = a} h) = omega (arith, folds.fold_new sized a, sized_term h)
  sized_term (grammar.case {us = us} {vs = vs} {a = a} {xs = xs} h h') =
      omega (
        arith,
        folds.fold_case sized a xs,
        weight_of_kinds-append (us ++ k.Keyword w.KwOf ∷ vs) (k.Keyword w.KwEnd ∷ []),
        weight_of_kinds-append us (k.Keyword w.KwOf ∷ vs),
        sized_expr h,
        sized_arms h',
      )
  sized_term (grammar.if {xs = xs} h) = omega (arith, folds.fold_if sized xs, sized_branches h)
  sized_term (grammar.if_else {us = us} {vs = vs} {xs = xs} {ys = ys} h h') =
      omega (arith, folds.fold_if_else sized xs ys, weight_of_kinds-append us (k.Keyword w.KwElse ∷ vs), sized_branches h, sized_block h')

  -- a chain adds what its calls weigh
  pub sized_calls : {n : ℕ} {us : Kinds} {f a : Expr} → IsCalls n f us a → size_of_expr a ≤ size_of_expr f + weight_of_kinds us
  sized_calls grammar.calls_done = omega arith
  sized_calls (grammar.calls_unit {f = f} h) = omega (arith, folds.fold_call sized f e.Nil, folds.fold_nil sized, sized_calls h)
  sized_calls (grammar.calls_call {f = f} {x = x} {us = us} {vs = vs} h h') =
      omega (arith, folds.fold_call sized f x, weight_of_kinds-append us (k.ParenRight ∷ vs), sized_expr h, sized_calls h')

  pub sized_atom : {n : ℕ} {us : Kinds} {a : Expr} → IsAtom n us a → size_of_expr a ≤ weight_of_kinds us
  sized_atom (grammar.number {z = z}) = omega (arith, folds.fold_num sized z)
  sized_atom (grammar.symbol {t = t}) = omega (arith, folds.fold_sym sized t)
  sized_atom (grammar.text {t = t}) = omega (arith, folds.fold_text sized t)
  sized_atom grammar.true = omega (arith, folds.fold_true sized)
  sized_atom grammar.false = omega (arith, folds.fold_false sized)
  sized_atom grammar.nil = omega (arith, folds.fold_nil sized)
  sized_atom grammar.undef = omega (arith, folds.fold_undef sized)
  sized_atom (grammar.name {t = t}) = omega (arith, folds.fold_var sized t)
  sized_atom grammar.myself = omega (arith, folds.fold_myself sized)
  sized_atom grammar.empty = omega (arith, folds.fold_nil sized)
  sized_atom (grammar.paren {us = us} h) = omega (arith, weight_of_kinds-append us (k.ParenRight ∷ []), sized_expr h)
  sized_atom (grammar.block {xs = xs} h) = omega (arith, folds.fold_block sized xs, sized_block h)

  -- its brackets weigh 2
  pub sized_block : {n : ℕ} {us : Kinds} {xs : List Stmt} → IsBlock n us xs → 2 + size_of xs ≤ weight_of_kinds us
  sized_block (grammar.square {us = us} h) = omega (arith, weight_of_kinds-append us (k.SquareRight ∷ []), sized_stmts h)

  pub sized_branches : {n : ℕ} {us : Kinds} {xs : List Branch} → IsBranches n us xs → sum (map size_of_branch xs) ≤ weight_of_kinds us
  sized_branches (grammar.branch_last {us = us} {vs = vs} {a = a} {ys = ys} h h') =
      omega (
        arith,
        sum-cons size_of_branch (grammar.branch a ys) [],
        folds.fold_branch sized a ys,
        weight_of_kinds-append us vs,
        sized_expr h,
        sized_block h',
      )
  sized_branches (grammar.branch_elif {us = us} {vs = vs} {ws = ws} {a = a} {ys = ys} {xs = xs} h h' h'') =
      omega (
        arith,
        sum-cons size_of_branch (grammar.branch a ys) xs,
        folds.fold_branch sized a ys,
        weight_of_kinds-append us (vs ++ k.Keyword w.KwElif ∷ ws),
        weight_of_kinds-append vs (k.Keyword w.KwElif ∷ ws),
        sized_expr h,
        sized_block h',
        sized_branches h'',
      )

  pub sized_arms : {n : ℕ} {us : Kinds} {xs : List Arm} → IsArms n us xs → sum (map size_of_arm xs) ≤ weight_of_kinds us
  sized_arms (grammar.arms_last {x = x} h) = omega (arith, sum-cons size_of_arm x [], sized_arm h)
  sized_arms (grammar.arms_more {us = us} {vs = vs} {x = x} {xs = xs} h h') =
      omega (arith, sum-cons size_of_arm x xs, weight_of_kinds-append us vs, sized_arm h, sized_arms h')

  pub sized_arm : {n : ℕ} {us : Kinds} {x : Arm} → IsArm n us x → size_of_arm x ≤ weight_of_kinds us
  sized_arm (grammar.colon {us = us} {vs = vs} {x = x} {a = a} h h') =
      omega (arith, folds.fold_arm sized x a, weight_of_kinds-append us (k.Colon ∷ vs), sized_pat h, sized_expr h')

  pub sized_pat : {n : ℕ} {us : Kinds} {x : Pat} → IsPat n us x → size_of_pat x ≤ weight_of_kinds us
  sized_pat (grammar.pat_only {x = x} h) = omega (arith, sum-cons size_of_pat x [], sized_pats h)
  sized_pat (grammar.pat_tuple {x = x} {y = y} {xs = xs} h) = omega (arith, folds.fold_pat_tuple sized (x ∷ y ∷ xs), pat_commas h)

  pat_commas : {n : ℕ} {us : Kinds} {x y : Pat} {xs : List Pat} → IsPats n us (x ∷ y ∷ xs)
      → 1 + sum (map size_of_pat (x ∷ y ∷ xs)) ≤ weight_of_kinds us
  pat_commas (grammar.pats_comma {us = us} {vs = vs} {x = x} {xs = xs} h h') =
      omega (arith, sum-cons size_of_pat x xs, weight_of_kinds-append us (k.Comma ∷ vs), sized_pterm h, sized_pats h')

  pub sized_pats : {n : ℕ} {us : Kinds} {xs : List Pat} → IsPats n us xs → sum (map size_of_pat xs) ≤ weight_of_kinds us
  sized_pats (grammar.pats_last {x = x} h) = omega (arith, sum-cons size_of_pat x [], sized_pterm h)
  sized_pats (grammar.pats_comma {us = us} {vs = vs} {x = x} {xs = xs} h h') =
      omega (arith, sum-cons size_of_pat x xs, weight_of_kinds-append us (k.Comma ∷ vs), sized_pterm h, sized_pats h')

  pub sized_pterm : {n : ℕ} {us : Kinds} {x : Pat} → IsPterm n us x → size_of_pat x ≤ weight_of_kinds us
  sized_pterm grammar.p_any = omega (arith, folds.fold_any sized)
  sized_pterm (grammar.p_name {t = t}) = omega (arith, folds.fold_bind sized t)
  sized_pterm (grammar.p_number {z = z}) = omega (arith, folds.fold_pat_num sized z)
  sized_pterm (grammar.p_symbol {t = t}) = omega (arith, folds.fold_pat_sym sized t)
  sized_pterm grammar.p_true = omega (arith, folds.fold_pat_true sized)
  sized_pterm grammar.p_false = omega (arith, folds.fold_pat_false sized)
  sized_pterm grammar.p_nil = omega (arith, folds.fold_pat_nil sized)
  sized_pterm grammar.p_undef = omega (arith, folds.fold_pat_undef sized)
  sized_pterm (grammar.p_value {a = a} h) = omega (arith, folds.fold_value sized a, sized_term h)
  sized_pterm grammar.p_empty = omega (arith, folds.fold_pat_nil sized)
  sized_pterm (grammar.p_paren {us = us} h) = omega (arith, weight_of_kinds-append us (k.ParenRight ∷ []), sized_pat h)

pub spelled_size : TreesAreLight
spelled_size n ts xs h = omega (arith, weight-kinds ts, sized_stmts h)

-- the places of tokens play no part
pub kinds_of-placed : (ts : List Token) → kinds_of (all_placed ts) ≡ kinds ts
kinds_of-placed [] = refl
kinds_of-placed (t ∷ ts) = ap (λ ks. t.kind ∷ ks) (kinds_of-placed ts)
