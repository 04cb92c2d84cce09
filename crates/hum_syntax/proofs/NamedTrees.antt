-- The names among the tokens are those of the tree that they spell, in order.
use Rattle.std.proofs.Common.{◌≡◌, ℕ, zero, suc, List, [], ◌∷◌, ◌++◌, map, length, Some, refl, sym, ap, ◌∙◌, subst, append_assoc}
use Rattle.std.specs.Prelude.{slice_get}
use Rattle.std.specs.List.{flat_map}
use Rattle.std.proofs.lemmas.Grind.{flat_map-append}
use Rattle.std.proofs.lemmas.List.{append-nil}
use Rattle.std.proofs.lemmas.List.Folds.{flat_map-map}
use Rattle.hum_syntax.specs.declared.token.TokenKind.{TokenKind}
use Rattle.hum_syntax.specs.declared.token.TokenKind.TheVariants as k
use Rattle.hum_syntax.specs.declared.keyword.Keyword.TheVariants as w
use Rattle.hum_syntax.specs.declared.tree.Expr.{Expr}
use Rattle.hum_syntax.specs.declared.tree.Pat.{Pat}
use Rattle.hum_syntax.specs.declared.tree.Stmt.{Stmt}
use Rattle.hum_syntax.specs.declared.tree.Arm.{Arm}
use Rattle.hum_syntax.specs.declared.tree.Branch.{Branch}
use Rattle.hum_syntax.specs.declared.tree.Expr.TheVariants as e
use Rattle.hum_syntax.specs.declared.tree.Pat.TheVariants as p
use Rattle.hum_syntax.specs.Names.{Names, joined, expr_names, pat_names, stmt_names, arm_names, branch_names, names_of_expr, names_of_pat, names_of_stmt, names_of_arm, names_of_branch, names_of, name_of_kind, names_of_kinds}
use Rattle.hum_syntax.specs.Forms.{Bytes}
use Rattle.hum_syntax.specs.Laws.{NamesAreSpelled, IsNameAt, NamesHaveTokens}
use Rattle.hum_syntax.specs.Spells as grammar
use Rattle.hum_syntax.specs.Spells.{Kinds, IsStmts, IsStmt, IsExpr, IsItems, IsTerm, IsCalls, IsAtom, IsBlock, IsBranches, IsArms, IsArm, IsPat, IsPats, IsPterm}
use Rattle.hum_syntax.proofs.Folding as folds
use Rattle.hum_syntax.proofs.Folding.{Steps}

abbrev named : Steps Names Names Names Names Names
named = record { expr = expr_names; pat = pat_names; stmt = stmt_names; an_arm = arm_names; a_branch = branch_names }

-- two spellings side by side
beside : {x y : Names} (us vs : Kinds) → x ≡ names_of_kinds us → y ≡ names_of_kinds vs → x ++ y ≡ names_of_kinds (us ++ vs)
beside {y = y} us vs h h' = ap (λ z. z ++ y) h ∙ ap (λ z. names_of_kinds us ++ z) h' ∙ sym (flat_map-append name_of_kind us vs)

-- a last token that is no name
shut : {x : Names} (us ks : Kinds) → names_of_kinds ks ≡ [] → x ≡ names_of_kinds us → x ≡ names_of_kinds (us ++ ks)
shut us ks none h = sym (append-nil _) ∙ beside us ks h (sym none)

-- the names of a list of nodes
listed : {X : Type 0} (f : X → Names) (xs : List X) → joined (map f xs) ≡ flat_map f xs
listed f xs = flat_map-map (λ names. names) f xs

mutual
  pub named_stmts : {n : ℕ} {us : Kinds} {xs : List Stmt} → IsStmts n us xs → names_of xs ≡ names_of_kinds us
  named_stmts grammar.stmts_none = refl
  named_stmts (grammar.stmts_more {us = us} {vs = vs} h h') = beside us vs (named_stmt h) (named_stmts h')

  pub named_stmt : {n : ℕ} {us : Kinds} {x : Stmt} → IsStmt n us x → names_of_stmt x ≡ names_of_kinds us
  named_stmt (grammar.let_is {us = us} {vs = vs} {x = x} {a = a} h h') =
      folds.fold_let named x a ∙ beside us (k.Equals ∷ vs) (named_pat h) (named_expr h')
  named_stmt (grammar.let_unit {f = f} {a = a} h) =
      folds.fold_let named (p.Bind f) (e.Abs p.Nil a)
      ∙ ap (λ z. z ++ names_of_expr (e.Abs p.Nil a)) (folds.fold_bind named f)
      ∙ ap (λ z. f ∷ z) (folds.fold_abs named p.Nil a ∙ ap (λ z. z ++ names_of_expr a) (folds.fold_pat_nil named) ∙ named_expr h)
  named_stmt (grammar.let_fun {f = f} {us = us} {vs = vs} {x = x} {a = a} h h') =
      folds.fold_let named (p.Bind f) (e.Abs x a)
      ∙ ap (λ z. z ++ names_of_expr (e.Abs x a)) (folds.fold_bind named f)
      ∙ ap (λ z. f ∷ z) (folds.fold_abs named x a ∙ beside us (k.ParenRight ∷ k.Equals ∷ vs) (named_pat h) (named_expr h'))
  named_stmt (grammar.send {us = us} {vs = vs} {a = a} {b = b} h h') =
      folds.fold_send named a b ∙ beside us (k.Keyword w.KwTo ∷ vs) (named_expr h) (named_expr h')
  named_stmt (grammar.create {f = f} {a = a} h) = folds.fold_create named f a ∙ ap (λ z. f ∷ z) (named_expr h)
  named_stmt (grammar.become {a = a} h) = folds.fold_become named a ∙ named_expr h
  named_stmt (grammar.throw {a = a} h) = folds.fold_throw named a ∙ named_expr h
  named_stmt (grammar.does {a = a} h) = folds.fold_do named a ∙ named_expr h

  pub named_expr : {n : ℕ} {us : Kinds} {a : Expr} → IsExpr n us a → names_of_expr a ≡ names_of_kinds us
  named_expr (grammar.expr_only {a = a} h) = sym (append-nil (names_of_expr a)) ∙ named_items h
  named_expr (grammar.expr_tuple {a = a} {b = b} {xs = xs} h) =
      folds.fold_tuple named (a ∷ b ∷ xs) ∙ listed names_of_expr (a ∷ b ∷ xs) ∙ named_items h

  pub named_items : {n : ℕ} {us : Kinds} {xs : List Expr} → IsItems n us xs → flat_map names_of_expr xs ≡ names_of_kinds us
  named_items (grammar.item_abs {us = us} {vs = vs} {x = x} {a = a} h h') =
      append-nil (names_of_expr (e.Abs x a)) ∙ folds.fold_abs named x a ∙ beside us (k.Dot ∷ vs) (named_pat h) (named_expr h')
  named_items (grammar.item_last {a = a} h) = append-nil (names_of_expr a) ∙ named_term h
  named_items (grammar.item_comma {us = us} {vs = vs} h h') = beside us (k.Comma ∷ vs) (named_term h) (named_items h')

  pub named_term : {n : ℕ} {us : Kinds} {a : Expr} → IsTerm n us a → names_of_expr a ≡ names_of_kinds us
  named_term (grammar.chain {us = us} {vs = vs} h h') = named_calls h' ∙ beside us vs (named_atom h) refl
  named_term (grammar.new {a = a} h) = folds.fold_new named a ∙ named_term h
  named_term (grammar.case {us = us} {vs = vs} {a = a} {xs = xs} h h') =
      folds.fold_case named a xs
      ∙ shut (us ++ k.Keyword w.KwOf ∷ vs) (k.Keyword w.KwEnd ∷ []) refl
      (beside us (k.Keyword w.KwOf ∷ vs) (named_expr h) (listed names_of_arm xs ∙ named_arms h'))
  named_term (grammar.if {xs = xs} h) = folds.fold_if named xs ∙ listed names_of_branch xs ∙ named_branches h
  named_term (grammar.if_else {us = us} {vs = vs} {xs = xs} {ys = ys} h h') =
      folds.fold_if_else named xs ys
      ∙ beside us (k.Keyword w.KwElse ∷ vs) (listed names_of_branch xs ∙ named_branches h) (listed names_of_stmt ys ∙ named_block h')

  -- a chain adds the names of the arguments to those of the callee
  pub named_calls : {n : ℕ} {us : Kinds} {f a : Expr} → IsCalls n f us a → names_of_expr a ≡ names_of_expr f ++ names_of_kinds us
  named_calls (grammar.calls_done {f = f}) = sym (append-nil (names_of_expr f))
  named_calls (grammar.calls_unit {f = f} {vs = vs} h) =
      named_calls h
      ∙ ap (λ z. z ++ names_of_kinds vs)
      (folds.fold_call named f e.Nil ∙ ap (λ z. names_of_expr f ++ z) (folds.fold_nil named) ∙ append-nil (names_of_expr f))
  named_calls (grammar.calls_call {f = f} {x = x} {us = us} {vs = vs} h h') =
      named_calls h'
      ∙ ap (λ z. z ++ names_of_kinds vs) (folds.fold_call named f x)
      ∙ append_assoc (names_of_expr f) (names_of_expr x) (names_of_kinds vs)
      ∙ ap (λ z. names_of_expr f ++ z) (beside us (k.ParenRight ∷ vs) (named_expr h) refl)

  pub named_atom : {n : ℕ} {us : Kinds} {a : Expr} → IsAtom n us a → names_of_expr a ≡ names_of_kinds us
  named_atom (grammar.number {z = z}) = folds.fold_num named z
  named_atom (grammar.symbol {t = t}) = folds.fold_sym named t
  named_atom (grammar.text {t = t}) = folds.fold_text named t
  named_atom grammar.true = folds.fold_true named
  named_atom grammar.false = folds.fold_false named
  named_atom grammar.nil = folds.fold_nil named
  named_atom grammar.undef = folds.fold_undef named
  named_atom (grammar.name {t = t}) = folds.fold_var named t
  named_atom grammar.myself = folds.fold_myself named
  named_atom grammar.empty = folds.fold_nil named
  named_atom (grammar.paren {us = us} h) = shut us (k.ParenRight ∷ []) refl (named_expr h)
  named_atom (grammar.block {xs = xs} h) = folds.fold_block named xs ∙ listed names_of_stmt xs ∙ named_block h

  pub named_block : {n : ℕ} {us : Kinds} {xs : List Stmt} → IsBlock n us xs → names_of xs ≡ names_of_kinds us
  named_block (grammar.square {us = us} h) = shut us (k.SquareRight ∷ []) refl (named_stmts h)

  pub named_branches : {n : ℕ} {us : Kinds} {xs : List Branch} → IsBranches n us xs → flat_map names_of_branch xs ≡ names_of_kinds us
  named_branches (grammar.branch_last {us = us} {vs = vs} {a = a} {ys = ys} h h') =
      append-nil _ ∙ folds.fold_branch named a ys ∙ beside us vs (named_expr h) (listed names_of_stmt ys ∙ named_block h')
  named_branches (grammar.branch_elif {us = us} {vs = vs} {ws = ws} {a = a} {ys = ys} {xs = xs} h h' h'') =
      ap (λ z. z ++ flat_map names_of_branch xs) (folds.fold_branch named a ys)
      ∙ append_assoc (names_of_expr a) (joined (map names_of_stmt ys)) (flat_map names_of_branch xs)
      ∙ beside us (vs ++ k.Keyword w.KwElif ∷ ws) (named_expr h)
      (beside vs (k.Keyword w.KwElif ∷ ws) (listed names_of_stmt ys ∙ named_block h') (named_branches h''))

  pub named_arms : {n : ℕ} {us : Kinds} {xs : List Arm} → IsArms n us xs → flat_map names_of_arm xs ≡ names_of_kinds us
  named_arms (grammar.arms_last {x = x} h) = append-nil (names_of_arm x) ∙ named_arm h
  named_arms (grammar.arms_more {us = us} {vs = vs} h h') = beside us vs (named_arm h) (named_arms h')

  pub named_arm : {n : ℕ} {us : Kinds} {x : Arm} → IsArm n us x → names_of_arm x ≡ names_of_kinds us
  named_arm (grammar.colon {us = us} {vs = vs} {x = x} {a = a} h h') =
      folds.fold_arm named x a ∙ beside us (k.Colon ∷ vs) (named_pat h) (named_expr h')

  pub named_pat : {n : ℕ} {us : Kinds} {x : Pat} → IsPat n us x → names_of_pat x ≡ names_of_kinds us
  named_pat (grammar.pat_only {x = x} h) = sym (append-nil (names_of_pat x)) ∙ named_pats h
  named_pat (grammar.pat_tuple {x = x} {y = y} {xs = xs} h) =
      folds.fold_pat_tuple named (x ∷ y ∷ xs) ∙ listed names_of_pat (x ∷ y ∷ xs) ∙ named_pats h

  pub named_pats : {n : ℕ} {us : Kinds} {xs : List Pat} → IsPats n us xs → flat_map names_of_pat xs ≡ names_of_kinds us
  named_pats (grammar.pats_last {x = x} h) = append-nil (names_of_pat x) ∙ named_pterm h
  named_pats (grammar.pats_comma {us = us} {vs = vs} h h') = beside us (k.Comma ∷ vs) (named_pterm h) (named_pats h')

  pub named_pterm : {n : ℕ} {us : Kinds} {x : Pat} → IsPterm n us x → names_of_pat x ≡ names_of_kinds us
  named_pterm grammar.p_any = folds.fold_any named
  named_pterm (grammar.p_name {t = t}) = folds.fold_bind named t
  named_pterm (grammar.p_number {z = z}) = folds.fold_pat_num named z
  named_pterm (grammar.p_symbol {t = t}) = folds.fold_pat_sym named t
  named_pterm grammar.p_true = folds.fold_pat_true named
  named_pterm grammar.p_false = folds.fold_pat_false named
  named_pterm grammar.p_nil = folds.fold_pat_nil named
  named_pterm grammar.p_undef = folds.fold_pat_undef named
  named_pterm (grammar.p_value {a = a} h) = folds.fold_value named a ∙ named_term h
  named_pterm grammar.p_empty = folds.fold_pat_nil named
  named_pterm (grammar.p_paren {us = us} h) = shut us (k.ParenRight ∷ []) refl (named_pat h)

pub spelled_names : NamesAreSpelled
spelled_names n ks xs h = named_stmts h

-- one more token in front that is no name
behind : {ks : Kinds} {at : ℕ} {name : Bytes} (kind : TokenKind) → name_of_kind kind ≡ [] → IsNameAt ks at name → IsNameAt (kind ∷ ks) at name
behind kind none h = record {
  front = kind ∷ h.front;
  rest = h.rest;
  split = ap (λ ks. kind ∷ ks) h.split;
  before = ap (λ names. length (names ++ names_of_kinds h.front)) none ∙ h.before;
}

-- the token of a name, by the number of names before it
name_at : (ks : Kinds) (at : ℕ) (name : Bytes) → slice_get (names_of_kinds ks) at ≡ Some name → IsNameAt ks at name
name_at [] at name h = absurd (cc)
name_at (k.Name t ∷ ks) zero name h = record { front = []; rest = ks; split = ap (λ u. k.Name u ∷ ks) (let e : t ≡ name = cc in e); before = refl }
name_at (k.Name t ∷ ks) (suc at) name h =
    let inner = name_at ks at name h in
    record { front = k.Name t ∷ inner.front; rest = inner.rest; split = ap (λ ks. k.Name t ∷ ks) inner.split; before = ap suc inner.before }
name_at (kind ∷ ks) at name h = behind kind refl (name_at ks at name h)

-- and back
at_name : (front rest : Kinds) (name : Bytes) → slice_get (names_of_kinds (front ++ k.Name name ∷ rest)) (length (names_of_kinds front)) ≡ Some name
at_name [] rest name = refl
at_name (k.Name t ∷ front) rest name = at_name front rest name
at_name (kind ∷ front) rest name = at_name front rest name

pub spelled_name_at : NamesHaveTokens
spelled_name_at n ks xs h at name = (
  λ found. name_at ks at name (subst (λ names. slice_get names at ≡ Some name) (named_stmts h) found),
  λ is. ap (λ names. slice_get names at) (named_stmts h)
      ∙ subst (λ us. slice_get (names_of_kinds us) at ≡ Some name) (sym is.split)
      (subst (λ i. slice_get (names_of_kinds (is.front ++ k.Name name ∷ is.rest)) i ≡ Some name) is.before (at_name is.front is.rest name)),
)
