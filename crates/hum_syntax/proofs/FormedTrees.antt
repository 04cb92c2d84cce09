-- Where each token carries what it may, the tree that the tokens spell is formed.
use Rattle.std.proofs.Common.{◌≡◌, ℕ, zero, suc, Bool, true, false, List, [], ◌∷◌, ◌++◌, map, length, refl, subst, arith, sym, ap, ◌∙◌, inl, inr}
use Rattle.std.specs.Prelude.{not, ◌&&◌, nat_le, codes}
use Rattle.std.specs.List.{list_all}
use Rattle.std.proofs.lemmas.Bool.{and_parts, and_from, cases_Bool, true≢false}
use Rattle.std.proofs.lemmas.Bool.Decides.{nat_tests}
use Rattle.std.proofs.lemmas.List.Folds.{list_all-append, list_all-map}
use Rattle.std.proofs.lemmas.Slice.Eq.{bytes_eq-Decides}
use Rattle.hum_syntax.specs.declared.token.TokenKind.TheVariants as k
use Rattle.hum_syntax.specs.declared.keyword.Keyword.TheVariants as w
use Rattle.hum_syntax.specs.declared.tree.Expr.{Expr}
use Rattle.hum_syntax.specs.declared.tree.Pat.{Pat}
use Rattle.hum_syntax.specs.declared.tree.Stmt.{Stmt}
use Rattle.hum_syntax.specs.declared.tree.Arm.{Arm}
use Rattle.hum_syntax.specs.declared.tree.Branch.{Branch}
use Rattle.hum_syntax.specs.declared.tree.Expr.TheVariants as e
use Rattle.hum_syntax.specs.declared.tree.Pat.TheVariants as p
use Rattle.hum_syntax.specs.Forms.{is_name, is_run, is_text, is_in_range}
use Rattle.hum_syntax.specs.Kinds.{is_carried}
use Rattle.hum_syntax.specs.Formed.{is_timer, expr_formed, pat_formed, stmt_formed, arm_formed, branch_formed, is_formed_expr, is_formed_pat, is_formed_stmt, is_formed_arm, is_formed_branch, are_formed}
use Rattle.hum_syntax.specs.Laws.{SpelledTreesAreFormed}
use Rattle.hum_syntax.specs.declared.token.Token.{Token}
use Rattle.hum_syntax.specs.Spells as grammar
use Rattle.hum_syntax.specs.Spells.{Kinds, kinds, IsStmts, IsStmt, IsExpr, IsItems, IsTerm, IsCalls, IsAtom, IsBlock, IsBranches, IsArms, IsArm, IsPat, IsPats, IsPterm}
use Rattle.hum_syntax.proofs.Folding as folds
use Rattle.hum_syntax.proofs.Folding.{Steps}

abbrev pub formed : Steps Bool Bool Bool Bool Bool
formed = record { expr = expr_formed; pat = pat_formed; stmt = stmt_formed; an_arm = arm_formed; a_branch = branch_formed }

-- each token carries what it may
abbrev Carried : Kinds → Type 0
Carried ks = list_all is_carried ks ≡ true

front : (us vs : Kinds) → Carried (us ++ vs) → Carried us
front us vs c = (and_parts (list_all is_carried us) (list_all is_carried vs) (sym (list_all-append is_carried us vs) ∙ c)).0

back : (us vs : Kinds) → Carried (us ++ vs) → Carried vs
back us vs c = (and_parts (list_all is_carried us) (list_all is_carried vs) (sym (list_all-append is_carried us vs) ∙ c)).1

both : {a b : Bool} → a ≡ true → b ≡ true → (a && b) ≡ true
both {a} {b} h h' = and_from a b h h'

some : (n : ℕ) → nat_le 1 (suc n) ≡ true
some n = grind (arith, nat_tests)

several : (n : ℕ) → nat_le 2 (suc (suc n)) ≡ true
several n = grind (arith, nat_tests)

-- a name is not the timer's, which is a keyword
is_no_timer : (t : List ℕ) → is_name t ≡ true → is_timer t ≡ false
is_no_timer t named = elim (cases_Bool (is_timer t)) [
  | inl same ↦ (let no : is_name (codes "AFTER") ≡ true = subst (λ u. is_name u ≡ true) ((bytes_eq-Decides t (codes "AFTER")).0 same) named in absurd
      (true≢false (sym no)))
  | inr other ↦ other
]

var_formed : (t : List ℕ) → is_name t ≡ true → is_formed_expr (e.Var t) ≡ true
var_formed t named = folds.fold_var formed t ∙ both named (ap not (is_no_timer t named))

some_branches : {n : ℕ} {us : Kinds} {xs : List Branch} → IsBranches n us xs → nat_le 1 (length (map is_formed_branch xs)) ≡ true
some_branches (grammar.branch_last h h') = some zero
some_branches (grammar.branch_elif {xs = xs} h h' h'') = some (length (map is_formed_branch xs))

some_arms : {n : ℕ} {us : Kinds} {xs : List Arm} → IsArms n us xs → nat_le 1 (length (map is_formed_arm xs)) ≡ true
some_arms (grammar.arms_last h) = some zero
some_arms (grammar.arms_more {xs = xs} h h') = some (length (map is_formed_arm xs))

mutual
  pub formed_stmts : {n : ℕ} {us : Kinds} {xs : List Stmt} → IsStmts n us xs → Carried us → are_formed xs ≡ true
  formed_stmts grammar.stmts_none c = refl
  formed_stmts (grammar.stmts_more {us = us} {vs = vs} first more) c = both (formed_stmt first (front us vs c)) (formed_stmts more (back us vs c))

  pub formed_stmt : {n : ℕ} {us : Kinds} {x : Stmt} → IsStmt n us x → Carried us → is_formed_stmt x ≡ true
  formed_stmt (grammar.let_is {us = us} {vs = vs} {x = x} {a = a} h h') c =
      folds.fold_let formed x a ∙ both (formed_pat h (front us (k.Equals ∷ vs) c)) (formed_expr h' (back us (k.Equals ∷ vs) c))
  formed_stmt (grammar.let_unit {f = f} {vs = vs} {a = a} h) c =
      let parts = and_parts (is_name f) (list_all is_carried vs) c in
      folds.fold_let formed (p.Bind f) (e.Abs p.Nil a)
      ∙ both (folds.fold_bind formed f ∙ parts.0) (folds.fold_abs formed p.Nil a ∙ both (folds.fold_pat_nil formed) (formed_expr h parts.1))
  formed_stmt (grammar.let_fun {f = f} {us = us} {vs = vs} {x = x} {a = a} h h') c =
      let rest = k.ParenRight ∷ k.Equals ∷ vs in
      let parts = and_parts (is_name f) (list_all is_carried (us ++ rest)) c in
      folds.fold_let formed (p.Bind f) (e.Abs x a)
      ∙ both (folds.fold_bind formed f ∙ parts.0)
      (folds.fold_abs formed x a ∙ both (formed_pat h (front us rest parts.1)) (formed_expr h' (back us rest parts.1)))
  formed_stmt (grammar.send {us = us} {vs = vs} {a = a} {b = b} h h') c =
      let rest = k.Keyword w.KwTo ∷ vs in
      folds.fold_send formed a b ∙ both (formed_expr h (front us rest c)) (formed_expr h' (back us rest c))
  formed_stmt (grammar.create {f = f} {us = us} {a = a} h) c =
      let parts = and_parts (is_name f) (list_all is_carried us) c in
      folds.fold_create formed f a ∙ both parts.0 (formed_expr h parts.1)
  formed_stmt (grammar.become {a = a} h) c = folds.fold_become formed a ∙ formed_expr h c
  formed_stmt (grammar.throw {a = a} h) c = folds.fold_throw formed a ∙ formed_expr h c
  formed_stmt (grammar.does {a = a} h) c = folds.fold_do formed a ∙ formed_expr h c

  pub formed_expr : {n : ℕ} {us : Kinds} {a : Expr} → IsExpr n us a → Carried us → is_formed_expr a ≡ true
  formed_expr (grammar.expr_only {a = a} h) c = (and_parts (is_formed_expr a) true (formed_items h c)).0
  formed_expr (grammar.expr_tuple {a = a} {b = b} {xs = xs} h) c =
      let items = a ∷ b ∷ xs in
      folds.fold_tuple formed items ∙ both (several (length (map is_formed_expr xs))) (list_all-map (λ b. b) is_formed_expr items ∙ formed_items h c)

  pub formed_items : {n : ℕ} {us : Kinds} {xs : List Expr} → IsItems n us xs → Carried us → list_all is_formed_expr xs ≡ true
  formed_items (grammar.item_abs {us = us} {vs = vs} {x = x} {a = a} h h') c =
      let rest = k.Dot ∷ vs in
      both (folds.fold_abs formed x a ∙ both (formed_pat h (front us rest c)) (formed_expr h' (back us rest c))) refl
  formed_items (grammar.item_last h) c = both (formed_term h c) refl
  formed_items (grammar.item_comma {us = us} {vs = vs} h h') c =
      let rest = k.Comma ∷ vs in both (formed_term h (front us rest c)) (formed_items h' (back us rest c))

  pub formed_term : {n : ℕ} {us : Kinds} {a : Expr} → IsTerm n us a → Carried us → is_formed_expr a ≡ true
  formed_term (grammar.chain {us = us} {vs = vs} h h') c = formed_calls h' (formed_atom h (front us vs c)) (back us vs c)
  formed_term (grammar.new {a = a} h) c = folds.fold_new formed a ∙ formed_term h c
  formed_term (grammar.case {us = us} {vs = vs} {a = a} {xs = xs} h h') c =
      let rest = k.Keyword w.KwOf ∷ vs in
      let subject = front (us ++ rest) (k.Keyword w.KwEnd ∷ []) c in
      folds.fold_case formed a xs
      ∙ both (both (some_arms h') (formed_expr h (front us rest subject)))
      (list_all-map (λ b. b) is_formed_arm xs ∙ formed_arms h' (back us rest subject))
  formed_term (grammar.if {xs = xs} h) c =
      folds.fold_if formed xs ∙ both (some_branches h) (list_all-map (λ b. b) is_formed_branch xs ∙ formed_branches h c)
  formed_term (grammar.if_else {us = us} {vs = vs} {xs = xs} {ys = ys} h h') c =
      let rest = k.Keyword w.KwElse ∷ vs in
      folds.fold_if_else formed xs ys
      ∙ both (both (some_branches h) (list_all-map (λ b. b) is_formed_branch xs ∙ formed_branches h (front us rest c)))
      (list_all-map (λ b. b) is_formed_stmt ys ∙ formed_block h' (back us rest c))

  pub formed_calls : {n : ℕ} {us : Kinds} {f a : Expr} → IsCalls n f us a → is_formed_expr f ≡ true → Carried us → is_formed_expr a ≡ true
  formed_calls grammar.calls_done callee c = callee
  formed_calls (grammar.calls_unit {f = f} h) callee c = formed_calls h (folds.fold_call formed f e.Nil ∙ both callee (folds.fold_nil formed)) c
  formed_calls (grammar.calls_call {f = f} {x = x} {us = us} {vs = vs} h h') callee c =
      let rest = k.ParenRight ∷ vs in
      formed_calls h' (folds.fold_call formed f x ∙ both callee (formed_expr h (front us rest c))) (back us rest c)

  pub formed_atom : {n : ℕ} {us : Kinds} {a : Expr} → IsAtom n us a → Carried us → is_formed_expr a ≡ true
  formed_atom (grammar.number {z = z}) c = folds.fold_num formed z ∙ (and_parts (is_in_range z) true c).0
  formed_atom (grammar.symbol {t = t}) c = folds.fold_sym formed t ∙ (and_parts (is_run t) true c).0
  formed_atom (grammar.text {t = t}) c = folds.fold_text formed t ∙ (and_parts (is_text t) true c).0
  formed_atom grammar.true c = folds.fold_true formed
  formed_atom grammar.false c = folds.fold_false formed
  formed_atom grammar.nil c = folds.fold_nil formed
  formed_atom grammar.undef c = folds.fold_undef formed
  formed_atom (grammar.name {t = t}) c = var_formed t (and_parts (is_name t) true c).0
  formed_atom grammar.myself c = folds.fold_myself formed
  formed_atom grammar.empty c = folds.fold_nil formed
  formed_atom (grammar.paren {us = us} h) c = formed_expr h (front us (k.ParenRight ∷ []) c)
  formed_atom (grammar.block {xs = xs} h) c = folds.fold_block formed xs ∙ list_all-map (λ b. b) is_formed_stmt xs ∙ formed_block h c

  pub formed_block : {n : ℕ} {us : Kinds} {xs : List Stmt} → IsBlock n us xs → Carried us → are_formed xs ≡ true
  formed_block (grammar.square {us = us} h) c = formed_stmts h (front us (k.SquareRight ∷ []) c)

  pub formed_branches : {n : ℕ} {us : Kinds} {xs : List Branch} → IsBranches n us xs → Carried us → list_all is_formed_branch xs ≡ true
  formed_branches (grammar.branch_last {us = us} {vs = vs} {a = a} {ys = ys} h h') c =
      both (folds.fold_branch formed a ys ∙ both (formed_expr h (front us vs c))
      (list_all-map (λ b. b) is_formed_stmt ys ∙ formed_block h' (back us vs c))) refl
  formed_branches (grammar.branch_elif {us = us} {vs = vs} {ws = ws} {a = a} {ys = ys} h h' h'') c =
      let rest = vs ++ k.Keyword w.KwElif ∷ ws in
      let behind = back us rest c in
      both (folds.fold_branch formed a ys
      ∙ both (formed_expr h (front us rest c))
      (list_all-map (λ b. b) is_formed_stmt ys ∙ formed_block h' (front vs (k.Keyword w.KwElif ∷ ws) behind)))
      (formed_branches h'' (back vs (k.Keyword w.KwElif ∷ ws) behind))

  pub formed_arms : {n : ℕ} {us : Kinds} {xs : List Arm} → IsArms n us xs → Carried us → list_all is_formed_arm xs ≡ true
  formed_arms (grammar.arms_last h) c = both (formed_arm h c) refl
  formed_arms (grammar.arms_more {us = us} {vs = vs} h h') c = both (formed_arm h (front us vs c)) (formed_arms h' (back us vs c))

  pub formed_arm : {n : ℕ} {us : Kinds} {x : Arm} → IsArm n us x → Carried us → is_formed_arm x ≡ true
  formed_arm (grammar.colon {us = us} {vs = vs} {x = x} {a = a} h h') c =
      let rest = k.Colon ∷ vs in
      folds.fold_arm formed x a ∙ both (formed_pat h (front us rest c)) (formed_expr h' (back us rest c))

  pub formed_pat : {n : ℕ} {us : Kinds} {x : Pat} → IsPat n us x → Carried us → is_formed_pat x ≡ true
  formed_pat (grammar.pat_only {x = x} h) c = (and_parts (is_formed_pat x) true (formed_pats h c)).0
  formed_pat (grammar.pat_tuple {x = x} {y = y} {xs = xs} h) c =
      let items = x ∷ y ∷ xs in
      folds.fold_pat_tuple formed items ∙ both (several (length (map is_formed_pat xs))) (list_all-map (λ b. b) is_formed_pat items ∙ formed_pats h c)

  pub formed_pats : {n : ℕ} {us : Kinds} {xs : List Pat} → IsPats n us xs → Carried us → list_all is_formed_pat xs ≡ true
  formed_pats (grammar.pats_last h) c = both (formed_pterm h c) refl
  formed_pats (grammar.pats_comma {us = us} {vs = vs} h h') c =
      let rest = k.Comma ∷ vs in both (formed_pterm h (front us rest c)) (formed_pats h' (back us rest c))

  pub formed_pterm : {n : ℕ} {us : Kinds} {x : Pat} → IsPterm n us x → Carried us → is_formed_pat x ≡ true
  formed_pterm grammar.p_any c = folds.fold_any formed
  formed_pterm (grammar.p_name {t = t}) c = folds.fold_bind formed t ∙ (and_parts (is_name t) true c).0
  formed_pterm (grammar.p_number {z = z}) c = folds.fold_pat_num formed z ∙ (and_parts (is_in_range z) true c).0
  formed_pterm (grammar.p_symbol {t = t}) c = folds.fold_pat_sym formed t ∙ (and_parts (is_run t) true c).0
  formed_pterm grammar.p_true c = folds.fold_pat_true formed
  formed_pterm grammar.p_false c = folds.fold_pat_false formed
  formed_pterm grammar.p_nil c = folds.fold_pat_nil formed
  formed_pterm grammar.p_undef c = folds.fold_pat_undef formed
  formed_pterm (grammar.p_value {a = a} h) c = folds.fold_value formed a ∙ formed_term h c
  formed_pterm grammar.p_empty c = folds.fold_pat_nil formed
  formed_pterm (grammar.p_paren {us = us} h) c = formed_pat h (front us (k.ParenRight ∷ []) c)

pub spelled_formed : SpelledTreesAreFormed
spelled_formed n ks xs h c = formed_stmts h c

-- a token's type keeps that it carries what it may
pub carried_kinds : (ts : List Token) → list_all is_carried (kinds ts) ≡ true
carried_kinds [] = refl
carried_kinds (t ∷ ts) = both t.carried (carried_kinds ts)
