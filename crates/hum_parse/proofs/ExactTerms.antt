-- Terms.
use Rattle.std.proofs.Common.{◌≡◌, ℕ, ℤ, zero, suc, nat_lt, true, false, List, [], ◌∷◌, ◌++◌, length, Err, refl, sym, ap, ◌∙◌, subst, arith, ◌⊎◌, inl, inr, append_assoc}
use Rattle.std.proofs.lemmas.Bool.Decides.{nat_tests}
use Rattle.hum_syntax.specs.declared.TokenKind.{TokenKind}
use Rattle.hum_syntax.specs.declared.TokenKind.TheVariants as k
use Rattle.hum_syntax.specs.declared.Keyword.TheVariants as w
use Rattle.hum_syntax.specs.declared.Expr.{Expr}
use Rattle.hum_syntax.specs.declared.Expr.TheVariants as e
use Rattle.hum_syntax.specs.declared.Arm.{Arm}
use Rattle.hum_syntax.specs.Spells as G
use Rattle.hum_syntax.specs.Spells.{Kinds, IsExpr, IsTerm, IsCalls, IsArms, IsArm, IsPat, IsStmts}
use Rattle.hum_parse.specs.declared.tokens.Mark.TheVariants as mark
use Rattle.hum_parse.specs.Input.{Outcome, pure, expect, either, and_then}
use Rattle.hum_parse.specs.Rules.{Inner, term, term_by, calls, paren_inside, block_atom, new_term, case_term, if_term, keyword_term, paren_term}
use Rattle.hum_parse.proofs.Exact.{Language, Answers, Exact, Ends, Then, exact_then}
use Rattle.hum_parse.proofs.Steps.{Same, Pure, Word, Begins, along, took, at_end, no_way, begins_more, no_follow, word_follows, exact_branch, exact_only, exact_word, exact_made, word_is, worded, pured, unpured, pure_split, close_is, closes}
use Rattle.hum_parse.proofs.Levels.{goes_term, goes_on, ArmsEnd, BlockEnd, Below, Levels, not_last}
use Rattle.hum_parse.proofs.First.{begins_expr, expr_begins, term_begins, apart_right}
use Rattle.hum_parse.proofs.TermBy.{TermBy, term_to, term_from}
use Rattle.hum_parse.proofs.ExactCalls.{exact_calls}
use Rattle.hum_parse.proofs.ExactIfs.{exact_if}

term_ends : (n : ℕ) → Ends (IsTerm n)
term_ends n = record { tail = k.Undefined ∷ []; carried = refl; tree = e.Undef; ends = G.chain G.undef G.calls_done }

module _ (n : ℕ) (ts : Kinds) where
  by_token : (t : TokenKind) (o : Outcome Expr) → Answers (TermBy n t) goes_term ts o → Answers (IsTerm n) goes_term (t ∷ ts) o
  by_token t o x = took (IsTerm n) goes_term t ts o (λ b y off. term_begins y)
      (along (TermBy n t) (λ us. IsTerm n (t ∷ us)) goes_term ts o (record { to = λ u b y. term_to y; from = term_from n t }) x)

  not_here : (t : TokenKind) → ((us : Kinds) (b : Expr) → TermBy n t us b → ⊥) → Answers (IsTerm n) goes_term (t ∷ ts) (Err (t ∷ ts))
  not_here t none = no_way (IsTerm n) goes_term t ts (term_ends n) (λ b y. term_begins y) (λ u b y. none u b (term_from n t u b y))

  by_atom : (inner : Inner) → Levels n inner → (t : TokenKind) (a : Expr) → Same (IsCalls (suc n) a) (TermBy n t) → Answers (IsTerm n) goes_term
      (t ∷ ts) (calls n inner a ts)
  by_atom inner below t a s = by_token t (calls n inner a ts)
      (along (IsCalls (suc n) a) (TermBy n t) goes_term ts (calls n inner a ts) s (exact_calls n inner below a (length ts) ts (omega arith)))

-- ---- `( expr )`

abbrev ParenTail : ℕ → Language Expr
ParenTail n = Then (IsExpr n) (λ a. Then (Word mark.ParenRight) (λ _. IsCalls (suc (suc n)) a))

paren_to : (n : ℕ) (u : Kinds) (b : Expr) → ParenTail n u b → TermBy (suc n) k.ParenLeft u b
paren_to n u b y =
    let all : u ≡ y.left ++ k.ParenRight ∷ y.is_right.right =
    y.split ∙ ap (λ z. y.left ++ z) (word_is mark.ParenRight (IsCalls (suc (suc n)) y.first) y.right b y.is_right) in
    subst (λ z. TermBy (suc n) k.ParenLeft z b) (sym all) (TermBy.by_paren y.is_left y.is_right.is_right)

paren_from : (n : ℕ) (u : Kinds) (b : Expr) → TermBy (suc n) k.ParenLeft u b → ParenTail n u b ⊎ Then (Word mark.ParenRight)
    (λ _. IsCalls (suc (suc n)) e.Nil) u b
paren_from n u b (TermBy.by_empty {us = us} y) = inr (worded mark.ParenRight (IsCalls (suc (suc n)) e.Nil) us b y)
paren_from n u b (TermBy.by_paren {us = us} {vs = vs} {a = a} x y) =
    inl (record {
      left = us;
      right = k.ParenRight ∷ vs;
      split = refl;
      first = a;
      is_left = x;
      is_right =
          worded mark.ParenRight (IsCalls (suc (suc n)) a) vs b y;
    })

paren_begins : (n : ℕ) (u : Kinds) (b : Expr) → ParenTail n u b → Begins begins_expr u
paren_begins n u b y = subst (Begins begins_expr) (sym y.split) (begins_more begins_expr y.left y.right (expr_begins y.is_left))

exact_paren : (n : ℕ) (inner : Inner) → Below n inner → (m : ℕ) → Exact (suc m) (ParenTail n) goes_term (paren_inside (suc n) inner)
unfolding paren_inside
exact_paren n inner below m =
    exact_then (IsExpr n) goes_on (λ a. Then (Word mark.ParenRight) (λ _. IsCalls (suc (suc n)) a)) goes_term
    (λ a y v b t g. word_follows goes_on mark.ParenRight refl (IsCalls (suc (suc n)) a) y v b t) m inner.expr
    (λ a ts. and_then (expect mark.ParenRight ts) (λ _. calls (suc n) inner a)) (below.expr (suc m))
    (λ a. exact_word mark.ParenRight (IsCalls (suc (suc n)) a) goes_term m (calls (suc n) inner a) (exact_calls (suc n) inner below a m))

shut_same : Same (Then (Word mark.ParenRight) (λ _. IsCalls 1 e.Nil)) (TermBy 0 k.ParenLeft)
shut_same = record { to = to; from = from }
  where
    to : (u : Kinds) (b : Expr) → Then (Word mark.ParenRight) (λ _. IsCalls 1 e.Nil) u b → TermBy 0 k.ParenLeft u b
    to u b y = subst (λ z. TermBy 0 k.ParenLeft z b) (sym (word_is mark.ParenRight (IsCalls 1 e.Nil) u b y)) (TermBy.by_empty y.is_right)

    from : (u : Kinds) (b : Expr) → TermBy 0 k.ParenLeft u b → Then (Word mark.ParenRight) (λ _. IsCalls 1 e.Nil) u b
    from u b (TermBy.by_empty {us = us} y) = worded mark.ParenRight (IsCalls 1 e.Nil) us b y

-- ---- a block

abbrev BlockTail : ℕ → Language Expr
BlockTail n = Then (BlockEnd n) (λ xs. IsCalls (suc (suc n)) (e.Block xs))

block_same : (n : ℕ) → Same (BlockTail n) (TermBy (suc n) k.SquareLeft)
block_same n = record { to = to; from = from }
  where
    to : (u : Kinds) (b : Expr) → BlockTail n u b → TermBy (suc n) k.SquareLeft u b
    to u b y =
        let ends : (y.is_left.right ≡ k.SquareRight ∷ []) × (y.is_left.first ≡ y.first) =
        close_is mark.SquareRight y.is_left.first y.is_left.right y.first y.is_left.is_right in
        let all : u ≡ y.is_left.left ++ k.SquareRight ∷ y.right =
        y.split ∙ ap (λ z. z ++ y.right) (y.is_left.split ∙ ap (λ z. y.is_left.left ++ z) ends.0) ∙ append_assoc y.is_left.left
        (k.SquareRight ∷ []) y.right in
        subst (λ z. TermBy (suc n) k.SquareLeft z b) (sym all)
        (TermBy.by_block y.is_left.is_left (subst (λ z. IsCalls (suc (suc n)) (e.Block z) y.right b) (sym ends.1) y.is_right))

    from : (u : Kinds) (b : Expr) → TermBy (suc n) k.SquareLeft u b → BlockTail n u b
    from u b (TermBy.by_block {us = us} {vs = vs} {xs = xs} x y) = record {
      left = us ++ k.SquareRight ∷ [];
      right = vs;
      split = sym (append_assoc us (k.SquareRight ∷ []) vs);
      first = xs;
      is_left = record { left = us; right = k.SquareRight ∷ []; split = refl; first = xs; is_left = x; is_right = closes mark.SquareRight xs };
      is_right = y;
    }

exact_block_atom : (n : ℕ) (inner : Inner) → Below n inner → (m : ℕ) → Exact (suc m) (BlockTail n) goes_term (block_atom (suc n) inner)
unfolding block_atom
exact_block_atom n inner below m =
    exact_then (BlockEnd n) (λ _. false) (λ xs. IsCalls (suc (suc n)) (e.Block xs)) goes_term (λ _ y v b t f. no_follow (y ++ v)) m inner.block
    (λ xs. calls (suc n) inner (e.Block xs))
    (below.block (λ _. false) (suc m)) (λ xs. exact_calls (suc n) inner below (e.Block xs) m)

-- ---- NEW

exact_new : (n : ℕ) (inner : Inner) → Below n inner → (ts : Kinds) → Answers (TermBy (suc n) (k.Keyword w.KwNew)) goes_term ts
    (new_term (suc n) inner ts)
unfolding new_term
exact_new n inner below ts =
    along (Then (IsTerm n) (λ a. Pure (e.New a))) (TermBy (suc n) (k.Keyword w.KwNew)) goes_term ts (new_term (suc n) inner ts)
    (record { to = unpured (IsTerm n) (λ a. e.New a) (TermBy (suc n) (k.Keyword w.KwNew)) (λ u a x. TermBy.by_new x); from = from })
    (exact_made (IsTerm n) goes_term (λ a. e.New a) (length ts) inner.term (below.term (suc (length ts))) ts (omega arith))
  where
    from : (u : Kinds) (b : Expr) → TermBy (suc n) (k.Keyword w.KwNew) u b → Then (IsTerm n) (λ a. Pure (e.New a)) u b
    from u b (TermBy.by_new {a = a} x) = pured (IsTerm n) (λ z. e.New z) u a x

-- ---- CASE

abbrev CaseTail : ℕ → Language Expr
CaseTail n = Then (IsExpr n) (λ a. Then (Word mark.Of) (λ _. Then (ArmsEnd n) (λ xs. Pure (e.Case a xs))))

case_same : (n : ℕ) → Same (CaseTail n) (TermBy (suc n) (k.Keyword w.KwCase))
case_same n = record { to = to; from = from }
  where
    to : (u : Kinds) (b : Expr) → CaseTail n u b → TermBy (suc n) (k.Keyword w.KwCase) u b
    to u b y =
        let z = y.is_right.is_right in
        let arms = z.is_left in
        let ends : (arms.right ≡ k.Keyword w.KwEnd ∷ []) × (arms.first ≡ z.first) = close_is mark.End arms.first arms.right z.first arms.is_right in
        let inner : y.is_right.right ≡ arms.left ++ k.Keyword w.KwEnd ∷ [] = pure_split (e.Case y.first z.first) z.left y.is_right.right z.right b
        z.split z.is_right ∙ arms.split ∙ ap (λ s. arms.left ++ s) ends.0 in
        let all : u ≡ y.left ++ k.Keyword w.KwOf ∷ arms.left ++ k.Keyword w.KwEnd ∷ [] =
        y.split ∙ ap (λ s. y.left ++ s) (word_is mark.Of (Then (ArmsEnd n) (λ xs. Pure (e.Case y.first xs))) y.right b y.is_right
        ∙ ap (λ s. k.Keyword w.KwOf ∷ s) inner)
        ∙ sym (append_assoc y.left (k.Keyword w.KwOf ∷ arms.left) (k.Keyword w.KwEnd ∷ [])) in
        subst (λ s. TermBy (suc n) (k.Keyword w.KwCase) s b) (sym all)
        (subst (λ s. TermBy (suc n) (k.Keyword w.KwCase) (y.left ++ k.Keyword w.KwOf ∷ arms.left ++ k.Keyword w.KwEnd ∷ []) s)
        (ap (λ s. e.Case y.first s) ends.1 ∙ z.is_right.same) (TermBy.by_case y.is_left arms.is_left))

    from : (u : Kinds) (b : Expr) → TermBy (suc n) (k.Keyword w.KwCase) u b → CaseTail n u b
    from u b (TermBy.by_case {us = us} {vs = vs} {a = a} {xs = xs} x y) = record {
      left = us;
      right = k.Keyword w.KwOf ∷ (vs ++ k.Keyword w.KwEnd ∷ []);
      split = append_assoc us (k.Keyword w.KwOf ∷ vs) (k.Keyword w.KwEnd ∷ []);
      first = a;
      is_left = x;
      is_right = worded mark.Of (Then (ArmsEnd n) (λ zs. Pure (e.Case a zs))) (vs ++ k.Keyword w.KwEnd ∷ []) (e.Case a xs)
          (pured (ArmsEnd n) (λ zs. e.Case a zs) (vs ++ k.Keyword w.KwEnd ∷ []) xs
          (record { left = vs; right = k.Keyword w.KwEnd ∷ []; split = refl; first = xs; is_left = y; is_right = closes mark.End xs }));
    }

exact_case : (n : ℕ) (inner : Inner) → Below (suc n) inner → (m : ℕ) → Exact (suc m) (CaseTail (suc n)) goes_term (case_term (suc (suc n)) inner)
unfolding case_term
exact_case n inner below m =
    exact_then (IsExpr (suc n)) goes_on (λ a. Then (Word mark.Of) (λ _. Then (ArmsEnd (suc n)) (λ xs. Pure (e.Case a xs)))) goes_term
    (λ a y v b t g. word_follows goes_on mark.Of refl (Then (ArmsEnd (suc n)) (λ xs. Pure (e.Case a xs))) y v b t) m inner.expr
    (λ a ts. and_then (expect mark.Of ts) (λ _ us. and_then (inner.arms us) (λ xs. pure (e.Case a xs)))) (below.expr (suc m))
    (λ a. exact_word mark.Of (Then (ArmsEnd (suc n)) (λ xs. Pure (e.Case a xs))) goes_term m
    (λ us. and_then (inner.arms us) (λ xs. pure (e.Case a xs)))
    (exact_made (ArmsEnd (suc n)) goes_term (λ xs. e.Case a xs) m inner.arms (below.arms goes_term (suc m))))

-- ---- whole

two_left : (n : ℕ) → nat_lt (suc (suc n)) 2 ≡ false
two_left n = grind (arith, nat_tests)

one_arm : (u : Kinds) (b : Expr) → TermBy 1 (k.Keyword w.KwCase) u b → ⊥
one_arm u b (TermBy.by_case x y) = no_arms y
  where
    no_arm : {us : Kinds} {x : Arm} → IsArm 0 us x → ⊥
    no_arm h = elim h [ ]

    no_arms : {us : Kinds} {xs : List Arm} → IsArms 0 us xs → ⊥
    no_arms (G.arms_last h) = no_arm h
    no_arms (G.arms_more h hs) = no_arm h

number_same : (n : ℕ) (z : ℤ) → Same (IsCalls (suc n) (e.Num z)) (TermBy n (k.Number z))
number_same n z = record { to = λ u b y. TermBy.by_number y; from = from n }
  where
    from : (n : ℕ) (u : Kinds) (b : Expr) → TermBy n (k.Number z) u b → IsCalls (suc n) (e.Num z) u b
    from n u b (TermBy.by_number y) = y

symbol_same : (n : ℕ) (t : List ℕ) → Same (IsCalls (suc n) (e.Sym t)) (TermBy n (k.Symbol t))
symbol_same n t = record { to = λ u b y. TermBy.by_symbol y; from = from n }
  where
    from : (n : ℕ) (u : Kinds) (b : Expr) → TermBy n (k.Symbol t) u b → IsCalls (suc n) (e.Sym t) u b
    from n u b (TermBy.by_symbol y) = y

text_same : (n : ℕ) (t : List ℕ) → Same (IsCalls (suc n) (e.Text t)) (TermBy n (k.Text t))
text_same n t = record { to = λ u b y. TermBy.by_text y; from = from n }
  where
    from : (n : ℕ) (u : Kinds) (b : Expr) → TermBy n (k.Text t) u b → IsCalls (suc n) (e.Text t) u b
    from n u b (TermBy.by_text y) = y

true_same : (n : ℕ) → Same (IsCalls (suc n) e.True) (TermBy n (k.Keyword w.KwTrue))
true_same n = record { to = λ u b y. TermBy.by_true y; from = from n }
  where
    from : (n : ℕ) (u : Kinds) (b : Expr) → TermBy n (k.Keyword w.KwTrue) u b → IsCalls (suc n) e.True u b
    from n u b (TermBy.by_true y) = y

false_same : (n : ℕ) → Same (IsCalls (suc n) e.False) (TermBy n (k.Keyword w.KwFalse))
false_same n = record { to = λ u b y. TermBy.by_false y; from = from n }
  where
    from : (n : ℕ) (u : Kinds) (b : Expr) → TermBy n (k.Keyword w.KwFalse) u b → IsCalls (suc n) e.False u b
    from n u b (TermBy.by_false y) = y

nil_same : (n : ℕ) → Same (IsCalls (suc n) e.Nil) (TermBy n (k.Keyword w.KwNil))
nil_same n = record { to = λ u b y. TermBy.by_nil y; from = from n }
  where
    from : (n : ℕ) (u : Kinds) (b : Expr) → TermBy n (k.Keyword w.KwNil) u b → IsCalls (suc n) e.Nil u b
    from n u b (TermBy.by_nil y) = y

undef_same : (n : ℕ) → Same (IsCalls (suc n) e.Undef) (TermBy n k.Undefined)
undef_same n = record { to = λ u b y. TermBy.by_undef y; from = from n }
  where
    from : (n : ℕ) (u : Kinds) (b : Expr) → TermBy n k.Undefined u b → IsCalls (suc n) e.Undef u b
    from n u b (TermBy.by_undef y) = y

name_same : (n : ℕ) (t : List ℕ) → Same (IsCalls (suc n) (e.Var t)) (TermBy n (k.Name t))
name_same n t = record { to = λ u b y. TermBy.by_name y; from = from n }
  where
    from : (n : ℕ) (u : Kinds) (b : Expr) → TermBy n (k.Name t) u b → IsCalls (suc n) (e.Var t) u b
    from n u b (TermBy.by_name y) = y

myself_same : (n : ℕ) → Same (IsCalls (suc n) e.Myself) (TermBy n (k.Keyword w.KwSelf))
myself_same n = record { to = λ u b y. TermBy.by_myself y; from = from n }
  where
    from : (n : ℕ) (u : Kinds) (b : Expr) → TermBy n (k.Keyword w.KwSelf) u b → IsCalls (suc n) e.Myself u b
    from n u b (TermBy.by_myself y) = y

term_at : (n : ℕ) (inner : Inner) → Levels n inner → (t : TokenKind) (ts : Kinds) → Answers (IsTerm n) goes_term (t ∷ ts) (term_by n inner t ts)
unfolding term_by keyword_term paren_term
term_at n inner below (k.Number z) ts = by_atom n ts inner below (k.Number z) (e.Num z) (number_same n z)
term_at n inner below (k.Symbol t) ts = by_atom n ts inner below (k.Symbol t) (e.Sym t) (symbol_same n t)
term_at n inner below (k.Text t) ts = by_atom n ts inner below (k.Text t) (e.Text t) (text_same n t)
term_at n inner below (k.Keyword w.KwTrue) ts = by_atom n ts inner below (k.Keyword w.KwTrue) e.True (true_same n)
term_at n inner below (k.Keyword w.KwFalse) ts = by_atom n ts inner below (k.Keyword w.KwFalse) e.False (false_same n)
term_at n inner below (k.Keyword w.KwNil) ts = by_atom n ts inner below (k.Keyword w.KwNil) e.Nil (nil_same n)
term_at n inner below k.Undefined ts = by_atom n ts inner below k.Undefined e.Undef (undef_same n)
term_at n inner below (k.Name t) ts = by_atom n ts inner below (k.Name t) (e.Var t) (name_same n t)
term_at n inner below (k.Keyword w.KwSelf) ts = by_atom n ts inner below (k.Keyword w.KwSelf) e.Myself (myself_same n)
term_at zero inner below k.ParenLeft ts =
    by_token 0 ts k.ParenLeft (either mark.ParenRight (calls 0 inner e.Nil) (λ us. Err us) ts)
    (along (Then (Word mark.ParenRight) (λ _. IsCalls 1 e.Nil)) (TermBy 0 k.ParenLeft) goes_term ts
    (either mark.ParenRight (calls 0 inner e.Nil) (λ us. Err us) ts) shut_same
    (exact_only mark.ParenRight (IsCalls 1 e.Nil) goes_term (length ts) (calls 0 inner e.Nil)
    (exact_calls 0 inner below e.Nil (length ts)) ts (omega arith)))
term_at (suc n) inner below k.ParenLeft ts =
    rw not_last (by_token (suc n) ts k.ParenLeft (either mark.ParenRight (calls (suc n) inner e.Nil) (paren_inside (suc n) inner) ts)
    (exact_branch mark.ParenRight (IsCalls (suc (suc n)) e.Nil) (ParenTail n) (TermBy (suc n) k.ParenLeft) goes_term (paren_to n)
    (λ u b y. TermBy.by_empty y) (paren_from n)
    (λ b y off. paren_begins n [] b y) (λ u b y c. apart_right u (paren_begins n u b y) c) (suc (length ts)) (calls (suc n) inner e.Nil)
    (paren_inside (suc n) inner)
    (exact_calls (suc n) inner below e.Nil (length ts)) (exact_paren n inner below (suc (length ts))) ts (omega arith)))
term_at zero inner below k.SquareLeft ts = not_here 0 ts k.SquareLeft (λ us b h. no_block us b h)
  where
    no_block : (us : Kinds) (b : Expr) → TermBy 0 k.SquareLeft us b → ⊥
    no_block us b h = elim h [ ]
term_at (suc n) inner below k.SquareLeft ts =
    rw not_last (by_token (suc n) ts k.SquareLeft (block_atom (suc n) inner ts)
    (along (BlockTail n) (TermBy (suc n) k.SquareLeft) goes_term ts (block_atom (suc n) inner ts) (block_same n)
    (exact_block_atom n inner below (length ts) ts (omega arith))))
term_at zero inner below (k.Keyword w.KwNew) ts = not_here 0 ts (k.Keyword w.KwNew) (λ us b h. no_new us b h)
  where
    no_new : (us : Kinds) (b : Expr) → TermBy 0 (k.Keyword w.KwNew) us b → ⊥
    no_new us b h = elim h [ ]
term_at (suc n) inner below (k.Keyword w.KwNew) ts =
    rw not_last (by_token (suc n) ts (k.Keyword w.KwNew) (new_term (suc n) inner ts) (exact_new n inner below ts))
term_at zero inner below (k.Keyword w.KwCase) ts = not_here 0 ts (k.Keyword w.KwCase) (λ us b h. no_case us b h)
  where
    no_case : (us : Kinds) (b : Expr) → TermBy 0 (k.Keyword w.KwCase) us b → ⊥
    no_case us b h = elim h [ ]
term_at (suc zero) inner below (k.Keyword w.KwCase) ts = not_here 1 ts (k.Keyword w.KwCase) one_arm
term_at (suc (suc n)) inner below (k.Keyword w.KwCase) ts =
    rw two_left (by_token (suc (suc n)) ts (k.Keyword w.KwCase) (case_term (suc (suc n)) inner ts)
    (along (CaseTail (suc n)) (TermBy (suc (suc n)) (k.Keyword w.KwCase)) goes_term ts (case_term (suc (suc n)) inner ts) (case_same (suc n))
    (exact_case n inner below (length ts) ts (omega arith))))
term_at zero inner below (k.Keyword w.KwIf) ts = not_here 0 ts (k.Keyword w.KwIf) (λ us b h. no_if us b h)
  where
    no_if : (us : Kinds) (b : Expr) → TermBy 0 (k.Keyword w.KwIf) us b → ⊥
    no_if us b h = elim h [ ]
term_at (suc n) inner below (k.Keyword w.KwIf) ts =
    rw not_last (by_token (suc n) ts (k.Keyword w.KwIf) (if_term (suc n) inner ts) (exact_if n inner below ts))
term_at n inner below k.Backslash ts = not_here n ts k.Backslash (no_abs n)
  where
    no_abs : (n : ℕ) (us : Kinds) (b : Expr) → TermBy n k.Backslash us b → ⊥
    no_abs n us b h = elim h [ ]
term_at n inner below t ts = no_way (IsTerm n) goes_term t ts (term_ends n) (λ b y. term_begins y)
    (λ u b y. let no : false ≡ true = term_begins y in cc)

pub exact_term : (n : ℕ) (inner : Inner) → Levels n inner → (m : ℕ) → Exact m (IsTerm n) goes_term (term n inner)
unfolding term
exact_term n inner below m [] h = at_end (IsTerm n) goes_term (term_ends n) (λ b y. term_begins y)
exact_term n inner below m (t ∷ ts) h = term_at n inner below t ts
