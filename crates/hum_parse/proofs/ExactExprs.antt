-- Expressions, and arms.
use Rattle.std.proofs.Common.{◌≡◌, ℕ, zero, suc, Bool, true, false, List, [], ◌∷◌, ◌++◌, length, refl, sym, ap, ◌∙◌, subst, arith, ◌⊎◌, inl, inr, append_assoc, append-nil}
use Rattle.hum_syntax.specs.declared.TokenKind.{TokenKind}
use Rattle.hum_syntax.specs.declared.TokenKind.TheVariants as k
use Rattle.hum_syntax.specs.declared.Expr.{Expr}
use Rattle.hum_syntax.specs.declared.Expr.TheVariants as e
use Rattle.hum_syntax.specs.declared.Arm.{Arm}
use Rattle.hum_syntax.specs.Spells as G
use Rattle.hum_syntax.specs.Spells.{Kinds, arm, IsExpr, IsItems, IsTerm, IsArms, IsArm, IsPat}
use Rattle.hum_parse.specs.declared.tokens.Mark.TheVariants as mark
use Rattle.hum_parse.specs.Input.{pure, expect, either, and_then}
use Rattle.hum_parse.specs.Rules.{Inner, term, abs_inside, items_from, expr, expr_of, arm_rule}
use Rattle.hum_parse.proofs.Exact.{Language, Exact, Ends, Then, exact_then}
use Rattle.hum_parse.proofs.Steps.{Same, Pure, Word, Or, Begins, along, took, at_end, no_way, narrowed, word_follows, exact_or, exact_word, exact_made, word_is, worded, pured, unpured, pure_split}
use Rattle.hum_parse.proofs.Levels.{Behind, goes_term, goes_on, Below, Levels, not_last}
use Rattle.hum_parse.proofs.First.{items_begins}
use Rattle.hum_parse.proofs.ExactPatterns.{or_follows}
use Rattle.hum_parse.proofs.ExactTerms.{exact_term}
use Rattle.hum_parse.proofs.TermBy as by
use Rattle.hum_parse.proofs.TermBy.{TermBy, First, term_first}

-- ---- an abstraction

abbrev AbsTail : ℕ → Language Expr
AbsTail n = Then (IsPat n) (λ x. Then (Word mark.Dot) (λ _. Then (IsExpr n) (λ a. Pure (e.Abs x a))))

exact_abs : (n : ℕ) (inner : Inner) → Below n inner → (m : ℕ) → Exact (suc m) (AbsTail n) goes_on (abs_inside (suc n) inner)
unfolding abs_inside
exact_abs n inner below m =
    exact_then (IsPat n) goes_on (λ x. Then (Word mark.Dot) (λ _. Then (IsExpr n) (λ a. Pure (e.Abs x a)))) goes_on
    (λ x y v b t g. word_follows goes_on mark.Dot refl (Then (IsExpr n) (λ a. Pure (e.Abs x a))) y v b t) m inner.pat
    (λ x ts. and_then (expect mark.Dot ts) (λ _ us. and_then (inner.expr us) (λ a. pure (e.Abs x a)))) (below.pat (suc m))
    (λ x. exact_word mark.Dot (Then (IsExpr n) (λ a. Pure (e.Abs x a))) goes_on m (λ us. and_then (inner.expr us) (λ a. pure (e.Abs x a)))
    (exact_made (IsExpr n) goes_on (λ a. e.Abs x a) m inner.expr (below.expr (suc m))))

-- ---- what stands between commas

abbrev ItemsTail : ℕ → List Expr → Language (List Expr)
ItemsTail n found = Then (IsTerm n) (λ a. Or mark.Comma (found ++ a ∷ []) (Behind (found ++ a ∷ []) (IsItems n)))

-- behind the backslash
abbrev AbsItems : ℕ → List Expr → Language (List Expr)
AbsItems n found = Then (AbsTail n) (λ a. Pure (found ++ a ∷ []))

abbrev is_backslash : TokenKind → Bool
is_backslash k.Backslash = true
is_backslash _ = false

abs_made : (n : ℕ) (u : Kinds) (a : Expr) → AbsTail n u a → IsItems (suc n) (k.Backslash ∷ u) (a ∷ [])
abs_made n u a y =
    let z = y.is_right.is_right in
    let body : y.is_right.right ≡ z.left = pure_split (e.Abs y.first z.first) z.left y.is_right.right z.right a z.split z.is_right in
    let all : u ≡ y.left ++ k.Dot ∷ z.left =
    y.split ∙ ap (λ s. y.left ++ s) (word_is mark.Dot (Then (IsExpr n) (λ c. Pure (e.Abs y.first c))) y.right a y.is_right
    ∙ ap (λ s. k.Dot ∷ s) body) in
    subst (λ s. IsItems (suc n) (k.Backslash ∷ s) (a ∷ [])) (sym all)
    (subst (λ s. IsItems (suc n) (k.Backslash ∷ (y.left ++ k.Dot ∷ z.left)) (s ∷ [])) z.is_right.same (G.item_abs y.is_left z.is_left))

items_to : (n : ℕ) (found : List Expr) (u : Kinds) (b : List Expr) → ItemsTail n found u b → Behind found (IsItems n) u b
items_to n found u b y = subst (λ z. Behind found (IsItems n) z b) (sym y.split) (joined y.left y.right y.first b y.is_left y.is_right)
  where
    joined : (left right : Kinds) (x : Expr) (b : List Expr) → IsTerm n left x → Or mark.Comma (found ++ x ∷ [])
        (Behind (found ++ x ∷ []) (IsItems n)) right b → Behind found (IsItems n) (left ++ right) b
    joined left right x b p (inl y) = record {
      more = x ∷ [];
      is = y.same;
      spelled = subst (λ z. IsItems n z (x ∷ [])) (sym (ap (λ z. left ++ z) y.none ∙ append-nil left)) (G.item_last p);
    }
    joined left right x b p (inr y) = record {
      more = x ∷ y.is_right.more;
      is = sym (append_assoc found (x ∷ []) y.is_right.more) ∙ y.is_right.is;
      spelled = subst (λ z. IsItems n (left ++ z) (x ∷ y.is_right.more)) (sym (y.split ∙ ap (λ z. z ++ y.right) y.is_left))
          (G.item_comma p y.is_right.spelled);
    }

items_from_term : (n : ℕ) (found : List Expr) (u : Kinds) (b : List Expr) → Behind found (IsItems n) u b → ItemsTail n found u
    b ⊎ Begins is_backslash u
items_from_term n found u b y = parted n u y.more b y.spelled y.is
  where
    parted : (n : ℕ) (u : Kinds) (xs b : List Expr) → IsItems n u xs → found ++ xs ≡ b → ItemsTail n found u b ⊎ Begins is_backslash u
    parted n u xs b (G.item_abs x a) e = inr refl
    parted n u xs b (G.item_last p) e =
        inl (record { left = u; right = []; split = sym (append-nil u); first = _; is_left = p; is_right = inl (record { none = refl; same = e }) })
    parted n u xs b (G.item_comma {us = us} {vs = vs} {a = x} {xs = ys} p ps) e = inl (record {
      left = us;
      right = k.Comma ∷ vs;
      split = refl;
      first = x;
      is_left = p;
      is_right = inr (worded mark.Comma (Behind (found ++ x ∷ []) (IsItems n)) vs b
          (record { more = ys; is = append_assoc found (x ∷ []) ys ∙ e; spelled = ps }));
    })

items_ends : (n : ℕ) (found : List Expr) → Ends (Behind found (IsItems n))
items_ends n found = record {
  tail = k.Undefined ∷ [];
  carried = refl;
  tree = found ++ e.Undef ∷ [];
  ends =
      record { more = e.Undef ∷ []; is = refl; spelled = G.item_last (G.chain G.undef G.calls_done) };
}

by_not_abs : {n : ℕ} {t : TokenKind} {us : Kinds} {b : Expr} → TermBy n t us b → is_backslash t ≡ false
by_not_abs (by.by_number c) = refl
by_not_abs (by.by_symbol c) = refl
by_not_abs (by.by_text c) = refl
by_not_abs (by.by_true c) = refl
by_not_abs (by.by_false c) = refl
by_not_abs (by.by_nil c) = refl
by_not_abs (by.by_undef c) = refl
by_not_abs (by.by_name c) = refl
by_not_abs (by.by_myself c) = refl
by_not_abs (by.by_empty c) = refl
by_not_abs (by.by_paren x c) = refl
by_not_abs (by.by_block x c) = refl
by_not_abs (by.by_new x) = refl
by_not_abs (by.by_case x y) = refl
by_not_abs (by.by_if x) = refl
by_not_abs (by.by_else x y) = refl

term_not_abs : {n : ℕ} {us : Kinds} {b : Expr} (x : IsTerm n us b) (vs : Kinds) (u : Kinds) → us ++ vs ≡ k.Backslash ∷ u → ⊥
term_not_abs x vs u e = let y = term_first x in
    let all : y.token ∷ (y.rest ++ vs) ≡ k.Backslash ∷ u = sym (ap (λ z. z ++ vs) y.split) ∙ e in
    let at : y.token ≡ k.Backslash = cc in
    let no : true ≡ false = sym (ap is_backslash at) ∙ by_not_abs y.by in
    cc

abbrev AbsAt : ℕ → List Expr → Language (List Expr)
AbsAt zero found u b = ⊥
AbsAt (suc n) found u b = AbsItems n found u b

abs_from : (n : ℕ) (found : List Expr) (ts : Kinds) (xs b : List Expr) → IsItems n ts xs → found ++ xs ≡ b → (u : Kinds)
    → ts ≡ k.Backslash ∷ u → AbsAt n found u b
abs_from n found ts xs b (G.item_abs {n = m} {us = us} {vs = vs} {x = x} {a = a} q y) same u d =
    let tails : us ++ k.Dot ∷ vs ≡ u = cc in
    subst (λ z. AbsItems m found z b) tails (subst (λ z. AbsItems m found (us ++ k.Dot ∷ vs) z) same
    (pured (AbsTail m) (λ c. found ++ c ∷ []) (us ++ k.Dot ∷ vs) (e.Abs x a) (record {
      left = us;
      right = k.Dot ∷ vs;
      split = refl;
      first = x;
      is_left = q;
      is_right = worded mark.Dot (Then (IsExpr m) (λ c. Pure (e.Abs x c))) vs (e.Abs x a) (pured (IsExpr m) (λ c. e.Abs x c) vs a y);
    })))
abs_from n found ts xs b (G.item_last y) same u d = absurd (term_not_abs y [] u (append-nil ts ∙ d))
abs_from n found ts xs b (G.item_comma {us = us} {vs = vs} y ys) same u d = absurd (term_not_abs y (k.Comma ∷ vs) u d)

abs_same : (n : ℕ) (found : List Expr) → Same (AbsItems n found) (λ us. Behind found (IsItems (suc n)) (k.Backslash ∷ us))
abs_same n found = record {
  to = unpured (AbsTail n) (λ a. found ++ a ∷ []) (λ us. Behind found (IsItems (suc n)) (k.Backslash ∷ us))
      (λ u a y. record { more = a ∷ []; is = refl; spelled = abs_made n u a y });
  from = λ u b y. abs_from (suc n) found (k.Backslash ∷ u) y.more b y.spelled y.is u refl;
}

items_empty : {n : ℕ} {found : List Expr} (b : List Expr) → Behind found (IsItems n) [] b → ⊥
items_empty b y = items_begins y.spelled

term_step : (n : ℕ) (inner : Inner) → Levels n inner → (turns : ℕ) (found : List Expr)
    → ((a : Expr) → Exact (suc turns) (Behind (found ++ a ∷ []) (IsItems n)) goes_on (items_from n inner turns (found ++ a ∷ [])))
    → Exact (suc (suc turns)) (ItemsTail n found) goes_on
    (λ ts. and_then (term n inner ts) (λ a. either mark.Comma (items_from n inner turns (found ++ a ∷ [])) (pure (found ++ a ∷ []))))
term_step n inner below turns found more =
    exact_then (IsTerm n) goes_term (λ a. Or mark.Comma (found ++ a ∷ []) (Behind (found ++ a ∷ []) (IsItems n))) goes_on
    (λ a y v b t f. or_follows (found ++ a ∷ []) (Behind (found ++ a ∷ []) (IsItems n)) y v b t f) (suc turns) (term n inner)
    (λ a. either mark.Comma (items_from n inner turns (found ++ a ∷ [])) (pure (found ++ a ∷ [])))
    (exact_term n inner below (suc (suc turns)))
    (λ a. exact_or mark.Comma (found ++ a ∷ []) (Behind (found ++ a ∷ []) (IsItems n)) goes_on refl (suc turns)
    (items_from n inner turns (found ++ a ∷ [])) (more a))

exact_items_from : (n : ℕ) (inner : Inner) → Levels n inner → (turns : ℕ) (found : List Expr) → Exact (suc turns) (Behind found (IsItems n)) goes_on
    (items_from n inner turns found)
unfolding items_from
exact_items_from n inner below zero found [] h = at_end (Behind found (IsItems n)) goes_on (items_ends n found) items_empty
exact_items_from n inner below zero found (t ∷ ts) h = absurd (omega arith)
exact_items_from zero inner below (suc turns) found (k.Backslash ∷ ts) h =
    no_way (Behind found (IsItems 0)) goes_on k.Backslash ts (items_ends 0 found) items_empty
    (λ u b y. abs_from 0 found (k.Backslash ∷ u) y.more b y.spelled y.is u refl)
exact_items_from (suc n) inner below (suc turns) found (k.Backslash ∷ ts) h =
    rw not_last (took (Behind found (IsItems (suc n))) goes_on k.Backslash ts (and_then (abs_inside (suc n) inner ts) (λ a. pure (found ++ a ∷ [])))
    (λ b y off. items_empty b y)
    (along (AbsItems n found) (λ us. Behind found (IsItems (suc n)) (k.Backslash ∷ us)) goes_on ts
    (and_then (abs_inside (suc n) inner ts) (λ a. pure (found ++ a ∷ []))) (abs_same n found)
    (exact_made (AbsTail n) goes_on (λ a. found ++ a ∷ []) (length ts) (abs_inside (suc n) inner)
    (exact_abs n inner below (length ts)) ts (omega arith))))
exact_items_from n inner below (suc turns) found [] h =
    narrowed is_backslash (ItemsTail n found) (Behind found (IsItems n)) goes_on [] (items_from n inner (suc turns) found []) (items_to n found)
    (items_from_term n found) tt
    (term_step n inner below turns found (λ a. exact_items_from n inner below turns (found ++ a ∷ [])) [] h)
exact_items_from n inner below (suc turns) found (t ∷ ts) h =
    narrowed is_backslash (ItemsTail n found) (Behind found (IsItems n)) goes_on (t ∷ ts) (items_from n inner (suc turns) found (t ∷ ts))
    (items_to n found) (items_from_term n found) refl
    (term_step n inner below turns found (λ a. exact_items_from n inner below turns (found ++ a ∷ [])) (t ∷ ts) h)

-- ---- an expression

abbrev ExprOf : ℕ → Language Expr
ExprOf n = Then (Behind [] (IsItems n)) (λ xs. Pure (expr_of xs))

no_items : {n : ℕ} {u : Kinds} → IsItems n u [] → ⊥
no_items h = elim h [ ]

expr_same : (n : ℕ) → Same (ExprOf n) (IsExpr n)
expr_same n = record { to = unpured (Behind [] (IsItems n)) expr_of (IsExpr n) (λ u xs y. made u y.more xs y.spelled y.is); from = from }
  where
    made : (u : Kinds) (xs ys : List Expr) → IsItems n u xs → xs ≡ ys → IsExpr n u (expr_of ys)
    made u [] ys h e = absurd (no_items h)
    made u (x ∷ []) ys h e = subst (λ z. IsExpr n u (expr_of z)) e (G.expr_only h)
    made u (x ∷ y ∷ xs) ys h e = subst (λ z. IsExpr n u (expr_of z)) e (G.expr_tuple h)

    from : (u : Kinds) (b : Expr) → IsExpr n u b → ExprOf n u b
    from u b (G.expr_only {a = a} h) = pured (Behind [] (IsItems n)) expr_of u (a ∷ []) (record { more = a ∷ []; is = refl; spelled = h })
    from u b (G.expr_tuple {a = x} {b = y} {xs = xs} h) =
        pured (Behind [] (IsItems n)) expr_of u (x ∷ y ∷ xs) (record { more = x ∷ y ∷ xs; is = refl; spelled = h })

pub exact_expr : (n : ℕ) (inner : Inner) → Levels n inner → (m : ℕ) → Exact m (IsExpr n) goes_on (expr n inner)
unfolding expr
exact_expr n inner below m ts h =
    along (ExprOf n) (IsExpr n) goes_on ts (expr n inner ts) (expr_same n)
    (exact_made (Behind [] (IsItems n)) goes_on expr_of (length ts) (items_from n inner (length ts) [])
    (exact_items_from n inner below (length ts) []) ts (omega arith))

-- ---- arms, with the END behind the last

ArmTail : ℕ → Language Arm
ArmTail n = Then (IsPat n) (λ x. Then (Word mark.Colon) (λ _. Then (IsExpr n) (λ a. Pure (arm x a))))

arm_same : (n : ℕ) → Same (ArmTail n) (IsArm (suc n))
unfolding ArmTail
arm_same n = record { to = to; from = from }
  where
    to : (u : Kinds) (b : Arm) → ArmTail n u b → IsArm (suc n) u b
    to u b y =
        let z = y.is_right.is_right in
        let body : y.is_right.right ≡ z.left = pure_split (arm y.first z.first) z.left y.is_right.right z.right b z.split z.is_right in
        let all : u ≡ y.left ++ k.Colon ∷ z.left =
        y.split ∙ ap (λ s. y.left ++ s) (word_is mark.Colon (Then (IsExpr n) (λ c. Pure (arm y.first c))) y.right b y.is_right
        ∙ ap (λ s. k.Colon ∷ s) body) in
        subst (λ s. IsArm (suc n) s b) (sym all)
        (subst (λ s. IsArm (suc n) (y.left ++ k.Colon ∷ z.left) s) z.is_right.same (G.colon y.is_left z.is_left))

    from : (u : Kinds) (b : Arm) → IsArm (suc n) u b → ArmTail n u b
    from u b (G.colon {us = us} {vs = vs} {x = x} {a = a} q y) = record {
      left = us;
      right = k.Colon ∷ vs;
      split = refl;
      first = x;
      is_left = q;
      is_right = worded mark.Colon (Then (IsExpr n) (λ c. Pure (arm x c))) vs (arm x a) (pured (IsExpr n) (λ c. arm x c) vs a y);
    }

pub exact_arm : (n : ℕ) (inner : Inner) → Below n inner → (m : ℕ) → Exact (suc m) (IsArm (suc n)) goes_on (arm_rule (suc n) inner)
unfolding arm_rule ArmTail
exact_arm n inner below m ts h =
    along (ArmTail n) (IsArm (suc n)) goes_on ts (arm_rule (suc n) inner ts) (arm_same n)
    (exact_then (IsPat n) goes_on (λ x. Then (Word mark.Colon) (λ _. Then (IsExpr n) (λ a. Pure (arm x a)))) goes_on
    (λ x y v b t g. word_follows goes_on mark.Colon refl (Then (IsExpr n) (λ a. Pure (arm x a))) y v b t) m inner.pat
    (λ x us. and_then (expect mark.Colon us) (λ _ vs. and_then (inner.expr vs) (λ a. pure (arm x a)))) (below.pat (suc m))
    (λ x. exact_word mark.Colon (Then (IsExpr n) (λ a. Pure (arm x a))) goes_on m (λ vs. and_then (inner.expr vs) (λ a. pure (arm x a)))
    (exact_made (IsExpr n) goes_on (λ a. arm x a) m inner.expr (below.expr (suc m)))) ts h)
