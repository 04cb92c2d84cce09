-- Patterns.
use Rattle.std.proofs.Common.{◌≡◌, ℕ, ℤ, zero, suc, Bool, true, false, List, [], ◌∷◌, ◌++◌, length, Ok, Err, refl, sym, ap, ◌∙◌, subst, arith, ◌⊎◌, inl, inr, append_assoc, append-nil}
use Rattle.hum_syntax.specs.declared.TokenKind.{TokenKind}
use Rattle.hum_syntax.specs.declared.TokenKind.TheVariants as k
use Rattle.hum_syntax.specs.declared.Keyword.TheVariants as w
use Rattle.hum_syntax.specs.declared.Pat.{Pat}
use Rattle.hum_syntax.specs.declared.Pat.TheVariants as p
use Rattle.hum_syntax.specs.Spells as G
use Rattle.hum_syntax.specs.Spells.{Kinds, IsPterm, IsPats, IsPat, IsTerm, IsExpr}
use Rattle.hum_parse.specs.declared.tokens.Mark.TheVariants as mark
use Rattle.hum_parse.specs.Input.{pure, expect, either, and_then}
use Rattle.hum_parse.specs.Rules.{Inner, pterm, pterm_by, pat_paren, pat_inside, pat_value, pats_from, pat, pat_behind, pat_of}
use Rattle.hum_parse.proofs.Levels.{goes_term, goes_on, avoids_less, Behind, PatBehind, PatsRest, not_last, Below, Levels}
use Rattle.hum_parse.proofs.Exact.{Language, Avoids, Answers, Exact, Ends, Then, exact_then}
use Rattle.hum_parse.proofs.Steps.{apart, unpured, Same, Pure, Word, Or, Begins, along, took, at_end, no_way, exact_pure, exact_or, begins_more, word_follows, Close, closes, exact_close, exact_else, exact_shut, pured, pure_split, exact_made}

-- ---- a pattern between commas

abbrev pub begins_pterm : TokenKind → Bool
begins_pterm k.Wildcard = true
begins_pterm (k.Name t) = true
begins_pterm (k.Number z) = true
begins_pterm (k.Symbol t) = true
begins_pterm (k.Keyword w.KwTrue) = true
begins_pterm (k.Keyword w.KwFalse) = true
begins_pterm (k.Keyword w.KwNil) = true
begins_pterm k.Undefined = true
begins_pterm k.Dollar = true
begins_pterm k.ParenLeft = true
begins_pterm _ = false

pub pterm_begins : {n : ℕ} {u : Kinds} {x : Pat} → IsPterm n u x → Begins begins_pterm u
pterm_begins G.p_any = refl
pterm_begins G.p_name = refl
pterm_begins G.p_number = refl
pterm_begins G.p_symbol = refl
pterm_begins G.p_true = refl
pterm_begins G.p_false = refl
pterm_begins G.p_nil = refl
pterm_begins G.p_undef = refl
pterm_begins (G.p_value a) = refl
pterm_begins G.p_empty = refl
pterm_begins (G.p_paren x) = refl

pterm_ends : (n : ℕ) → Ends (IsPterm n)
pterm_ends n = record { tail = k.Wildcard ∷ []; carried = refl; tree = p.Any; ends = G.p_any }

module _ (n : ℕ) (g : TokenKind → Bool) (ts : Kinds) where
  -- a pattern that is one token
  one_token : (t : TokenKind) (x : Pat) → IsPterm n (t ∷ []) x → ((u : Kinds) (b : Pat) → IsPterm n (t ∷ u) b → Pure x u b)
      → Answers (IsPterm n) g (t ∷ ts) (Ok (x, ts))
  one_token t x made only = took (IsPterm n) g t ts (Ok (x, ts)) (λ b y off. pterm_begins y)
      (along (Pure x) (λ us. IsPterm n (t ∷ us)) g ts (Ok (x, ts))
      (record { to = λ u b y. subst (λ z. IsPterm n (t ∷ z) b) (sym y.none) (subst (IsPterm n (t ∷ [])) y.same made); from = only })
      (exact_pure x g ts))

  not_here : (t : TokenKind) → begins_pterm t ≡ false → Answers (IsPterm n) g (t ∷ ts) (Err (t ∷ ts))
  not_here t off = no_way (IsPterm n) g t ts (pterm_ends n) (λ b y. pterm_begins y) (λ u b y. let no : true ≡ false =
      sym (pterm_begins y) ∙ off in cc)

-- What stands behind a token, by the cases of the grammar.
only_any : {n : ℕ} (u : Kinds) (b : Pat) → IsPterm n (k.Wildcard ∷ u) b → Pure p.Any u b
only_any u b G.p_any = record { none = refl; same = refl }

pub only_name : {n : ℕ} (t : List ℕ) (u : Kinds) (b : Pat) → IsPterm n (k.Name t ∷ u) b → Pure (p.Bind t) u b
only_name t u b G.p_name = record { none = refl; same = refl }

only_number : {n : ℕ} (z : ℤ) (u : Kinds) (b : Pat) → IsPterm n (k.Number z ∷ u) b → Pure (p.Num z) u b
only_number z u b G.p_number = record { none = refl; same = refl }

only_symbol : {n : ℕ} (t : List ℕ) (u : Kinds) (b : Pat) → IsPterm n (k.Symbol t ∷ u) b → Pure (p.Sym t) u b
only_symbol t u b G.p_symbol = record { none = refl; same = refl }

only_true : {n : ℕ} (u : Kinds) (b : Pat) → IsPterm n (k.Keyword w.KwTrue ∷ u) b → Pure p.True u b
only_true u b G.p_true = record { none = refl; same = refl }

only_false : {n : ℕ} (u : Kinds) (b : Pat) → IsPterm n (k.Keyword w.KwFalse ∷ u) b → Pure p.False u b
only_false u b G.p_false = record { none = refl; same = refl }

only_nil : {n : ℕ} (u : Kinds) (b : Pat) → IsPterm n (k.Keyword w.KwNil ∷ u) b → Pure p.Nil u b
only_nil u b G.p_nil = record { none = refl; same = refl }

only_undef : {n : ℕ} (u : Kinds) (b : Pat) → IsPterm n (k.Undefined ∷ u) b → Pure p.Undef u b
only_undef u b G.p_undef = record { none = refl; same = refl }

-- ---- `$ term`

abbrev ValueTail : ℕ → Language Pat
ValueTail n = Then (IsTerm n) (λ a. Pure (p.Value a))

value_same : (n : ℕ) → Same (ValueTail n) (λ us. IsPterm (suc n) (k.Dollar ∷ us))
value_same n = record { to = unpured (IsTerm n) (λ a. p.Value a) (λ us. IsPterm (suc n) (k.Dollar ∷ us)) (λ u a x. G.p_value x); from = from }
  where
    from : (u : Kinds) (b : Pat) → IsPterm (suc n) (k.Dollar ∷ u) b → ValueTail n u b
    from u b (G.p_value {a = a} x) = pured (IsTerm n) (λ c. p.Value c) u a x

exact_value : (n : ℕ) (inner : Inner) → Below n inner → (m : ℕ) → Exact (suc m) (ValueTail n) goes_term (pat_value (suc n) inner)
unfolding pat_value
exact_value n inner below m = exact_made (IsTerm n) goes_term (λ a. p.Value a) m inner.term (below.term (suc m))

-- ---- `( pat )`

abbrev ParenTail : ℕ → Language Pat
ParenTail n = Then (IsPat n) (λ x. Then (Word mark.ParenRight) (λ _. Pure x))

exact_paren : (n : ℕ) (inner : Inner) → Below n inner → (g : TokenKind → Bool) (m : ℕ) → Exact (suc m) (ParenTail n) g (pat_inside (suc n) inner)
unfolding pat_inside
exact_paren n inner below g m =
    exact_then (IsPat n) goes_on (λ x. Then (Word mark.ParenRight) (λ _. Pure x)) g
    (λ a y v b t f. word_follows goes_on mark.ParenRight refl (Pure a) y v b t) m inner.pat
    (λ x ts. and_then (expect mark.ParenRight ts) (λ _. pure x)) (below.pat (suc m)) (λ x. exact_close mark.ParenRight x g m)

-- ---- a pattern between commas, whole

pats_begins : {n : ℕ} {u : Kinds} {xs : List Pat} → IsPats n u xs → Begins begins_pterm u
pats_begins (G.pats_last x) = pterm_begins x
pats_begins (G.pats_comma x xs) = begins_more begins_pterm _ _ (pterm_begins x)

pub pat_begins : {n : ℕ} {u : Kinds} {x : Pat} → IsPat n u x → Begins begins_pterm u
pat_begins (G.pat_only xs) = pats_begins xs
pat_begins (G.pat_tuple xs) = pats_begins xs

paren_to : (n : ℕ) (u : Kinds) (b : Pat) → ParenTail n u b → IsPterm (suc n) (k.ParenLeft ∷ u) b
paren_to n u b y =
    let inner : y.right ≡ k.ParenRight ∷ [] = y.is_right.split ∙ ap (λ z. z ++ y.is_right.right) y.is_right.is_left ∙ ap (λ z. k.ParenRight ∷ z)
    y.is_right.is_right.none in
    let all : u ≡ y.left ++ k.ParenRight ∷ [] = y.split ∙ ap (λ z. y.left ++ z) inner in
    subst (λ z. IsPterm (suc n) (k.ParenLeft ∷ u) z) y.is_right.is_right.same
    (subst (λ z. IsPterm (suc n) (k.ParenLeft ∷ z) y.first) (sym all) (G.p_paren y.is_left))

paren_from : (n : ℕ) (u : Kinds) (b : Pat) → IsPterm (suc n) (k.ParenLeft ∷ u) b → ParenTail n u b ⊎ Close mark.ParenRight p.Nil u b
paren_from n u b G.p_empty = inr (closes mark.ParenRight p.Nil)
paren_from n u b (G.p_paren x) =
    inl (record { left = _; right = k.ParenRight ∷ []; split = refl; first = b; is_left = x; is_right = closes mark.ParenRight b })

paren_some : (n : ℕ) (u : Kinds) (b : Pat) → ParenTail n u b → Begins begins_pterm u
paren_some n u b y = subst (Begins begins_pterm) (sym y.split) (begins_more begins_pterm y.left y.right (pat_begins y.is_left))

shut_same : Same (Close mark.ParenRight p.Nil) (λ us. IsPterm 0 (k.ParenLeft ∷ us))
shut_same = record { to = to; from = from }
  where
    to : (u : Kinds) (b : Pat) → Close mark.ParenRight p.Nil u b → IsPterm 0 (k.ParenLeft ∷ u) b
    to u b y =
        let all : u ≡ k.ParenRight ∷ [] = y.split ∙ ap (λ z. z ++ y.right) y.is_left ∙ ap (λ z. k.ParenRight ∷ z) y.is_right.none in
        subst (λ z. IsPterm 0 (k.ParenLeft ∷ u) z) y.is_right.same (subst (λ z. IsPterm 0 (k.ParenLeft ∷ z) p.Nil) (sym all) G.p_empty)

    from : (u : Kinds) (b : Pat) → IsPterm 0 (k.ParenLeft ∷ u) b → Close mark.ParenRight p.Nil u b
    from u b G.p_empty = closes mark.ParenRight p.Nil

no_value : (u : Kinds) (b : Pat) → IsPterm 0 (k.Dollar ∷ u) b → ⊥
no_value u b h = elim h [ ]

pterm_at : (n : ℕ) (inner : Inner) → Levels n inner → (t : TokenKind) (ts : Kinds) → Answers (IsPterm n) goes_term (t ∷ ts) (pterm_by n inner t ts)
unfolding pterm_by pat_paren
pterm_at n inner below k.Wildcard ts = one_token n goes_term ts k.Wildcard p.Any G.p_any only_any
pterm_at n inner below (k.Name t) ts = one_token n goes_term ts (k.Name t) (p.Bind t) G.p_name (only_name t)
pterm_at n inner below (k.Number z) ts = one_token n goes_term ts (k.Number z) (p.Num z) G.p_number (only_number z)
pterm_at n inner below (k.Symbol t) ts = one_token n goes_term ts (k.Symbol t) (p.Sym t) G.p_symbol (only_symbol t)
pterm_at n inner below (k.Keyword w.KwTrue) ts = one_token n goes_term ts (k.Keyword w.KwTrue) p.True G.p_true only_true
pterm_at n inner below (k.Keyword w.KwFalse) ts = one_token n goes_term ts (k.Keyword w.KwFalse) p.False G.p_false only_false
pterm_at n inner below (k.Keyword w.KwNil) ts = one_token n goes_term ts (k.Keyword w.KwNil) p.Nil G.p_nil only_nil
pterm_at n inner below k.Undefined ts = one_token n goes_term ts k.Undefined p.Undef G.p_undef only_undef
pterm_at zero inner below k.Dollar ts = no_way (IsPterm 0) goes_term k.Dollar ts (pterm_ends 0) (λ b y. pterm_begins y) no_value
pterm_at (suc n) inner below k.Dollar ts =
    rw not_last (took (IsPterm (suc n)) goes_term k.Dollar ts (pat_value (suc n) inner ts) (λ b y off. pterm_begins y)
    (along (ValueTail n) (λ us. IsPterm (suc n) (k.Dollar ∷ us)) goes_term ts (pat_value (suc n) inner ts) (value_same n)
    (exact_value n inner below (length ts) ts (omega arith))))
pterm_at zero inner below k.ParenLeft ts =
    took (IsPterm 0) goes_term k.ParenLeft ts (either mark.ParenRight (pure p.Nil) (λ ts. Err ts) ts) (λ b y off. pterm_begins y)
    (along (Close mark.ParenRight p.Nil) (λ us. IsPterm 0 (k.ParenLeft ∷ us)) goes_term ts
    (either mark.ParenRight (pure p.Nil) (λ ts. Err ts) ts) shut_same
    (exact_shut mark.ParenRight p.Nil goes_term (length ts) ts (omega arith)))
pterm_at (suc n) inner below k.ParenLeft ts =
    rw not_last (took (IsPterm (suc n)) goes_term k.ParenLeft ts (either mark.ParenRight (pure p.Nil) (pat_inside (suc n) inner) ts)
    (λ b y off. pterm_begins y)
    (exact_else mark.ParenRight p.Nil (ParenTail n) (λ us. IsPterm (suc n) (k.ParenLeft ∷ us)) goes_term (paren_to n) G.p_empty (paren_from n)
    (λ b y. paren_some n [] b y) (λ u b y c. apart begins_pterm mark.ParenRight refl u (paren_some n u b y) c) (length ts) (pat_inside (suc n) inner)
    (exact_paren n inner below goes_term (length ts)) ts (omega arith)))
pterm_at n inner below t ts = not_here n goes_term ts t refl

pub exact_pterm : (n : ℕ) (inner : Inner) → Levels n inner → (m : ℕ) → Exact m (IsPterm n) goes_term (pterm n inner)
unfolding pterm
exact_pterm n inner below m [] h = at_end (IsPterm n) goes_term (pterm_ends n) (λ b y. pterm_begins y)
exact_pterm n inner below m (t ∷ ts) h = pterm_at n inner below t ts

-- ---- patterns with commas between

abbrev PatsTail : ℕ → List Pat → Language (List Pat)
PatsTail n found = Then (IsPterm n) (λ x. Or mark.Comma (found ++ x ∷ []) (Behind (found ++ x ∷ []) (IsPats n)))

pats_same : (n : ℕ) (found : List Pat) → Same (PatsTail n found) (Behind found (IsPats n))
pats_same n found = record { to = to; from = from }
  where
    joined : (left right : Kinds) (x : Pat) (b : List Pat) → IsPterm n left x → Or mark.Comma (found ++ x ∷ []) (Behind (found ++ x ∷ []) (IsPats n))
        right b → Behind found (IsPats n) (left ++ right) b
    joined left right x b p (inl y) = record {
      more = x ∷ [];
      is = y.same;
      spelled = subst (λ z. IsPats n z (x ∷ [])) (sym (ap (λ z. left ++ z) y.none ∙ append-nil left)) (G.pats_last p);
    }
    joined left right x b p (inr y) = record {
      more = x ∷ y.is_right.more;
      is = sym (append_assoc found (x ∷ []) y.is_right.more) ∙ y.is_right.is;
      spelled = subst (λ z. IsPats n (left ++ z) (x ∷ y.is_right.more)) (sym (y.split ∙ ap (λ z. z ++ y.right) y.is_left))
          (G.pats_comma p y.is_right.spelled);
    }

    to : (u : Kinds) (b : List Pat) → PatsTail n found u b → Behind found (IsPats n) u b
    to u b y = subst (λ z. Behind found (IsPats n) z b) (sym y.split) (joined y.left y.right y.first b y.is_left y.is_right)

    parted : (u : Kinds) (xs b : List Pat) → IsPats n u xs → found ++ xs ≡ b → PatsTail n found u b
    parted u xs b (G.pats_last p) e = record {
      left = u;
      right = [];
      split = sym (append-nil u);
      first = _;
      is_left = p;
      is_right =
          inl (record { none = refl; same = e });
    }
    parted u xs b (G.pats_comma {us = us} {vs = vs} {x = x} {xs = ys} p ps) e = record {
      left = us;
      right = k.Comma ∷ vs;
      split = refl;
      first = x;
      is_left = p;
      is_right = inr (record {
        left = k.Comma ∷ [];
        right = vs;
        split = refl;
        first = tt;
        is_left = refl;
        is_right =
            record { more = ys; is = append_assoc found (x ∷ []) ys ∙ e; spelled = ps };
      });
    }

    from : (u : Kinds) (b : List Pat) → Behind found (IsPats n) u b → PatsTail n found u b
    from u b y = parted u y.more b y.spelled y.is

pub or_follows : {A : Type 0} (a : A) (S : Language A) (y v : Kinds) (b : A) → Or mark.Comma a S y b → Avoids goes_on v → Avoids goes_term (y ++ v)
or_follows a S y v b (inl x) f = subst (λ z. Avoids goes_term (z ++ v)) (sym x.none) (avoids_less v f)
or_follows a S y v b (inr x) f = word_follows goes_term mark.Comma refl S y v b x

exact_pats_from : (n : ℕ) (inner : Inner) → Levels n inner → (turns : ℕ) (found : List Pat)
    → Exact (suc turns) (PatsRest n found) goes_on (pats_from n inner turns found)
unfolding pats_from
exact_pats_from n inner below zero found [] h =
    exact_or mark.Comma found (Behind found (IsPats n)) goes_on refl 0 (λ ts. Err ts) (λ ts l. absurd (omega arith)) [] h
exact_pats_from n inner below zero found (t ∷ ts) h = absurd (omega arith)
exact_pats_from n inner below (suc turns) found ts h =
    exact_or mark.Comma found (Behind found (IsPats n)) goes_on refl (suc turns)
    (λ us. and_then (pterm n inner us) (λ x. pats_from n inner turns (found ++ x ∷ [])))
    (λ us l. along (PatsTail n found) (Behind found (IsPats n)) goes_on us
    (and_then (pterm n inner us) (λ x. pats_from n inner turns (found ++ x ∷ []))) (pats_same n found)
    (exact_then (IsPterm n) goes_term (λ x. PatsRest n (found ++ x ∷ [])) goes_on
    (λ x y v b t f. or_follows (found ++ x ∷ []) (Behind (found ++ x ∷ []) (IsPats n)) y v b t f) turns (pterm n inner)
    (λ x. pats_from n inner turns (found ++ x ∷ [])) (exact_pterm n inner below (suc turns))
    (λ x. exact_pats_from n inner below turns (found ++ x ∷ [])) us l)) ts h

-- ---- a pattern

pub exact_pat_behind : (n : ℕ) (inner : Inner) → Levels n inner → (x : Pat) (m : ℕ) → Exact m (PatBehind n x) goes_on (pat_behind n inner x)
unfolding pat_behind
exact_pat_behind n inner below x m ts h =
    exact_made (PatsRest n (x ∷ [])) goes_on pat_of (length ts) (pats_from n inner (length ts) (x ∷ []))
    (exact_pats_from n inner below (length ts) (x ∷ [])) ts (omega arith)

pat_behind_follows : (n : ℕ) (x : Pat) (y v : Kinds) (b : Pat) → PatBehind n x y b → Avoids goes_on v → Avoids goes_term (y ++ v)
pat_behind_follows n x y v b t f =
    subst (λ z. Avoids goes_term (z ++ v)) (sym (pure_split (pat_of t.first) t.left y t.right b t.split t.is_right))
    (or_follows (x ∷ []) (Behind (x ∷ []) (IsPats n)) t.left v t.first t.is_left f)

pub pat_same : (n : ℕ) → Same (Then (IsPterm n) (PatBehind n)) (IsPat n)
pat_same n = record { to = to; from = from }
  where
    made : (u : Kinds) (xs ys : List Pat) → IsPats n u xs → xs ≡ ys → IsPat n u (pat_of ys)
    made u [] ys h e = elim h [ ]
    made u (x ∷ []) ys h e = subst (λ z. IsPat n u (pat_of z)) e (G.pat_only h)
    made u (x ∷ y ∷ xs) ys h e = subst (λ z. IsPat n u (pat_of z)) e (G.pat_tuple h)

    to : (u : Kinds) (b : Pat) → Then (IsPterm n) (PatBehind n) u b → IsPat n u b
    to u b y =
        let z = y.is_right in
        let all : u ≡ y.left ++ z.left = y.split ∙ ap (λ s. y.left ++ s) (pure_split (pat_of z.first) z.left y.right z.right b z.split z.is_right) in
        let xs : Behind [] (IsPats n) (y.left ++ z.left) z.first =
        (pats_same n []).to (y.left ++ z.left) z.first
        (record { left = y.left; right = z.left; split = refl; first = y.first; is_left = y.is_left; is_right = z.is_left }) in
        subst (λ s. IsPat n s b) (sym all)
        (subst (λ s. IsPat n (y.left ++ z.left) s) z.is_right.same (made (y.left ++ z.left) xs.more z.first xs.spelled xs.is))

    parted : (u : Kinds) (xs : List Pat) → PatsTail n [] u xs → Then (IsPterm n) (PatBehind n) u (pat_of xs)
    parted u xs y = record {
      left = y.left;
      right = y.right;
      split = y.split;
      first = y.first;
      is_left = y.is_left;
      is_right =
          pured (PatsRest n (y.first ∷ [])) pat_of y.right xs y.is_right;
    }

    from : (u : Kinds) (b : Pat) → IsPat n u b → Then (IsPterm n) (PatBehind n) u b
    from u b (G.pat_only h) = parted u (b ∷ []) ((pats_same n []).from u (b ∷ []) (record { more = b ∷ []; is = refl; spelled = h }))
    from u b (G.pat_tuple {x = x} {y = y} {xs = xs} h) =
        parted u (x ∷ y ∷ xs) ((pats_same n []).from u (x ∷ y ∷ xs) (record { more = x ∷ y ∷ xs; is = refl; spelled = h }))

pub exact_pat : (n : ℕ) (inner : Inner) → Levels n inner → (m : ℕ) → Exact m (IsPat n) goes_on (pat n inner)
unfolding pat
exact_pat n inner below m ts h =
    along (Then (IsPterm n) (PatBehind n)) (IsPat n) goes_on ts (pat n inner ts) (pat_same n)
    (exact_then (IsPterm n) goes_term (PatBehind n) goes_on (pat_behind_follows n) (length ts) (pterm n inner)
    (pat_behind n inner) (exact_pterm n inner below (suc (length ts))) (λ x. exact_pat_behind n inner below x (suc (length ts))) ts (omega arith))
