-- Behind an IF.
use Rattle.std.proofs.Common.{◌≡◌, ℕ, zero, suc, Bool, true, false, List, [], ◌∷◌, ◌++◌, length, Some, None, refl, sym, ap, ◌∙◌, subst, arith, ◌⊎◌, inl, inr, append_assoc, append-nil}
use Rattle.hum_syntax.specs.declared.TokenKind.{TokenKind}
use Rattle.hum_syntax.specs.declared.TokenKind.TheVariants as k
use Rattle.hum_syntax.specs.declared.Keyword.TheVariants as w
use Rattle.hum_syntax.specs.declared.Expr.{Expr}
use Rattle.hum_syntax.specs.declared.Expr.TheVariants as e
use Rattle.hum_syntax.specs.declared.Branch.{Branch}
use Rattle.hum_syntax.specs.declared.Stmt.{Stmt}
use Rattle.hum_syntax.specs.Spells as G
use Rattle.hum_syntax.specs.Spells.{Kinds, branch, IsExpr, IsBranches, IsBlock, IsStmts}
use Rattle.hum_parse.specs.declared.tokens.Mark.TheVariants as mark
use Rattle.hum_parse.specs.Input.{pure, either, and_then, is}
use Rattle.hum_parse.specs.Rules.{Inner, block, else_block, ifs_from, otherwise, if_term}
use Rattle.hum_parse.proofs.Exact.{Language, Avoids, Answers, Exact, Ends, Then, exact_then}
use Rattle.hum_parse.proofs.Steps.{Same, Pure, Word, Or, Begins, along, at_end, begins_more, is_stands, no_follow, exact_or, exact_branch, exact_word, exact_made, word_is, worded, pured, pure_split, close_is, closes}
use Rattle.hum_parse.proofs.Levels.{goes_term, goes_on, BlockEnd, Below}
use Rattle.hum_parse.proofs.First.{begins_expr, expr_begins}
use Rattle.hum_parse.proofs.TermBy.{TermBy, by_if, by_else}

-- ---- a block

block_same : (n : ℕ) → Same (Then (Word mark.SquareLeft) (λ _. BlockEnd n)) (IsBlock n)
block_same n = record { to = to; from = from }
  where
    inside : (u : Kinds) (b : List Stmt) → BlockEnd n u b → IsBlock n (k.SquareLeft ∷ u) b
    inside u b y =
        let ends : (y.right ≡ k.SquareRight ∷ []) × (y.first ≡ b) = close_is mark.SquareRight y.first y.right b y.is_right in
        subst (λ z. IsBlock n (k.SquareLeft ∷ u) z) ends.1
        (subst (λ z. IsBlock n (k.SquareLeft ∷ z) y.first) (sym (y.split ∙ ap (λ z. y.left ++ z) ends.0)) (G.square y.is_left))

    to : (u : Kinds) (b : List Stmt) → Then (Word mark.SquareLeft) (λ _. BlockEnd n) u b → IsBlock n u b
    to u b y = subst (λ z. IsBlock n z b) (sym (word_is mark.SquareLeft (BlockEnd n) u b y)) (inside y.right b y.is_right)

    from : (u : Kinds) (b : List Stmt) → IsBlock n u b → Then (Word mark.SquareLeft) (λ _. BlockEnd n) u b
    from u b (G.square {us = us} xs) =
        worded mark.SquareLeft (BlockEnd n) (us ++ k.SquareRight ∷ []) b
        (record { left = us; right = k.SquareRight ∷ []; split = refl; first = b; is_left = xs; is_right = closes mark.SquareRight b })

pub exact_block : (n : ℕ) (inner : Inner) → Below n inner → (g : TokenKind → Bool) (m : ℕ) → Exact (suc m) (IsBlock n) g (block (suc n) inner)
unfolding block
exact_block n inner below g m ts h =
    along (Then (Word mark.SquareLeft) (λ _. BlockEnd n)) (IsBlock n) g ts (block (suc n) inner ts) (block_same n)
    (exact_word mark.SquareLeft (BlockEnd n) g m inner.block (below.block g (suc m)) ts h)

pub block_begins : {n : ℕ} {u : Kinds} {xs : List Stmt} → IsBlock n u xs → Begins (is mark.SquareLeft) u
block_begins (G.square xs) = refl

square_avoids : (u v : Kinds) → Begins (is mark.SquareLeft) u → Avoids goes_on (u ++ v)
square_avoids [] v b = absurd b
square_avoids (t ∷ u) v b = ap goes_on (is_stands mark.SquareLeft t b)

-- ---- the branches, behind those that were found

pub data IfTail : ℕ → List Branch → Kinds → Expr → Type 0 where
  if_only : {n : ℕ} {found xs all : List Branch} {us : Kinds} → found ++ xs ≡ all → IsBranches n us xs → IfTail n found us (e.If all None)
  if_last : {n : ℕ} {found xs all : List Branch} {ys : List Stmt} {us vs : Kinds} → found ++ xs ≡ all → IsBranches n us xs → IsBlock n vs ys
      → IfTail n found (us ++ k.Keyword w.KwElse ∷ vs) (e.If all (Some ys))

abbrev ElseTail : ℕ → List Branch → Language Expr
ElseTail n found = Then (IsBlock n) (λ ys. Pure (e.If found (Some ys)))

abbrev NoElif : ℕ → List Branch → Language Expr
NoElif n found = Or mark.Else (e.If found None) (ElseTail n found)

-- behind one branch
data NextTail : ℕ → List Branch → Kinds → Expr → Type 0 where
  next_elif : {n : ℕ} {found : List Branch} {u : Kinds} {b : Expr} → IfTail n found u b → NextTail n found (k.Keyword w.KwElif ∷ u) b
  next_none : {n : ℕ} {found : List Branch} {u : Kinds} {b : Expr} → NoElif n found u b → NextTail n found u b

abbrev BranchTail : ℕ → List Branch → Language Expr
BranchTail n found = Then (IsExpr n) (λ a. Then (IsBlock n) (λ ys. NextTail n (found ++ branch a ys ∷ [])))

tail_same : (n : ℕ) (found : List Branch) → Same (BranchTail n found) (IfTail n found)
tail_same n found = record { to = to; from = from n found }
  where
    with_elif : (us vs ws : Kinds) (a : Expr) (ys : List Stmt) (b : Expr) → IsExpr n us a → IsBlock n vs ys
        → IfTail n (found ++ branch a ys ∷ []) ws b
        → IfTail n found (us ++ (vs ++ k.Keyword w.KwElif ∷ ws)) b
    with_elif us vs ws a ys b x y (if_only {xs = xs} same t) = if_only (sym (append_assoc found (branch a ys ∷ []) xs) ∙ same) (G.branch_elif x y t)
    with_elif us vs ws a ys b x y (if_last {xs = xs} {ys = zs} {us = ps} {vs = qs} same t z) =
        subst (λ s. IfTail n found s b) (append_assoc us (vs ++ k.Keyword w.KwElif ∷ ps) (k.Keyword w.KwElse ∷ qs) ∙ ap (λ s. us ++ s)
        (append_assoc vs (k.Keyword w.KwElif ∷ ps) (k.Keyword w.KwElse ∷ qs)))
        (if_last (sym (append_assoc found (branch a ys ∷ []) xs) ∙ same) (G.branch_elif x y t) z)

    with_none : (us vs ws : Kinds) (a : Expr) (ys : List Stmt) (b : Expr) → IsExpr n us a → IsBlock n vs ys
        → NoElif n (found ++ branch a ys ∷ []) ws b
        → IfTail n found (us ++ (vs ++ ws)) b
    with_none us vs ws a ys b x y (inl z) =
        subst (λ s. IfTail n found s b) (sym (ap (λ s. us ++ (vs ++ s)) z.none ∙ ap (λ s. us ++ s) (append-nil vs)))
        (subst (λ s. IfTail n found (us ++ vs) s) z.same (if_only refl (G.branch_last x y)))
    with_none us vs ws a ys b x y (inr z) =
        let blocks : ws ≡ k.Keyword w.KwElse ∷ z.is_right.left = word_is mark.Else (ElseTail n (found ++ branch a ys ∷ [])) ws b z
        ∙ ap (λ s. k.Keyword w.KwElse ∷ s) (pure_split (e.If (found ++ branch a ys ∷ []) (Some z.is_right.first)) z.is_right.left z.right
        z.is_right.right b z.is_right.split z.is_right.is_right) in
        subst (λ s. IfTail n found s b) (append_assoc us vs (k.Keyword w.KwElse ∷ z.is_right.left) ∙ ap (λ s. us ++ (vs ++ s)) (sym blocks))
        (subst (λ s. IfTail n found ((us ++ vs) ++ k.Keyword w.KwElse ∷ z.is_right.left) s) z.is_right.is_right.same
        (if_last refl (G.branch_last x y) z.is_right.is_left))

    with_next : (us vs ws : Kinds) (a : Expr) (ys : List Stmt) (b : Expr) → IsExpr n us a → IsBlock n vs ys → (fs : List Branch) → found ++ branch a
        ys ∷ [] ≡ fs → NextTail n fs ws b
        → IfTail n found (us ++ (vs ++ ws)) b
    with_next us vs ws a ys b x y fs same (next_elif {u = u} t) = with_elif us vs u a ys b x y (subst (λ z. IfTail n z u b) (sym same) t)
    with_next us vs ws a ys b x y fs same (next_none t) = with_none us vs ws a ys b x y (subst (λ z. NoElif n z ws b) (sym same) t)

    to : (u : Kinds) (b : Expr) → BranchTail n found u b → IfTail n found u b
    to u b y =
        subst (λ z. IfTail n found z b) (sym (y.split ∙ ap (λ z. y.left ++ z) y.is_right.split))
        (with_next y.left y.is_right.left y.is_right.right y.first y.is_right.first b y.is_left y.is_right.is_left
        (found ++ branch y.first y.is_right.first ∷ []) refl y.is_right.is_right)

    none : (n : ℕ) (found xs all : List Branch) (u : Kinds) → found ++ xs ≡ all → IsBranches n u xs → BranchTail n found u (e.If all None)
    none n found xs all u same (G.branch_last {us = us} {vs = vs} {a = a} {ys = ys} x y) = record {
      left = us;
      right = vs;
      split = refl;
      first = a;
      is_left = x;
      is_right = record {
        left = vs;
        right = [];
        split = sym (append-nil vs);
        first = ys;
        is_left = y;
        is_right =
            next_none (inl (record { none = refl; same = ap (λ z. e.If z None) same }));
      };
    }
    none n found xs all u same (G.branch_elif {us = us} {vs = vs} {ws = ws} {a = a} {ys = ys} {xs = zs} x y t) = record {
      left = us;
      right = vs ++ k.Keyword w.KwElif ∷ ws;
      split = refl;
      first = a;
      is_left = x;
      is_right = record {
        left = vs;
        right = k.Keyword w.KwElif ∷ ws;
        split = refl;
        first = ys;
        is_left = y;
        is_right =
            next_elif (if_only (append_assoc found (branch a ys ∷ []) zs ∙ same) t);
      };
    }

    last : (n : ℕ) (found xs all : List Branch) (u v : Kinds) (ss : List Stmt) → found ++ xs ≡ all → IsBranches n u xs → IsBlock n v ss → BranchTail n
        found (u ++ k.Keyword w.KwElse ∷ v) (e.If all (Some ss))
    last n found xs all u v ss same (G.branch_last {us = us} {vs = vs} {a = a} {ys = ys} x y) q = record {
      left = us;
      right = vs ++ k.Keyword w.KwElse ∷ v;
      split = append_assoc us vs (k.Keyword w.KwElse ∷ v);
      first = a;
      is_left = x;
      is_right = record {
        left = vs;
        right = k.Keyword w.KwElse ∷ v;
        split = refl;
        first = ys;
        is_left = y;
        is_right = next_none (inr (worded mark.Else (ElseTail n (found ++ branch a ys ∷ [])) v (e.If all (Some ss))
            (subst (λ z. ElseTail n (found ++ branch a ys ∷ []) v (e.If z (Some ss))) same
            (pured (IsBlock n) (λ zs. e.If (found ++ branch a ys ∷ []) (Some zs)) v ss q))));
      };
    }
    last n found xs all u v ss same (G.branch_elif {us = us} {vs = vs} {ws = ws} {a = a} {ys = ys} {xs = zs} x y t) q = record {
      left = us;
      right = vs ++ k.Keyword w.KwElif ∷ (ws ++ k.Keyword w.KwElse ∷ v);
      split = append_assoc us (vs ++ k.Keyword w.KwElif ∷ ws) (k.Keyword w.KwElse ∷ v) ∙ ap (λ z. us ++ z)
          (append_assoc vs (k.Keyword w.KwElif ∷ ws) (k.Keyword w.KwElse ∷ v));
      first = a;
      is_left = x;
      is_right = record {
        left = vs;
        right = k.Keyword w.KwElif ∷ (ws ++ k.Keyword w.KwElse ∷ v);
        split = refl;
        first = ys;
        is_left = y;
        is_right =
            next_elif (if_last (append_assoc found (branch a ys ∷ []) zs ∙ same) t q);
      };
    }

    from : (n : ℕ) (found : List Branch) (u : Kinds) (b : Expr) → IfTail n found u b → BranchTail n found u b
    from n found u b (if_only {xs = xs} {all = all} same t) = none n found xs all u same t
    from n found u b (if_last {xs = xs} {all = all} {ys = ss} {us = us} {vs = vs} same t q) = last n found xs all us vs ss same t q

-- ---- and the outcomes

branches_begins : {n : ℕ} {u : Kinds} {xs : List Branch} → IsBranches n u xs → Begins begins_expr u
branches_begins (G.branch_last x y) = begins_more begins_expr _ _ (expr_begins x)
branches_begins (G.branch_elif x y t) = begins_more begins_expr _ _ (expr_begins x)

tail_begins : {n : ℕ} {found : List Branch} {u : Kinds} {b : Expr} → IfTail n found u b → Begins begins_expr u
tail_begins (if_only same t) = branches_begins t
tail_begins (if_last same t y) = begins_more begins_expr _ _ (branches_begins t)

exact_else_block : (n : ℕ) (inner : Inner) → Below n inner → (found : List Branch) (m : ℕ) → Exact (suc m) (ElseTail n found) goes_term
    (else_block (suc n) inner found)
unfolding else_block
exact_else_block n inner below found m = exact_made (IsBlock n) goes_term (λ ys. e.If found (Some ys)) m (block (suc n) inner)
    (exact_block n inner below goes_term m)

exact_none : (n : ℕ) (inner : Inner) → Below n inner → (found : List Branch) (m : ℕ)
    → Exact (suc (suc m)) (NoElif n found) goes_term (either mark.Else (else_block (suc n) inner found) (pure (e.If found None)))
exact_none n inner below found m =
    exact_or mark.Else (e.If found None) (ElseTail n found) goes_term refl (suc m) (else_block (suc n) inner found)
    (exact_else_block n inner below found m)

no_elif : (n : ℕ) (found : List Branch) (u : Kinds) (b : Expr) → NoElif n found u b → Begins (is mark.Elif) u → ⊥
no_elif n found [] b y c = c
no_elif n found (t ∷ u) b (inl y) c = let no : t ∷ u ≡ [] = y.none in cc
no_elif n found (t ∷ u) b (inr y) c =
    let at : t ≡ k.Keyword w.KwElif = is_stands mark.Elif t c in
    let all : t ∷ u ≡ k.Keyword w.KwElse ∷ y.right = word_is mark.Else (ElseTail n found) (t ∷ u) b y in
    let same : k.Keyword w.KwElif ≡ k.Keyword w.KwElse = cc in
    cc

next_from : (n : ℕ) (found : List Branch) (u : Kinds) (b : Expr) → NextTail n found u b → NoElif n found u b ⊎ Then (Word mark.Elif)
    (λ _. IfTail n found) u b
next_from n found u b (next_elif {u = us} t) = inr (worded mark.Elif (IfTail n found) us b t)
next_from n found u b (next_none t) = inl t

next_follows : (n : ℕ) (found : List Branch) (a : Expr) (y v : Kinds) (b : Expr) → Then (IsBlock n) (λ ys. NextTail n (found ++ branch a ys ∷ [])) y b
    → Avoids goes_term v → Avoids goes_on (y ++ v)
next_follows n found a y v b t f =
    square_avoids y v (subst (Begins (is mark.SquareLeft)) (sym t.split) (begins_more (is mark.SquareLeft) t.left t.right (block_begins t.is_left)))

if_ends : (n : ℕ) (found : List Branch) → Ends (IfTail n found)
if_ends n found = record {
  tail = k.Undefined ∷ k.SquareLeft ∷ k.SquareRight ∷ [];
  carried = refl;
  tree = e.If (found ++ branch e.Undef [] ∷ []) None;
  ends = if_only refl (G.branch_last (G.expr_only (G.item_last (G.chain G.undef G.calls_done))) (G.square G.stmts_none));
}

exact_ifs_from : (n : ℕ) (inner : Inner) → Below n inner → (turns : ℕ) (found : List Branch) → Exact (suc turns) (IfTail n found) goes_term
    (ifs_from (suc n) inner turns found)
unfolding ifs_from otherwise
exact_ifs_from n inner below zero found [] h = at_end (IfTail n found) goes_term (if_ends n found) (λ b y. tail_begins y)
exact_ifs_from n inner below zero found (t ∷ ts) h = absurd (omega arith)
exact_ifs_from n inner below (suc turns) found ts h =
    along (BranchTail n found) (IfTail n found) goes_term ts (ifs_from (suc n) inner (suc turns) found ts) (tail_same n found)
    (exact_then (IsExpr n) goes_on (λ a. Then (IsBlock n) (λ ys. NextTail n (found ++ branch a ys ∷ []))) goes_term
    (next_follows n found) (suc turns) inner.expr
    (λ a us. and_then (block (suc n) inner us) (λ ys. either mark.Elif (ifs_from (suc n) inner turns (found ++ branch a ys ∷ []))
    (either mark.Else (else_block (suc n) inner (found ++ branch a ys ∷ [])) (pure (e.If (found ++ branch a ys ∷ []) None)))))
    (below.expr (suc (suc turns)))
    (λ a. exact_then (IsBlock n) (λ _. false) (λ ys. NextTail n (found ++ branch a ys ∷ [])) goes_term (λ _ y v b t f. no_follow (y ++ v))
    (suc turns) (block (suc n) inner)
    (λ ys. either mark.Elif (ifs_from (suc n) inner turns (found ++ branch a ys ∷ []))
    (either mark.Else (else_block (suc n) inner (found ++ branch a ys ∷ [])) (pure (e.If (found ++ branch a ys ∷ []) None))))
    (exact_block n inner below (λ _. false) (suc turns))
    (λ ys. exact_branch mark.Elif (IfTail n (found ++ branch a ys ∷ [])) (NoElif n (found ++ branch a ys ∷ []))
    (NextTail n (found ++ branch a ys ∷ [])) goes_term
    (λ u b t. next_none t) (λ u b t. next_elif t) (next_from n (found ++ branch a ys ∷ [])) (λ b y off. let no : true ≡ false = off in cc)
    (no_elif n (found ++ branch a ys ∷ [])) (suc turns)
    (ifs_from (suc n) inner turns (found ++ branch a ys ∷ []))
    (either mark.Else (else_block (suc n) inner (found ++ branch a ys ∷ [])) (pure (e.If (found ++ branch a ys ∷ []) None)))
    (exact_ifs_from n inner below turns (found ++ branch a ys ∷ [])) (exact_none n inner below (found ++ branch a ys ∷ []) turns))) ts h)

if_same : (n : ℕ) → Same (IfTail n []) (TermBy (suc n) (k.Keyword w.KwIf))
if_same n = record { to = to; from = from }
  where
    to : (u : Kinds) (b : Expr) → IfTail n [] u b → TermBy (suc n) (k.Keyword w.KwIf) u b
    to u b (if_only {xs = xs} same t) = subst (λ z. TermBy (suc n) (k.Keyword w.KwIf) u (e.If z None)) same (by_if t)
    to u b (if_last {xs = xs} {ys = ys} same t y) = subst (λ z. TermBy (suc n) (k.Keyword w.KwIf) u (e.If z (Some ys))) same (by_else t y)

    from : (u : Kinds) (b : Expr) → TermBy (suc n) (k.Keyword w.KwIf) u b → IfTail n [] u b
    from u b (by_if t) = if_only refl t
    from u b (by_else t y) = if_last refl t y

pub exact_if : (n : ℕ) (inner : Inner) → Below n inner → (ts : Kinds) → Answers (TermBy (suc n) (k.Keyword w.KwIf)) goes_term ts
    (if_term (suc n) inner ts)
unfolding if_term
exact_if n inner below ts = along (IfTail n []) (TermBy (suc n) (k.Keyword w.KwIf)) goes_term ts (if_term (suc n) inner ts) (if_same n)
    (exact_ifs_from n inner below (length ts) [] ts (omega arith))
