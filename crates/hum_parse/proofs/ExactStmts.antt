-- Statements.
use Rattle.std.proofs.Common.{◌≡◌, ℕ, suc, false, [], ◌∷◌, ◌++◌, length, refl, sym, ap, ◌∙◌, subst, arith, ◌⊎◌, inl, inr}
use Rattle.hum_syntax.specs.declared.TokenKind.{TokenKind}
use Rattle.hum_syntax.specs.declared.TokenKind.TheVariants as k
use Rattle.hum_syntax.specs.declared.Keyword.TheVariants as w
use Rattle.hum_syntax.specs.declared.Stmt.{Stmt}
use Rattle.hum_syntax.specs.declared.Stmt.TheVariants as s
use Rattle.hum_syntax.specs.Spells as G
use Rattle.hum_syntax.specs.Spells.{Kinds, arm, IsExpr, IsPat, IsArms, IsArm, IsStmts, IsStmt}
use Rattle.hum_parse.specs.declared.tokens.Mark.TheVariants as mark
use Rattle.hum_parse.specs.Input.{expect_name, Outcome, pure, expect, and_then}
use Rattle.hum_parse.specs.Rules.{Inner, let_rule, create, send, does, becomes, throws, stmt, stmt_by}
use Rattle.hum_parse.proofs.Exact.{Language, Avoids, Answers, Exact, Then, exact_then}
use Rattle.hum_parse.proofs.Steps.{Same, Pure, Word, Begins, along, took, at_end, narrowed, word_follows, no_follow, exact_word, exact_made, word_is, worded, pured, unpured, pure_split}
use Rattle.hum_parse.proofs.Levels.{not_last, goes_on, Below}
use Rattle.hum_parse.proofs.Names.{NameIs, exact_name}
use Rattle.hum_parse.proofs.ExactLets.{LetTail, exact_let}
use Rattle.hum_parse.proofs.Words.{is_word, expr_word, stmt_begins, stmt_ends}

-- ---- CREATE

abbrev CreateTail : ℕ → Language Stmt
CreateTail n = Then NameIs (λ f. Then (Word mark.With) (λ _. Then (IsExpr n) (λ a. Pure (s.Create f a))))

create_from : (n : ℕ) (u : Kinds) (x : Stmt) → IsStmt (suc n) (k.Keyword w.KwCreate ∷ u) x → CreateTail n u x
create_from n u x (G.create {f = f} {us = us} {a = a} y) = record {
  left = k.Name f ∷ [];
  right = k.Keyword w.KwWith ∷ us;
  split = refl;
  first = f;
  is_left = refl;
  is_right = worded mark.With (Then (IsExpr n) (λ c. Pure (s.Create f c))) us (s.Create f a) (pured (IsExpr n) (λ c. s.Create f c) us a y);
}
create_from n u x (G.does {a = a} y) = absurd (expr_word (k.Keyword w.KwCreate ∷ u) a n y refl)

create_to : (n : ℕ) (u : Kinds) (x : Stmt) → CreateTail n u x → IsStmt (suc n) (k.Keyword w.KwCreate ∷ u) x
create_to n u x y =
    let z = y.is_right.is_right in
    let body : y.is_right.right ≡ z.left = pure_split (s.Create y.first z.first) z.left y.is_right.right z.right x z.split z.is_right in
    let all : u ≡ k.Name y.first ∷ k.Keyword w.KwWith ∷ z.left =
    y.split ∙ ap (λ q. q ++ y.right) y.is_left
    ∙ ap (λ q. k.Name y.first ∷ q) (word_is mark.With (Then (IsExpr n) (λ c. Pure (s.Create y.first c))) y.right x y.is_right
    ∙ ap (λ q. k.Keyword w.KwWith ∷ q) body) in
    subst (λ q. IsStmt (suc n) (k.Keyword w.KwCreate ∷ q) x) (sym all)
    (subst (λ q. IsStmt (suc n) (k.Keyword w.KwCreate ∷ k.Name y.first ∷ k.Keyword w.KwWith ∷ z.left) q) z.is_right.same (G.create z.is_left))

exact_create : (n : ℕ) (inner : Inner) → Below n inner → (m : ℕ) → Exact (suc m) (CreateTail n) goes_on (create (suc n) inner)
unfolding create
exact_create n inner below m =
    exact_then NameIs (λ _. false) (λ f. Then (Word mark.With) (λ _. Then (IsExpr n) (λ a. Pure (s.Create f a)))) goes_on
    (λ f y v b t g. no_follow (y ++ v)) m expect_name
    (λ f us. and_then (expect mark.With us) (λ _ vs. and_then (inner.expr vs) (λ a. pure (s.Create f a)))) (λ ts h. exact_name (λ _. false) ts)
    (λ f. exact_word mark.With (Then (IsExpr n) (λ a. Pure (s.Create f a))) goes_on m (λ vs. and_then (inner.expr vs) (λ a. pure (s.Create f a)))
    (exact_made (IsExpr n) goes_on (λ a. s.Create f a) m inner.expr (below.expr (suc m))))

-- ---- the others

abbrev SendTail : ℕ → Language Stmt
SendTail n = Then (IsExpr n) (λ a. Then (Word mark.To) (λ _. Then (IsExpr n) (λ b. Pure (s.Send a b))))

send_from : (n : ℕ) (u : Kinds) (x : Stmt) → IsStmt (suc n) (k.Keyword w.KwSend ∷ u) x → SendTail n u x
send_from n u x (G.send {us = us} {vs = vs} {a = a} {b = b} y z) = record {
  left = us;
  right = k.Keyword w.KwTo ∷ vs;
  split = refl;
  first = a;
  is_left = y;
  is_right = worded mark.To (Then (IsExpr n) (λ c. Pure (s.Send a c))) vs (s.Send a b) (pured (IsExpr n) (λ c. s.Send a c) vs b z);
}
send_from n u x (G.does {a = a} y) = absurd (expr_word (k.Keyword w.KwSend ∷ u) a n y refl)

send_to : (n : ℕ) (u : Kinds) (x : Stmt) → SendTail n u x → IsStmt (suc n) (k.Keyword w.KwSend ∷ u) x
send_to n u x y =
    let z = y.is_right.is_right in
    let body : y.is_right.right ≡ z.left = pure_split (s.Send y.first z.first) z.left y.is_right.right z.right x z.split z.is_right in
    let all : u ≡ y.left ++ k.Keyword w.KwTo ∷ z.left =
    y.split ∙ ap (λ q. y.left ++ q) (word_is mark.To (Then (IsExpr n) (λ c. Pure (s.Send y.first c))) y.right x y.is_right
    ∙ ap (λ q. k.Keyword w.KwTo ∷ q) body) in
    subst (λ q. IsStmt (suc n) (k.Keyword w.KwSend ∷ q) x) (sym all)
    (subst (λ q. IsStmt (suc n) (k.Keyword w.KwSend ∷ (y.left ++ k.Keyword w.KwTo ∷ z.left)) q) z.is_right.same (G.send y.is_left z.is_left))

exact_send : (n : ℕ) (inner : Inner) → Below n inner → (m : ℕ) → Exact (suc m) (SendTail n) goes_on (send (suc n) inner)
unfolding send
exact_send n inner below m =
    exact_then (IsExpr n) goes_on (λ a. Then (Word mark.To) (λ _. Then (IsExpr n) (λ b. Pure (s.Send a b)))) goes_on
    (λ a y v b t g. word_follows goes_on mark.To refl (Then (IsExpr n) (λ c. Pure (s.Send a c))) y v b t) m inner.expr
    (λ a us. and_then (expect mark.To us) (λ _ vs. and_then (inner.expr vs) (λ b. pure (s.Send a b)))) (below.expr (suc m))
    (λ a. exact_word mark.To (Then (IsExpr n) (λ b. Pure (s.Send a b))) goes_on m (λ vs. and_then (inner.expr vs) (λ b. pure (s.Send a b)))
    (exact_made (IsExpr n) goes_on (λ b. s.Send a b) m inner.expr (below.expr (suc m))))

become_from : (n : ℕ) (u : Kinds) (x : Stmt) → IsStmt (suc n) (k.Keyword w.KwBecome ∷ u) x → Then (IsExpr n) (λ a. Pure (s.Become a)) u x
become_from n u x (G.become {a = a} y) = pured (IsExpr n) (λ c. s.Become c) u a y
become_from n u x (G.does {a = a} y) = absurd (expr_word (k.Keyword w.KwBecome ∷ u) a n y refl)

throw_from : (n : ℕ) (u : Kinds) (x : Stmt) → IsStmt (suc n) (k.Keyword w.KwThrow ∷ u) x → Then (IsExpr n) (λ a. Pure (s.Throw a)) u x
throw_from n u x (G.throw {a = a} y) = pured (IsExpr n) (λ c. s.Throw c) u a y
throw_from n u x (G.does {a = a} y) = absurd (expr_word (k.Keyword w.KwThrow ∷ u) a n y refl)

does_from : (n : ℕ) (u : Kinds) (x : Stmt) → IsStmt (suc n) u x → Then (IsExpr n) (λ a. Pure (s.Do a)) u x ⊎ Begins is_word u
does_from n u x (G.let_is p a) = inr refl
does_from n u x (G.let_unit a) = inr refl
does_from n u x (G.let_fun p a) = inr refl
does_from n u x (G.send a b) = inr refl
does_from n u x (G.create a) = inr refl
does_from n u x (G.become a) = inr refl
does_from n u x (G.throw a) = inr refl
does_from n u x (G.does {a = a} y) = inl (pured (IsExpr n) (λ c. s.Do c) u a y)

exact_does : (n : ℕ) (inner : Inner) → Below n inner → (ts : Kinds) → Answers (Then (IsExpr n) (λ a. Pure (s.Do a))) goes_on
    ts (does (suc n) inner ts)
unfolding does
exact_does n inner below ts = exact_made (IsExpr n) goes_on (λ a. s.Do a) (length ts) inner.expr (below.expr (suc (length ts))) ts (omega arith)

pub some_stmt : (n : ℕ) (x : Stmt) → IsStmt n [] x → ⊥
some_stmt n x y = stmt_begins n [] x y

module _ (n : ℕ) (inner : Inner) (below : Below n inner) (ts : Kinds) where
  by_word : (t : TokenKind) (T : Language Stmt) (o : Outcome Stmt) → Same T (λ us. IsStmt (suc n) (t ∷ us)) → Answers T goes_on ts o
      → Answers (IsStmt (suc n)) goes_on (t ∷ ts) o
  by_word t T o same x = took (IsStmt (suc n)) goes_on t ts o (λ b y off. some_stmt (suc n) b y)
      (along T (λ us. IsStmt (suc n) (t ∷ us)) goes_on ts o same x)

  by_does : (us : Kinds) → Avoids is_word us → Answers (IsStmt (suc n)) goes_on us (does (suc n) inner us)
  by_does us off = narrowed is_word (Then (IsExpr n) (λ a. Pure (s.Do a))) (IsStmt (suc n)) goes_on us (does (suc n) inner us)
      (unpured (IsExpr n) (λ a. s.Do a) (IsStmt (suc n)) (λ u a y. G.does y)) (does_from n) off (exact_does n inner below us)

stmt_at : (n : ℕ) (inner : Inner) → Below n inner → (t : TokenKind) (ts : Kinds) → Answers (IsStmt (suc n)) goes_on (t ∷ ts)
    (stmt_by (suc n) inner t ts)
unfolding stmt_by becomes throws
stmt_at n inner below (k.Keyword w.KwLet) ts =
    by_word n inner below ts (k.Keyword w.KwLet) (LetTail n) (let_rule (suc n) inner ts) (record { to = λ u b y. y; from = λ u b y. y })
    (exact_let n inner below ts)
stmt_at n inner below (k.Keyword w.KwSend) ts =
    by_word n inner below ts (k.Keyword w.KwSend) (SendTail n) (send (suc n) inner ts) (record { to = send_to n; from = send_from n })
    (exact_send n inner below (length ts) ts (omega arith))
stmt_at n inner below (k.Keyword w.KwCreate) ts =
    by_word n inner below ts (k.Keyword w.KwCreate) (CreateTail n) (create (suc n) inner ts) (record { to = create_to n; from = create_from n })
    (exact_create n inner below (length ts) ts (omega arith))
stmt_at n inner below (k.Keyword w.KwBecome) ts =
    by_word n inner below ts (k.Keyword w.KwBecome) (Then (IsExpr n) (λ a. Pure (s.Become a))) (becomes (suc n) inner ts)
    (record {
      to = unpured (IsExpr n) (λ a. s.Become a) (λ us. IsStmt (suc n) (k.Keyword w.KwBecome ∷ us)) (λ u a y. G.become y);
      from =
          become_from n;
    })
    (exact_made (IsExpr n) goes_on (λ a. s.Become a) (length ts) inner.expr (below.expr (suc (length ts))) ts (omega arith))
stmt_at n inner below (k.Keyword w.KwThrow) ts =
    by_word n inner below ts (k.Keyword w.KwThrow) (Then (IsExpr n) (λ a. Pure (s.Throw a))) (throws (suc n) inner ts)
    (record { to = unpured (IsExpr n) (λ a. s.Throw a) (λ us. IsStmt (suc n) (k.Keyword w.KwThrow ∷ us)) (λ u a y. G.throw y); from = throw_from n })
    (exact_made (IsExpr n) goes_on (λ a. s.Throw a) (length ts) inner.expr (below.expr (suc (length ts))) ts (omega arith))
stmt_at n inner below t ts = by_does n inner below ts (t ∷ ts) refl

pub exact_stmt : (n : ℕ) (inner : Inner) → Below n inner → (m : ℕ) → Exact m (IsStmt (suc n)) goes_on (stmt (suc n) inner)
unfolding stmt
exact_stmt n inner below m [] h = at_end (IsStmt (suc n)) goes_on (stmt_ends n) (some_stmt (suc n))
exact_stmt n inner below m (t ∷ ts) h = rw not_last (stmt_at n inner below t ts)
