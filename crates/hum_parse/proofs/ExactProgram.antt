-- All levels, and a program.
use Rattle.std.proofs.Common.{◌≡◌, ℕ, zero, suc, Bool, true, false, List, [], ◌∷◌, ◌++◌, length, Ok, Err, refl, sym, ap, ◌∙◌, subst, arith, ◌⊎◌, inl, inr, append_assoc, append-nil}
use Rattle.hum_syntax.specs.declared.TokenKind.{TokenKind}
use Rattle.hum_syntax.specs.declared.Expr.{Expr}
use Rattle.hum_syntax.specs.declared.Stmt.{Stmt}
use Rattle.hum_syntax.specs.Spells as G
use Rattle.hum_syntax.specs.Spells.{Kinds, arm, IsExpr, IsPat, IsArms, IsArm, IsStmts, IsStmt}
use Rattle.hum_parse.specs.Input.{Outcome, pure}
use Rattle.hum_parse.specs.Rules.{Inner, stmt, inner_at, calls, program, program_from}
use Rattle.hum_parse.proofs.Exact.{front_empty, SameHead, Found, same_behind, exact_some, Language, Avoids, Answers, Exact, Then}
use Rattle.hum_parse.proofs.Steps.{Pure, Begins, along, begins_more, exact_pure}
use Rattle.hum_parse.proofs.Levels.{Behind, goes_term, goes_on, ArmsAt, Levels}
use Rattle.hum_parse.proofs.ExactPatterns.{exact_pat, exact_pat_behind}
use Rattle.hum_parse.proofs.ExactCalls.{exact_calls}
use Rattle.hum_parse.proofs.ExactTerms.{exact_term}
use Rattle.hum_parse.proofs.ExactExprs.{exact_expr}
use Rattle.hum_parse.proofs.ExactArms.{exact_arms}
use Rattle.hum_parse.proofs.Words.{begins_stmt, stmt_begins, stmt_goes}
use Rattle.hum_parse.proofs.ExactStmts.{some_stmt, exact_stmt}
use Rattle.hum_parse.proofs.ExactBlocks.{exact_stmts}

arms_at : (n : ℕ) → Levels n (inner_at n) → ArmsAt n (inner_at (suc n))
unfolding inner_at
arms_at zero below = tt
arms_at (suc n) below = exact_arms n (inner_at (suc n)) below

calls_at : (n : ℕ) (inner : Inner) → Levels n inner → (f : Expr) (m : ℕ) → Exact m (G.IsCalls (suc n) f) goes_term (calls n inner f)
calls_at n inner below f m ts h = exact_calls n inner below f (length ts) ts (omega arith)

no_calls : (f : Expr) (m : ℕ) → Exact m (G.IsCalls 0 f) goes_term (pure f)
no_calls f m ts h = along (Pure f) (G.IsCalls 0 f) goes_term ts (Ok (f, ts)) (record { to = to; from = from }) (exact_pure f goes_term ts)
  where
    to : (u : Kinds) (b : Expr) → Pure f u b → G.IsCalls 0 f u b
    to u b y = subst (λ z. G.IsCalls 0 f u z) y.same (subst (λ z. G.IsCalls 0 f z f) (sym y.none) G.calls_done)

    from : (u : Kinds) (b : Expr) → G.IsCalls 0 f u b → Pure f u b
    from u b G.calls_done = record { none = refl; same = refl }

pub all_levels : (n : ℕ) → Levels n (inner_at n)
unfolding inner_at
all_levels zero = no_calls
all_levels (suc n) =
    let below : Levels n (inner_at n) = all_levels n in
    record {
      term = exact_term n (inner_at n) below;
      expr = exact_expr n (inner_at n) below;
      calls = calls_at n (inner_at n) below;
      pat = exact_pat n (inner_at n) below;
      pat_behind = exact_pat_behind n (inner_at n) below;
      arms = arms_at n below;
      block = exact_stmts n (inner_at n) below;
    }

-- ---- a program

-- Nothing follows it.
abbrev pub all_on : TokenKind → Bool
all_on _ = true

nothing_on : (t : TokenKind) (ts more v : Kinds) → SameHead (t ∷ ts) more → more ≡ v → Avoids all_on v → ⊥
nothing_on t ts [] v same e f = same
nothing_on t ts (k ∷ more) v same e f = let no : true ≡ false = subst (Avoids all_on) (sym e) f in cc

none_empty : (n : ℕ) (u : Kinds) (xs : List Stmt) → IsStmts n u xs → u ≡ [] → xs ≡ []
none_empty n u xs G.stmts_none e = refl
none_empty n u xs (G.stmts_more {us = us} {vs = vs} {x = x} y ys) e =
    absurd (subst (Begins begins_stmt) e (begins_more begins_stmt us vs (stmt_begins n us x y)))

abbrev ProgramTail : ℕ → List Stmt → Language (List Stmt)
ProgramTail n found = Then (IsStmt n) (λ x. Behind (found ++ x ∷ []) (IsStmts n))

program_to : (n : ℕ) (found : List Stmt) (u : Kinds) (b : List Stmt) → ProgramTail n found u b → Behind found (IsStmts n) u b
program_to n found u b y = record {
  more = y.first ∷ y.is_right.more;
  is = sym (append_assoc found (y.first ∷ []) y.is_right.more) ∙ y.is_right.is;
  spelled = subst (λ z. IsStmts n z (y.first ∷ y.is_right.more)) (sym y.split) (G.stmts_more y.is_left y.is_right.spelled);
}

program_parts : (n : ℕ) (found : List Stmt) (u : Kinds) (b : List Stmt) → Behind found (IsStmts n) u b → ProgramTail n found u b ⊎ (u ≡ [])
program_parts n found u b y = parted u y.more b y.spelled y.is
  where
    parted : (u : Kinds) (xs b : List Stmt) → IsStmts n u xs → found ++ xs ≡ b → ProgramTail n found u b ⊎ (u ≡ [])
    parted u xs b G.stmts_none e = inr refl
    parted u xs b (G.stmts_more {us = us} {vs = vs} {x = x} {xs = ys} y ys') e = inl (record {
      left = us;
      right = vs;
      split = refl;
      first = x;
      is_left = y;
      is_right = record { more = ys; is = append_assoc found (x ∷ []) ys ∙ e; spelled = ys' };
    })

-- more tokens stand there, so the empty list is no spelling of them
goes_on_with : {A : Type 0} (Q T : Language A) (t : TokenKind) (ts : Kinds) (o : Outcome A) → ((u : Kinds) (b : A) → Q u b → T u b)
    → ((u : Kinds) (b : A) → T u b → Q u b ⊎ (u ≡ []))
    → Answers Q all_on (t ∷ ts) o → Answers T all_on (t ∷ ts) o
goes_on_with Q T t ts (Ok p) to from w = record {
  front = w.front;
  split = w.split;
  spelled = to w.front p.0 w.spelled;
  unique = λ more u v b same e y f. one more u v b same e (from u b y) f;
}
  where
    one : (more u v : Kinds) (b : _) → SameHead p.1 more → w.front ++ more ≡ u ++ v → Q u b ⊎ (u ≡ []) → Avoids all_on v → (u ≡ w.front) × (p.0 ≡ b)
    one more u v b same e (inl q) f = w.unique more u v b same e q f
    one more u v b same e (inr x) f =
        absurd (nothing_on t ts (w.front ++ more) v (subst (λ z. SameHead z (w.front ++ more)) (sym w.split) (same_behind w.front p.1 more same))
        (e ∙ ap (λ z. z ++ v) x) f)
goes_on_with Q T t ts (Err rest) to from w = record {
  front = w.front;
  split = w.split;
  tail = w.tail;
  carried = w.carried;
  tree = w.tree;
  begins = to (w.front ++ w.tail) w.tree w.begins;
  dead = λ more u v b same e y f. one more u v b same e (from u b y) f;
}
  where
    one : (more u v : Kinds) (b : _) → SameHead rest more → w.front ++ more ≡ u ++ v → Q u b ⊎ (u ≡ []) → Avoids all_on v → ⊥
    one more u v b same e (inl q) f = w.dead more u v b same e q f
    one more u v b same e (inr x) f =
        nothing_on t ts (w.front ++ more) v (subst (λ z. SameHead z (w.front ++ more)) (sym w.split) (same_behind w.front rest more same))
        (e ∙ ap (λ z. z ++ v) x) f

stmts_avoid : (n : ℕ) (u v : Kinds) (xs : List Stmt) → IsStmts n u xs → Avoids all_on v → Avoids goes_on (u ++ v)
stmts_avoid n u [] xs G.stmts_none f = tt
stmts_avoid n u (t ∷ v) xs G.stmts_none f = let no : true ≡ false = f in cc
stmts_avoid n u v xs (G.stmts_more {us = us} {vs = vs} {x = x} y ys) f = one (us ++ vs) (begins_more begins_stmt us vs (stmt_begins n us x y))
  where
    one : (u : Kinds) → Begins begins_stmt u → Avoids goes_on (u ++ v)
    one [] b = absurd b
    one (t ∷ u) b = stmt_goes t b

at_last : (n : ℕ) (found : List Stmt) → Found (Behind found (IsStmts n)) all_on [] found []
at_last n found = record {
  front = [];
  split = refl;
  spelled = record { more = []; is = append-nil found; spelled = G.stmts_none };
  unique = λ more u v b same e y f. last more u v b same e y;
}
  where
    last : (more u v : Kinds) (b : List Stmt) → SameHead [] more → more ≡ u ++ v → Behind found (IsStmts n) u b → (u ≡ []) × (found ≡ b)
    last (t ∷ more) u v b same e y = absurd same
    last [] u v b same e y = let empty : u ≡ [] = front_empty u v e in
        (empty, sym (append-nil found) ∙ ap (λ z. found ++ z) (sym (none_empty n u y.more y.spelled empty)) ∙ y.is)

exact_program_from : (n : ℕ) (turns : ℕ) (found : List Stmt) → Exact (suc turns) (Behind found (IsStmts (suc n))) all_on
    (program_from (suc n) turns found)
unfolding program_from
exact_program_from n turns found [] h = at_last (suc n) found
exact_program_from n zero found (t ∷ ts) h = absurd (omega arith)
exact_program_from n (suc turns) found (t ∷ ts) h =
    goes_on_with (ProgramTail (suc n) found) (Behind found (IsStmts (suc n))) t ts (program_from (suc n) (suc turns) found (t ∷ ts))
    (program_to (suc n) found) (program_parts (suc n) found)
    (exact_some (IsStmt (suc n)) goes_on (λ x. Behind (found ++ x ∷ []) (IsStmts (suc n))) all_on
    (λ x y v b z f. stmts_avoid (suc n) y v z.more z.spelled f) (λ x y. some_stmt (suc n) x y) turns
    (stmt (suc n) (inner_at (suc n))) (λ x. program_from (suc n) turns (found ++ x ∷ []))
    (exact_stmt n (inner_at (suc n)) (all_levels (suc n)) (suc (suc turns)))
    (λ x. exact_program_from n turns (found ++ x ∷ [])) (t ∷ ts) h)

-- What the parser answers of a program is exact.
pub exact_program : (n : ℕ) (ts : Kinds) → Answers (Behind [] (IsStmts (suc n))) all_on ts (program (suc n) ts)
unfolding program
exact_program n ts = exact_program_from n (length ts) [] ts (omega arith)
