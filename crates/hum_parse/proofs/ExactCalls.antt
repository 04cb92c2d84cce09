-- The calls that a chain goes on with.
use Rattle.std.proofs.Common.{◌≡◌, ℕ, zero, suc, [], ◌∷◌, ◌++◌, Err, refl, sym, ap, ◌∙◌, subst, arith, ◌⊎◌, inl, inr}
use Rattle.hum_syntax.specs.declared.TokenKind.TheVariants as k
use Rattle.hum_syntax.specs.declared.Expr.{Expr}
use Rattle.hum_syntax.specs.declared.Expr.TheVariants as e
use Rattle.hum_syntax.specs.Spells as G
use Rattle.hum_syntax.specs.Spells.{Kinds, IsExpr, IsCalls}
use Rattle.hum_parse.specs.declared.tokens.Mark.TheVariants as mark
use Rattle.hum_parse.specs.Input.{Parser, pure, expect, either, and_then}
use Rattle.hum_parse.specs.Rules.{Inner, calls, call_inside}
use Rattle.hum_parse.proofs.Exact.{Language, Answers, Exact, Then, exact_then}
use Rattle.hum_parse.proofs.Steps.{Same, Word, Or, Begins, begins_more, along, word_follows, exact_or, exact_branch, exact_only, exact_word, word_is, worded}
use Rattle.hum_parse.proofs.Levels.{goes_term, goes_on, Below, Levels, not_last}
use Rattle.hum_parse.proofs.First.{begins_expr, expr_begins, apart_right}

-- behind the opening parenthesis and an expression
abbrev CallRest : ℕ → Expr → Language Expr
CallRest n f = Then (IsExpr n) (λ x. Then (Word mark.ParenRight) (λ _. IsCalls (suc n) (e.Call f x)))

-- behind the opening parenthesis
data CallTail : ℕ → Expr → Kinds → Expr → Type 0 where
  tail_unit : {n : ℕ} {f a : Expr} {u : Kinds} → IsCalls n (e.Call f e.Nil) u a → CallTail n f (k.ParenRight ∷ u) a
  tail_call : {n : ℕ} {f a : Expr} {u : Kinds} → CallRest n f u a → CallTail (suc n) f u a

calls_same : (n : ℕ) (f : Expr) → Same (Or mark.CallParen f (CallTail n f)) (IsCalls (suc n) f)
calls_same n f = record { to = to; from = from n }
  where
    rest : (n : ℕ) (u : Kinds) (b : Expr) → CallRest n f u b → IsCalls (suc (suc n)) f (k.CallParen ∷ u) b
    rest n u b y =
        let all : u ≡ y.left ++ k.ParenRight ∷ y.is_right.right =
        y.split ∙ ap (λ z. y.left ++ z) (word_is mark.ParenRight (IsCalls (suc n) (e.Call f y.first)) y.right b y.is_right) in
        subst (λ z. IsCalls (suc (suc n)) f (k.CallParen ∷ z) b) (sym all) (G.calls_call y.is_left y.is_right.is_right)

    behind : (n : ℕ) (u : Kinds) (b : Expr) → CallTail n f u b → IsCalls (suc n) f (k.CallParen ∷ u) b
    behind n u b (tail_unit y) = G.calls_unit y
    behind n u b (tail_call {n = m} y) = rest m u b y

    to : (u : Kinds) (b : Expr) → Or mark.CallParen f (CallTail n f) u b → IsCalls (suc n) f u b
    to u b (inl y) = subst (λ z. IsCalls (suc n) f u z) y.same (subst (λ z. IsCalls (suc n) f z f) (sym y.none) G.calls_done)
    to u b (inr y) = subst (λ z. IsCalls (suc n) f z b) (sym (word_is mark.CallParen (CallTail n f) u b y)) (behind n y.right b y.is_right)

    from : (n : ℕ) (u : Kinds) (b : Expr) → IsCalls (suc n) f u b → Or mark.CallParen f (CallTail n f) u b
    from n u b G.calls_done = inl (record { none = refl; same = refl })
    from n u b (G.calls_unit y) = inr (worded mark.CallParen (CallTail n f) _ b (tail_unit y))
    from n u b (G.calls_call {n = m} {x = x} {us = us} {vs = vs} p y) = inr (worded mark.CallParen (CallTail (suc m) f) _ b (tail_call (record {
      left = us;
      right = k.ParenRight ∷ vs;
      split = refl;
      first = x;
      is_left = p;
      is_right = worded mark.ParenRight (IsCalls (suc m) (e.Call f x)) vs b y;
    })))

rest_begins : (n : ℕ) (f : Expr) (u : Kinds) (b : Expr) → CallRest n f u b → Begins begins_expr u
rest_begins n f u b y = subst (Begins begins_expr) (sym y.split) (begins_more begins_expr y.left y.right (expr_begins y.is_left))

exact_call_inside : (n : ℕ) (inner : Inner) → Below n inner → (f : Expr) (m : ℕ) → Exact (suc m) (CallRest n f) goes_term
    (call_inside (suc n) inner f)
unfolding call_inside
exact_call_inside n inner below f m =
    exact_then (IsExpr n) goes_on (λ x. Then (Word mark.ParenRight) (λ _. IsCalls (suc n) (e.Call f x))) goes_term
    (λ x y v b t g. word_follows goes_on mark.ParenRight refl (IsCalls (suc n) (e.Call f x)) y v b t) m inner.expr
    (λ x ts. and_then (expect mark.ParenRight ts) (λ _. inner.calls (e.Call f x))) (below.expr (suc m))
    (λ x. exact_word mark.ParenRight (IsCalls (suc n) (e.Call f x)) goes_term m (inner.calls (e.Call f x)) (below.calls (e.Call f x) (suc m)))

abbrev open_tail : ℕ → Inner → Expr → Parser Expr
open_tail zero inner f = either mark.ParenRight (inner.calls (e.Call f e.Nil)) (λ ts. Err ts)
open_tail (suc n) inner f = either mark.ParenRight (inner.calls (e.Call f e.Nil)) (call_inside (suc n) inner f)

exact_tail : (n : ℕ) (inner : Inner) → Levels n inner → (f : Expr) (m : ℕ) → Exact (suc m) (CallTail n f) goes_term (open_tail n inner f)
exact_tail zero inner below f m ts h =
    along (Then (Word mark.ParenRight) (λ _. IsCalls 0 (e.Call f e.Nil))) (CallTail 0 f) goes_term ts (open_tail 0 inner f ts)
    (record { to = to; from = from })
    (exact_only mark.ParenRight (IsCalls 0 (e.Call f e.Nil)) goes_term m (inner.calls (e.Call f e.Nil)) (below (e.Call f e.Nil) (suc m)) ts h)
  where
    to : (u : Kinds) (b : Expr) → Then (Word mark.ParenRight) (λ _. IsCalls 0 (e.Call f e.Nil)) u b → CallTail 0 f u b
    to u b y = subst (λ z. CallTail 0 f z b) (sym (word_is mark.ParenRight (IsCalls 0 (e.Call f e.Nil)) u b y)) (tail_unit y.is_right)

    from : (u : Kinds) (b : Expr) → CallTail 0 f u b → Then (Word mark.ParenRight) (λ _. IsCalls 0 (e.Call f e.Nil)) u b
    from u b (tail_unit {u = us} y) = worded mark.ParenRight (IsCalls 0 (e.Call f e.Nil)) us b y
exact_tail (suc n) inner below f m ts h =
    exact_branch mark.ParenRight (IsCalls (suc n) (e.Call f e.Nil)) (CallRest n f) (CallTail (suc n) f) goes_term (λ u b y. tail_call y)
    (λ u b y. tail_unit y) from
    (λ b y off. rest_begins n f [] b y) (λ u b y c. apart_right u (rest_begins n f u b y) c) m (inner.calls (e.Call f e.Nil))
    (call_inside (suc n) inner f)
    (below.calls (e.Call f e.Nil) m) (exact_call_inside n inner below f m) ts h
  where
    from : (u : Kinds) (b : Expr) → CallTail (suc n) f u b → CallRest n f u b ⊎ Then (Word mark.ParenRight)
        (λ _. IsCalls (suc n) (e.Call f e.Nil)) u b
    from u b (tail_unit {u = us} y) = inr (worded mark.ParenRight (IsCalls (suc n) (e.Call f e.Nil)) us b y)
    from u b (tail_call y) = inl y

calls_is : (n : ℕ) (inner : Inner) (f : Expr) (ts : Kinds) → calls n inner f ts ≡ either mark.CallParen (open_tail n inner f) (pure f) ts
unfolding calls
calls_is zero inner f ts = refl
calls_is (suc n) inner f ts = rw not_last refl

pub exact_calls : (n : ℕ) (inner : Inner) → Levels n inner → (f : Expr) (m : ℕ) → Exact (suc m) (IsCalls (suc n) f) goes_term (calls n inner f)
exact_calls n inner below f zero [] h = subst (Answers (IsCalls (suc n) f) goes_term []) (sym (calls_is n inner f []))
    (along (Or mark.CallParen f (CallTail n f)) (IsCalls (suc n) f) goes_term []
    (either mark.CallParen (open_tail n inner f) (pure f) []) (calls_same n f)
    (exact_or mark.CallParen f (CallTail n f) goes_term refl 1 (open_tail n inner f) (exact_tail n inner below f 0) [] (omega arith)))
exact_calls n inner below f zero (t ∷ ts) h = absurd (omega arith)
exact_calls n inner below f (suc m) ts h = subst (Answers (IsCalls (suc n) f) goes_term ts) (sym (calls_is n inner f ts))
    (along (Or mark.CallParen f (CallTail n f)) (IsCalls (suc n) f) goes_term ts
    (either mark.CallParen (open_tail n inner f) (pure f) ts) (calls_same n f)
    (exact_or mark.CallParen f (CallTail n f) goes_term refl (suc m) (open_tail n inner f) (exact_tail n inner below f m) ts h))
