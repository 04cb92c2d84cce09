-- What stands behind LET.
use Rattle.std.proofs.Common.{◌≡◌, ℕ, suc, Bool, true, false, List, [], ◌∷◌, ◌++◌, length, refl, sym, ap, ◌∙◌, subst, arith, ◌⊎◌, inl, inr}
use Rattle.hum_syntax.specs.declared.TokenKind.{TokenKind}
use Rattle.hum_syntax.specs.declared.TokenKind.TheVariants as k
use Rattle.hum_syntax.specs.declared.Keyword.TheVariants as w
use Rattle.hum_syntax.specs.declared.Expr.{Expr}
use Rattle.hum_syntax.specs.declared.Expr.TheVariants as e
use Rattle.hum_syntax.specs.declared.Stmt.{Stmt}
use Rattle.hum_syntax.specs.declared.Stmt.TheVariants as s
use Rattle.hum_syntax.specs.declared.Pat.{Pat}
use Rattle.hum_syntax.specs.declared.Pat.TheVariants as p
use Rattle.hum_syntax.specs.Spells as G
use Rattle.hum_syntax.specs.Spells.{Kinds, arm, IsExpr, IsPat, IsPterm, IsStmt}
use Rattle.hum_parse.specs.declared.tokens.Mark.TheVariants as mark
use Rattle.hum_parse.specs.Input.{pure, expect, and_then, is}
use Rattle.hum_parse.specs.Rules.{Inner, equals, function, function_value, function_inside, let_value, let_named, let_pattern, let_rule}
use Rattle.hum_parse.proofs.Exact.{Language, Avoids, Answers, Exact, Then, exact_then}
use Rattle.hum_parse.proofs.Steps.{apart, exact_branch, Pure, Word, Begins, along, took, narrowed, begins_more, word_follows, exact_word, exact_made, word_is, worded, pured, pure_split}
use Rattle.hum_parse.proofs.Levels.{PatBehind, PatsRest, goes_on, Below}
use Rattle.hum_parse.proofs.ExactPatterns.{begins_pterm, pterm_begins, pat_begins, pat_same, only_name}
use Rattle.hum_parse.proofs.Names.{is_name}
use Rattle.hum_parse.proofs.Words.{expr_word}

-- the equals sign, and an expression that a statement is made of
abbrev EqualsTail : ℕ → (Expr → Stmt) → Language Stmt
EqualsTail n made = Then (Word mark.Equals) (λ _. Then (IsExpr n) (λ a. Pure (made a)))

exact_equals : (n : ℕ) (inner : Inner) → Below n inner → (made : Expr → Stmt) (m : ℕ) → Exact (suc m) (EqualsTail n made) goes_on
    (equals (suc n) inner made)
unfolding equals
exact_equals n inner below made m =
    exact_word mark.Equals (Then (IsExpr n) (λ a. Pure (made a))) goes_on m (λ us. and_then (inner.expr us) (λ a. pure (made a)))
    (exact_made (IsExpr n) goes_on made m inner.expr (below.expr (suc m)))

equals_is : (n : ℕ) (made : Expr → Stmt) (u : Kinds) (b : Stmt) → EqualsTail n made u b
    → (vs : Kinds) × (a : Expr) × (u ≡ k.Equals ∷ vs) × (made a ≡ b) × IsExpr n vs a
equals_is n made u b y =
    let z = y.is_right in
    let body : y.right ≡ z.left = pure_split (made z.first) z.left y.right z.right b z.split z.is_right in
    (z.left, z.first, word_is mark.Equals (Then (IsExpr n) (λ a. Pure (made a))) u b y ∙ ap (λ q. k.Equals ∷ q) body, z.is_right.same, z.is_left)

equals_made : (n : ℕ) (made : Expr → Stmt) (vs : Kinds) (a : Expr) → IsExpr n vs a → EqualsTail n made (k.Equals ∷ vs) (made a)
equals_made n made vs a y = worded mark.Equals (Then (IsExpr n) (λ c. Pure (made c))) vs (made a) (pured (IsExpr n) made vs a y)

abbrev of_function : List ℕ → Pat → Expr → Stmt
of_function f x a = s.Let (p.Bind f) (e.Abs x a)

abbrev of_value : Pat → Expr → Stmt
of_value x a = s.Let x a

-- ---- a function, behind its opening parenthesis

abbrev ArgumentTail : ℕ → List ℕ → Language Stmt
ArgumentTail n f = Then (IsPat n) (λ x. Then (Word mark.ParenRight) (λ _. EqualsTail n (of_function f x)))

abbrev FunctionTail : ℕ → List ℕ → Language Stmt
FunctionTail n f u b = ArgumentTail n f u b ⊎ Then (Word mark.ParenRight) (λ _. EqualsTail n (of_function f p.Nil)) u b

exact_inside : (n : ℕ) (inner : Inner) → Below n inner → (f : List ℕ) (m : ℕ) → Exact (suc m) (ArgumentTail n f) goes_on
    (function_inside (suc n) inner f)
unfolding function_inside function_value
exact_inside n inner below f m =
    exact_then (IsPat n) goes_on (λ x. Then (Word mark.ParenRight) (λ _. EqualsTail n (of_function f x))) goes_on
    (λ x y v b t g. word_follows goes_on mark.ParenRight refl (EqualsTail n (of_function f x)) y v b t) m inner.pat
    (λ x us. and_then (expect mark.ParenRight us) (λ _. equals (suc n) inner (of_function f x))) (below.pat (suc m))
    (λ x. exact_word mark.ParenRight (EqualsTail n (of_function f x)) goes_on m (equals (suc n) inner (of_function f x))
    (exact_equals n inner below (of_function f x) m))

argument_begins : (n : ℕ) (f : List ℕ) (u : Kinds) (b : Stmt) → ArgumentTail n f u b → Begins begins_pterm u
argument_begins n f u b y = subst (Begins begins_pterm) (sym y.split) (begins_more begins_pterm y.left y.right (pat_begins y.is_left))

no_argument : (n : ℕ) (f : List ℕ) (u : Kinds) (b : Stmt) → ArgumentTail n f u b → Begins (is mark.ParenRight) u → ⊥
no_argument n f u b y c = apart begins_pterm mark.ParenRight refl u (argument_begins n f u b y) c

exact_function : (n : ℕ) (inner : Inner) → Below n inner → (f : List ℕ) (m : ℕ) → Exact (suc (suc m)) (FunctionTail n f) goes_on
    (function (suc n) inner f)
unfolding function function_value
exact_function n inner below f m =
    exact_branch mark.ParenRight (EqualsTail n (of_function f p.Nil)) (ArgumentTail n f) (FunctionTail n f) goes_on (λ u b y. inl y)
    (λ u b y. inr (worded mark.ParenRight (EqualsTail n (of_function f p.Nil)) u b y)) (λ u b y. y)
    (λ b y off. argument_begins n f [] b y) (no_argument n f) (suc m) (equals (suc n) inner (of_function f p.Nil)) (function_inside (suc n) inner f)
    (exact_equals n inner below (of_function f p.Nil) m) (exact_inside n inner below f (suc m))

-- ---- behind a name

abbrev ValueTail : ℕ → List ℕ → Language Stmt
ValueTail n f = Then (PatBehind n (p.Bind f)) (λ x. EqualsTail n (of_value x))

abbrev NamedTail : ℕ → List ℕ → Language Stmt
NamedTail n f u b = ValueTail n f u b ⊎ Then (Word mark.CallParen) (λ _. FunctionTail n f) u b

exact_value : (n : ℕ) (inner : Inner) → Below n inner → (f : List ℕ) (m : ℕ) → Exact (suc m) (ValueTail n f) goes_on (let_value (suc n) inner f)
unfolding let_value
exact_value n inner below f m =
    exact_then (PatBehind n (p.Bind f)) goes_on (λ x. EqualsTail n (of_value x)) goes_on
    (λ x y v b t g. word_follows goes_on mark.Equals refl (Then (IsExpr n) (λ a. Pure (of_value x a))) y v b t) m (inner.pat_behind (p.Bind f))
    (λ x. equals (suc n) inner (of_value x)) (below.pat_behind (p.Bind f) (suc m)) (λ x. exact_equals n inner below (of_value x) m)

-- a pattern goes on with a comma, or the equals sign comes
abbrev is_value : TokenKind → Bool
is_value k.Comma = true
is_value k.Equals = true
is_value _ = false

value_begins : (n : ℕ) (f : List ℕ) (u : Kinds) (b : Stmt) → ValueTail n f u b → Begins is_value u
value_begins n f u b y =
    let items = y.is_left in
    let equal = equals_is n (of_value y.first) y.right b y.is_right in
    let left : y.left ≡ items.left = pure_split _ items.left y.left items.right y.first items.split items.is_right in
    subst (Begins is_value) (sym (y.split ∙ ap (λ z. z ++ y.right) left ∙ ap (λ z. items.left ++ z) equal.2))
    (one items.left items.first equal.0 items.is_left)
  where
    one : (us : Kinds) (xs : List Pat) (vs : Kinds) → PatsRest n (p.Bind f ∷ []) us xs → Begins is_value (us ++ k.Equals ∷ vs)
    one us xs vs (inl z) = subst (λ q. Begins is_value (q ++ k.Equals ∷ vs)) (sym z.none) refl
    one us xs vs (inr z) = subst (λ q. Begins is_value (q ++ k.Equals ∷ vs)) (sym (z.split ∙ ap (λ q. q ++ z.right) z.is_left)) refl

no_value : (n : ℕ) (f : List ℕ) (u : Kinds) (b : Stmt) → ValueTail n f u b → Begins (is mark.CallParen) u → ⊥
no_value n f u b y c = apart is_value mark.CallParen refl u (value_begins n f u b y) c

exact_named : (n : ℕ) (inner : Inner) → Below n inner → (f : List ℕ) (m : ℕ)
    → Exact (suc (suc (suc m))) (NamedTail n f) goes_on (let_named (suc n) inner f)
unfolding let_named
exact_named n inner below f m =
    exact_branch mark.CallParen (FunctionTail n f) (ValueTail n f) (NamedTail n f) goes_on (λ u b y. inl y)
    (λ u b y. inr (worded mark.CallParen (FunctionTail n f) u b y)) (λ u b y. y)
    (λ b y off. value_begins n f [] b y) (no_value n f) (suc (suc m)) (function (suc n) inner f) (let_value (suc n) inner f)
    (exact_function n inner below f m) (exact_value n inner below f (suc (suc m)))

-- ---- whole

abbrev pub LetTail : ℕ → Language Stmt
LetTail n us = IsStmt (suc n) (k.Keyword w.KwLet ∷ us)

abbrev PatternTail : ℕ → Language Stmt
PatternTail n = Then (IsPat n) (λ x. EqualsTail n (of_value x))

pattern_to : (n : ℕ) (u : Kinds) (b : Stmt) → PatternTail n u b → LetTail n u b
pattern_to n u b y =
    let equal = equals_is n (of_value y.first) y.right b y.is_right in
    subst (λ q. IsStmt (suc n) (k.Keyword w.KwLet ∷ q) b) (sym (y.split ∙ ap (λ q. y.left ++ q) equal.2))
    (subst (λ q. IsStmt (suc n) (k.Keyword w.KwLet ∷ (y.left ++ k.Equals ∷ equal.0)) q) equal.3 (G.let_is y.is_left equal.4))

pattern_from : (n : ℕ) (u : Kinds) (b : Stmt) → LetTail n u b → PatternTail n u b ⊎ Begins is_name u
pattern_from n u b (G.let_is {us = us} {vs = vs} {x = x} {a = a} y z) =
    inl (record { left = us; right = k.Equals ∷ vs; split = refl; first = x; is_left = y; is_right = equals_made n (of_value x) vs a z })
pattern_from n u b (G.let_unit y) = inr refl
pattern_from n u b (G.let_fun y z) = inr refl
pattern_from n u b (G.does {a = a} y) = absurd (expr_word (k.Keyword w.KwLet ∷ u) a n y refl)

exact_pattern : (n : ℕ) (inner : Inner) → Below n inner → (m : ℕ) → Exact (suc m) (PatternTail n) goes_on (let_pattern (suc n) inner)
unfolding let_pattern
exact_pattern n inner below m =
    exact_then (IsPat n) goes_on (λ x. EqualsTail n (of_value x)) goes_on
    (λ x y v b t g. word_follows goes_on mark.Equals refl (Then (IsExpr n) (λ a. Pure (of_value x a))) y v b t) m inner.pat
    (λ x. equals (suc n) inner (of_value x)) (below.pat (suc m)) (λ x. exact_equals n inner below (of_value x) m)

-- a pattern that begins with a name
value_of : (n : ℕ) (f : List ℕ) (u v : Kinds) (x : Pat) (b : Stmt) → IsPat n u x → EqualsTail n (of_value x) v b
    → (us : Kinds) → u ++ v ≡ k.Name f ∷ us → ValueTail n f us b
value_of n f u v x b y z us e =
    let parts = (pat_same n).from u x y in
    one parts.left parts.first parts.right parts.is_left parts.is_right (sym (ap (λ q. q ++ v) parts.split) ∙ e)
  where
    one : (left : Kinds) (c : Pat) (right : Kinds) → IsPterm n left c → PatBehind n c right x → (left ++ right) ++ v ≡ k.Name
        f ∷ us → ValueTail n f us b
    one [] c right h r d = absurd (pterm_begins h)
    one (t ∷ left) c right h r d =
        let heads : t ≡ k.Name f = cc in
        let tails : (left ++ right) ++ v ≡ us = cc in
        let only : Pure (p.Bind f) left c = only_name f left c (subst (λ q. IsPterm n (q ∷ left) c) heads h) in
        record {
          left = right;
          right = v;
          split = sym tails ∙ ap (λ q. (q ++ right) ++ v) only.none;
          first = x;
          is_left = subst (λ q. PatBehind n q right x) (sym only.same) r;
          is_right = z;
        }

named_from : (n : ℕ) (f : List ℕ) (ts : Kinds) (b : Stmt) → LetTail n ts b → (us : Kinds) → ts ≡ k.Name f ∷ us → NamedTail n f us b
named_from n f ts b (G.let_is {us = u} {vs = v} {x = x} {a = a} y z) us e =
    inl (value_of n f u (k.Equals ∷ v) x b y (equals_made n (of_value x) v a z) us e)
named_from n f ts b (G.let_unit {f = g} {vs = v} {a = a} z) us e =
    let names : g ≡ f = cc in
    let tails : k.CallParen ∷ k.ParenRight ∷ k.Equals ∷ v ≡ us = cc in
    subst (λ q. NamedTail n f q b) tails (inr (worded mark.CallParen (FunctionTail n f) (k.ParenRight ∷ k.Equals ∷ v) b
    (inr (worded mark.ParenRight (EqualsTail n (of_function f p.Nil)) (k.Equals ∷ v) b
    (subst (λ q. EqualsTail n (of_function f p.Nil) (k.Equals ∷ v) (of_function q p.Nil a)) (sym names)
    (equals_made n (of_function f p.Nil) v a z))))))
named_from n f ts b (G.let_fun {f = g} {us = u} {vs = v} {x = x} {a = a} y z) us e =
    let names : g ≡ f = cc in
    let tails : k.CallParen ∷ (u ++ k.ParenRight ∷ k.Equals ∷ v) ≡ us = cc in
    subst (λ q. NamedTail n f q b) tails (inr (worded mark.CallParen (FunctionTail n f) (u ++ k.ParenRight ∷ k.Equals ∷ v) b
    (inl (record {
      left = u;
      right = k.ParenRight ∷ k.Equals ∷ v;
      split = refl;
      first = x;
      is_left = y;
      is_right = worded mark.ParenRight (EqualsTail n (of_function f x)) (k.Equals ∷ v) b
          (subst (λ q. EqualsTail n (of_function f x) (k.Equals ∷ v) (of_function q x a)) (sym names) (equals_made n (of_function f x) v a z));
    }))))
named_from n f ts b (G.does {a = a} y) us e = absurd (expr_word (k.Keyword w.KwLet ∷ ts) a n y refl)

named_to : (n : ℕ) (f : List ℕ) (u : Kinds) (b : Stmt) → NamedTail n f u b → LetTail n (k.Name f ∷ u) b
named_to n f u b (inl y) =
    pattern_to n (k.Name f ∷ u) b (record {
      left = k.Name f ∷ y.left;
      right = y.right;
      split = ap (λ q. k.Name f ∷ q) y.split;
      first = y.first;
      is_left = (pat_same n).to (k.Name f ∷ y.left) y.first
          (record { left = k.Name f ∷ []; right = y.left; split = refl; first = p.Bind f; is_left = G.p_name; is_right = y.is_left });
      is_right = y.is_right;
    })
named_to n f u b (inr y) = subst (λ q. LetTail n (k.Name f ∷ q) b) (sym (word_is mark.CallParen (FunctionTail n f) u b y)) (inside y.right y.is_right)
  where
    inside : (u : Kinds) → FunctionTail n f u b → LetTail n (k.Name f ∷ k.CallParen ∷ u) b
    inside u (inl y) =
        let equal = equals_is n (of_function f y.first) y.is_right.right b y.is_right.is_right in
        let all : u ≡ y.left ++ k.ParenRight ∷ k.Equals ∷ equal.0 =
        y.split ∙ ap (λ q. y.left ++ q) (word_is mark.ParenRight (EqualsTail n (of_function f y.first)) y.right b y.is_right
        ∙ ap (λ q. k.ParenRight ∷ q) equal.2) in
        subst (λ q. IsStmt (suc n) (k.Keyword w.KwLet ∷ k.Name f ∷ k.CallParen ∷ q) b) (sym all)
        (subst (λ q. IsStmt (suc n) (k.Keyword w.KwLet ∷ k.Name f ∷ k.CallParen ∷ (y.left ++ k.ParenRight ∷ k.Equals ∷ equal.0)) q) equal.3
        (G.let_fun y.is_left equal.4))
    inside u (inr y) =
        let equal = equals_is n (of_function f p.Nil) y.right b y.is_right in
        let all : u ≡ k.ParenRight ∷ k.Equals ∷ equal.0 = word_is mark.ParenRight (EqualsTail n (of_function f p.Nil)) u b y
        ∙ ap (λ q. k.ParenRight ∷ q) equal.2 in
        subst (λ q. IsStmt (suc n) (k.Keyword w.KwLet ∷ k.Name f ∷ k.CallParen ∷ q) b) (sym all)
        (subst (λ q. IsStmt (suc n) (k.Keyword w.KwLet ∷ k.Name f ∷ k.CallParen ∷ k.ParenRight ∷ k.Equals ∷ equal.0) q) equal.3 (G.let_unit equal.4))

let_some : (n : ℕ) (b : Stmt) → LetTail n [] b → ⊥
let_some n b y = elim (pattern_from n [] b y)
    [ inl z ↦ begun (subst (Begins begins_pterm) (sym z.split) (begins_more begins_pterm z.left z.right (pat_begins z.is_left))) | inr c ↦ c ]
  where
    begun : Begins begins_pterm [] → ⊥
    begun b = b

by_pattern : (n : ℕ) (inner : Inner) → Below n inner → (ts : Kinds) → Avoids is_name ts → Answers (LetTail n) goes_on ts
    (let_pattern (suc n) inner ts)
by_pattern n inner below ts off =
    narrowed is_name (PatternTail n) (LetTail n) goes_on ts (let_pattern (suc n) inner ts) (pattern_to n) (pattern_from n) off
    (exact_pattern n inner below (length ts) ts (omega arith))

pub exact_let : (n : ℕ) (inner : Inner) → Below n inner → (ts : Kinds) → Answers (LetTail n) goes_on ts (let_rule (suc n) inner ts)
unfolding let_rule
exact_let n inner below [] = by_pattern n inner below [] tt
exact_let n inner below (k.Name f ∷ ts) =
    took (LetTail n) goes_on (k.Name f) ts (let_named (suc n) inner f ts) (λ b y off. let_some n b y)
    (along (NamedTail n f) (λ us. LetTail n (k.Name f ∷ us)) goes_on ts (let_named (suc n) inner f ts)
    (record { to = named_to n f; from = λ u b y. named_from n f (k.Name f ∷ u) b y u refl })
    (exact_named n inner below f (length ts) ts (omega arith)))
exact_let n inner below (t ∷ ts) = by_pattern n inner below (t ∷ ts) refl
