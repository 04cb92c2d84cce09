-- What may follow a rule, and that the rules one level down are exact.
use Rattle.std.proofs.Common.{◌≡◌, ◌==◌, ℕ, zero, suc, Bool, true, false, List, [], ◌∷◌, ◌++◌, refl, arith}
use Rattle.std.proofs.lemmas.Bool.Decides.{nat_tests}
use Rattle.hum_syntax.specs.declared.TokenKind.{TokenKind}
use Rattle.hum_syntax.specs.declared.TokenKind.TheVariants as k
use Rattle.hum_syntax.specs.declared.Keyword.TheVariants as w
use Rattle.hum_syntax.specs.declared.Expr.{Expr}
use Rattle.hum_syntax.specs.declared.Pat.{Pat}
use Rattle.hum_syntax.specs.declared.Arm.{Arm}
use Rattle.hum_syntax.specs.declared.Stmt.{Stmt}
use Rattle.hum_syntax.specs.Spells.{Kinds, IsExpr, IsTerm, IsCalls, IsPat, IsPats, IsArms, IsStmts}
use Rattle.hum_parse.specs.declared.tokens.Mark.TheVariants as mark
use Rattle.hum_parse.specs.Rules.{Inner, pat_of}
use Rattle.hum_parse.proofs.Exact.{Language, Avoids, Exact, Then}
use Rattle.hum_parse.proofs.Steps.{Close, Or, Pure}

-- what a term may go on with
abbrev pub goes_term : TokenKind → Bool
goes_term k.CallParen = true
goes_term (k.Keyword w.KwElif) = true
goes_term (k.Keyword w.KwElse) = true
goes_term _ = false

-- what an expression or a pattern may go on with
abbrev pub goes_on : TokenKind → Bool
goes_on k.CallParen = true
goes_on (k.Keyword w.KwElif) = true
goes_on (k.Keyword w.KwElse) = true
goes_on k.Comma = true
goes_on _ = false

pub goes_less : (t : TokenKind) → goes_on t ≡ false → goes_term t ≡ false
goes_less k.CallParen e = e
goes_less (k.Keyword w.KwElif) e = e
goes_less (k.Keyword w.KwElse) e = e
goes_less _ e = refl

pub avoids_less : (v : Kinds) → Avoids goes_on v → Avoids goes_term v
avoids_less [] f = tt
avoids_less (t ∷ ts) f = goes_less t f

-- behind those that were found
pub record Behind {A : Type 0} (found : List A) (L : Language (List A)) (us : Kinds) (xs : List A) : Type 0 where
  pub more : List A
  pub is : found ++ more ≡ xs
  pub spelled : L us more

-- a pattern's further items
abbrev pub PatsRest : ℕ → List Pat → Language (List Pat)
PatsRest n found = Or mark.Comma found (Behind found (IsPats n))

-- a pattern after its first item
abbrev pub PatBehind : ℕ → Pat → Language Pat
PatBehind n x = Then (PatsRest n (x ∷ [])) (λ xs. Pure (pat_of xs))

pub not_last : (n : ℕ) → (suc n == 0) ≡ false
not_last n = grind (arith, nat_tests)

abbrev pub ArmsEnd : ℕ → Language (List Arm)
ArmsEnd n = Then (IsArms n) (λ xs. Close mark.End xs)

abbrev pub BlockEnd : ℕ → Language (List Stmt)
BlockEnd n = Then (IsStmts n) (λ xs. Close mark.SquareRight xs)

-- An arm holds a pattern and an expression, which are one level further down.
abbrev pub ArmsAt : ℕ → Inner → Type 0
ArmsAt zero inner = Unit {0}
ArmsAt (suc n) inner = (g : TokenKind → Bool) (m : ℕ) → Exact m (ArmsEnd (suc n)) g inner.arms

-- the rules one level down are exact
pub record Below (n : ℕ) (inner : Inner) : Type 0 where
  pub term : (m : ℕ) → Exact m (IsTerm n) goes_term inner.term
  pub expr : (m : ℕ) → Exact m (IsExpr n) goes_on inner.expr
  pub calls : (f : Expr) (m : ℕ) → Exact m (IsCalls (suc n) f) goes_term (inner.calls f)
  pub pat : (m : ℕ) → Exact m (IsPat n) goes_on inner.pat
  pub pat_behind : (x : Pat) (m : ℕ) → Exact m (PatBehind n x) goes_on (inner.pat_behind x)
  pub arms : ArmsAt n inner
  pub block : (g : TokenKind → Bool) (m : ℕ) → Exact m (BlockEnd n) g inner.block

abbrev pub Levels : ℕ → Inner → Type 0
Levels zero inner = (f : Expr) (m : ℕ) → Exact m (IsCalls 0 f) goes_term (inner.calls f)
Levels (suc n) inner = Below n inner

pub level_calls : (n : ℕ) (inner : Inner) → Levels n inner → (f : Expr) (m : ℕ) → Exact m (IsCalls n f) goes_term (inner.calls f)
level_calls zero inner below = below
level_calls (suc n) inner below = below.calls
