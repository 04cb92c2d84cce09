-- The rules one level down, as the code calls them.
use Rattle.std.proofs.Common.{◌≡◌, ℕ, zero, suc, ◌<◌, ◌-◌, ap, refl, arith, sym, Ok}
use Rattle.hum_syntax.specs.declared.Expr.{Expr}
use Rattle.hum_syntax.specs.declared.Pat.{Pat}
use Rattle.hum_syntax.specs.Spells.{Kinds}
use Rattle.hum_parse.specs.Rules.{inner_at, pat, pat_behind, term, expr, calls, arms, stmts}

pub inside_pat : (n : ℕ) → 0 < n → (inner_at n).pat ≡ pat (n - 1) (inner_at (n - 1))
unfolding inner_at
inside_pat zero h = absurd (omega arith)
inside_pat (suc n) h = let e : suc n - 1 ≡ n = omega arith in ap (λ z. pat z (inner_at z)) (sym e)

pub inside_pat_behind : (n : ℕ) (x : Pat) → 0 < n → (inner_at n).pat_behind x ≡ pat_behind (n - 1) (inner_at (n - 1)) x
unfolding inner_at
inside_pat_behind zero x h = absurd (omega arith)
inside_pat_behind (suc n) x h = let e : suc n - 1 ≡ n = omega arith in ap (λ z. pat_behind z (inner_at z) x) (sym e)

pub inside_term : (n : ℕ) → 0 < n → (inner_at n).term ≡ term (n - 1) (inner_at (n - 1))
unfolding inner_at
inside_term zero h = absurd (omega arith)
inside_term (suc n) h = let e : suc n - 1 ≡ n = omega arith in ap (λ z. term z (inner_at z)) (sym e)

pub inside_expr : (n : ℕ) → 0 < n → (inner_at n).expr ≡ expr (n - 1) (inner_at (n - 1))
unfolding inner_at
inside_expr zero h = absurd (omega arith)
inside_expr (suc n) h = let e : suc n - 1 ≡ n = omega arith in ap (λ z. expr z (inner_at z)) (sym e)

pub inside_arms : (n : ℕ) → 0 < n → (inner_at n).arms ≡ arms (n - 1) (inner_at (n - 1))
unfolding inner_at
inside_arms zero h = absurd (omega arith)
inside_arms (suc n) h = let e : suc n - 1 ≡ n = omega arith in ap (λ z. arms z (inner_at z)) (sym e)

pub inside_block : (n : ℕ) → 0 < n → (inner_at n).block ≡ stmts (n - 1) (inner_at (n - 1))
unfolding inner_at
inside_block zero h = absurd (omega arith)
inside_block (suc n) h = let e : suc n - 1 ≡ n = omega arith in ap (λ z. stmts z (inner_at z)) (sym e)

pub inside_calls : (n : ℕ) (f : Expr) → 0 < n → (inner_at n).calls f ≡ calls (n - 1) (inner_at (n - 1)) f
unfolding inner_at
inside_calls zero f h = absurd (omega arith)
inside_calls (suc n) f h = let e : suc n - 1 ≡ n = omega arith in ap (λ z. calls z (inner_at z) f) (sym e)

pub last_calls : (n : ℕ) (f : Expr) (ts : Kinds) → n ≡ 0 → (inner_at n).calls f ts ≡ Ok (f, ts)
unfolding inner_at
last_calls zero f ts h = refl
last_calls (suc n) f ts h = absurd (omega arith)

pub ruleset inside_rules = (inside_pat, inside_pat_behind, inside_term, inside_expr, inside_arms, inside_block, inside_calls, last_calls)
