-- A function value that reads expressions and terms one or more levels down.
use Rattle.std.specs.Prelude.{ℕ, ◌<◌, Result}
use Rattle.std.specs.declared.alloc.Global.{Global}
use denote.Ref.{MutBor}
use Rattle.hum_syntax.specs.declared.Expr.{Expr}
use Rattle.hum_syntax.specs.Spells.{Kinds}
use Rattle.hum_parse.specs.declared.tokens.Stop.{Stop}
use Rattle.hum_parse.specs.declared.grammar.Form.{Form}
use Rattle.hum_parse.specs.declared.grammar.Form.TheVariants as form
use Rattle.hum_parse.specs.Input.{Parser, Reads}
use Rattle.hum_parse.specs.Rules.{expr, term, inner_at}

-- an expression or a term, where n levels may still stand below
abbrev pub expression : ℕ → Form → Parser Expr
expression n form.Expr = expr n (inner_at n)
expression n form.Term = term n (inner_at n)

-- it may be called with fewer levels than n, and then it reads what stands there
pub record Nests (n : ℕ) (pre : Global → MutBor Kinds → ℕ → Form → Type 0)
    (post : Global → MutBor Kinds → ℕ → Form → Result Expr Stop → MutBor Kinds → Type 0) : Type 0 where
  pub callable : (alloc : Global) (old : MutBor Kinds) (m : ℕ) (asked : Form) → m < n → pre alloc old m asked
  pub reads : (alloc : Global) (old new : MutBor Kinds) (m : ℕ) (asked : Form) (r : Result Expr Stop) → m < n
      → post alloc old m asked r new → Reads (expression m asked old.now) r new.now
