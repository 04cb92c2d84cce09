-- What reads with fewer levels than n reads with fewer than one less.
use Rattle.std.proofs.Common.{ℕ, ◌-◌, Result, arith}
use Rattle.std.specs.declared.alloc.Global.{Global}
use denote.Ref.{MutBor}
use Rattle.hum_syntax.specs.declared.Expr.{Expr}
use Rattle.hum_syntax.specs.Spells.{Kinds}
use Rattle.hum_parse.specs.declared.tokens.Stop.{Stop}
use Rattle.hum_parse.specs.declared.grammar.Form.{Form}
use Rattle.hum_parse.specs.Nests.{Nests}

pub fewer : (n : ℕ) {pre : Global → MutBor Kinds → ℕ → Form → Type 0}
    {post : Global → MutBor Kinds → ℕ → Form → Result Expr Stop → MutBor Kinds → Type 0}
    → Nests n pre post → Nests (n - 1) pre post
fewer n nests = record {
  callable = λ alloc old m asked less. nests.callable alloc old m asked (omega arith);
  reads = λ alloc old new m asked r less. nests.reads alloc old new m asked r (omega arith);
}
