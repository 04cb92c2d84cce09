use Rattle.std.proofs.Common.{◌≡◌, ◌-◌, length, []}
use Rattle.hum_parse.specs.Rules.{inner_at, until_from, stmt}
use Rattle.hum_parse.specs.declared.tokens.Mark.TheVariants as mark
use Rattle.hum_parse.proofs.grammar.Grammar.stmts.Given as goal

abbrev pub invariant-loop-turn : goal.invariant-loop-turn
invariant-loop-turn g l =
    until_from mark.SquareRight (stmt l.n (inner_at l.n)) (length l.fn.tokens) [] l.fn.tokens
    ≡ until_from mark.SquareRight (stmt l.n (inner_at l.n)) (l._turn-end - l._turn) l.found l.tokens
