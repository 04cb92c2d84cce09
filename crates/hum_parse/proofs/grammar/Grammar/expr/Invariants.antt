use Rattle.std.proofs.Common.{◌≡◌, ◌-◌, length, []}
use Rattle.hum_parse.specs.Rules.{inner_at, items_from}
use Rattle.hum_parse.proofs.grammar.Grammar.expr.Given as goal

abbrev pub invariant-loop-turn : goal.invariant-loop-turn
invariant-loop-turn g l =
    items_from l.n (inner_at l.n) (length l.fn.tokens) [] l.fn.tokens ≡ items_from l.n (inner_at l.n) (l._turn-end - l._turn) l.found l.tokens
