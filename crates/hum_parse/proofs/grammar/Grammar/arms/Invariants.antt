use Rattle.std.proofs.Common.{◌≡◌, ◌-◌, length}
use Rattle.hum_parse.specs.Rules.{inner_at, until_from, arm_rule}
use Rattle.hum_parse.specs.declared.tokens.Mark.TheVariants as mark
use Rattle.hum_parse.proofs.grammar.Grammar.arms.Given as goal

abbrev pub invariant-loop-turn : goal.invariant-loop-turn
invariant-loop-turn g l =
    until_from mark.End (arm_rule l.n (inner_at l.n)) (length l.initial.tokens) l.initial.found l.initial.tokens
    ≡ until_from mark.End (arm_rule l.n (inner_at l.n)) (l._turn-end - l._turn) l.found l.tokens
