use Rattle.std.proofs.Common.{◌≡◌, ◌-◌, length, []}
use Rattle.hum_parse.specs.Rules.{program_from}
use Rattle.hum_parse.proofs.whole.program.Given as goal

abbrev pub invariant-loop-turn : goal.invariant-loop-turn
invariant-loop-turn l = program_from l.n (length l.fn.tokens) [] l.fn.tokens ≡ program_from l.n (l._turn-end - l._turn) l.found l.tokens
