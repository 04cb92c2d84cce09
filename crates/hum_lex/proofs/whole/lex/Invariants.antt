use Rattle.std.proofs.Common.{◌-◌, length}
use Rattle.hum_syntax.specs.Tokens.{all_placed}
use Rattle.hum_lex.proofs.Wholes.{IsReached}
use Rattle.hum_lex.proofs.whole.lex.Given as goal

abbrev pub invariant-loop-at : goal.invariant-loop-at
invariant-loop-at l = IsReached l.bytes l.called l.at l.weighed (all_placed l.tokens.items)

abbrev pub decreases-loop-at : goal.decreases-loop-at
decreases-loop-at l = length l.bytes - l.at
