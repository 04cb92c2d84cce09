use Rattle.std.proofs.Common.{◌≡◌, ◌+◌, ◌-◌, ◌*◌, [], ◌∷◌, length}
use Rattle.hum_parse.specs.Rules.{inner_at, pats_from}
use Rattle.hum_parse.proofs.grammar.Grammar.+pattern.Given as goal

abbrev pub decreases-pat : goal.decreases-pat
decreases-pat g l = 10 * l.n + 3

abbrev pub decreases-pat_behind : goal.decreases-pat_behind
decreases-pat_behind g l = 10 * l.n + 2

abbrev pub decreases-pterm : goal.decreases-pterm
decreases-pterm g l = 10 * l.n + 1

abbrev pub invariant-pat_behind-loop-turn : goal.invariant-pat_behind-loop-turn
invariant-pat_behind-loop-turn g l = pats_from l.n (inner_at l.n) (length l.fn.tokens) (l.fn.first ∷ []) l.fn.tokens ≡ pats_from l.n (inner_at l.n)
    (l._turn-end - l._turn) l.found l.tokens

abbrev pub decreases-pat_paren : goal.decreases-pat_paren
decreases-pat_paren g l = 10 * l.n
