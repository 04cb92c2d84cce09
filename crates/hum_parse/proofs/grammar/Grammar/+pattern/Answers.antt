use Rattle.std.proofs.Common.{rules, arith}
use Rattle.std.proofs.lemmas.Grind.{common_steps}
use Rattle.hum_parse.specs.Rules.{inner_at, pat_behind, pats_from, pat_paren, pat_inside}
use Rattle.hum_parse.proofs.Turns.{one_more}
use Rattle.hum_parse.proofs.Inside.{inside_pat}
use Rattle.hum_parse.proofs.grammar.Grammar.+pattern.Goals as goal

pub pat_behind-returns-then-not-eat : goal.pat_behind-returns-then-not-eat
unfolding pat_behind pats_from
pat_behind-returns-then-not-eat g t c =
    let step = one_more (λ m. pats_from c.args.n (inner_at c.args.n) m c.loop-turn.found c.loop-turn.tokens) _ c.loop-turn._turn c.loop-turn-test.true
    c.loop-turn.invariant in
    first_of (search rules, grind (arith, common_steps))

pub pat_behind-loop-turn-preserved : goal.pat_behind-loop-turn-preserved
unfolding pats_from
pat_behind-loop-turn-preserved g t c =
    let step = one_more (λ m. pats_from c.args.n (inner_at c.args.n) m c.loop-turn.found c.loop-turn.tokens) _ c.loop-turn._turn c.loop-turn-test.true
    c.loop-turn.invariant in
    first_of (search rules, grind (arith, common_steps))

pub pat_paren-returns-in_err-expect : goal.pat_paren-returns-in_err-expect
unfolding pat_paren pat_inside
pat_paren-returns-in_err-expect g t c =
    let inside = inside_pat c.args.n (omega arith) in
    first_of (search rules, grind (arith, common_steps))
