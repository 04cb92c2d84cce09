use Rattle.std.proofs.Common.{rules, arith}
use Rattle.std.proofs.lemmas.Grind.{common_steps}
use Rattle.hum_parse.specs.Rules.{inner_at, expr, items_from}
use Rattle.hum_parse.proofs.Turns.{one_more}
use Rattle.hum_parse.proofs.grammar.Grammar.expr.Goals as goal

pub returns-then-sees : goal.returns-then-sees
unfolding expr items_from
returns-then-sees g c =
    let step = one_more (λ m. items_from c.args.n (inner_at c.args.n) m c.loop-turn.found c.loop-turn.tokens) _ c.loop-turn._turn
    c.loop-turn-test.true c.loop-turn.invariant in
    first_of (search rules, grind (arith, common_steps))

pub returns-then-not-eat : goal.returns-then-not-eat
unfolding expr items_from
returns-then-not-eat g c =
    let step = one_more (λ m. items_from c.args.n (inner_at c.args.n) m c.loop-turn.found c.loop-turn.tokens) _ c.loop-turn._turn
    c.loop-turn-test.true c.loop-turn.invariant in
    first_of (search rules, grind (arith, common_steps))

pub loop-turn-preserved : goal.loop-turn-preserved
unfolding expr items_from
loop-turn-preserved g c =
    let step = one_more (λ m. items_from c.args.n (inner_at c.args.n) m c.loop-turn.found c.loop-turn.tokens) _ c.loop-turn._turn
    c.loop-turn-test.true c.loop-turn.invariant in
    first_of (search rules, grind (arith, common_steps))
