use Rattle.std.proofs.Common.{rules, arith}
use Rattle.std.proofs.lemmas.Grind.{common_steps}
use Rattle.hum_parse.specs.Rules.{inner_at, stmt, until_from}
use Rattle.hum_parse.specs.declared.tokens.Mark.TheVariants as mark
use Rattle.hum_parse.proofs.Turns.{one_more}
use Rattle.hum_parse.proofs.grammar.Grammar.stmts.Goals as goal

pub loop-turn-preserved : goal.loop-turn-preserved
unfolding until_from
loop-turn-preserved g c =
    let step = one_more (λ m. until_from mark.SquareRight (stmt c.args.n (inner_at c.args.n)) m c.loop-turn.found c.loop-turn.tokens) _
    c.loop-turn._turn c.loop-turn-test.true c.loop-turn.invariant in
    first_of (search rules, grind (arith, common_steps))
