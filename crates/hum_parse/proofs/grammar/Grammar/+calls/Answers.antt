use Rattle.std.proofs.Common.{rules, arith}
use Rattle.std.proofs.lemmas.Grind.{common_steps}
use Rattle.hum_syntax.specs.declared.Expr.TheVariants as e
use Rattle.hum_parse.specs.Rules.{calls, call_inside}
use Rattle.hum_parse.proofs.Fewer.{fewer}
use Rattle.hum_parse.proofs.Inside.{inside_calls}
use Rattle.hum_parse.proofs.grammar.Grammar.+calls.Goals as goal

pub calls-requires : goal.calls-requires
calls-requires g t c κs within =
    let nests = fewer c.args.n c.requires in
    first_of (search rules, grind (arith, common_steps))

pub returns-then-eat : goal.returns-then-eat
unfolding calls
returns-then-eat g t c =
    let below = inside_calls c.args.n (e.Call c.args.callee e.Nil) (omega arith) in
    first_of (search rules, grind (arith, common_steps))

pub calls-requires-2 : goal.calls-requires-2
calls-requires-2 g t c κs within =
    let nests = fewer c.args.n c.requires in
    first_of (search rules, grind (arith, common_steps))

pub returns : goal.returns
unfolding calls call_inside
returns g t c =
    let below = inside_calls c.args.n (e.Call c.args.callee c.in_ok-argument.argument) (omega arith) in
    first_of (search rules, grind (arith, common_steps))
