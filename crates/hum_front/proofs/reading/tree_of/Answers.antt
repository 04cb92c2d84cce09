use Rattle.std.proofs.Common.{sym, subst, arith}
use Rattle.hum_syntax.specs.Spells.{IsStmts, Spells, deepest}
use Rattle.hum_syntax.specs.Tokens.{all_placed}
use Rattle.hum_syntax.proofs.SizedTrees.{kinds_of-placed}
use Rattle.hum_parse.specs.Begins.{RefusedAt}
use Rattle.hum_parse.proofs.Reread.{few_tokens}
use Rattle.hum_front.proofs.reading.tree_of.Goals as goal

pub parse-requires : goal.parse-requires
parse-requires c =
    let few = few_tokens c.args.tokens.now in
    let light = c.requires.are.light in
    omega (arith, few, light)

pub returns-in-Ok-clause-spells : goal.returns-in-Ok-clause-spells
returns-in-Ok-clause-spells c = subst (λ ks. Spells ks c.in-Ok.tree) (sym (kinds_of-placed c.args.tokens.now)) c.in-Ok.ensures.found

pub returns-in-Err-Refused-clause-fails : goal.returns-in-Err-Refused-clause-fails
returns-in-Err-Refused-clause-fails c = record {
  short = c.requires.short;
  tokens = all_placed c.args.tokens.now;
  are = c.requires.are;
  token = c.in-Err-Refused.at;
  refused = subst (λ ks. RefusedAt (IsStmts deepest) ks c.in-Err-Refused.at) (sym (kinds_of-placed c.args.tokens.now))
      (c.parse.ensures.refused c.in-Err-Refused.at (cc (c.in-Err-Refused.is, c.in-Err-Refused.field-0-is)));
  place = c.token_place.ensures;
}
