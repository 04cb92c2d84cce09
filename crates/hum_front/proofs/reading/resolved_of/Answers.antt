use Rattle.std.proofs.Common.{sym, ◌∙◌}
use Rattle.hum_syntax.specs.Spells.{deepest}
use Rattle.hum_syntax.specs.Tokens.{all_placed}
use Rattle.hum_meaning.specs.Scope.{first_refused}
use Rattle.hum_core.specs.declared.resolved.Resolved.{Resolved}
use Rattle.hum_front.proofs.Names.{refused_first, scoped_first, refused_named}
use Rattle.hum_front.proofs.NamePlaces.{refused_name}
use Rattle.hum_front.proofs.reading.resolved_of.Goals as goal

pub unreachable-requires : goal.unreachable-requires
unreachable-requires c =
    let first = refused_first Resolved (first_refused c.args.tree.now.statements) c.resolve.result c.in-Err-Refused.field-0 c.in-Err-Refused.why c.resolve.ensures.told c.in-Err-Refused.is c.in-Err-Refused.field-0-is in
    let there = refused_named (all_placed c.args.tokens.now) c.args.tree.now.statements deepest c.in-Err-Refused.why.at c.in-Err-Refused.why.cause c.requires.spells first in
    cc (sym c.in-None.is ∙ c.name_place.ensures ∙ there.1)

pub returns-in-Ok-clause-scoped : goal.returns-in-Ok-clause-scoped
returns-in-Ok-clause-scoped c = scoped_first Resolved c.args.tree.now.statements c.resolve.result c.in-Ok.resolved c.resolve.ensures.told c.in-Ok.is

pub returns-in-Some-clause-fails : goal.returns-in-Some-clause-fails
returns-in-Some-clause-fails c =
    let ts = all_placed c.args.tokens.now in
    let place = sym c.name_place.ensures ∙ c.in-Some.is in
    let name = refused_name c.args.bytes.now ts c.args.tree.now.statements c.in-Err-Refused.why.at c.in-Some.at c.requires.are.lexes c.requires.spells place in (
      name.0,
      record {
        short = c.requires.short;
        tokens = ts;
        are = c.requires.are;
        tree = c.args.tree.now;
        spells = c.requires.spells;
        number = c.in-Err-Refused.why.at;
        refused = refused_first Resolved (first_refused c.args.tree.now.statements) c.resolve.result c.in-Err-Refused.field-0 c.in-Err-Refused.why c.resolve.ensures.told c.in-Err-Refused.is c.in-Err-Refused.field-0-is;
        is = name.1;
        place = place;
      },
    )
