use Rattle.std.proofs.Common.{arith, subst}
use Rattle.hum_syntax.specs.Places.{NameAt}
use Rattle.hum_front.proofs.NamePlaces.{name_within, name_cut, refused_stands}
use Rattle.hum_front.proofs.places.name_at.Goals as goal

pub returns-then-at-bytes-clause-refused : goal.returns-then-at-bytes-clause-refused
returns-then-at-bytes-clause-refused c = λ why name is at.
    let within = name_within c.args.bytes.now why.at name (refused_stands c.args.bytes.now why name is) in
    absurd (omega (arith, within, at))

pub returns-clause-name : goal.returns-clause-name
returns-clause-name c = λ name is. name_cut c.args.bytes.now c.args.at c.len_of.result name c.len_of.ensures.value is

pub returns-clause-refused : goal.returns-clause-refused
returns-clause-refused c = λ why name is at.
    name_cut c.args.bytes.now c.args.at c.len_of.result name c.len_of.ensures.value
    (subst (λ k. NameAt c.args.bytes.now k name) at (refused_stands c.args.bytes.now why name is))
