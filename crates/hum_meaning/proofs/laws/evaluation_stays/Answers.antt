use Rattle.hum_meaning.specs.Named.{written}
use Rattle.hum_meaning.specs.Written.{humus}
use Rattle.hum_meaning.proofs.Law.{evaluate_stays}
use Rattle.hum_meaning.proofs.NamedLaw.{named_lawful}
use Rattle.hum_meaning.proofs.laws.evaluation_stays.Goals as goal

pub returns : goal.returns
returns c = λ self base e env effects. evaluate_stays humus (named_lawful written) self base e env effects
