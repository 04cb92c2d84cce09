use Rattle.hum_meaning.specs.Named.{written}
use Rattle.hum_meaning.specs.Written.{humus}
use Rattle.hum_meaning.proofs.Law.{match_stays}
use Rattle.hum_meaning.proofs.NamedLaw.{named_lawful}
use Rattle.hum_meaning.proofs.laws.matching_stays.Goals as goal

pub returns : goal.returns
returns c = λ self base p v env effects. match_stays humus (named_lawful written) self base p v env effects
