use Rattle.hum_meaning.specs.Named.{written}
use Rattle.hum_meaning.specs.Written.{humus}
use Rattle.hum_meaning.proofs.Law.{depth-is-enough}
use Rattle.hum_meaning.proofs.NamedLaw.{named_lawful}
use Rattle.hum_meaning.proofs.laws.depth_is_enough.Goals as goal

pub returns : goal.returns
returns c = λ self base n s lt. depth-is-enough humus (named_lawful written) self base n s lt
