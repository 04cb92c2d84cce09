use Rattle.hum_meaning.specs.Named.{written}
use Rattle.hum_meaning.specs.Written.{humus}
use Rattle.hum_meaning.proofs.NamedLaw.{named_lawful}
use Rattle.hum_meaning.proofs.Deliveries.{deliver_stays}
use Rattle.hum_meaning.proofs.laws.deliveries_stay.Goals as goal

pub returns : goal.returns
returns c = deliver_stays humus (named_lawful written)
