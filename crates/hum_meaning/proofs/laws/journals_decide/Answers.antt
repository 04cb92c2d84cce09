use Rattle.hum_meaning.specs.Named.{written}
use Rattle.hum_meaning.specs.Written.{humus}
use Rattle.hum_meaning.specs.After.{opening}
use Rattle.hum_meaning.proofs.NamedLaw.{named_lawful}
use Rattle.hum_meaning.proofs.Deliveries.{follows_once}
use Rattle.hum_meaning.proofs.laws.journals_decide.Goals as goal

pub returns : goal.returns
returns c = λ file journal d d'. follows_once humus (named_lawful written) journal (opening file) d d'
