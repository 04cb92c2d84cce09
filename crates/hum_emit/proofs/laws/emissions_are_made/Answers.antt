use Rattle.hum_emit.proofs.FairStart.{emission_made}
use Rattle.hum_emit.proofs.laws.emissions_are_made.Goals as goal

pub returns : goal.returns
returns c = emission_made
