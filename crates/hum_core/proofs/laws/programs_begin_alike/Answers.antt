use Rattle.hum_core.proofs.Opened.{resolved_opening, tested_opening}
use Rattle.hum_core.proofs.laws.programs_begin_alike.Goals as goal

pub returns : goal.returns
returns c = λ units. record { resolved = resolved_opening units; lowered = tested_opening units }
