use Rattle.hum_meaning.proofs.Law.{evaluate_stays, match_stays, execute_stays}
use Rattle.hum_meaning.proofs.Deliveries.{deliver_stays}
use Rattle.hum_core.specs.CoreTrees.{core_language}
use Rattle.hum_core.proofs.Lawful.{core_lawful}
use Rattle.hum_core.proofs.laws.resolved_decisions_stay.Goals as goal

pub returns : goal.returns
returns c = λ units. record {
  evaluation = evaluate_stays (core_language units) (core_lawful units);
  matching = match_stays (core_language units) (core_lawful units);
  execution = execute_stays (core_language units) (core_lawful units);
  deliveries = deliver_stays (core_language units) (core_lawful units);
}
