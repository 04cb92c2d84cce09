use Rattle.hum_meaning.proofs.Law.{evaluate_stays, match_stays, execute_stays}
use Rattle.hum_meaning.proofs.Deliveries.{deliver_stays}
use Rattle.hum_core.specs.TestLists.{tests_language}
use Rattle.hum_core.proofs.Lawful.{tests_lawful}
use Rattle.hum_core.proofs.laws.tested_decisions_stay.Goals as goal

pub returns : goal.returns
returns c = λ units. record {
  evaluation = evaluate_stays (tests_language units) (tests_lawful units);
  matching = match_stays (tests_language units) (tests_lawful units);
  execution = execute_stays (tests_language units) (tests_lawful units);
  deliveries = deliver_stays (tests_language units) (tests_lawful units);
}
