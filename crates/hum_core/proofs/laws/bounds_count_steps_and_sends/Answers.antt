use Rattle.hum_meaning.specs.Named.{written}
use Rattle.hum_meaning.specs.Written.{humus}
use Rattle.hum_meaning.proofs.NamedLaw.{named_lawful}
use Rattle.hum_core.specs.CoreTrees.{core_language}
use Rattle.hum_core.specs.TestLists.{tests_language}
use Rattle.hum_core.proofs.Lawful.{core_lawful, tests_lawful}
use Rattle.hum_core.proofs.Bounded.{bounds_count}
use Rattle.hum_core.proofs.laws.bounds_count_steps_and_sends.Goals as goal

pub returns : goal.returns
returns c = λ units tested. record {
  written = bounds_count humus (named_lawful written);
  resolved = bounds_count (core_language units) (core_lawful units);
  lowered = bounds_count (tests_language tested) (tests_lawful tested);
}
