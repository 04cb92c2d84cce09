use Rattle.hum_meaning.specs.Written.{humus}
use Rattle.hum_core.specs.CoreTrees.{core_language}
use Rattle.hum_core.specs.TestLists.{tests_language}
use Rattle.hum_core.specs.Agreement.{Resolution}
use Rattle.hum_core.specs.Lowering.{Lowered}
use Rattle.hum_core.proofs.Delivered.{deliver_alike}
use Rattle.hum_core.proofs.Agreed.{resolution_sound}
use Rattle.hum_core.proofs.Lowered.{lowering_sound}
use Rattle.hum_core.proofs.Bounded.{bounds_agree}
use Rattle.hum_core.proofs.laws.bounds_are_the_same.Goals as goal

pub returns : goal.returns
returns c = λ units tested. record {
  resolved = bounds_agree (Resolution units) humus (core_language units)
      (deliver_alike (Resolution units) humus (core_language units) (resolution_sound units));
  lowered = bounds_agree (Lowered units tested) (core_language units) (tests_language tested)
      (deliver_alike (Lowered units tested) (core_language units) (tests_language tested) (lowering_sound units tested));
}
