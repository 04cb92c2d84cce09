-- What stands for one another means the same: trees, deliveries and journals.
use Rattle.std.proofs.Common.{List}
use Rattle.hum_core.specs.declared.resolved.CoreUnit.{CoreUnit}
use Rattle.hum_core.specs.declared.tested.TestUnit.{TestUnit}
use Rattle.hum_meaning.specs.Written.{humus}
use Rattle.hum_core.specs.CoreTrees.{core_language}
use Rattle.hum_core.specs.TestLists.{tests_language}
use Rattle.hum_core.specs.Agreement.{Resolution}
use Rattle.hum_core.specs.Lowering.{Lowered}
use Rattle.hum_core.specs.Laws.{ResolvedMeansTheSame, LoweredMeansTheSame}
use Rattle.hum_core.proofs.Simulates.{means_alike}
use Rattle.hum_core.proofs.Delivered.{deliver_alike}
use Rattle.hum_core.proofs.Followed.{journals_alike}
use Rattle.hum_core.proofs.Agreed.{resolution_sound}
use Rattle.hum_core.proofs.Lowered.{lowering_sound}

pub resolved_means : (units : List CoreUnit) → ResolvedMeansTheSame units
resolved_means units =
    let r = Resolution units in
    let k = core_language units in
    let deliveries = deliver_alike r humus k (resolution_sound units) in
    record { trees = means_alike r humus k (resolution_sound units); deliveries = deliveries; journals = journals_alike r humus k deliveries }

pub lowered_means : (units : List CoreUnit) (tested : List TestUnit) → LoweredMeansTheSame units tested
lowered_means units tested =
    let r = Lowered units tested in
    let l = core_language units in
    let k = tests_language tested in
    let deliveries = deliver_alike r l k (lowering_sound units tested) in
    record { trees = means_alike r l k (lowering_sound units tested); deliveries = deliveries; journals = journals_alike r l k deliveries }
