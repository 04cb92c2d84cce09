-- When journals lead to configurations that are alike.
use Rattle.std.specs.Prelude.{List}
use Rattle.hum_meaning.specs.Value.{Parts}
use Rattle.hum_meaning.specs.Language.{Language}
use Rattle.hum_meaning.specs.Deliver.{Configuration}
use Rattle.hum_meaning.specs.After.{Entry, Follows}
use Rattle.hum_core.specs.Alike.{Reading}
use Rattle.hum_core.specs.Configurations.{ConfigurationAs}

-- From configurations that are alike, what a journal leads to in the one language it leads to in the other.
pub record JournalsAlike {L K : Parts} (r : Reading L K) (l : Language L) (k : Language K) : Type 0 where
  pub forth : (journal : List Entry) (c c' : Configuration L) (d : Configuration K) → ConfigurationAs r c d → Follows l c journal c'
      → (d' : Configuration K) × Follows k d journal d' × ConfigurationAs r c' d'
  pub back : (journal : List Entry) (c : Configuration L) (d d' : Configuration K) → ConfigurationAs r c d → Follows k d journal d'
      → (c' : Configuration L) × Follows l c journal c' × ConfigurationAs r c' d'
