-- A program's code stands in a store, and an event of one of its actors begins there.
use Rattle.std.specs.Prelude.{◌≡◌, ℕ, Some, slice_get}
use Rattle.instr_table.specs.Types.{AnActor, look_up}
use Rattle.hum_core.specs.TestLists.{test_body}
use Rattle.hum_code.specs.Comes.{Setting}
use Rattle.hum_code.specs.Layout.{Layout, IsFunction, IsBlock}
use Rattle.hum_code.specs.Stands.{DataStand}
use Rattle.hum_code.specs.Code.{codes_to, FunctionCode, StatementsAt}
use Rattle.hum_code.specs.Runtime.{RuntimeAt}

-- The image's data, the fixed code, and the code of each unit to every depth.
pub record CodeStands (m : Setting) (lay : Layout) : Type 0 where
  pub cells : DataStand lay m.base
  pub runtime : RuntimeAt m lay
  pub functions : (n k : ℕ) (f : IsFunction lay k) → FunctionCode m lay (codes_to m lay n) f.tests f.value (lay.shape k) (lay.place k)
  pub blocks : (n k : ℕ) → IsBlock lay k → StatementsAt m lay (codes_to m lay n) (test_body (slice_get lay.units k)) (lay.shape k) (lay.place k)

-- and the event's actor is the one of that number on the roll
pub record Emission : Type 0 where
  pub setting : Setting
  pub layout : Layout
  pub code : CodeStands setting layout
  pub self : ℕ
  pub self_is : slice_get setting.roll self ≡ Some setting.own.actor
  pub actor_is : look_up setting.base setting.own.actor ≡ Some AnActor
