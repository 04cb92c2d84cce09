-- What the walk has found that finds the shapes of units.
use Rattle.std.specs.Prelude.{◌≡◌, ℕ, List, ◌++◌}
use Rattle.std.specs.List.{AllZip}
use Rattle.hum_code.specs.Layout.{Shape}
use Rattle.hum_emit.specs.declared.shapes.Walk.{Walk}
use Rattle.hum_emit.specs.Rowing.{IsTop}

-- Entries were added, and tops that these shapes begin with were found behind those that were found before.
pub record Found (shapes : List Shape) (old new : Walk) : Type 0 where
  pub more : List Shape
  pub rows : new.rows ≡ old.rows ++ more
  pub tops : List ℕ
  pub found : new.found.items ≡ old.found.items ++ tops
  pub stand : AllZip (IsTop new.rows) tops shapes
