-- What a program with tests keeps of the one that it is made of.
use Rattle.std.specs.Prelude.{ℕ, List}
use Rattle.hum_core.specs.declared.resolved.CoreUnit.{CoreUnit}
use Rattle.hum_core.specs.declared.tested.TestUnit.{TestUnit}
use Rattle.hum_core.specs.CoreTrees.{Core}
use Rattle.hum_core.specs.Alike.{Scope}
use Rattle.hum_core.specs.Numbered.{Code}
use Rattle.hum_core.specs.Lowering.{Lowered}
use Rattle.hum_core.specs.Laws.{LoweredMeansTheSame}

-- In every scope a block and an abstraction stand for those of the same number, and what stands for one another means the same: the same
-- steps decide it, with outcomes that are alike.
pub record KeepsMeaning (units : List CoreUnit) (tested : List TestUnit) : Type 0 where
  pub bodies : (scope : Scope Core) (k : ℕ) → (Lowered units tested).BodyAs scope k k
  pub abstractions : (scope : Scope Core) (c : Code) → (Lowered units tested).AbstractionAs scope c c
  pub meaning : LoweredMeansTheSame units tested
