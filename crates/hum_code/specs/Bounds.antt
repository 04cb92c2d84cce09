-- What a delivery may cost.
use Rattle.std.specs.Prelude.{ℕ}
use Rattle.hum_core.specs.Bound.{most_for}

-- at most that many cycles and quads, and at least that many cycles where it is undecided
pub record Limits : Type 0 where
  pub most : ℕ
  pub least : ℕ

-- of a delivery that s steps decide
abbrev pub limits : ℕ → Limits
limits s = record { most = most_for s; least = s }
