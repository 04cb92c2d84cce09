-- What it is to begin a spelling, and the place of a refusal.
use Rattle.std.specs.Prelude.{ℕ, ◌<◌, ◌≤◌, List, ◌++◌, length, take}
use Rattle.hum_syntax.specs.declared.Token.{Token}
use Rattle.hum_syntax.specs.Spells.{Kinds, kinds}

-- some tokens may follow so that all of them spell a tree
abbrev pub Begins : {A : Type 0} → (Kinds → A → Type 0) → Kinds → Type 0
Begins {A = A} Spelled ks = (more : List Token) × (tree : A) × Spelled (ks ++ kinds more) tree

-- the length of the longest front that begins a spelling, where all of it is none
pub record RefusedAt {A : Type 0} (Spelled : Kinds → A → Type 0) (ks : Kinds) (at : ℕ) : Type 0 where
  pub within : at ≤ length ks
  pub begins : Begins Spelled (take at ks)
  pub no_longer : (k : ℕ) → at < k → k ≤ length ks → Begins Spelled (take k ks) → ⊥
  pub no_tree : (tree : A) → Spelled ks tree → ⊥
