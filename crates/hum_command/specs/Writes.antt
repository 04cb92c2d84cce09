-- What is written to a sink.
use Rattle.std.specs.Prelude.{◌≡◌, ◌⊎◌, ℕ, List, Option}
use Rattle.hum_outside.specs.Outside.{Rose, appended, AppendsFront}

-- a sink before and after the call
pub record Writes : Type 0 where
  pub old : Option (List ℕ)
  pub new : Option (List ℕ)
  pub faults_old : ℕ
  pub faults_new : ℕ

-- by what a sink tells and what it counts
abbrev pub writes : {S : Type 0} → (S → Option (List ℕ)) → (S → ℕ) → S → S → Writes
writes written faults old new = record { old = written old; new = written new; faults_old = faults old; faults_new = faults new }

-- these bytes were appended
abbrev pub Wrote : Writes → List ℕ → Type 0
Wrote w bytes = w.new ≡ appended w.old bytes

-- a front of these bytes was appended, and the count rose
abbrev pub WroteFront : Writes → List ℕ → Type 0
WroteFront w bytes = AppendsFront w.old w.new bytes × Rose w.faults_old w.faults_new

-- a line was written, but for a fault
abbrev pub Said : Writes → List ℕ → Type 0
Said w line = Wrote w line ⊎ WroteFront w line

-- nothing was written
abbrev pub Silent : Writes → Type 0
Silent w = w.new ≡ w.old

-- no fault was counted
abbrev pub Faultless : Writes → Type 0
Faultless w = ¬ (Rose w.faults_old w.faults_new)
