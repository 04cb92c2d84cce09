-- Runs of plain trees, one event after the other.
use Rattle.std.proofs.Common.{ℕ, zero, suc, List, [], ◌∷◌, ◌++◌, length, Option, Some, None}
use Rattle.std.specs.Prelude.{codes}
use Prim.Native.String.{String}
use Rattle.hum_meaning.specs.Language.{Language}
use Rattle.hum_meaning.specs.Named.{Named}
use Rattle.hum_meaning.specs.Written.{named_language}
use Rattle.hum_meaning.specs.Deliver.{Configuration, Message, Delivery, Committed, Failed, Open, deliver}
use Rattle.hum_meaning.specs.After.{opening_of, Ending, Commits, FailsWith}
use Rattle.hum_meaning.proofs.Plain.{plain, Stmt, any, block}

-- a finished event: the number of its message, the least number of steps that decides its delivery, and how it ends
abbrev pub Finished : Type 0
Finished = ℕ × ℕ × Ending

-- what was written, the finished events, and the number of pending messages
pub record Ran : Type 0 where
  pub output : List ℕ
  pub finished : List Finished
  pub pending : ℕ

abbrev pub language : Language (Named plain)
language = named_language plain

abbrev pub Config : Type 0
Config = Configuration (Named plain)

abbrev pub begins : List Stmt → Config
begins file = opening_of plain (any, block file)

abbrev pub ran : Config → List Finished → Ran
ran c done = record { output = c.output; finished = done; pending = length c.pending }

-- ---- one event

abbrev pub decided : Delivery (Named plain) → (again : Option (ℕ × Delivery (Named plain))) → (s : ℕ) → Option (ℕ × Delivery (Named plain))
decided Open again s = again
decided d again s = Some (s, d)

-- the delivery, with the least number of steps from s on that decides it; after n tries none
abbrev pub tries : (n s : ℕ) → Config → Message (Named plain) → Option (ℕ × Delivery (Named plain))
tries zero s c m = None
tries (suc n) s c m = decided (deliver language c m s) (tries n (suc s) c m) s

-- ---- all events

abbrev pub go_on : Option (ℕ × Delivery (Named plain)) → ℕ → Config → List Finished → (Config → List Finished → Ran) → Ran
go_on (Some (s, Committed d)) m c done go = go d (done ++ (m, s, Commits) ∷ [])
go_on (Some (s, Failed code sends d)) m c done go = go d (done ++ (m, s, FailsWith code) ∷ [])
go_on _ m c done go = ran c done

abbrev pub first : List (Message (Named plain)) → Ran → (Message (Named plain) → Ran) → Ran
first [] rest go = rest
first (m ∷ more) rest go = go m

-- the first pending message each time: so many events, and fewer steps for each than are allowed
abbrev pub run : (events steps : ℕ) → Config → List Finished → Ran
run zero steps c done = ran c done
run (suc n) steps c done = first c.pending (ran c done) (λ m. go_on (tries steps 0 c m) m.number c done (run n steps))

abbrev pub program : List Stmt → Ran
program file = run 20 400 (begins file) []

-- it wrote this, these events finished, and no message is pending
abbrev pub rests : String → List Finished → Ran
rests output finished = record { output = codes output; finished = finished; pending = 0 }

-- a file that sends println one message: its event takes so many steps, and then that is written
abbrev pub writes : (steps : ℕ) → String → Ran
writes steps output = rests output ((0, steps, Commits) ∷ (1, 0, Commits) ∷ [])

-- a file whose event fails after so many steps with that code, so that nothing is sent
abbrev pub fails : (steps code : ℕ) → Ran
fails steps code = rests "" ((0, steps, FailsWith code) ∷ [])
