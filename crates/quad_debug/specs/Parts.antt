-- What the parts of obeying come to.
use Rattle.std.specs.Prelude.{◌≡◌, ℕ, nat_le, Bool, true, false, List, [], ◌++◌, Option}
use Rattle.hum_outside.specs.Outside.{AppendsFront, appended}
use Rattle.uasm_read.specs.Texts.{Bytes}
use Rattle.vm_turn.specs.declared.journal.Entry.{Entry}
use Rattle.vm_machine.specs.Machine.{Machine}
use Rattle.quad_debug.specs.declared.wait.Wait.{Wait}
use Rattle.quad_debug.specs.declared.wait.Wait.TheVariants.{Entries, Message as ForMessage}
use Rattle.quad_debug.specs.Kept.{Debugged}
use Rattle.quad_debug.specs.Obeys.{state_at, goes_on, has_ended, piece_at, told_at, entries_at, met_at, ending_at, HoldsState, IsAfter, Took, Broke}

-- the machine's state is that of its run, and what is seen of it is that state
pub record Stands (m : Machine) : Type 0 where
  pub run : m.state ≡ state_at m m.turns
  pub memory : HoldsState m

-- nothing
abbrev pub no_text : ℕ → Bytes
no_text k = []

abbrev pub if_more : {A : Type 0} → Bool → List A → List A
if_more true xs = xs
if_more false xs = []

abbrev pub one_if : Bool → ℕ
one_if true = 1
one_if false = 0

-- an event of the message that is waited for is among these entries
abbrev pub stands_in : Wait → List Entry → Bool
stands_in (Entries count) entries = false
stands_in (ForMessage message) entries = has_ended message entries

module _ (old new : Debugged) (out_old out_new : Option Bytes) where
  -- a turn was taken, or there is none
  pub record TookTurn (more : Bool) : Type 0 where
    pub was : goes_on old.machine old.machine.turns ≡ more
    pub machine : IsAfter old.machine new.machine (one_if more)
    pub began : new.began ≡ old.began
    pub journal : new.machine.state.journal ≡ old.machine.state.journal ++ if_more more (entries_at old.machine old.machine.turns)
    pub out : out_new ≡ appended out_old (if_more more (piece_at old.machine old.machine.turns))

  -- its write failed, and the turn was not completed
  pub record BrokeTurn : Type 0 where
    pub was : goes_on old.machine old.machine.turns ≡ true
    pub same : new ≡ old
    pub out : AppendsFront out_old out_new (piece_at old.machine old.machine.turns)

-- so many turns were taken
abbrev pub Steps : ℕ → (old new : Debugged) → (out_old out_new : Option Bytes) → Type 0
Steps count old new = Took (nat_le count) (piece_at old.machine) no_text old new

abbrev pub BreaksSteps : ℕ → (old new : Debugged) → (out_old out_new : Option Bytes) → Type 0
BreaksSteps count old new = Broke (nat_le count) (piece_at old.machine) no_text old new

-- turns were taken until this had come
abbrev pub Walks : Wait → (old new : Debugged) → (out_old out_new : Option Bytes) → Type 0
Walks wait old new = Took (met_at old.machine wait) (told_at old.machine) no_text old new

abbrev pub BreaksWalk : Wait → (old new : Debugged) → (out_old out_new : Option Bytes) → Type 0
BreaksWalk wait old new = Broke (met_at old.machine wait) (told_at old.machine) no_text old new

-- and how that ended was written
abbrev pub Waits : Wait → (old new : Debugged) → (out_old out_new : Option Bytes) → Type 0
Waits wait old new = Took (met_at old.machine wait) (told_at old.machine) (ending_at old.machine wait) old new

abbrev pub BreaksWait : Wait → (old new : Debugged) → (out_old out_new : Option Bytes) → Type 0
BreaksWait wait old new = Broke (met_at old.machine wait) (told_at old.machine) (ending_at old.machine wait) old new
