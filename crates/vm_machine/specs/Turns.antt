-- What a turn comes to outside.
use Rattle.std.specs.Prelude.{◌≡◌, ℕ, List, [], Option, Result, Ok, Err, IsOk}
use Rattle.hum_outside.specs.Outside.{AppendsFront, appended}
use Rattle.vm_devices.specs.declared.delivery.WriteFault.{WriteFault}
use Rattle.vm_turn.specs.declared.journal.Turn.{Turn as Answer}
use Rattle.vm_turn.specs.State.{State}
use Rattle.vm_machine.specs.View.{unwritten}

-- The turn is the written one: the next state is its state, the answer is its answer, and what it adds to the output is appended. Where a
-- write failed the state is as it was, and a front of that is appended.
abbrev pub Takes : State × Answer → Result Answer WriteFault → (old new : State) → (before after : Option (List ℕ)) → Type 0
Takes x (Ok turn) old new before after = (new ≡ unwritten x.0) × (turn ≡ x.1) × (after ≡ appended before x.0.output)
Takes x (Err fault) old new before after = (new ≡ old) × AppendsFront before after x.0.output

-- where the written turn adds nothing to the output the call answers Ok, and the sink's bytes and its count of faults are as they were
abbrev pub Quiet : State × Answer → Result Answer WriteFault → (before after : Option (List ℕ)) → (faults_before faults_after : ℕ) → Type 0
Quiet x result before after faults_before faults_after = x.0.output ≡ [] → IsOk result × (after ≡ before) × (faults_after ≡ faults_before)
