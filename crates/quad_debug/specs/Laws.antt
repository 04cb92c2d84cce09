-- How many turns commands take.
use Rattle.std.specs.Prelude.{◌≡◌, ℕ, ◌≤◌, not, ◌||◌, is_some}
use Rattle.vm_turn.specs.State.{State}
use Rattle.vm_turn.specs.Run.{completes}
use Rattle.vm_machine.specs.Machine.{Machine}
use Rattle.quad_debug.specs.declared.command.Command.{Command}
use Rattle.quad_debug.specs.Obeys.{is_at_rest, is_enough, state_at, TakesTurns}

-- where there is a lane, a turn is completed exactly where the machine is not at rest and its root has not run out
abbrev pub RestsHaveNoTurn : Type 0
RestsHaveNoTurn = (s : State) (pick : ℕ) → 1 ≤ s.lanes → completes s pick ≡ not (is_at_rest s || is_some s.out_of)

-- a machine whose state is that of its run takes some number of turns for each command, and no two numbers of turns are right
pub record CommandsEnd : Type 0 where
  pub some : (m : Machine) (c : Command) → m.state ≡ state_at m m.turns → (k : ℕ) × TakesTurns m (is_enough m c) k
  pub one : (m : Machine) (c : Command) (j k : ℕ) → TakesTurns m (is_enough m c) j → TakesTurns m (is_enough m c) k → j ≡ k
