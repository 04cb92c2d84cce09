-- A program that runs on the machine.
use Rattle.std.specs.Prelude.{◌≡◌, ◌⊎◌, ◌≤◌, ℕ, List}
use Rattle.vm_machine.specs.Machine.{Machine}
use Rattle.vm_machine.specs.View.{unwritten}
use Rattle.vm_turn.specs.Run.{run, picks}
use Rattle.vm_turn.specs.Spending.{Spending, spent_in_run}
use Rattle.vm_turn.specs.State.{State}
use Rattle.hum_syntax.specs.declared.tree.Stmt.{Stmt}
use Rattle.hum_meaning.specs.Deliver.{Configuration}
use Rattle.hum_meaning.specs.Named.{Named, written}
use Rattle.hum_meaning.specs.Written.{humus}
use Rattle.hum_meaning.specs.After as after
use Rattle.hum_code.specs.Layout.{Layout}
use Rattle.hum_emit.specs.Compiled.{layout_of}
use Rattle.hum_sim.specs.Compiled.{Compiled, IsCompiled}
use Rattle.hum_sim.specs.File.{StandsForFile}
use Rattle.hum_sim.specs.Turns.{AddsAnEntry}
use Rattle.hum_sim.specs.Runs.{RunStands}
use Rattle.hum_sim.specs.OneLane.{ComesToRest, CompletesThem}

-- the program, and the machine that runs its image
pub record Sim : Type 0 where
  pub compiled : Compiled
  pub machine : Machine

-- the machine has the program's image, and 1 to 64 lanes
pub record RunsItsImage (s : Sim) : Type 0 where
  pub compiled : IsCompiled s.compiled.tree s.compiled.units s.compiled.image
  pub image_is : s.machine.image ≡ s.compiled.image
  pub some_lanes : 1 ≤ s.machine.state.lanes
  pub lanes_limit : s.machine.state.lanes ≤ 64

-- the program's file, and where the parts of its program stand in the image
abbrev pub file_of : Sim → List Stmt
file_of s = s.compiled.tree.statements

abbrev pub layout_in : Sim → Layout
layout_in s = layout_of s.compiled.units

-- the state that the machine has come to by the picks of its seed, with all that was written, and what its events have spent
abbrev pub state_of : Sim → State
state_of s = run s.machine.image s.machine.grant s.machine.state.lanes (picks s.machine.seed s.machine.turns)

abbrev pub spending_of : Sim → Spending
spending_of s = spent_in_run s.machine.image s.machine.grant s.machine.state.lanes (picks s.machine.seed s.machine.turns)

-- The machine is in that state; and that run follows its journal, stops for its causes, and so on.
pub record Stands (s : Sim) : Type 0 where
  pub is_there : s.machine.state ≡ unwritten (state_of s)
  pub run : RunStands (file_of s) s.machine.image (layout_in s) s.machine.grant s.machine.state.lanes (picks s.machine.seed s.machine.turns)

-- With one lane: where the deliveries in the order of their numbers come to rest, each decided, and their bounds fit
-- the grant, the root never runs out, and at rest the machine has made them and stands for the configuration that
-- they lead to.
abbrev pub Completes : Sim → Type 0
Completes s =
    (d : Configuration (Named written)) (r : ComesToRest humus s.machine.grant (after.opening (file_of s)) d)
    → CompletesThem (file_of s) s.machine.image (layout_in s) s.machine.grant (picks s.machine.seed s.machine.turns) d r.entries

-- The second state stands for a configuration that the first one stands for, or for the one that the entry makes of
-- it that was added between.
pub record Steps (s t : Sim) (c : Configuration (Named written)) : Type 0 where
  pub configuration : Configuration (Named written)
  pub stands : StandsForFile (file_of s) t.machine.image (layout_in s) (spending_of t) (state_of t) configuration
  pub step : (((state_of t).journal ≡ (state_of s).journal) × (configuration ≡ c))
      ⊎ AddsAnEntry (spending_of t) (state_of s) (state_of t) c configuration

-- so it is with each configuration that the first state stands for
abbrev pub KeepsStanding : Sim → Sim → Type 0
KeepsStanding s t =
    (c : Configuration (Named written)) → StandsForFile (file_of s) s.machine.image (layout_in s) (spending_of s) (state_of s) c → Steps s t c
