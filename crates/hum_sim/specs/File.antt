-- When a state of the machine stands for a configuration of a file.
use Rattle.std.specs.Prelude.{List}
use Rattle.quad_memory.specs.Image.{RomImage}
use Rattle.vm_turn.specs.State.{State}
use Rattle.hum_syntax.specs.declared.tree.Stmt.{Stmt}
use Rattle.hum_meaning.specs.Deliver.{Configuration}
use Rattle.hum_meaning.specs.Named.{Named, written}
use Rattle.hum_core.specs.Programs.{FileAs}
use Rattle.hum_core.specs.TestLists.{Tests}
use Rattle.hum_code.specs.Layout.{Layout}
use Rattle.hum_sim.specs.Program.{HoldsFile}
use Rattle.vm_turn.specs.Spending.{Spending}
use Rattle.hum_sim.specs.Standing.{StateStands}

-- The image holds the file's program, and the state stands for a configuration of the program that is alike to the file's.
pub record StandsForFile (file : List Stmt) (image : RomImage) (layout : Layout) (spent : Spending) (s : State)
    (c : Configuration (Named written)) : Type 0 where
  pub holds : HoldsFile file image layout
  pub of_program : Configuration Tests
  pub alike : (FileAs file).Configurations c of_program
  pub stands : StateStands layout image.cells spent s of_program
