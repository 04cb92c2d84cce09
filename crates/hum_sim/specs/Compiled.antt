-- What a program's text is compiled to.
use Rattle.std.specs.Prelude.{◌≡◌, ℕ, List, [], ◌∷◌}
use Rattle.quad_memory.specs.Image.{RomImage}
use Rattle.uasm_read.specs.Links.{Linked}
use Rattle.hum_syntax.specs.declared.Tree.{Tree}
use Rattle.hum_syntax.specs.Forms.{Bytes}
use Rattle.hum_core.specs.Programs.{program}
use Rattle.hum_core.specs.declared.tested.TestUnit.{TestUnit}
use Rattle.hum_emit.specs.Compiled.{compiled_module, layout_of}
use Rattle.hum_front.specs.Accepted.{Accepted}
use Rattle.hum_sim.specs.Program.{HoldsFile}

-- its tree, the units of its program, the image of their code, and the ROM numbers where the code stands there
pub record Compiled : Type 0 where
  pub tree : Tree
  pub units : List TestUnit
  pub image : RomImage
  pub places : List ℕ

-- The tree is that of a text that is accepted, the units are those of its program, and the image is what the module
-- of these links to.
pub record IsCompiled (tree : Tree) (units : List TestUnit) (image : RomImage) : Type 0 where
  pub text : Bytes
  pub accepted : Accepted text tree
  pub units_are : units ≡ program tree.statements
  pub linked : Linked (compiled_module units ∷ []) image.boot image.cells

-- so the image holds the program of the tree, where the emitter laid it out
abbrev pub HoldsItsTree : Tree → List TestUnit → RomImage → Type 0
HoldsItsTree tree units image = HoldsFile tree.statements image (layout_of units)
