-- An image that holds a file's program.
use Rattle.std.specs.Prelude.{◌≡◌, true, List}
use Rattle.quad_memory.specs.Image.{RomImage}
use Rattle.hum_syntax.specs.declared.tree.Stmt.{Stmt}
use Rattle.hum_syntax.specs.Formed as tree
use Rattle.hum_meaning.specs.Scope.{Scoped}
use Rattle.hum_core.specs.Programs.{program}
use Rattle.hum_code.specs.Layout.{Layout}
use Rattle.hum_code.specs.Program.{HoldsProgram}

-- The file is a tree that has a text, and no name of it is refused; the layout's units are those of its program; and
-- the image has their code where the layout says, and begins with it.
pub record HoldsFile (file : List Stmt) (image : RomImage) (layout : Layout) : Type 0 where
  pub formed : tree.are_formed file ≡ true
  pub scoped : Scoped file
  pub units : layout.units ≡ program file
  pub holds_program : HoldsProgram image.boot image.cells layout
