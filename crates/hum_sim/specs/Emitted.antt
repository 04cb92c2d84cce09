-- The image that the module of a file's program links to.
use Rattle.std.specs.Prelude.{◌≡◌, true, List, [], ◌∷◌}
use Rattle.quad_memory.specs.Image.{RomImage}
use Rattle.uasm_read.specs.Links.{Linked}
use Rattle.hum_syntax.specs.declared.tree.Stmt.{Stmt}
use Rattle.hum_syntax.specs.Formed as tree
use Rattle.hum_meaning.specs.Scope.{Scoped}
use Rattle.hum_core.specs.Programs.{program}
use Rattle.hum_emit.specs.Compiled.{compiled_module, layout_of}
use Rattle.hum_sim.specs.Program.{HoldsFile}

-- each image that the module of a file's program links to holds it, for each file that is formed and in which no name is refused
abbrev pub CompiledImagesHoldTheirFiles : Type 0
CompiledImagesHoldTheirFiles =
    (file : List Stmt) (image : RomImage) → tree.are_formed file ≡ true → Scoped file
    → Linked (compiled_module (program file) ∷ []) image.boot image.cells → HoldsFile file image (layout_of (program file))
