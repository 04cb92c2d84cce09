-- The image that the module of a file's program links to holds the program.
use Rattle.std.proofs.Common.{refl}
use Rattle.hum_core.specs.Programs.{program}
use Rattle.hum_emit.proofs.Compiling.{compiled_images_hold}
use Rattle.hum_emit.proofs.ShapeFiles.{shapes-fit}
use Rattle.hum_sim.specs.Emitted.{CompiledImagesHoldTheirFiles}

pub compiled_images_hold_their_files : CompiledImagesHoldTheirFiles
compiled_images_hold_their_files file image formed scoped linked = record {
  formed = formed;
  scoped = scoped;
  units = refl;
  holds_program = compiled_images_hold (program file) image.boot image.cells (shapes-fit file formed scoped) linked;
}
