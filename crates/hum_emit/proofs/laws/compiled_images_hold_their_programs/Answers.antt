use Rattle.hum_emit.proofs.Compiling.{compiled_images_hold}
use Rattle.hum_emit.proofs.laws.compiled_images_hold_their_programs.Goals as goal

pub returns : goal.returns
returns c = compiled_images_hold
