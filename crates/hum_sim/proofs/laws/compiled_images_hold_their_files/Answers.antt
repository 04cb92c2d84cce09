use Rattle.hum_sim.proofs.Emitted.{compiled_images_hold_their_files}
use Rattle.hum_sim.proofs.laws.compiled_images_hold_their_files.Goals as goal

pub returns : goal.returns
returns c = compiled_images_hold_their_files
