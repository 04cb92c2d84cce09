use Rattle.hum_sim.proofs.OneLane.{output_is_the_texts}
use Rattle.hum_sim.proofs.laws.output_is_the_texts.Goals as goal

pub returns : goal.returns
returns c = output_is_the_texts
