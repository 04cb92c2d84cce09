use Rattle.hum_sim.proofs.Simulated.{fits}
use Rattle.hum_sim.proofs.compiling.image_of.Goals as goal

pub emit_with_places-requires : goal.emit_with_places-requires
emit_with_places-requires c = fits c.args.tree.now c.args.program.now.units c.requires.scoped c.requires.units
