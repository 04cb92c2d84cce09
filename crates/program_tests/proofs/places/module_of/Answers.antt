use Rattle.std.proofs.Common.{◌∙◌}
use Rattle.hum_sim.proofs.Simulated.{fits}
use Rattle.program_tests.proofs.places.module_of.Goals as goal

pub emit-requires : goal.emit-requires
emit-requires c =
    let is = c.image-image.ensures.compiled in
    fits c.args.compiled.now.tree c.program.result.now.units is.accepted.scoped (c.program.ensures ∙ is.units_are)
