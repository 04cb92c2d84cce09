use Rattle.std.proofs.Common.{◌∙◌, ap}
use Rattle.hum_core.specs.Lists.{tested}
use Rattle.hum_sim.proofs.AcceptedLinks.{accepted_links}
use Rattle.hum_sim.proofs.compiling.compile.Goals as goal

pub image_of-requires-clause-links : goal.image_of-requires-clause-links
image_of-requires-clause-links c =
    accepted_links c.args.bytes.now c.in-Ok.reading.tree c.in-Ok-lower.program.units c.in-Ok.ensures.accepted
    (c.in-Ok-lower.ensures.value ∙ ap tested c.in-Ok.ensures.units)
