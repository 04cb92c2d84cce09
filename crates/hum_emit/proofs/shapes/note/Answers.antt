use Rattle.std.proofs.Common.{refl}
use Rattle.hum_emit.specs.Rowing.{shape_at}
use Rattle.hum_emit.proofs.Findings.{one_found}
use Rattle.hum_emit.proofs.shapes.note.Goals as goal

pub returns : goal.returns
returns c =
    one_found c.args.walk.now (record { rows = c.args.walk.now.rows; found = c.push.new.self }) c.args.top (shape_at c.args.walk.now.rows c.args.top)
    (c.requires, refl) refl c.in_ok-push.ensures.items
