use Rattle.quad_debug.proofs.Runs.{commands-end}
use Rattle.quad_debug.proofs.laws.commands_end.Goals as goal

pub returns : goal.returns
returns c = commands-end
