use Rattle.quad_debug.proofs.Rests.{rests-have_no_turn}
use Rattle.quad_debug.proofs.laws.rests_have_no_turn.Goals as goal

pub returns : goal.returns
returns c = rests-have_no_turn
