use Rattle.hum_syntax.proofs.MoreLevels.{more_levels}
use Rattle.hum_syntax.proofs.laws.more_levels_spell.Goals as goal

pub returns : goal.returns
returns c = more_levels
