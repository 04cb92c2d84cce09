use Rattle.uasm_read.proofs.Spelled.{lines_spell}
use Rattle.uasm_read.proofs.laws.lines_spell_operations.Goals as goal

pub returns : goal.returns
returns c = lines_spell
