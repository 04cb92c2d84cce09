use Rattle.instr_table.proofs.KnownWords.{row-keeps}
use Rattle.instr_table.proofs.laws.hands_on_what_it_has.Goals as goal

pub returns : goal.returns
returns c = row-keeps
