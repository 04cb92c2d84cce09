use Rattle.instr_table.proofs.ShownWords.{shown-stays}
use Rattle.instr_table.proofs.laws.shown_stays.Goals as goal

pub returns : goal.returns
returns c = shown-stays
