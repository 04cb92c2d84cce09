use Rattle.instr_table.proofs.ShownWords.{changes-keep}
use Rattle.instr_table.proofs.laws.changes_keep_shown.Goals as goal

pub returns : goal.returns
returns c = changes-keep
