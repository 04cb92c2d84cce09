use Rattle.instr_table.proofs.Charges.{row_at-covers}
use Rattle.instr_table.proofs.laws.takes_what_it_charges.Goals as goal

pub returns : goal.returns
returns c = row_at-covers
