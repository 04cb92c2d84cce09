use Rattle.instr_table.proofs.Plain.{plain-rows}
use Rattle.instr_table.proofs.laws.plain_rows_leave_sponsors.Goals as goal

pub returns : goal.returns
returns c = plain-rows
