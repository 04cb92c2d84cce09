use Rattle.instr_table.proofs.Assignments.{row_at-own}
use Rattle.instr_table.proofs.laws.assigns_to_own.Goals as goal

pub returns : goal.returns
returns c = row_at-own
