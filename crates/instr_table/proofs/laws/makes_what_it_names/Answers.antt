use Rattle.instr_table.proofs.Makings.{row_at-makes}
use Rattle.instr_table.proofs.laws.makes_what_it_names.Goals as goal

pub returns : goal.returns
returns c = row_at-makes
