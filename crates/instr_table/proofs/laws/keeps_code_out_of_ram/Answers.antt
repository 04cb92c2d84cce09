use Rattle.instr_table.proofs.Makings.{keeps-code_out}
use Rattle.instr_table.proofs.laws.keeps_code_out_of_ram.Goals as goal

pub returns : goal.returns
returns c = keeps-code_out
