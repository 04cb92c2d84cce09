use Rattle.instr_table.proofs.Authorities.{keeps-authority}
use Rattle.instr_table.proofs.laws.keeps_authority.Goals as goal

pub returns : goal.returns
returns c = keeps-authority
