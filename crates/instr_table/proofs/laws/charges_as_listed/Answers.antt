use Rattle.instr_table.proofs.Charges.{row-charged}
use Rattle.instr_table.proofs.laws.charges_as_listed.Goals as goal

pub returns : goal.returns
returns c = λ own op s sheet e vs k h. row-charged own s sheet e vs k op h
