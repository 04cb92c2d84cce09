use Rattle.instr_table.proofs.Spellings.{decoded-in_row, decoded-spelled}
use Rattle.instr_table.proofs.decoding.decode.Goals as goal

pub returns-clause-in_row : goal.returns-clause-in_row
returns-clause-in_row c = decoded-in_row c.args.q c.operation.result c.operation.ensures

pub returns-clause-spelled : goal.returns-clause-spelled
returns-clause-spelled c = decoded-spelled c.args.q c.operation.result c.operation.ensures
