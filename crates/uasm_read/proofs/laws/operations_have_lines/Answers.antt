use Rattle.uasm_read.proofs.HasLines.{operations_have_lines}
use Rattle.uasm_read.proofs.laws.operations_have_lines.Goals as goal

pub returns : goal.returns
returns c = operations_have_lines
