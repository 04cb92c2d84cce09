use Rattle.instr_table.proofs.ByState.{charges-by_state}
use Rattle.instr_table.proofs.laws.charges_by_state.Goals as goal

pub returns : goal.returns
returns c = charges-by_state
