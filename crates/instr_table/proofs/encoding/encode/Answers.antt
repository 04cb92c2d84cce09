use Rattle.instr_table.proofs.RoundTrip.{round_trip}
use Rattle.instr_table.proofs.encoding.encode.Goals as goal

pub returns-clause-decodes : goal.returns-clause-decodes
returns-clause-decodes c = rw c.spelled.ensures (round_trip c.args.op c.args.next c.requires.in_row)
