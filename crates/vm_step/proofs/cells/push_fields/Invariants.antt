use Rattle.instr_table.specs.Lists.{fields_in}
use Rattle.vm_step.proofs.Pushing.{Pushing}
use Rattle.vm_step.proofs.cells.push_fields.Given as goal

abbrev pub invariant-loop-k : goal.invariant-loop-k
invariant-loop-k l = Pushing l.fn.quads l.quads l.fn.lane l.lane (fields_in l.q l.n) l.k
