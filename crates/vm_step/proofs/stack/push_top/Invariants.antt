use Rattle.std.specs.Prelude.{reverse}
use Rattle.cap_words.specs.Seen.{seen}
use Rattle.instr_table.specs.Lists.{top_items}
use Rattle.vm_step.specs.Moves.{values_in}
use Rattle.vm_step.proofs.Pushing.{Pushing}
use Rattle.vm_step.proofs.stack.push_top.Given as goal

abbrev pub invariant-loop-k : goal.invariant-loop-k
invariant-loop-k l = Pushing l.fn.quads l.quads l.fn.lane l.lane (reverse (top_items l.n (values_in (seen l.fn.quads.store) l.from))) l.k
