use Rattle.std.proofs.Common.{◌+◌}
use Rattle.std.specs.Prelude.{reverse}
use Rattle.cap_words.specs.Seen.{seen}
use Rattle.instr_table.specs.Lists.{item, top_items}
use Rattle.vm_step.specs.Moves.{values_in}
use Rattle.vm_step.proofs.Making.{Linking}
use Rattle.vm_step.proofs.cells.pair_up.Given as goal

abbrev pub invariant-loop-k : goal.invariant-loop-k
invariant-loop-k l =
    Linking l.fn.quads l.quads (reverse (top_items l.n (values_in (seen l.fn.quads.store) l.from))) (item (values_in (seen l.fn.quads.store) l.from) (l.n + 1)) l.k l.list
