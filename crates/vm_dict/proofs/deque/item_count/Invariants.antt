use Rattle.cap_words.specs.Seen.{seen}
use Rattle.instr_table.specs.Lists.{longest}
use Rattle.vm_dict.proofs.Items.{Counting}
use Rattle.vm_dict.proofs.deque.item_count.Given as goal

abbrev pub invariant-loop-count : goal.invariant-loop-count
invariant-loop-count l = Counting (seen l.quads.store) longest l.fn.list l.count l.at
