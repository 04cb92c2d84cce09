use Rattle.cap_words.specs.Seen.{seen}
use Rattle.instr_table.specs.Lists.{longest}
use Rattle.vm_dict.proofs.Entries.{Searching}
use Rattle.vm_dict.proofs.dict.find.Given as goal

abbrev pub invariant-loop-before : goal.invariant-loop-before
invariant-loop-before l = Searching (seen l.quads.store) longest l.fn.dict l.key l.before l.at
