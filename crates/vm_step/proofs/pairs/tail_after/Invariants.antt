use Rattle.std.proofs.Common.{◌≡◌, ℕ, ◌+◌}
use Rattle.cap_words.specs.Seen.{seen}
use Rattle.instr_table.specs.Lists.{tail_after}
use Rattle.vm_step.proofs.pairs.tail_after.Given as goal

abbrev pub invariant-loop-i : goal.invariant-loop-i
invariant-loop-i l = (k : ℕ) × (k + l.i ≡ l.n) × (tail_after (seen l.quads.store) k l.at ≡ tail_after (seen l.quads.store) l.n l.fn.w)
