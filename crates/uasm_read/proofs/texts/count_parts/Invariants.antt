use Rattle.std.proofs.Common.{◌≡◌, ◌≤◌, ◌+◌, length}
use Rattle.uasm_read.specs.Texts.{parts_of}
use Rattle.uasm_read.proofs.texts.count_parts.Given as goal

abbrev pub invariant-loop-more : goal.invariant-loop-more
invariant-loop-more l = record {
  counted : l.count + length (parts_of l.rest) ≡ length (parts_of l.words);
  within : l.count + length l.rest ≤ length l.words;
}

abbrev pub decreases-loop-more : goal.decreases-loop-more
decreases-loop-more l = length l.rest
