use Rattle.std.proofs.Common.{◌≡◌, ◌≤◌, ◌+◌, length}
use Rattle.std.specs.List.{position_from}
use Rattle.std.specs.Str.{bytes_eq}
use Rattle.uasm_read.specs.Texts.{parts_of}
use Rattle.uasm_read.proofs.texts.place_of.Given as goal

abbrev pub invariant-loop-word : goal.invariant-loop-word
invariant-loop-word l = record {
  same : position_from (bytes_eq l.part) l.at (parts_of l.rest) ≡ position_from (bytes_eq l.part) 0 (parts_of l.words);
  within : l.at + length l.rest ≤ length l.words;
}

abbrev pub decreases-loop-word : goal.decreases-loop-word
decreases-loop-word l = length l.rest
