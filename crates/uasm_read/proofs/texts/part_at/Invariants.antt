use Rattle.std.proofs.Common.{◌≡◌, [], length, get_or}
use Rattle.uasm_read.specs.Texts.{parts_of}
use Rattle.uasm_read.proofs.texts.part_at.Given as goal

abbrev pub invariant-loop-word : goal.invariant-loop-word
invariant-loop-word l = get_or (parts_of l.rest) l.left [] ≡ get_or (parts_of l.words) l.place []

abbrev pub decreases-loop-word : goal.decreases-loop-word
decreases-loop-word l = length l.rest
