use Rattle.std.proofs.Common.{◌-◌, ◌*◌, ◌+◌, ◌≤◌, vec_len, vec_capacity}
use Rattle.cap_words.specs.Seen.{seen}
use Rattle.vm_turn.specs.Piece.{most_leaves}
use Rattle.vm_devices.proofs.Counts.{Counting}
use Rattle.vm_devices.proofs.tree.is_small.Given as goal

abbrev pub invariant-loop-q : goal.invariant-loop-q
invariant-loop-q l = record {
  counting : Counting (seen l.quads.store) l.fn.word l.next l.stack.items l.count;
  capacity : most_leaves ≤ vec_capacity l.stack;
}

abbrev pub decreases-loop-q : goal.decreases-loop-q
decreases-loop-q l = 2 * (most_leaves - l.count) + vec_len l.stack
