use Rattle.std.proofs.Common.{◌≤◌, vec_capacity}
use Rattle.cap_words.specs.Seen.{seen}
use Rattle.vm_turn.specs.Piece.{most_leaves}
use Rattle.vm_devices.proofs.Spines.{Printing, words_left}
use Rattle.vm_devices.proofs.tree.put_tree.Given as goal

abbrev pub invariant-loop-q : goal.invariant-loop-q
invariant-loop-q g l = record {
  printing : Printing (seen l.quads.store) (g.K.Sink.written l.fn.out) (g.K.Sink.written l.out) l.fn.word l.next l.inside l.stack.items;
  capacity : most_leaves ≤ vec_capacity l.stack;
  later : g.K.Sink.faults l.fn.out ≤ g.K.Sink.faults l.out;
}

abbrev pub decreases-loop-q : goal.decreases-loop-q
decreases-loop-q g l = words_left (seen l.quads.store) l.next l.stack.items
