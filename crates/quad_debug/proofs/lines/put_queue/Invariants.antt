use Rattle.std.proofs.Common.{◌≤◌, length}
use Rattle.quad_debug.proofs.Queues.{Walks, left}
use Rattle.quad_debug.proofs.lines.put_queue.Given as goal

abbrev pub invariant-ready : goal.invariant-ready
invariant-ready g l = record {
  walks : Walks l.queue.ready l.next (g.K.Sink.written l.fn.out) (g.K.Sink.written l.out);
  later : g.K.Sink.faults l.fn.out ≤ g.K.Sink.faults l.out;
}

abbrev pub decreases-ready : goal.decreases-ready
decreases-ready g l = left l.next (length l.queue.given)
