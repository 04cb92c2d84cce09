use Rattle.std.proofs.Common.{◌≤◌, nat_le}
use Rattle.quad_debug.specs.Obeys.{piece_at}
use Rattle.quad_debug.proofs.Going.{GoesFor}
use Rattle.quad_debug.proofs.debug.Debug.take.Given as goal

abbrev pub invariant-turns : goal.invariant-turns
invariant-turns g l = record {
  goes : GoesFor l._taken (nat_le l.count) (piece_at l.fn.self.machine) l.fn.self l.self (g.K.Sink.written l.fn.out) (g.K.Sink.written l.out);
  later : g.K.Sink.faults l.fn.out ≤ g.K.Sink.faults l.out;
}
