use Rattle.std.proofs.Common.{◌≡◌, ◌≤◌, ◌+◌, ◌-◌, ◌*◌}
use Rattle.quad_debug.specs.Obeys.{told_at, met_at, is_over}
use Rattle.quad_debug.proofs.Going.{Goes}
use Rattle.quad_debug.proofs.debug.Debug.walk.Given as goal

abbrev pub invariant-turns : goal.invariant-turns
invariant-turns g l = record {
  goes : Goes (met_at l.fn.self.machine l.wait) (told_at l.fn.self.machine) l.fn.self l.self (g.K.Sink.written l.fn.out) (g.K.Sink.written l.out);
  over : l.over ≡ is_over l.wait l.self.machine.state.journal;
  later : g.K.Sink.faults l.fn.out ≤ g.K.Sink.faults l.out;
}

abbrev pub decreases-turns : goal.decreases-turns
decreases-turns g l = l.self.machine.grant.cycles + 2 * (l.self.machine.grant.events + 1) - l.self.machine.turns
