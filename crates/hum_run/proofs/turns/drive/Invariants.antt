use Rattle.std.proofs.Common.{◌≡◌, ◌≤◌, ◌+◌, ◌-◌, ◌*◌}
use Rattle.hum_run.specs.Drive.{Drives, Unreached, RanOutSince}
use Rattle.hum_run.proofs.turns.drive.Given as goal

abbrev pub invariant-turns : goal.invariant-turns
invariant-turns g l = record {
  drives : Drives (g.D.Driven.machine_of l.fn.driven) (g.D.Driven.machine_of l.driven) (g.K.Sink.written l.fn.out) (g.K.Sink.written l.out) (g.K.Sink.written l.fn.err) (g.K.Sink.written l.err);
  unreached : Unreached l.fn.bound (g.D.Driven.machine_of l.fn.driven).turns (g.D.Driven.machine_of l.driven);
  ran_out : RanOutSince (g.D.Driven.machine_of l.fn.driven).state.out_of (g.D.Driven.machine_of l.driven);
  program : g.D.Driven.program_of l.driven ≡ g.D.Driven.program_of l.fn.driven;
  counted : l.turns ≡ (g.D.Driven.machine_of l.driven).turns;
  out_later : g.K.Sink.faults l.fn.out ≤ g.K.Sink.faults l.out;
  err_later : g.K.Sink.faults l.fn.err ≤ g.K.Sink.faults l.err;
}

abbrev pub decreases-turns : goal.decreases-turns
decreases-turns g l = (g.D.Driven.machine_of l.driven).grant.cycles + 2 * ((g.D.Driven.machine_of l.driven).grant.events + 1) - (g.D.Driven.machine_of l.driven).turns
