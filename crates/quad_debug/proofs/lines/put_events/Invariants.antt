use Rattle.std.proofs.Common.{◌≡◌, ◌≤◌, take}
use Rattle.hum_outside.specs.Outside.{appended}
use Rattle.quad_debug.specs.Texts.{event_lines}
use Rattle.quad_debug.proofs.lines.put_events.Given as goal

abbrev pub invariant-loop-entry : goal.invariant-loop-entry
invariant-loop-entry g l = record {
  so_far : g.K.Sink.written l.out ≡ appended (g.K.Sink.written l.fn.out) (event_lines (take l.entry-index l.entries));
  later : g.K.Sink.faults l.fn.out ≤ g.K.Sink.faults l.out;
}
