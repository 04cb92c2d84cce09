use Rattle.std.proofs.Common.{◌≡◌, ◌≤◌, take}
use Rattle.std.specs.List.{flat_map}
use Rattle.hum_outside.specs.Outside.{appended}
use Rattle.hum_outside.proofs.calls.put_parts.Given as goal

abbrev pub invariant-loop-part : goal.invariant-loop-part
invariant-loop-part g l = record {
  so_far : g.K.Sink.written l.sink ≡ appended (g.K.Sink.written l.fn.sink) (flat_map (λ part. part.now) (take l.part-index l.parts));
  later : g.K.Sink.faults l.fn.sink ≤ g.K.Sink.faults l.sink;
}
