use Rattle.std.proofs.Common.{arith}
use Rattle.std.proofs.lemmas.List.{take_rest}
use Rattle.hum_outside.proofs.Fronts.{front_more}
use Rattle.hum_outside.proofs.calls.put_all.Goals as goal

pub loop-count-preserved : goal.loop-count-preserved
loop-count-preserved g c = record {
  within = omega (arith, c.in_ok-count.ensures.within);
  front = front_more (g.K.Sink.written c.args.sink.now) (g.K.Sink.written c.loop-count.sink) (g.K.Sink.written c.put.new.self) c.args.bytes.now c.loop-count.count c.in_ok-count.field-0 c.loop-count.invariant.front (rw take_rest at c.in_ok-count.ensures.written);
  later = omega (arith, c.loop-count.invariant.later, c.put.ensures.cause.later);
}
