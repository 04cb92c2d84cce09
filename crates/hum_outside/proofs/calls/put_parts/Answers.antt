use Rattle.std.proofs.Common.{arith, List, ℕ, [], Bor}
use Rattle.hum_outside.proofs.Fronts.{pieces_front, on_err}
use Rattle.hum_outside.proofs.calls.put_parts.Goals as goal

pub returns-in_err-put_all-clause-front : goal.returns-in_err-put_all-clause-front
returns-in_err-put_all-clause-front g c =
    on_err c.from_residual.result (pieces_front (λ (part : Bor (List ℕ)). part.now) c.args.parts.now c.loop-part.part-index (record { ref_ptr = (0, 0); now = [] }) (omega arith) (g.K.Sink.written c.args.sink.now) (g.K.Sink.written c.loop-part.sink) (g.K.Sink.written c.put_all.new.sink) c.loop-part.invariant.so_far c.in_err-put_all.ensures.front)
