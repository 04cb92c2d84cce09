use Rattle.std.proofs.Common.{sym, arith}
use Rattle.quad_debug.proofs.AtRest.{none-flies, sound-at}
use Rattle.quad_debug.proofs.rest.is_flight_empty.Goals as goal

pub returns : goal.returns
returns c =
    let m = c.args.machine.now in
    let q = c.queue.ensures in
    let count = c.given-message-end.ensures.count in
    sym (none-flies m.grant c.queue.result.now m.state (sound-at m c.turns-turns.result c.turns-turns.ensures.run)
    (record { messages = q.messages; ready = q.ready; ascending = q.ascending })
    (λ k h. c.loop-message.invariant k (omega (arith, h, count))))
