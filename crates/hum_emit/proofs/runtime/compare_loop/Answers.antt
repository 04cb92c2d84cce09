use Rattle.std.proofs.lemmas.Result.{IfOk-weaker}
use Rattle.hum_emit.specs.Emitting.{emitted}
use Rattle.hum_emit.proofs.RoutineTurns.{loop_made}
use Rattle.hum_emit.proofs.runtime.compare_loop.Goals as goal

pub returns : goal.returns
returns c =
    IfOk-weaker c.compare_turns.result _ _ (λ at made.
    loop_made c.args.k c.in_ok-deny.deny c.in_ok-deny-2.deny c.in_ok-differ.differ (emitted c.args.out.now) (emitted c.push.new.self)
    (emitted c.drop.new.self) (emitted c.drop-2.new.self) (emitted c.compare_turns.new.out, at) c.in_ok-deny.ensures c.in_ok-deny-2.ensures
    c.in_ok-differ.ensures made) c.compare_turns.ensures
