use Rattle.std.proofs.lemmas.Result.{IfOk-weaker}
use Rattle.hum_emit.specs.Emitting.{emitted}
use Rattle.hum_emit.proofs.RoutineTurns.{made_again}
use Rattle.hum_emit.proofs.runtime.compare_turns.Goals as goal

pub returns : goal.returns
returns c =
    IfOk-weaker c.compare_turn-2.result _ _ (λ at made.
    made_again c.args.differ c.args.deny c.in_ok-head.head c.args.k c.count-count.result (emitted c.args.out.now) (emitted c.compare_turn.new.out)
    (emitted c.rewind.new.self) (emitted c.compare_turn-2.new.out, at) c.count-count.ensures c.in_ok-head.ensures c.rewind.ensures made) c.compare_turn-2.ensures
