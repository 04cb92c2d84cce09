use Rattle.std.proofs.Common.{refl, [], ◌∷◌}
use Rattle.vm_step.proofs.Pushing.{rolled-down, others-stand}
use Rattle.vm_step.proofs.stack.roll_down.Goals as goal

pub push_top-requires-clause-from : goal.push_top-requires-clause-from
push_top-requires-clause-from c =
    (others-stand c.args.quads.now c.push.new.quads c.advance.new.self c.push.new.self 0 (c.pop-value.result ∷ []) c.advance.new.self.code c.pop-value.new.self.depth c.pop-value.new.self.word c.push.ensures c.pop-value.ensures.stacked).1

pub returns : goal.returns
returns c = (
  refl,
  rolled-down c.args.quads.now c.args.lane.now c.args.n c.args.next c.pop-value.result c.items-from.result c.items-from.ensures c.push.new.quads c.push_top.new.quads c.advance.new.self c.push.new.self c.push_top.new.lane c.pop-value.new.self
      c.pop-value.ensures.value c.pop-value.ensures.rest c.pop-value.ensures.stacked c.advance.ensures c.push.ensures c.push_top.ensures,
)
