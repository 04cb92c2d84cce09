use Rattle.std.proofs.Common.{refl}
use Rattle.vm_step.proofs.Pushing.{rolled-up, rolled-ready}
use Rattle.vm_step.proofs.stack.roll_up.Goals as goal

pub push-requires : goal.push-requires
push-requires c =
    rolled-ready c.args.quads.now c.args.lane.now c.args.n c.args.next c.at-value.result c.items-from.result c.items-from.ensures c.push_top.new.quads c.advance.new.self c.push_top.new.lane
    c.requires.some c.requires.ready c.advance.ensures c.push_top.ensures

pub returns : goal.returns
returns c = (
  refl,
  rolled-up c.args.quads.now c.args.lane.now c.args.n c.args.next c.at-value.result c.items-from.result c.items-from.ensures c.push_top.new.quads c.push.new.quads c.advance.new.self c.push_top.new.lane c.push.new.self
      c.at-value.ensures c.advance.ensures c.push_top.ensures c.push.ensures,
)
