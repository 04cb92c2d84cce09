use Rattle.std.proofs.Common.{refl, [], ◌∷◌}
use Rattle.vm_step.specs.Moves.{restacking}
use Rattle.vm_step.proofs.Moving.{moves-then}
use Rattle.vm_step.proofs.lane.Lane.gives.Goals as goal

pub returns : goal.returns
returns c = (
  refl,
  moves-then c.args.quads.now c.args.quads.now c.push.new.quads c.args.self.now c.advance.new.self c.push.new.self (restacking c.args.pops [] c.args.next) (c.args.value ∷ []) c.advance.ensures c.push.ensures,
)
