use Rattle.std.proofs.Common.{refl, add-one}
use Rattle.vm_step.proofs.Moving.{moves-push}
use Rattle.vm_step.proofs.lane.Lane.push.Goals as goal

pub returns : goal.returns
returns c =
    moves-push c.args.quads.now c.take_pair-self.new.quads c.args.self.now _ c.args.value c.take_pair-self.result c.requires
    c.take_pair-self.ensures.cells c.take_pair-self.ensures.word refl (add-one c.args.self.now.depth) refl refl refl refl
