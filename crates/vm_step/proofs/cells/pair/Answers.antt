use Rattle.vm_step.proofs.Making.{paired, paired-ready}
use Rattle.vm_step.proofs.cells.pair.Goals as goal

pub gives-requires : goal.gives-requires
gives-requires c = paired-ready c.args.quads.now c.pair_up-list.new.quads c.args.lane.now c.args.n c.items.result c.items.ensures c.requires.ready c.pair_up-list.ensures.cells

pub returns : goal.returns
returns c =
    paired c.args.quads.now c.pair_up-list.new.quads c.args.lane.now c.args.n c.items.result c.items.ensures c.requires.ready c.pair_up-list.ensures.cells
    c.gives.new.quads c.gives.new.self c.pair_up-list.result c.args.next c.gives.result c.pair_up-list.ensures.word c.gives.ensures
