use Rattle.std.proofs.Common.{refl}
use Rattle.vm_dict.specs.Calls.{new_in}
use Rattle.vm_step.proofs.Listing.{built-ready, built-gives}
use Rattle.vm_step.proofs.lists.new_deque.Goals as goal

pub gives-requires : goal.gives-requires
gives-requires c = built-ready c.args.quads.now c.deque_new-made.new.quads c.args.lane.now (new_in c.args.quads.now) (new_in c.args.quads.now) refl c.requires c.deque_new-made.ensures.cells

pub returns : goal.returns
returns c =
    built-gives c.args.quads.now c.deque_new-made.new.quads c.gives.new.quads c.args.lane.now c.gives.new.self (new_in c.args.quads.now) (new_in c.args.quads.now) 0 c.deque_new-made.result c.args.next c.gives.result
    refl c.requires c.deque_new-made.ensures.cells c.deque_new-made.ensures.word c.gives.ensures
