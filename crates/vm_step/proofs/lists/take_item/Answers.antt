use Rattle.instr_table.specs.Lists.{item}
use Rattle.vm_step.specs.Moves.{values_of}
use Rattle.vm_step.proofs.Listing.{taken-ready, taken-first, taken-second, taken-turns}
use Rattle.vm_step.proofs.lists.take_item.Goals as goal

pub advance-requires : goal.advance-requires
advance-requires c = taken-ready c.args.quads.now c.item_taken-taken.new.quads c.args.lane.now c.args.n.now (item (values_of c.args.quads.now c.args.lane.now) 1) c.at-deque.result c.args.next c.at-deque.ensures c.requires c.item_taken-taken.ensures.cells

pub push-requires : goal.push-requires
push-requires c =
    taken-first c.args.quads.now c.item_taken-taken.new.quads c.args.lane.now c.args.n.now (item (values_of c.args.quads.now c.args.lane.now) 1) c.at-deque.result c.args.next c.at-deque.ensures c.requires c.item_taken-taken.ensures.cells
    c.advance.new.self c.advance.ensures

pub push-requires-2 : goal.push-requires-2
push-requires-2 c =
    taken-second c.args.quads.now c.item_taken-taken.new.quads c.args.lane.now c.args.n.now (item (values_of c.args.quads.now c.args.lane.now) 1) c.at-deque.result c.args.next c.at-deque.ensures c.requires c.item_taken-taken.ensures.cells
    c.push.new.quads c.advance.new.self c.push.new.self c.item_taken-taken.result.deque c.advance.ensures c.push.ensures

pub returns : goal.returns
returns c =
    taken-turns c.args.quads.now c.item_taken-taken.new.quads c.args.lane.now c.args.n.now (item (values_of c.args.quads.now c.args.lane.now) 1) c.at-deque.result c.args.next c.at-deque.ensures c.requires c.item_taken-taken.ensures.cells
    c.push.new.quads c.push-2.new.quads c.advance.new.self c.push.new.self c.push-2.new.self c.item_taken-taken.result.deque c.item_taken-taken.result.value
    c.item_taken-taken.ensures.deque c.item_taken-taken.ensures.value c.advance.ensures c.push.ensures c.push-2.ensures
