use Rattle.cap_words.specs.Seen.{seen}
use Rattle.instr_table.specs.Lists.{next_quad}
use Rattle.instr_table.specs.Deque.{deque_put, ends}
use Rattle.vm_step.proofs.Listing.{built-ready, built-gives}
use Rattle.vm_step.proofs.lists.put_item.Goals as goal

pub gives-requires : goal.gives-requires
gives-requires c =
    let s = seen c.args.quads.now.store in
    built-ready c.args.quads.now c.item_put-made.new.quads c.args.lane.now _ _ (λ i. deque_put c.args.n.now (next_quad s) (ends s (c.at-deque.ensures i)) (c.at-value.ensures i)) c.requires c.item_put-made.ensures.cells

pub returns : goal.returns
returns c =
    let s = seen c.args.quads.now.store in
    built-gives c.args.quads.now c.item_put-made.new.quads c.gives.new.quads c.args.lane.now c.gives.new.self _ _ 2 c.item_put-made.result c.args.next c.gives.result
    (λ i. deque_put c.args.n.now (next_quad s) (ends s (c.at-deque.ensures i)) (c.at-value.ensures i)) c.requires c.item_put-made.ensures.cells c.item_put-made.ensures.word c.gives.ensures
