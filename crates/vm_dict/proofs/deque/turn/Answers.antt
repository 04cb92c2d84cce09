use Rattle.std.proofs.Common.{◌+◌, sym, subst}
use Rattle.cap_words.specs.Words.{W}
use Rattle.vm_dict.proofs.Turns.{Turning, turning-start, turning-there, turning-room, turning-more, turning-end}
use Rattle.vm_dict.proofs.deque.turn.Goals as goal

pub loop-i-init : goal.loop-i-init
loop-i-init c = turning-start c.args.quads.now c.item_count-count.result c.args.far c.item_count-count.ensures.count

pub take_pair-list-requires : goal.take_pair-list-requires
take_pair-list-requires c =
    turning-room c.args.quads.now c.loop-i.quads c.item_count-count.result c.args.far c.loop-i.i c.loop-i.at c.loop-i.list c.loop-i.near c.loop-i.value
    c.loop-i.invariant c.loop-i-test.true c.item_count-count.ensures.count c.requires

pub unreachable-requires : goal.unreachable-requires
unreachable-requires c =
    turning-there c.args.quads.now c.loop-i.quads c.item_count-count.result c.args.far c.loop-i.i c.loop-i.at c.loop-i.list c.loop-i.near c.loop-i.value
    c.loop-i.invariant c.loop-i-test.true c.in-None.ensures

pub loop-i-preserved : goal.loop-i-preserved
loop-i-preserved c =
    subst (λ (w : W). Turning c.args.quads.now c.take_pair-list.new.quads c.item_count-count.result c.args.far (c.loop-i.i + 1) c.in-Some.q.y c.take_pair-list.result w c.in-Some.q.x) (sym c.list.view_is)
    (turning-more c.args.quads.now c.loop-i.quads c.take_pair-list.new.quads c.item_count-count.result c.args.far c.loop-i.i c.loop-i.at c.loop-i.list c.loop-i.near c.loop-i.value c.take_pair-list.result c.in-Some.q
    c.loop-i.invariant c.loop-i-test.true c.in-Some.ensures c.take_pair-list.ensures.cells c.take_pair-list.ensures.word)

pub returns-clause-cells : goal.returns-clause-cells
returns-clause-cells c =
    (turning-end c.args.quads.now c.loop-i.quads c.item_count-count.result c.args.far c.loop-i.i c.loop-i.at c.loop-i.list c.loop-i.near c.loop-i.value c.loop-i.invariant c.loop-i-test.false).cells

pub returns-clause-rest : goal.returns-clause-rest
returns-clause-rest c =
    let t = turning-end c.args.quads.now c.loop-i.quads c.item_count-count.result c.args.far c.loop-i.i c.loop-i.at c.loop-i.list c.loop-i.near c.loop-i.value c.loop-i.invariant c.loop-i-test.false in
    (t.value_is, t.near_is, t.far_is)
