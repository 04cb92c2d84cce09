use Rattle.std.proofs.Common.{[], Option, is_some, sym, ap, ◌∙◌, arith, vec_len}
use Rattle.cap_words.specs.Seen.{seen}
use Rattle.vm_turn.specs.Piece.{Tree}
use Rattle.vm_devices.proofs.Counts.{counting_first, counting_pair, counting_leaf, counting_full, counting_last, popped_none}
use Rattle.vm_devices.proofs.tree.is_small.Goals as goal

pub loop-q-init : goal.loop-q-init
loop-q-init c = record {
  counting = counting_first (seen c.args.quads.now.store) c.args.word c.clear.new.self.items c.clear.ensures.items;
  capacity = omega arith;
}

pub returns-then-count-eq-MOST_LEAVES-clause-small : goal.returns-then-count-eq-MOST_LEAVES-clause-small
returns-then-count-eq-MOST_LEAVES-clause-small c =
    sym (ap (λ (o : Option Tree). is_some o) (counting_full (seen c.args.quads.now.store) c.args.word c.loop-q.next c.loop-q.stack.items [] c.loop-q.count c.loop-q.invariant.counting c.in-Some.q (sym c.pair.ensures ∙ c.in-Some.is) c.if-count-eq-MOST_LEAVES.true))

pub loop-q-preserved-in-Some : goal.loop-q-preserved-in-Some
loop-q-preserved-in-Some c = record {
  counting = counting_pair (seen c.args.quads.now.store) c.args.word c.loop-q.next c.loop-q.stack.items c.push.new.stack.items c.loop-q.count c.loop-q.invariant.counting c.in-Some.q (sym c.pair.ensures ∙ c.in-Some.is) c.if-count-eq-MOST_LEAVES.false c.push.ensures.items;
  capacity = omega arith;
}

pub loop-q-preserved : goal.loop-q-preserved
loop-q-preserved c = record {
  counting = counting_leaf (seen c.args.quads.now.store) c.args.word c.loop-q.next c.loop-q.stack.items c.pop.new.self.items c.loop-q.count c.loop-q.invariant.counting c.in-Some-pop.tail (sym c.pair.ensures ∙ c.in-None.is) c.in-Some-pop.ensures.items;
  capacity = omega arith;
}

pub returns-in-None-pop-clause-small : goal.returns-in-None-pop-clause-small
returns-in-None-pop-clause-small c =
    let is = counting_last (seen c.args.quads.now.store) c.args.word c.loop-q.next c.loop-q.stack.items [] c.loop-q.count c.loop-q.invariant.counting (sym c.pair.ensures ∙ c.in-None.is) (popped_none c.loop-q.stack.items c.pop.new.self.items (vec_len c.loop-q.stack) c.in-None-pop.ensures.items c.in-None-pop.ensures.rest c.in-None-pop.ensures.cases.0) in
    sym (ap (λ (o : Option Tree). is_some o) is.tree_is)
