use Rattle.std.proofs.Common.{[], sym, ◌∙◌, arith, vec_len}
use Rattle.hum_outside.proofs.Fronts.{on_err}
use Rattle.cap_words.specs.Seen.{seen}
use Rattle.vm_devices.proofs.Counts.{popped_none}
use Rattle.vm_devices.proofs.Spines.{printing_first, printing_room, printing_pair, left_pair, printing_next, left_next, front_opening, front_item, front_next, printing_all}
use Rattle.vm_devices.proofs.tree.put_tree.Goals as goal

pub loop-q-init : goal.loop-q-init
loop-q-init g c = record {
  printing = printing_first (seen c.args.quads.now.store) (g.K.Sink.written c.args.out.now) c.args.word c.clear.new.self.items c.requires.small c.clear.ensures.items;
  capacity = omega arith;
  later = omega arith;
}

pub returns-in_err-put_opening-in-Some-clause-front : goal.returns-in_err-put_opening-in-Some-clause-front
returns-in_err-put_opening-in-Some-clause-front g c =
    on_err c.from_residual.result (front_opening (seen c.args.quads.now.store) (g.K.Sink.written c.args.out.now) (g.K.Sink.written c.loop-q.out) c.args.word c.loop-q.next c.loop-q.inside c.loop-q.stack.items c.loop-q.invariant.printing (g.K.Sink.written c.put_opening.new.out) [] c.in-Some.q (sym c.pair.ensures ∙ c.in-Some.is) c.in_err-put_opening-in-Some.ensures.front)

pub push-requires : goal.push-requires
push-requires g c =
    let room = printing_room (seen c.args.quads.now.store) (g.K.Sink.written c.args.out.now) (g.K.Sink.written c.loop-q.out) c.args.word c.loop-q.next c.loop-q.inside c.loop-q.stack.items c.loop-q.invariant.printing c.in-Some.q (sym c.pair.ensures ∙ c.in-Some.is) in
    omega (arith, room, c.loop-q.invariant.capacity)

pub loop-q-smaller-in-Some : goal.loop-q-smaller-in-Some
loop-q-smaller-in-Some g c = left_pair (seen c.args.quads.now.store) (g.K.Sink.written c.args.out.now) (g.K.Sink.written c.loop-q.out) c.args.word c.loop-q.next c.loop-q.inside c.loop-q.stack.items c.loop-q.invariant.printing (g.K.Sink.written c.put_opening.new.out) c.push.new.stack.items c.in-Some.q (sym c.pair.ensures ∙ c.in-Some.is) c.push.ensures.items

pub loop-q-preserved-in-Some : goal.loop-q-preserved-in-Some
loop-q-preserved-in-Some g c = record {
  printing = printing_pair (seen c.args.quads.now.store) (g.K.Sink.written c.args.out.now) (g.K.Sink.written c.loop-q.out) c.args.word c.loop-q.next c.loop-q.inside c.loop-q.stack.items c.loop-q.invariant.printing (g.K.Sink.written c.put_opening.new.out) c.push.new.stack.items c.in-Some.q (sym c.pair.ensures ∙ c.in-Some.is) c.push.ensures.items c.in_ok-put_opening-in-Some.ensures.all;
  capacity = omega arith;
  later = omega (arith, c.loop-q.invariant.later, c.put_opening.ensures.cause.later);
}

pub returns-in_err-put_item-in-None-clause-front : goal.returns-in_err-put_item-in-None-clause-front
returns-in_err-put_item-in-None-clause-front g c =
    on_err c.from_residual-in_err-put_item-in-None.result (front_item (seen c.args.quads.now.store) (g.K.Sink.written c.args.out.now) (g.K.Sink.written c.loop-q.out) c.args.word c.loop-q.next c.loop-q.inside c.loop-q.stack.items c.loop-q.invariant.printing (g.K.Sink.written c.put_item.new.out) [] (sym c.pair.ensures ∙ c.in-None.is) c.in_err-put_item-in-None.ensures.front)

pub returns-in_err-put_all-in-Some-pop-clause-front : goal.returns-in_err-put_all-in-Some-pop-clause-front
returns-in_err-put_all-in-Some-pop-clause-front g c =
    on_err c.from_residual-in_err-put_all-in-Some-pop.result (front_next (seen c.args.quads.now.store) (g.K.Sink.written c.args.out.now) (g.K.Sink.written c.loop-q.out) c.args.word c.loop-q.next c.loop-q.inside c.loop-q.stack.items c.loop-q.invariant.printing (g.K.Sink.written c.put_all.new.sink) c.pop.new.self.items (g.K.Sink.written c.put_item.new.out) c.in-Some-pop.tail (sym c.pair.ensures ∙ c.in-None.is) c.in-Some-pop.ensures.items c.in_ok-put_item-in-None.ensures.all c.in_err-put_all-in-Some-pop.ensures.front)

pub loop-q-smaller : goal.loop-q-smaller
loop-q-smaller g c = left_next (seen c.args.quads.now.store) (g.K.Sink.written c.args.out.now) (g.K.Sink.written c.loop-q.out) c.args.word c.loop-q.next c.loop-q.inside c.loop-q.stack.items c.loop-q.invariant.printing (g.K.Sink.written c.put_all.new.sink) c.pop.new.self.items c.in-Some-pop.tail (sym c.pair.ensures ∙ c.in-None.is) c.in-Some-pop.ensures.items

pub loop-q-preserved : goal.loop-q-preserved
loop-q-preserved g c = record {
  printing = printing_next (seen c.args.quads.now.store) (g.K.Sink.written c.args.out.now) (g.K.Sink.written c.loop-q.out) c.args.word c.loop-q.next c.loop-q.inside c.loop-q.stack.items c.loop-q.invariant.printing (g.K.Sink.written c.put_all.new.sink) c.pop.new.self.items (g.K.Sink.written c.put_item.new.out) c.in-Some-pop.tail (sym c.pair.ensures ∙ c.in-None.is) c.in-Some-pop.ensures.items c.in_ok-put_item-in-None.ensures.all c.in_ok-put_all-in-Some-pop.ensures.all;
  capacity = omega arith;
  later = omega (arith, c.loop-q.invariant.later, c.put_item.ensures.cause.later, c.put_all.ensures.cause.later);
}

pub returns-in-None-pop-clause-all : goal.returns-in-None-pop-clause-all
returns-in-None-pop-clause-all g c =
    let none = popped_none c.loop-q.stack.items c.pop.new.self.items (vec_len c.loop-q.stack) c.in-None-pop.ensures.items c.in-None-pop.ensures.rest c.in-None-pop.ensures.cases.0 in
    printing_all (seen c.args.quads.now.store) (g.K.Sink.written c.args.out.now) (g.K.Sink.written c.loop-q.out) c.args.word c.loop-q.next c.loop-q.inside c.loop-q.stack.items c.loop-q.invariant.printing (g.K.Sink.written c.put_item.new.out) [] (sym c.pair.ensures ∙ c.in-None.is) none c.in_ok-put_item-in-None.ensures.all
