use Rattle.std.proofs.Common.{◌-◌, List, ap, sym, ◌∙◌, arith, take}
use Rattle.std.specs.Prelude.{reverse}
use Rattle.std.proofs.lemmas.List.{length-reverse}
use Rattle.cap_words.specs.Seen.{seen}
use Rattle.instr_table.specs.Lane.{Item, values}
use Rattle.instr_table.specs.Lists.{item, top_items}
use Rattle.vm_step.specs.Moves.{values_in}
use Rattle.vm_step.proofs.Pushing.{pushing-start, pushing-more, pushing-ready, pushing-end, others-stand, turned-item}
use Rattle.instr_table.proofs.Charges.{length-top_items}
use Rattle.vm_step.proofs.stack.push_top.Goals as goal

pub loop-k-init : goal.loop-k-init
loop-k-init c = pushing-start c.args.quads.now c.args.lane.now (reverse (top_items c.args.n (values_in (seen c.args.quads.now.store) c.args.from.now))) c.args.n c.requires.ready

pub at-value-requires-clause-stacked : goal.at-value-requires-clause-stacked
at-value-requires-clause-stacked c =
    let vs = reverse (top_items c.args.n (values_in (seen c.args.quads.now.store) c.args.from.now)) in
    (others-stand c.args.quads.now c.loop-k.quads c.args.lane.now c.loop-k.lane 0 (take c.loop-k.k vs) c.args.lane.now.code c.args.from.now.depth c.args.from.now.word c.loop-k.invariant.moves c.requires.from).1

pub push-requires : goal.push-requires
push-requires c =
    let top = top_items c.args.n (values_in (seen c.args.quads.now.store) c.args.from.now) in
    let e = length-reverse top in
    let f = length-top_items c.args.n (values_in (seen c.args.quads.now.store) c.args.from.now) in
    let h = c.loop-k-test.true in
    pushing-ready c.args.quads.now c.loop-k.quads c.args.lane.now c.loop-k.lane (reverse top) c.loop-k.k c.args.n c.requires.ready c.loop-k.invariant (omega (arith, e, f, h)) (omega (arith, e, f))

pub loop-k-preserved : goal.loop-k-preserved
loop-k-preserved c =
    let from = c.args.from.now in
    let all = values_in (seen c.args.quads.now.store) from in
    let vs = reverse (top_items c.args.n all) in
    let e = length-reverse (top_items c.args.n all) in
    let f = length-top_items c.args.n all in
    let h = c.loop-k-test.true in
    let stand = others-stand c.args.quads.now c.loop-k.quads c.args.lane.now c.loop-k.lane 0 (take c.loop-k.k vs) c.args.lane.now.code from.depth from.word c.loop-k.invariant.moves c.requires.from in
    pushing-more c.args.quads.now c.loop-k.quads c.push.new.quads c.args.lane.now c.loop-k.lane c.push.new.self vs c.loop-k.k c.at-value.result c.loop-k.invariant (omega (arith, e, f, h))
    (c.at-value.ensures ∙ ap (λ (is : List Item). item (values is) (c.args.n - c.loop-k.k)) stand.0 ∙ sym (turned-item c.args.n c.loop-k.k all h)) c.push.ensures

pub returns : goal.returns
returns c =
    let all = values_in (seen c.args.quads.now.store) c.args.from.now in
    let e = length-reverse (top_items c.args.n all) in
    let f = length-top_items c.args.n all in
    let h = c.loop-k-test.false in
    pushing-end c.args.quads.now c.loop-k.quads c.args.lane.now c.loop-k.lane (reverse (top_items c.args.n all)) c.loop-k.k c.loop-k.invariant (omega (arith, e, f, h))
