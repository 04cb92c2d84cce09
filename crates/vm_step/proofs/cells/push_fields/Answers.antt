use Rattle.std.proofs.Common.{sym, ◌∙◌, arith}
use Rattle.instr_table.specs.Lists.{fields_in}
use Rattle.instr_table.proofs.Charges.{length-fields}
use Rattle.vm_step.proofs.Making.{fields-item}
use Rattle.vm_step.proofs.Pushing.{pushing-start, pushing-more, pushing-ready, pushing-end}
use Rattle.vm_step.proofs.cells.push_fields.Goals as goal

pub loop-k-init : goal.loop-k-init
loop-k-init c = pushing-start c.args.quads.now c.args.lane.now (fields_in c.args.q.now c.args.n) c.args.n c.requires.ready

pub push-requires : goal.push-requires
push-requires c =
    let f = length-fields c.args.q.now c.args.n in
    let h = c.loop-k-test.true in
    pushing-ready c.args.quads.now c.loop-k.quads c.args.lane.now c.loop-k.lane (fields_in c.args.q.now c.args.n) c.loop-k.k c.args.n c.requires.ready c.loop-k.invariant (omega (arith, f, h)) (omega (arith, f))

pub loop-k-preserved : goal.loop-k-preserved
loop-k-preserved c =
    let f = length-fields c.args.q.now c.args.n in
    let h = c.loop-k-test.true in
    pushing-more c.args.quads.now c.loop-k.quads c.push.new.quads c.args.lane.now c.loop-k.lane c.push.new.self (fields_in c.args.q.now c.args.n) c.loop-k.k c.field.result c.loop-k.invariant (omega (arith, f, h))
    (c.field.ensures ∙ sym (fields-item c.args.q.now c.args.n c.loop-k.k h)) c.push.ensures

pub returns : goal.returns
returns c =
    let f = length-fields c.args.q.now c.args.n in
    let h = c.loop-k-test.false in
    pushing-end c.args.quads.now c.loop-k.quads c.args.lane.now c.loop-k.lane (fields_in c.args.q.now c.args.n) c.loop-k.k c.loop-k.invariant (omega (arith, f, h))
