use Rattle.std.proofs.Common.{◌+◌, ◌-◌, List, ap, sym, ◌∙◌, arith, take, add-one}
use Rattle.std.specs.Prelude.{reverse}
use Rattle.std.proofs.lemmas.List.{length-reverse}
use Rattle.cap_words.specs.Seen.{seen}
use Rattle.instr_table.specs.Lane.{Item, values}
use Rattle.instr_table.specs.Lists.{item, top_items, linked, pair_quad, next_quad}
use Rattle.instr_table.proofs.Charges.{length-top_items}
use Rattle.vm_step.specs.Moves.{values_in}
use Rattle.vm_step.proofs.Making.{stands-takes, linking-start, linking-more, linking-room, linking-end}
use Rattle.vm_step.proofs.Pushing.{turned-item}
use Rattle.vm_step.proofs.cells.pair_up.Goals as goal

pub loop-k-init : goal.loop-k-init
loop-k-init c =
    let all = values_in (seen c.args.quads.now.store) c.args.from.now in
    linking-start c.args.quads.now (reverse (top_items c.args.n all)) (item all (c.args.n + 1)) c.at-list.result c.at-list.ensures

pub at-value-requires-clause-stacked : goal.at-value-requires-clause-stacked
at-value-requires-clause-stacked c =
    let all = values_in (seen c.args.quads.now.store) c.args.from.now in
    (stands-takes c.args.quads.now c.loop-k.quads (linked pair_quad (next_quad (seen c.args.quads.now.store)) (take c.loop-k.k (reverse (top_items c.args.n all))) (item all (c.args.n + 1)))
    c.args.from.now.depth c.args.from.now.word c.loop-k.invariant.cells c.requires.from).1

pub take_pair-list-requires : goal.take_pair-list-requires
take_pair-list-requires c =
    let all = values_in (seen c.args.quads.now.store) c.args.from.now in
    let e = length-reverse (top_items c.args.n all) in
    let f = length-top_items c.args.n all in
    let h = c.loop-k-test.true in
    linking-room c.args.quads.now c.loop-k.quads (reverse (top_items c.args.n all)) (item all (c.args.n + 1)) c.loop-k.k c.args.n c.loop-k.list c.loop-k.invariant (omega (arith, e, f, h)) (omega (arith, e, f)) c.requires.room

pub loop-k-preserved : goal.loop-k-preserved
loop-k-preserved c =
    let from = c.args.from.now in
    let all = values_in (seen c.args.quads.now.store) from in
    let vs = reverse (top_items c.args.n all) in
    let e = length-reverse (top_items c.args.n all) in
    let f = length-top_items c.args.n all in
    let h = c.loop-k-test.true in
    let stand = stands-takes c.args.quads.now c.loop-k.quads (linked pair_quad (next_quad (seen c.args.quads.now.store)) (take c.loop-k.k vs) (item all (c.args.n + 1))) from.depth from.word c.loop-k.invariant.cells c.requires.from in
    linking-more c.args.quads.now c.loop-k.quads c.take_pair-list.new.quads vs (item all (c.args.n + 1)) c.loop-k.k c.loop-k.list c.at-value.result c.take_pair-list.result c.loop-k.invariant (omega (arith, e, f, h))
    (c.at-value.ensures ∙ ap (λ (is : List Item). item (values is) (c.args.n - c.loop-k.k)) stand.0 ∙ sym (turned-item c.args.n c.loop-k.k all h)) c.take_pair-list.ensures.cells c.take_pair-list.ensures.word

pub returns : goal.returns
returns c =
    let all = values_in (seen c.args.quads.now.store) c.args.from.now in
    let e = length-reverse (top_items c.args.n all) in
    let f = length-top_items c.args.n all in
    let h = c.loop-k-test.false in
    let x = linking-end c.args.quads.now c.loop-k.quads (reverse (top_items c.args.n all)) (item all (c.args.n + 1)) c.loop-k.k c.loop-k.list c.loop-k.invariant (omega (arith, e, f, h)) in
    rw (sym (add-one c.args.n)) (record { cells = x.0; word = x.1 })
