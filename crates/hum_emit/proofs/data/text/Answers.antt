use Rattle.std.proofs.Common.{sym, ◌∙◌}
use Rattle.std.proofs.lemmas.List.{drop_all}
use Rattle.hum_emit.specs.Emitting.{emitted}
use Rattle.hum_emit.proofs.ListCells.{item_turn, all_listed, text_done}
use Rattle.hum_emit.proofs.data.text.Goals as goal

pub loop-i-preserved : goal.loop-i-preserved
loop-i-preserved c =
    item_turn (emitted c.loop-i.out) (emitted c.item.new.out) c.args.points.now c.loop-i.i c.index-points-i.result c.index-points-i.is c.loop-i-test.true c.in_ok-item.ensures
    ∙ c.loop-i.invariant

pub returns : goal.returns
returns c =
    text_done (emitted c.args.out.now) (emitted c.loop-i.out) c.args.points.now c.in_ok-at.at c.list_field.result c.is_empty.result
    (sym (all_listed (emitted c.loop-i.out) c.args.points.now c.loop-i.i (drop_all c.loop-i.i c.args.points.now c.loop-i-test.false)) ∙ c.loop-i.invariant)
    c.in_ok-at.ensures c.is_empty.ensures c.list_field.ensures
