use Rattle.std.proofs.Common.{sym, ◌∙◌}
use Rattle.std.proofs.lemmas.List.{drop_all, get_or_default}
use Rattle.hum_emit.specs.Emitting.{emitted}
use Rattle.hum_emit.proofs.ListCells.{item_turn, all_listed}
use Rattle.hum_emit.proofs.data.name_cells.Goals as goal

pub loop-i-preserved : goal.loop-i-preserved
loop-i-preserved c =
    item_turn (emitted c.loop-i.out) (emitted c.item.new.out) c.args.name.now c.loop-i.i c.from.result (c.from.ensures ∙ get_or_default c.args.name.now c.loop-i.i 0 c.from.result c.loop-i-test.true) c.loop-i-test.true c.in_ok-item.ensures
    ∙ c.loop-i.invariant

pub returns : goal.returns
returns c = sym (all_listed (emitted c.loop-i.out) c.args.name.now c.loop-i.i (drop_all c.loop-i.i c.args.name.now c.loop-i-test.false)) ∙ c.loop-i.invariant
