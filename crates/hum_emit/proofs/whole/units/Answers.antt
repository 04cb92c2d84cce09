use Rattle.std.proofs.Common.{ap, ◌∙◌, arith, ◌-◌, [], length}
use Rattle.std.specs.Prelude.{slice_index_or}
use Rattle.std.proofs.lemmas.List.{length-map}
use Rattle.hum_emit.specs.Emitting.{emitted}
use Rattle.hum_emit.specs.Rowing.{shape_at}
use Rattle.hum_emit.specs.Shapes.{shapes_of}
use Rattle.hum_emit.specs.Templates.{units_code}
use Rattle.hum_emit.proofs.UnitTurns.{many_shapes, units_begin, units_turn}
use Rattle.hum_emit.proofs.whole.units.Goals as goal

pub loop-i-init : goal.loop-i-init
loop-i-init c = units_begin c.args.units.now (emitted c.args.out.now) c.new-entries.result.items c.new-entries.ensures.items

pub fill-requires : goal.fill-requires
fill-requires c =
    let tops = ap length c.requires in
    let long = length-map c.args.shapes.now.tops.items (shape_at c.args.shapes.now.rows) in
    let many = many_shapes c.args.units.now in
    omega (arith, tops, long, many)

pub loop-i-preserved : goal.loop-i-preserved
loop-i-preserved c =
    let us = c.args.units.now in
    let i = c.loop-i.i in
    units_turn us i c.index-units-count.result c.fill.new.shape (emitted c.loop-i.out) c.loop-i.entries.items c.push.new.self.items
    (emitted c.unit.new.out, c.in_ok-unit.field-0) (units_code us (shapes_of us) (emitted c.args.out.now)) c.loop-i-test.true c.index-units-count.is
    (c.in_ok-fill.ensures ∙ ap (λ xs. slice_index_or xs (length us - 1 - i) []) c.requires) c.in_ok-unit.ensures c.in_ok-push.ensures.items c.loop-i.invariant
