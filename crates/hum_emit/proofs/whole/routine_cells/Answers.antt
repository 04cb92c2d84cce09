use Rattle.std.proofs.Common.{ap, ◌∙◌, [], ◌∷◌}
use Rattle.std.specs.Prelude.{slice_index}
use Rattle.hum_emit.specs.declared.instruction.Field.TheVariants.{Place}
use Rattle.hum_emit.specs.Emitted.{function_type}
use Rattle.hum_emit.specs.Emitting.{emitted, with_cells}
use Rattle.hum_emit.proofs.RoutineTurns.{cells_turn, cells_done}
use Rattle.hum_emit.proofs.whole.routine_cells.Goals as goal

pub loop-i-preserved : goal.loop-i-preserved
loop-i-preserved c =
    let places = c.args.routines.now.built_ins in
    let i = c.loop-i.i in
    cells_turn places i (emitted c.args.out.now) (emitted c.loop-i.out) (emitted c.datum.new.self) c.loop-i-test.true c.args.routines.now.built c.loop-i.invariant
    (c.in_ok-datum.ensures
    ∙ ap (λ word. with_cells (record { kind = function_type; first = Place (slice_index places i); second = word } ∷ []) (emitted c.loop-i.out))
    c.in_ok-number.ensures)

pub returns : goal.returns
returns c = cells_done c.loop-i.i (emitted c.args.out.now) (emitted c.loop-i.out) c.loop-i-test.false c.loop-i.invariant
