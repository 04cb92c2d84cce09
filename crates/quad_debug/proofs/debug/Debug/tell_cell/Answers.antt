use Rattle.std.proofs.Common.{◌≡◌, ◌∙◌, ap, subst, refl}
use Rattle.hum_outside.specs.Outside.{AppendsFront, appended}
use Rattle.hum_outside.proofs.Fronts.{on_err}
use Rattle.quad_debug.specs.Obeys.{is_enough, turn_text, last_text}
use Rattle.quad_debug.specs.declared.command.Command.TheVariants.{Show}
use Rattle.quad_debug.specs.Parts.{Stands}
use Rattle.quad_debug.proofs.Going.{took-none, broke-none}
use Rattle.quad_debug.specs.Texts.{cell_line}
use Rattle.quad_debug.specs.Obeys.{cell_at}
use Rattle.quad_debug.proofs.debug.Debug.tell_cell.Goals as goal

pub returns-clause-obeys : goal.returns-clause-obeys
returns-clause-obeys g c =
    let stands : Stands c.args.self.now.machine = subst Stands c.machine.ensures c.turns_of-turns.ensures.stands in
    let d = c.args.self.now in
    let w = g.K.Sink.written in
    let text : cell_line c.args.place c.show.result ≡ cell_line c.args.place (cell_at d.machine.quads c.args.place) = ap (cell_line c.args.place) c.show.ensures in
    took-none (is_enough d.machine (Show c.args.place)) (turn_text d.machine (Show c.args.place)) (last_text d (Show c.args.place)) d (w c.args.out.now) (w c.put_cell.new.out) stands refl (c.in_ok-put_cell.ensures.all ∙ ap (appended (w c.args.out.now)) text)

pub returns-in_err-put_cell-clause-breaks : goal.returns-in_err-put_cell-clause-breaks
returns-in_err-put_cell-clause-breaks g c =
    let stands : Stands c.args.self.now.machine = subst Stands c.machine.ensures c.turns_of-turns.ensures.stands in
    let d = c.args.self.now in
    let w = g.K.Sink.written in
    let text : cell_line c.args.place c.show.result ≡ cell_line c.args.place (cell_at d.machine.quads c.args.place) = ap (cell_line c.args.place) c.show.ensures in
    on_err c.from_residual.result (broke-none (is_enough d.machine (Show c.args.place)) (turn_text d.machine (Show c.args.place)) (last_text d (Show c.args.place)) d (w c.args.out.now) (w c.put_cell.new.out) stands refl (subst (AppendsFront (w c.args.out.now) (w c.put_cell.new.out)) text c.in_err-put_cell.ensures.front))
