use Rattle.std.proofs.Common.{◌≡◌, ◌∙◌, ap, subst, refl}
use Rattle.hum_outside.specs.Outside.{AppendsFront, appended}
use Rattle.hum_outside.proofs.Fronts.{on_err}
use Rattle.quad_debug.specs.Obeys.{is_enough, turn_text, last_text}
use Rattle.quad_debug.specs.declared.command.Command.TheVariants.{Sheet}
use Rattle.quad_debug.specs.Parts.{Stands}
use Rattle.quad_debug.proofs.Going.{took-none, broke-none}
use Rattle.vm_machine.specs.Machine.{Machine}
use Rattle.quad_debug.specs.Texts.{sheet_lines}
use Rattle.quad_debug.proofs.debug.Debug.tell_sheet.Goals as goal

pub returns-clause-obeys : goal.returns-clause-obeys
returns-clause-obeys g c =
    let stands : Stands c.args.self.now.machine = subst Stands c.machine.ensures c.turns_of-turns.ensures.stands in
    let d = c.args.self.now in
    let w = g.K.Sink.written in
    let text : sheet_lines 0 c.machine-2.result.now.state.sheet ≡ sheet_lines 0 d.machine.state.sheet = ap (λ (m : Machine). sheet_lines 0 m.state.sheet) c.machine-2.ensures in
    took-none (is_enough d.machine Sheet) (turn_text d.machine Sheet) (last_text d Sheet) d (w c.args.out.now) (w c.put_sheet.new.out) stands refl (c.in_ok-put_sheet.ensures.all ∙ ap (appended (w c.args.out.now)) text)

pub returns-in_err-put_sheet-clause-breaks : goal.returns-in_err-put_sheet-clause-breaks
returns-in_err-put_sheet-clause-breaks g c =
    let stands : Stands c.args.self.now.machine = subst Stands c.machine.ensures c.turns_of-turns.ensures.stands in
    let d = c.args.self.now in
    let w = g.K.Sink.written in
    let text : sheet_lines 0 c.machine-2.result.now.state.sheet ≡ sheet_lines 0 d.machine.state.sheet = ap (λ (m : Machine). sheet_lines 0 m.state.sheet) c.machine-2.ensures in
    on_err c.from_residual.result (broke-none (is_enough d.machine Sheet) (turn_text d.machine Sheet) (last_text d Sheet) d (w c.args.out.now) (w c.put_sheet.new.out) stands refl (subst (AppendsFront (w c.args.out.now) (w c.put_sheet.new.out)) text c.in_err-put_sheet.ensures.front))
