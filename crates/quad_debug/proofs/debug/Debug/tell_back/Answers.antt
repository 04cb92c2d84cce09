use Rattle.std.proofs.Common.{◌≡◌, ◌∙◌, ap, subst, refl}
use Rattle.circular_buffer.specs.Buffer.{keep_last}
use Rattle.hum_outside.specs.Outside.{AppendsFront, appended}
use Rattle.hum_outside.proofs.Fronts.{on_err}
use Rattle.quad_debug.specs.Kept.{Debugged, kept}
use Rattle.quad_debug.specs.Texts.{event_lines}
use Rattle.quad_debug.specs.Obeys.{is_enough, turn_text, last_text}
use Rattle.quad_debug.specs.declared.command.Command.TheVariants.{Back}
use Rattle.quad_debug.specs.Parts.{Stands}
use Rattle.quad_debug.proofs.Going.{took-none, broke-none}
use Rattle.quad_debug.proofs.debug.Debug.tell_back.Goals as goal

pub returns-clause-obeys : goal.returns-clause-obeys
returns-clause-obeys g c =
    let inside = c.self.inside in
    let stands : Stands c.args.self.now.machine = subst (λ (d : Debugged). Stands d.machine) c.self.view_is c.turns_of-turns.ensures.stands in
    let d = c.args.self.now in
    let w = g.K.Sink.written in
    let text : event_lines (keep_last c.args.count inside.entries.items) ≡ event_lines (keep_last c.args.count (kept d)) =
    ap (λ es. event_lines (keep_last c.args.count es)) (c.self.invariant.items ∙ ap kept c.self.view_is) in
    took-none (is_enough d.machine (Back c.args.count)) (turn_text d.machine (Back c.args.count)) (last_text d (Back c.args.count)) d (w c.args.out.now) (w c.put_last.new.out) stands refl (c.in_ok-put_last.ensures.all ∙ ap (appended (w c.args.out.now)) text)

pub returns-in_err-put_last-clause-breaks : goal.returns-in_err-put_last-clause-breaks
returns-in_err-put_last-clause-breaks g c =
    let inside = c.self.inside in
    let stands : Stands c.args.self.now.machine = subst (λ (d : Debugged). Stands d.machine) c.self.view_is c.turns_of-turns.ensures.stands in
    let d = c.args.self.now in
    let w = g.K.Sink.written in
    let text : event_lines (keep_last c.args.count inside.entries.items) ≡ event_lines (keep_last c.args.count (kept d)) =
    ap (λ es. event_lines (keep_last c.args.count es)) (c.self.invariant.items ∙ ap kept c.self.view_is) in
    on_err c.from_residual.result (broke-none (is_enough d.machine (Back c.args.count)) (turn_text d.machine (Back c.args.count)) (last_text d (Back c.args.count)) d (w c.args.out.now) (w c.put_last.new.out) stands refl (subst (AppendsFront (w c.args.out.now) (w c.put_last.new.out)) text c.in_err-put_last.ensures.front))
