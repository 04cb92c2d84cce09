use Rattle.std.proofs.Common.{Bool, subst}
use Rattle.hum_run.specs.Run.{Halts}
use Rattle.hum_run.specs.declared.report.Report.{Report}
use Rattle.hum_command.specs.Ending.{EndsSo}
use Rattle.hum_command.specs.Writes.{writes}
use Rattle.hum_command.proofs.TextRuns.{text_failed, text_finished}
use Rattle.hum_command.proofs.run.finish_run.Goals as goal

pub returns-in-Err-clause-ends : goal.returns-in-Err-clause-ends
returns-in-Err-clause-ends g c = λ text starts.
    let w = g.K.Sink.written in
    let f = g.K.Sink.faults in
    let a = c.args in
    let n = c.advance.new in
    let e = c.in-Err.ensures in
    text_failed text a.keys a.run.now n.self starts e.compiled e.stands e.completes (w a.out.now) (w n.out) (w a.err.now) (w n.err) (w n.err)
    (f a.out.now) (f n.out) (f a.err.now) (f n.err) (f n.err) e.unreached c.in-Err.field-0.on_err e.breaks e.unreached_now e.rose

pub returns-clause-ends : goal.returns-clause-ends
returns-clause-ends g c = λ text starts.
    let w = g.K.Sink.written in
    let f = g.K.Sink.faults in
    let a = c.args in
    let n = c.advance.new in
    let e = c.in-Ok.ensures in
    let last = c.end_run.new.err in
    text_finished text a.keys a.run.now n.self starts e.compiled e.stands e.completes (w a.out.now) (w n.out) (w a.err.now) (w n.err) (w last)
    (f a.out.now) (f n.out) (f a.err.now) (f n.err) (f last) e.unreached c.in-Ok.stop c.end_run.result e.drives e.ran_out
    (subst (λ (b : Bool). Halts b a.keys.bound c.in-Ok.stop n.self.sim.machine) c.requires.unbroken e.halts) e.err_later
    (subst (λ (r : Report). EndsSo c.in-Ok.stop r c.end_run.result (writes w f n.err last)) c.report.ensures c.end_run.ensures.ends)
