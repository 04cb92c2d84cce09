use Rattle.std.proofs.Common.{subst}
use Rattle.hum_run.specs.declared.report.Report.{Report}
use Rattle.hum_command.specs.Ending.{EndsSo}
use Rattle.hum_command.specs.Writes.{writes}
use Rattle.hum_command.proofs.Ends.{kept-broken, failed, finished}
use Rattle.hum_command.proofs.exec.run_machine.Goals as goal

pub returns-in-Err-clause-ends : goal.returns-in-Err-clause-ends
returns-in-Err-clause-ends g c =
    let w = g.K.Sink.written in
    let f = g.K.Sink.faults in
    let a = c.args in
    let n = c.drive.new in
    failed a.bound a.machine.now n.driven (w a.out.now) (w n.out) (w a.err.now) (w n.err) (f a.out.now) (f n.out) (f a.err.now) (f n.err)
    c.requires.fresh c.in-Err.ensures.unreached c.in-Err.field-0.on_err c.in-Err.ensures.breaks c.in-Err.ensures.unreached_now c.in-Err.ensures.rose

pub returns-in-Err-clause-from : goal.returns-in-Err-clause-from
returns-in-Err-clause-from g c = λ image grant lanes seed from.
    let w = g.K.Sink.written in
    let a = c.args in
    let n = c.drive.new in
    kept-broken image grant lanes seed a.machine.now n.driven c.in-Err.field-0.on_err (w a.out.now) (w n.out) (w a.err.now) (w n.err) c.in-Err.ensures.breaks from

pub returns-clause-ends : goal.returns-clause-ends
returns-clause-ends g c =
    let w = g.K.Sink.written in
    let f = g.K.Sink.faults in
    let a = c.args in
    let n = c.drive.new in
    let e = c.end_run.new.err in
    finished a.bound a.machine.now n.driven (w a.out.now) (w n.out) (w a.err.now) (w n.err) (w e) (f a.out.now) (f n.out) (f a.err.now) (f n.err) (f e)
    c.requires.fresh c.in-Ok.ensures.unreached c.in-Ok.ensures.drives c.in-Ok.ensures.ran_out c.in-Ok.stop c.end_run.result c.in-Ok.ensures.stops c.in-Ok.ensures.err_later
    (subst (λ (r : Report). EndsSo c.in-Ok.stop r c.end_run.result (writes w f n.err e)) c.report_of.ensures.value c.end_run.ensures.ends)
