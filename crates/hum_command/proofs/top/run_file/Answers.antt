use Rattle.std.proofs.Common.{refl}
use Rattle.hum_outside.specs.Outside.{told}
use Rattle.hum_command.specs.Call.{call}
use Rattle.hum_command.proofs.Causes.{declined_run, ran}
use Rattle.hum_command.proofs.top.run_file.Goals as goal

pub returns-in-Err-clause-answered : goal.returns-in-Err-clause-answered
returns-in-Err-clause-answered g c =
    let w = g.K.Sink.written in
    let a = c.args in
    declined_run (told (g.F.Folder.files a.files.now) a.name.now) a.name.now a.keys
    (call g.F.Folder.files g.F.Folder.faults w g.K.Sink.faults a.files.now c.start_file.new.files a.out.now a.out.now a.err.now c.refuse.new.err a.last.now a.last.now)
    c.in-Err.answer c.in-Err.ensures.fails
    (record { line = c.refuse.ensures.said; out = refl {a = w a.out.now}; last = refl {a = a.last.now} })

pub returns-in-Ok-clause-answered : goal.returns-in-Ok-clause-answered
returns-in-Ok-clause-answered g c =
    let a = c.args in
    let done = c.finish_run-answer in
    let started = c.in-Ok.ensures.starts in
    ran (told (g.F.Folder.files a.files.now) a.name.now) a.name.now a.keys
    (call g.F.Folder.files g.F.Folder.faults g.K.Sink.written g.K.Sink.faults a.files.now c.start_file.new.files a.out.now done.new.out a.err.now done.new.err a.last.now c.leave_run.new.self)
    done.result (record {
      text = started.0;
      is_text = started.1;
      run = done.new.run;
      left = c.leave_run.ensures;
      ends = done.ensures.ends started.0 started.2;
    })
