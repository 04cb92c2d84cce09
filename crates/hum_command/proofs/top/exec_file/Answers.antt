use Rattle.std.proofs.Common.{refl}
use Rattle.hum_command.specs.Call.{call}
use Rattle.hum_command.specs.Grants.{grant_of}
use Rattle.hum_command.proofs.Causes.{declined_exec, executed}
use Rattle.hum_command.proofs.top.exec_file.Goals as goal

pub returns-in-Err-clause-answered : goal.returns-in-Err-clause-answered
returns-in-Err-clause-answered g c =
    let w = g.K.Sink.written in
    let a = c.args in
    declined_exec c.in-Err.answer
    (call g.F.Folder.files g.F.Folder.faults w g.K.Sink.faults a.files.now c.load_file.new.files a.out.now a.out.now a.err.now c.refuse.new.err a.last.now a.last.now)
    a.name.now a.keys c.in-Err.ensures.fails
    (record { line = c.refuse.ensures.said; out = refl {a = w a.out.now}; last = refl {a = a.last.now} })

pub returns-in-Ok-booted-clause-answered : goal.returns-in-Ok-booted-clause-answered
returns-in-Ok-booted-clause-answered g c =
    let a = c.args in
    let ran = c.run_machine-answer in
    let loaded = c.in-Ok.ensures.image in
    executed ran.result
    (call g.F.Folder.files g.F.Folder.faults g.K.Sink.written g.K.Sink.faults a.files.now c.load_file.new.files a.out.now ran.new.out a.err.now ran.new.err a.last.now c.leave_machine.new.self)
    a.name.now a.keys (record {
      bytes = loaded.0;
      text = loaded.1;
      image = c.in-Ok.image;
      loads = loaded.2;
      machine = ran.new.machine;
      left = c.leave_machine.ensures;
      from = ran.ensures.from c.in-Ok.image (grant_of a.keys) a.keys.lanes a.keys.seed c.in-Ok-booted.ensures.from;
      ends = ran.ensures.ends;
    })
