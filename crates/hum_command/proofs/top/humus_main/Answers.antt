use Rattle.std.proofs.Common.{map, string_bytes, Global}
use Rattle.hum_command.specs.Words.{request_of}
use Rattle.hum_command.specs.Call.{call}
use Rattle.hum_command.proofs.Complete.{completes}
use Rattle.hum_command.proofs.top.humus_main.Goals as goal

pub returns-clause-completes : goal.returns-clause-completes
returns-clause-completes g c =
    let a = c.args in
    let done = c.answer-answer in
    completes (request_of (map (string_bytes {Z = Global}) a.words.now)) done.result c.status.result
    (call g.F.Folder.files g.F.Folder.faults g.K.Sink.written g.K.Sink.faults a.files.now done.new.files a.out.now done.new.out a.err.now done.new.err a.last.now done.new.last)
    c.status.ensures done.ensures.answered
