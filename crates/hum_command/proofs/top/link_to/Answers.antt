use Rattle.std.proofs.Common.{◌∙◌, refl, subst, ℕ, List, map, string_bytes, Global}
use Rattle.hum_command.specs.Call.{call, PutsAll}
use Rattle.hum_command.specs.Writes.{writes}
use Rattle.hum_command.proofs.Causes.{declined_link, linked}
use Rattle.hum_command.proofs.top.link_to.Goals as goal

pub returns-in-Err-clause-answered : goal.returns-in-Err-clause-answered
returns-in-Err-clause-answered g c = λ last.
    let w = g.K.Sink.written in
    let a = c.args in
    declined_link (map (string_bytes {Z = Global}) a.names.now)
    (call g.F.Folder.files g.F.Folder.faults w g.K.Sink.faults a.files.now c.link_files.new.files a.out.now a.out.now a.err.now c.refuse.new.err last last)
    c.in-Err.declined.answer c.in-Err.declined.name.now c.in-Err.ensures.fails
    (record { line = c.refuse.ensures.said; out = refl {a = w a.out.now}; last = refl {a = last} })

pub returns-in-Ok-clause-answered : goal.returns-in-Ok-clause-answered
returns-in-Ok-clause-answered g c = λ last.
    let w = g.K.Sink.written in
    let a = c.args in
    let put = c.put_bytes in
    let image = c.in-Ok.ensures.bytes in
    linked (map (string_bytes {Z = Global}) a.names.now)
    (call g.F.Folder.files g.F.Folder.faults w g.K.Sink.faults a.files.now c.link_files.new.files a.out.now put.new.out a.err.now a.err.now last last)
    image.0 image.1 image.2 image.3 (refl {a = w a.err.now}) (refl {a = last}) put.result
    (subst (λ (bytes : List ℕ). PutsAll put.result (writes w g.K.Sink.faults a.out.now put.new.out) bytes) (c.deref.ensures.value ∙ image.4) put.ensures.answered)
