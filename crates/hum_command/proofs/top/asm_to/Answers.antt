use Rattle.std.proofs.Common.{refl, subst, ℕ, List}
use Rattle.hum_command.specs.Call.{call, PutsAll}
use Rattle.hum_command.specs.Writes.{writes}
use Rattle.hum_command.specs.Code.{is_assembled}
use Rattle.hum_command.proofs.Causes.{declined_asm, listed}
use Rattle.hum_command.proofs.top.asm_to.Goals as goal

pub returns-in-Err-clause-answered : goal.returns-in-Err-clause-answered
returns-in-Err-clause-answered g c = λ last.
    let w = g.K.Sink.written in
    let a = c.args in
    declined_asm a.name.now
    (call g.F.Folder.files g.F.Folder.faults w g.K.Sink.faults a.files.now c.list_file.new.files a.out.now a.out.now a.err.now c.refuse.new.err last last)
    (is_assembled a.name.now) refl c.in-Err.answer c.in-Err.ensures.fails
    (record { line = c.refuse.ensures.said; out = refl {a = w a.out.now}; last = refl {a = last} })

pub returns-in-Ok-clause-answered : goal.returns-in-Ok-clause-answered
returns-in-Ok-clause-answered g c = λ last.
    let w = g.K.Sink.written in
    let a = c.args in
    let put = c.put_bytes in
    let code = c.in-Ok.ensures.listing in
    listed a.name.now
    (call g.F.Folder.files g.F.Folder.faults w g.K.Sink.faults a.files.now c.list_file.new.files a.out.now put.new.out a.err.now a.err.now last last)
    code.0 code.1 code.2.0 code.2.1 c.in-Ok.listing.items code.2.2 (refl {a = w a.err.now}) (refl {a = last}) put.result
    (subst (λ (bytes : List ℕ). PutsAll put.result (writes w g.K.Sink.faults a.out.now put.new.out) bytes) c.deref.ensures.value put.ensures.answered)
