use Rattle.std.proofs.Common.{◌≡◌, List, Some, refl, subst}
use Rattle.vm_machine.specs.Machine.{Machine}
use Rattle.quad_debug.specs.declared.command.Command.{Command}
use Rattle.hum_command.specs.Call.{call}
use Rattle.hum_command.specs.Debugging.{ObeysAll, BreaksOffIn}
use Rattle.hum_command.specs.declared.answer.Answer.TheVariants.{Done, Fault}
use Rattle.hum_command.proofs.Debugging.{began_fresh}
use Rattle.hum_command.proofs.Causes.{debugs_in}
use Rattle.hum_command.proofs.top.debug_file.Goals as goal

pub returns-in-Ok-obeyed-clause-answered : goal.returns-in-Ok-obeyed-clause-answered
returns-in-Ok-obeyed-clause-answered g c =
    let w = g.K.Sink.written in
    let a = c.args in
    let machine = c.in-Ok.session.machine in
    let session = c.in-Ok.ensures.session in
    let began = c.in-Ok-start.debug in
    let obeyed = c.obey_all-obeyed in
    debugs_in a.name.now a.script.now a.keys
    (call g.F.Folder.files g.F.Folder.faults w g.K.Sink.faults a.files.now c.read_session.new.files a.out.now obeyed.new.out a.err.now a.err.now a.last.now c.leave_machine.new.self)
    machine c.in-Ok.session.commands.items session c.in-Ok-start.ensures.memory began obeyed.new.debug
    (began_fresh began machine c.in-Ok-start.ensures.machine c.in-Ok-start.ensures.began session.boots.2.fresh)
    (subst (λ (m : Machine). c.leave_machine.new.self ≡ record a.last.now { machine = Some m }) c.end.ensures c.leave_machine.ensures)
    (refl {a = w a.err.now}) Done
    (subst (λ (cs : List Command). ObeysAll cs began obeyed.new.debug (w a.out.now) (w obeyed.new.out)) c.deref.ensures.value c.in-Ok-obeyed.ensures.obeys)

pub returns-clause-answered : goal.returns-clause-answered
returns-clause-answered g c =
    let w = g.K.Sink.written in
    let a = c.args in
    let machine = c.in-Ok.session.machine in
    let session = c.in-Ok.ensures.session in
    let began = c.in-Ok-start.debug in
    let obeyed = c.obey_all-obeyed in
    debugs_in a.name.now a.script.now a.keys
    (call g.F.Folder.files g.F.Folder.faults w g.K.Sink.faults a.files.now c.read_session.new.files a.out.now obeyed.new.out a.err.now a.err.now a.last.now c.leave_machine.new.self)
    machine c.in-Ok.session.commands.items session c.in-Ok-start.ensures.memory began obeyed.new.debug
    (began_fresh began machine c.in-Ok-start.ensures.machine c.in-Ok-start.ensures.began session.boots.2.fresh)
    (subst (λ (m : Machine). c.leave_machine.new.self ≡ record a.last.now { machine = Some m }) c.end.ensures c.leave_machine.ensures)
    (refl {a = w a.err.now}) Fault
    ((subst (λ (cs : List Command). BreaksOffIn cs began obeyed.new.debug (w a.out.now) (w obeyed.new.out)) c.deref.ensures.value c.in-Err-obeyed.ensures.breaks), c.in-Err-obeyed.ensures.cause.failed)
