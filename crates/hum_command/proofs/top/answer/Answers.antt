use Rattle.std.proofs.Common.{Option, Some, ap, sym, ◌∙◌, subst}
use Rattle.hum_command.specs.Words.{Request, request}
use Rattle.hum_command.specs.Call.{call}
use Rattle.hum_command.specs.Answers.{AnsweredTo}
use Rattle.hum_command.specs.declared.words.Command.{Command}
use Rattle.hum_command.proofs.top.answer.Goals as goal

pub returns-in-Some-Chain-clause-answered : goal.returns-in-Some-Chain-clause-answered
returns-in-Some-Chain-clause-answered g c =
    let a = c.args in
    let ran = c.run_chain in
    let said = ap (λ (k : Command). Some (request k)) (sym c.in-Some-Chain.field-0-is) ∙ c.in-Some-Chain.ensures.value in
    subst (λ (r : Option Request). AnsweredTo r ran.result
    (call g.F.Folder.files g.F.Folder.faults g.K.Sink.written g.K.Sink.faults a.files.now a.files.now a.out.now ran.new.out a.err.now ran.new.err a.last.now ran.new.last))
    said (ran.ensures.answered (g.F.Folder.files a.files.now) (g.F.Folder.faults a.files.now))
