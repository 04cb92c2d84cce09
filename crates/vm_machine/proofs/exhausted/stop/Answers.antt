use Rattle.vm_machine.proofs.Stopping.{kept-stopped, state-stopped}
use Rattle.vm_machine.proofs.exhausted.stop.Goals as goal

pub returns-clause-kept : goal.returns-clause-kept
returns-clause-kept c = kept-stopped c.args.parts.now c.requires.kept c.args.who c.requires.who c.stop.new.quads c.stop.new.self c.stop.ensures.keeps c.stop.ensures.rows c.stop.ensures.sheet

pub returns-clause-state : goal.returns-clause-state
returns-clause-state c = state-stopped c.args.parts.now c.requires.kept c.args.who c.requires.who c.stop.new.quads c.stop.new.self c.stop.ensures.keeps c.stop.ensures.rows c.stop.ensures.sheet
