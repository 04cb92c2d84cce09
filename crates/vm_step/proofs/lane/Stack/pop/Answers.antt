use Rattle.std.proofs.Common.{sym}
use Rattle.cap_words.specs.Seen.{seen}
use Rattle.vm_step.proofs.Stacks.{popped}
use Rattle.vm_step.proofs.lane.Stack.pop.Goals as goal

pub returns-clause-value : goal.returns-clause-value
returns-clause-value c = (popped (seen c.args.quads.now.store) c.args.self.now.depth c.args.self.now.word _ c.if-self-eq0.false c.requires (sym c.in-Some.ensures)).value

pub returns-clause-rest : goal.returns-clause-rest
returns-clause-rest c = (popped (seen c.args.quads.now.store) c.args.self.now.depth c.args.self.now.word _ c.if-self-eq0.false c.requires (sym c.in-Some.ensures)).rest

pub returns-clause-stacked : goal.returns-clause-stacked
returns-clause-stacked c = (popped (seen c.args.quads.now.store) c.args.self.now.depth c.args.self.now.word _ c.if-self-eq0.false c.requires (sym c.in-Some.ensures)).stacked
