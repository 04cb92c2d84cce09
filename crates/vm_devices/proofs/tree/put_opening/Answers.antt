use Rattle.vm_devices.proofs.Writings.{appended_none}
use Rattle.vm_devices.proofs.tree.put_opening.Goals as goal

pub returns-then-inside-clause-all : goal.returns-then-inside-clause-all
returns-then-inside-clause-all g c = rw c.if-inside.true (appended_none (g.K.Sink.written c.args.out.now))
