use Rattle.std.proofs.Common.{codes}
use Rattle.cap_words.specs.Seen.{seen}
use Rattle.vm_devices.specs.Texts.{leaf_text}
use Rattle.vm_devices.proofs.Writings.{front_then}
use Rattle.vm_devices.proofs.tree.put_item.Goals as goal

pub returns-then-inside-clause-front : goal.returns-then-inside-clause-front
returns-then-inside-clause-front g c =
    rw c.if-inside.true (front_then c.put_all.result (g.K.Sink.written c.args.out.now) (g.K.Sink.written c.put_leaf.new.out) (g.K.Sink.written c.put_all.new.sink) (leaf_text (seen c.args.quads.now.store) c.args.word) (codes ")") c.in_ok-put_leaf.ensures.all c.put_all.ensures.front)
