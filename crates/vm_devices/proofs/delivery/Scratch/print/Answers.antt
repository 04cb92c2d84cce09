use Rattle.std.proofs.Common.{sym, ◌∙◌}
use Rattle.cap_words.specs.Seen.{seen}
use Rattle.vm_turn.specs.Piece.{tree, printed}
use Rattle.vm_devices.specs.Texts.{text_of}
use Rattle.vm_devices.proofs.Trees.{small_there}
use Rattle.vm_devices.proofs.Deliveries.{printed_small, broken_line, broken_end, committed_line}
use Rattle.vm_devices.proofs.delivery.Scratch.print.Goals as goal

pub put_tree-requires-clause-small : goal.put_tree-requires-clause-small
put_tree-requires-clause-small g c = small_there (seen c.args.quads.now.store) c.args.message (sym c.is_small.ensures.small ∙ c.if-not-is_small.false)

pub returns-in_err-put_tree-clause-written : goal.returns-in_err-put_tree-clause-written
returns-in_err-put_tree-clause-written g c = broken_line (printed (seen c.args.quads.now.store) (tree (seen c.args.quads.now.store) c.args.message)) (text_of (seen c.args.quads.now.store) c.args.message) c.from_residual.result (g.K.Sink.written c.args.out.now) (g.K.Sink.written c.put_tree.new.out) (printed_small (seen c.args.quads.now.store) c.args.message (small_there (seen c.args.quads.now.store) c.args.message (sym c.is_small.ensures.small ∙ c.if-not-is_small.false))) c.from_residual.ensures.0 c.in_err-put_tree.ensures.front

pub returns-in_err-put_all-clause-written : goal.returns-in_err-put_all-clause-written
returns-in_err-put_all-clause-written g c = broken_end (printed (seen c.args.quads.now.store) (tree (seen c.args.quads.now.store) c.args.message)) (text_of (seen c.args.quads.now.store) c.args.message) c.from_residual-in_err-put_all.result (g.K.Sink.written c.args.out.now) (g.K.Sink.written c.put_tree.new.out) (g.K.Sink.written c.put_all.new.sink) (printed_small (seen c.args.quads.now.store) c.args.message (small_there (seen c.args.quads.now.store) c.args.message (sym c.is_small.ensures.small ∙ c.if-not-is_small.false))) c.from_residual-in_err-put_all.ensures.0 c.in_ok-put_tree.ensures.all c.in_err-put_all.ensures.front

pub returns-clause-written : goal.returns-clause-written
returns-clause-written g c = committed_line (printed (seen c.args.quads.now.store) (tree (seen c.args.quads.now.store) c.args.message)) (text_of (seen c.args.quads.now.store) c.args.message) (g.K.Sink.written c.args.out.now) (g.K.Sink.written c.put_tree.new.out) (g.K.Sink.written c.put_all.new.sink) (printed_small (seen c.args.quads.now.store) c.args.message (small_there (seen c.args.quads.now.store) c.args.message (sym c.is_small.ensures.small ∙ c.if-not-is_small.false))) c.in_ok-put_tree.ensures.all c.in_ok-put_all.ensures.all
