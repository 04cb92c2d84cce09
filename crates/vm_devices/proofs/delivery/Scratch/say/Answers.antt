use Rattle.std.proofs.Common.{sym, ap, ◌∙◌}
use Rattle.cap_words.specs.Seen.{seen}
use Rattle.vm_turn.specs.Piece.{tree, said}
use Rattle.vm_devices.specs.Texts.{speech_text}
use Rattle.vm_devices.proofs.Trees.{small_there, none_there}
use Rattle.vm_devices.proofs.Deliveries.{said_small, said_none, refused, broken_line, broken_end, committed_line}
use Rattle.vm_devices.proofs.delivery.Scratch.say.Goals as goal
use Rattle.vm_devices.proofs.delivery.Scratch.say.Goals.{then-not-is_small-via-then-not-is_small, then-not-is_small-via-else-not-is_small+then-not-is_speech}

pub is_speech-requires : goal.is_speech-requires
is_speech-requires g c = small_there (seen c.args.quads.now.store) c.args.message (sym c.is_small.ensures.small ∙ c.if-not-is_small.false)

pub returns-then-not-is_small-clause-written : goal.returns-then-not-is_small-clause-written
returns-then-not-is_small-clause-written g c = refused (said (tree (seen c.args.quads.now.store) c.args.message)) (g.K.Sink.written c.args.out.now) (elim c.then-not-is_small.branch [
  | then-not-is_small-via-then-not-is_small w ↦ ap said (none_there (seen c.args.quads.now.store) c.args.message (sym c.is_small.ensures.small ∙ w.if-not-is_small.true))
  | then-not-is_small-via-else-not-is_small+then-not-is_speech w ↦ said_none (seen c.args.quads.now.store) c.args.message (small_there (seen c.args.quads.now.store) c.args.message (sym c.is_small.ensures.small ∙ w.if-not-is_small.false)) (sym w.is_speech.ensures ∙ w.if-not-is_speech.true)
])

pub put_speech-requires-clause-small : goal.put_speech-requires-clause-small
put_speech-requires-clause-small g c = small_there (seen c.args.quads.now.store) c.args.message (sym c.is_small.ensures.small ∙ c.if-not-is_small.false)

pub returns-in_err-put_speech-clause-written : goal.returns-in_err-put_speech-clause-written
returns-in_err-put_speech-clause-written g c = broken_line (said (tree (seen c.args.quads.now.store) c.args.message)) (speech_text (seen c.args.quads.now.store) c.args.message) c.from_residual.result (g.K.Sink.written c.args.out.now) (g.K.Sink.written c.put_speech.new.out) (said_small (seen c.args.quads.now.store) c.args.message (small_there (seen c.args.quads.now.store) c.args.message (sym c.is_small.ensures.small ∙ c.if-not-is_small.false)) (sym c.is_speech.ensures ∙ c.if-not-is_speech.false)) c.from_residual.ensures.0 c.in_err-put_speech.ensures.front

pub returns-in_err-put_all-clause-written : goal.returns-in_err-put_all-clause-written
returns-in_err-put_all-clause-written g c = broken_end (said (tree (seen c.args.quads.now.store) c.args.message)) (speech_text (seen c.args.quads.now.store) c.args.message) c.from_residual-in_err-put_all.result (g.K.Sink.written c.args.out.now) (g.K.Sink.written c.put_speech.new.out) (g.K.Sink.written c.put_all.new.sink) (said_small (seen c.args.quads.now.store) c.args.message (small_there (seen c.args.quads.now.store) c.args.message (sym c.is_small.ensures.small ∙ c.if-not-is_small.false)) (sym c.is_speech.ensures ∙ c.if-not-is_speech.false)) c.from_residual-in_err-put_all.ensures.0 c.in_ok-put_speech.ensures.all c.in_err-put_all.ensures.front

pub returns-clause-written : goal.returns-clause-written
returns-clause-written g c = committed_line (said (tree (seen c.args.quads.now.store) c.args.message)) (speech_text (seen c.args.quads.now.store) c.args.message) (g.K.Sink.written c.args.out.now) (g.K.Sink.written c.put_speech.new.out) (g.K.Sink.written c.put_all.new.sink) (said_small (seen c.args.quads.now.store) c.args.message (small_there (seen c.args.quads.now.store) c.args.message (sym c.is_small.ensures.small ∙ c.if-not-is_small.false)) (sym c.is_speech.ensures ∙ c.if-not-is_speech.false)) c.in_ok-put_speech.ensures.all c.in_ok-put_all.ensures.all
