use Rattle.std.proofs.Common.{sym, ap, ◌∙◌, arith}
use Rattle.hum_outside.specs.Outside.{appended}
use Rattle.hum_outside.proofs.Fronts.{on_err}
use Rattle.cap_words.specs.Seen.{seen}
use Rattle.vm_devices.proofs.Speeches.{saying_first, saying_some, saying_more, saying_left, saying_all, front_said}
use Rattle.vm_devices.proofs.speech.put_speech.Goals as goal

pub loop-q-init : goal.loop-q-init
loop-q-init g c = record { saying = saying_first (seen c.args.quads.now.store) (g.K.Sink.written c.args.out.now) c.args.word c.requires.small c.requires.speech; later = omega arith }

pub unreachable-requires : goal.unreachable-requires
unreachable-requires g c = saying_some (seen c.args.quads.now.store) (g.K.Sink.written c.args.out.now) (g.K.Sink.written c.loop-q.out) c.args.word c.loop-q.rest c.loop-q.invariant.saying c.in-Some.q (sym c.pair.ensures ∙ c.in-Some.is) (sym c.character.ensures ∙ c.in_default-character.is)

pub returns-in_err-put_all-clause-front : goal.returns-in_err-put_all-clause-front
returns-in_err-put_all-clause-front g c = on_err c.from_residual.result (front_said (seen c.args.quads.now.store) (g.K.Sink.written c.args.out.now) (g.K.Sink.written c.loop-q.out) c.args.word c.loop-q.rest c.loop-q.invariant.saying c.in-Some.q (sym c.pair.ensures ∙ c.in-Some.is) c.in-Some-character.c (sym c.character.ensures ∙ c.in-Some-character.is) (g.K.Sink.written c.put_all.new.sink) (rw (← c.encode_utf8.ensures.value, ← c.as_bytes.ensures.value) c.in_err-put_all.ensures.front))

pub loop-q-smaller : goal.loop-q-smaller
loop-q-smaller g c = saying_left (seen c.args.quads.now.store) (g.K.Sink.written c.args.out.now) (g.K.Sink.written c.loop-q.out) c.args.word c.loop-q.rest c.loop-q.invariant.saying c.in-Some.q (sym c.pair.ensures ∙ c.in-Some.is)

pub loop-q-preserved : goal.loop-q-preserved
loop-q-preserved g c = record {
  saying = saying_more (seen c.args.quads.now.store) (g.K.Sink.written c.args.out.now) (g.K.Sink.written c.loop-q.out) c.args.word c.loop-q.rest c.loop-q.invariant.saying c.in-Some.q (sym c.pair.ensures ∙ c.in-Some.is) c.in-Some-character.c (sym c.character.ensures ∙ c.in-Some-character.is) (g.K.Sink.written c.put_all.new.sink) (c.in_ok-put_all.ensures.all ∙ ap (appended (g.K.Sink.written c.loop-q.out)) (c.as_bytes.ensures.value ∙ c.encode_utf8.ensures.value));
  later = omega (arith, c.loop-q.invariant.later, c.put_all.ensures.cause.later);
}

pub returns-clause-all : goal.returns-clause-all
returns-clause-all g c = saying_all (seen c.args.quads.now.store) (g.K.Sink.written c.args.out.now) (g.K.Sink.written c.loop-q.out) c.args.word c.loop-q.rest c.loop-q.invariant.saying (sym c.pair.ensures ∙ c.in_default.is)
