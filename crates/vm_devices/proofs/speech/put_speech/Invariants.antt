use Rattle.std.proofs.Common.{◌≤◌}
use Rattle.cap_words.specs.Seen.{seen}
use Rattle.vm_devices.specs.Texts.{leaves_of}
use Rattle.vm_devices.proofs.Speeches.{Saying}
use Rattle.vm_devices.proofs.speech.put_speech.Given as goal

abbrev pub invariant-loop-q : goal.invariant-loop-q
invariant-loop-q g l = record {
  saying : Saying (seen l.quads.store) (g.K.Sink.written l.fn.out) (g.K.Sink.written l.out) l.fn.word l.rest;
  later : g.K.Sink.faults l.fn.out ≤ g.K.Sink.faults l.out;
}

abbrev pub decreases-loop-q : goal.decreases-loop-q
decreases-loop-q g l = leaves_of (seen l.quads.store) l.rest
