use Rattle.cap_words.specs.Seen.{seen}
use Rattle.vm_devices.specs.Texts.{leaves_of}
use Rattle.vm_devices.proofs.Speeches.{Hearing}
use Rattle.vm_devices.proofs.speech.is_speech.Given as goal

abbrev pub invariant-loop-q : goal.invariant-loop-q
invariant-loop-q l = Hearing (seen l.quads.store) l.fn.word l.rest

abbrev pub decreases-loop-q : goal.decreases-loop-q
decreases-loop-q l = leaves_of (seen l.quads.store) l.rest
