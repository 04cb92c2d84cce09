use Rattle.hum_meaning.specs.Named.{written}
use Rattle.hum_meaning.specs.Written.{humus}
use Rattle.hum_meaning.proofs.NamedWithin.{named_keeps}
use Rattle.hum_meaning.proofs.SoundLaw.{enters_sound}
use Rattle.hum_meaning.proofs.laws.events_keep_soundness.Goals as goal

pub returns : goal.returns
returns c = λ d d' e. enters_sound humus (named_keeps written) d d' e
