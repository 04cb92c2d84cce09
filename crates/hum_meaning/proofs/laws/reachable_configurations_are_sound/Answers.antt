use Rattle.hum_meaning.specs.Named.{written}
use Rattle.hum_meaning.specs.Written.{humus}
use Rattle.hum_meaning.specs.After.{opening}
use Rattle.hum_meaning.proofs.NamedWithin.{named_keeps}
use Rattle.hum_meaning.proofs.SoundLaw.{opening_sound, follows_sound}
use Rattle.hum_meaning.proofs.laws.reachable_configurations_are_sound.Goals as goal

pub returns : goal.returns
returns c = λ file journal d. follows_sound humus (named_keeps written) journal (opening file) d (opening_sound written _)
