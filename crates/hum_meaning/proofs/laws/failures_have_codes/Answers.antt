use Rattle.hum_meaning.specs.Named.{written}
use Rattle.hum_meaning.specs.Written.{humus}
use Rattle.hum_meaning.proofs.CodedNames.{named_coded, fails_by_code}
use Rattle.hum_meaning.proofs.laws.failures_have_codes.Goals as goal

pub returns : goal.returns
returns c = fails_by_code humus (named_coded written)
