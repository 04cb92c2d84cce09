use Rattle.hum_emit.proofs.Emitting.{code_stands}
use Rattle.hum_emit.proofs.laws.emitted_code_stands.Goals as goal

pub returns : goal.returns
returns c = code_stands
