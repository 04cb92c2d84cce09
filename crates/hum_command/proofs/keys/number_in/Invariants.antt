use Rattle.std.proofs.Common.{◌≡◌, length, map, string_bytes}
use Rattle.hum_command.specs.Keys as spec
use Rattle.hum_command.proofs.keys.number_in.Given as goal

abbrev pub invariant-loop-rest : goal.invariant-loop-rest
invariant-loop-rest l = spec.number_in l.key (map string_bytes l.rest) ≡ spec.number_in l.key (map string_bytes l.words)

abbrev pub decreases-loop-rest : goal.decreases-loop-rest
decreases-loop-rest l = length l.rest
