use Rattle.std.proofs.Common.{◌≡◌, ◌≤◌, drop}
use Rattle.hum_command.specs.Keys as spec
use Rattle.hum_command.proofs.keys.number_from.Given as goal

abbrev pub invariant-loop-digit : goal.invariant-loop-digit
invariant-loop-digit l = record {
  same : spec.number_from l.number (drop l.digit-index l.digits) ≡ spec.number_from 0 l.digits;
  small : l.number ≤ 4294967295;
}
