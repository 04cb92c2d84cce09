use Rattle.std.proofs.Common.{◌≡◌, ◌<◌, drop, true}
use Rattle.std.specs.Char.{is_ascii_digit}
use Rattle.std.specs.List.{list_all}
use Rattle.uasm_read.specs.Texts.{value_from}
use Rattle.quad_debug.proofs.Numbers.{ten}
use Rattle.quad_debug.proofs.script.value.Given as goal

abbrev pub invariant-loop-d : goal.invariant-loop-d
invariant-loop-d l = record {
  counted : value_from l.sum (drop l.d-index l.digits) ≡ value_from 0 l.digits;
  digits : list_all is_ascii_digit (drop l.d-index l.digits) ≡ true;
  small : l.sum < ten l.d-index;
}
