use Rattle.std.proofs.Common.{◌≡◌, ◌≤◌, drop, true}
use Rattle.std.specs.Char.{is_ascii_digit}
use Rattle.std.specs.List.{list_all}
use Rattle.uasm_read.specs.Texts as forms
use Rattle.uasm_read.proofs.texts.value.Given as goal

abbrev pub invariant-loop-d : goal.invariant-loop-d
invariant-loop-d l = record {
  counted : forms.value_from l.sum (drop l.d-index l.digits) ≡ forms.value_from 0 l.digits;
  digits : list_all is_ascii_digit (drop l.d-index l.digits) ≡ true;
  small : l.sum ≤ 1073741824;
}
