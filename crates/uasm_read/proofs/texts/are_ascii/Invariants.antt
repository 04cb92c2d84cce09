use Rattle.std.proofs.Common.{◌≡◌, drop}
use Rattle.std.specs.List.{list_all}
use Rattle.uasm_read.specs.Texts.{is_ascii}
use Rattle.uasm_read.proofs.texts.are_ascii.Given as goal

abbrev pub invariant-loop-b : goal.invariant-loop-b
invariant-loop-b l = list_all is_ascii (drop l.b-index l.line) ≡ list_all is_ascii l.line
