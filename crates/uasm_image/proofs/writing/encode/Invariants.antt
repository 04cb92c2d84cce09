use Rattle.std.proofs.Common.{◌≡◌, ◌++◌, IsTrue, length, take}
use Rattle.std.specs.List.{flat_map, list_all}
use Rattle.uasm_image.specs.Spelled.{magic, number, word, cell, is_exact_quad}
use Rattle.uasm_image.proofs.writing.encode.Given as goal

abbrev pub invariant-loop-cell : goal.invariant-loop-cell
invariant-loop-cell l = record {
  written : l.bytes.items ≡ magic ++ number (length l.image.cells) ++ word l.image.boot ++ flat_map cell (take l.cell-index l.image.cells);
  exact : IsTrue (list_all is_exact_quad (take l.cell-index l.image.cells));
}
