use Rattle.std.proofs.Common.{◌≡◌, ℕ, ◌+◌, ◌<◌, false, length, get_or, IsTrue}
use Rattle.std.specs.Prelude.{◌||◌}
use Rattle.std.specs.List.{list_all}
use Rattle.quad_memory.specs.Image.{is_rom_quad}
use Rattle.uasm_read.specs.Texts.{has_name}
use Rattle.uasm_image.specs.Spelled.{is_exact_quad}
use Rattle.uasm_image.specs.Listed.{cell_label, operand_names}
use Rattle.uasm_image.proofs.listings.named_cells.Given as goal

abbrev pub invariant-loop-rest : goal.invariant-loop-rest
invariant-loop-rest l = record {
  count : length l.named.items ≡ length l.cells;
  marks : (k : ℕ) → k < length l.cells
      → (get_or l.named.items k false || has_name (operand_names l.at l.rest) (cell_label (16 + k)))
      ≡ has_name (operand_names 16 l.cells) (cell_label (16 + k));
  place : l.at + length l.rest ≡ 16 + length l.cells;
  roms : IsTrue (list_all (is_rom_quad (length l.cells)) l.rest);
  exact : IsTrue (list_all is_exact_quad l.rest) → IsTrue (list_all is_exact_quad l.cells);
}

abbrev pub decreases-loop-rest : goal.decreases-loop-rest
decreases-loop-rest l = length l.rest
