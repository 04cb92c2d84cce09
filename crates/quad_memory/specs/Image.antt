-- What an image keeps.
use Rattle.std.specs.Prelude.{ℕ, ◌+◌, nat_lt, nat_le, Bool, true, false, ◌&&◌, List, length}
use Rattle.std.specs.List.{list_all}
use Rattle.cap_words.specs.declared.word.Quad.{Quad}
use Rattle.cap_words.specs.Words.{W, Fix, Rom, Ram, Cap}

-- an image: the word of the quad that boot begins with, and the ROM cells from number 16 on
pub record RomImage : Type 0 where
  pub boot : W
  pub cells : List Quad

-- how many cells there may be: with the 16 constants they fill 2^20 numbers at most
abbrev pub is_cell_count : ℕ → Bool
is_cell_count count = nat_le 1 count && nat_le count 1048560

-- the word names one of that many ROM cells
abbrev pub is_boot_word : ℕ → W → Bool
is_boot_word count (Fix n) = false
is_boot_word count (Rom n) = nat_le 16 n && nat_lt n (16 + count)
is_boot_word count (Ram n) = false
is_boot_word count (Cap n) = false

-- the word is a fixnum, a constant, or names one of that many ROM cells
abbrev pub is_rom_word : ℕ → W → Bool
is_rom_word count (Fix n) = true
is_rom_word count (Rom n) = nat_lt n (16 + count)
is_rom_word count (Ram n) = false
is_rom_word count (Cap n) = false

-- the same of each word of a cell
abbrev pub is_rom_quad : ℕ → Quad → Bool
is_rom_quad count q = is_rom_word count q.t && is_rom_word count q.x && is_rom_word count q.y && is_rom_word count q.z

-- the rules of an image
abbrev pub is_image : W → List Quad → Bool
is_image boot cells = is_cell_count (length cells) && is_boot_word (length cells) boot && list_all (is_rom_quad (length cells)) cells
