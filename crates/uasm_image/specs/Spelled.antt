-- The bytes of an image.
use Rattle.std.specs.Prelude.{ℕ, IsTrue, Bool, true, ◌&&◌, List, [], ◌∷◌, ◌++◌, length}
use Rattle.std.specs.List.{list_all, flat_map}
use Rattle.std.specs.Int.{w32, to_le_bytes}
use Rattle.cap_words.specs.declared.word.Quad.{Quad}
use Rattle.cap_words.specs.Fixnums.{in_range}
use Rattle.cap_words.specs.Words.{W, Fix, Rom, Ram, Cap, bits_of}
use Rattle.quad_memory.specs.Image.{RomImage, is_image}

-- a number of 32 bits, its lowest byte first
abbrev pub number : ℕ → List ℕ
number n = to_le_bytes w32 n

-- a word is the number that its bits are
abbrev pub word : W → List ℕ
word w = number (bits_of w)

-- a cell is its four words
abbrev pub cell : Quad → List ℕ
cell q = word q.t ++ word q.x ++ word q.y ++ word q.z

-- `UFQ1`
abbrev pub magic : List ℕ
magic = 85 ∷ 70 ∷ 81 ∷ 49 ∷ []

-- an image is the magic, the count of its cells, its boot word, and its cells
abbrev pub spelled : RomImage → List ℕ
spelled i = magic ++ number (length i.cells) ++ word i.boot ++ flat_map cell i.cells

-- a fixnum is in range
abbrev pub is_exact : W → Bool
is_exact (Fix n) = in_range n
is_exact (Rom n) = true
is_exact (Ram n) = true
is_exact (Cap n) = true

-- the same of each word of a cell
abbrev pub is_exact_quad : Quad → Bool
is_exact_quad q = is_exact q.t && is_exact q.x && is_exact q.y && is_exact q.z

-- the image keeps the rules of images, and its fixnums are in range
pub record IsImage (i : RomImage) : Type 0 where
  pub rules : IsTrue (is_image i.boot i.cells)
  pub exact : IsTrue (list_all is_exact_quad i.cells)
