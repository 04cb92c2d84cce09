-- Reading the words of an image one after the other, up to the first fault.
use Rattle.std.specs.Prelude.{◌≡◌, ℕ, zero, suc, ◌+◌, ◌*◌, nat_lt, nat_eq, ◌||◌, if◌then◌else◌, Bool, List, [], ◌∷◌, length, take, drop, Result, Ok, Err}
use Rattle.std.specs.List.{starts_with}
use Rattle.std.specs.Int.{w32, from_le_bytes}
use Rattle.cap_words.specs.declared.word.Quad.{Quad}
use Rattle.cap_words.specs.Words.{W, word_of}
use Rattle.quad_memory.specs.Image.{RomImage, is_cell_count, is_boot_word, is_rom_word}
use Rattle.uasm_image.specs.declared.error.ImageCause.{ImageCause}
use Rattle.uasm_image.specs.declared.error.ImageCause.TheVariants.{Magic, Count, Word, Truncated, Extra}
use Rattle.uasm_image.specs.declared.error.ImageRefused.{ImageRefused}
use Rattle.uasm_image.specs.declared.error.DecodeError.{DecodeError}
use Rattle.uasm_image.specs.declared.error.DecodeError.TheVariants.{NoMemory, Refused}
use Rattle.uasm_image.specs.Spelled.{magic}

infixl 10 ◌>>=◌
abbrev pub ◌>>=◌ : {A B : Type 0} → Result A ImageRefused → (A → Result B ImageRefused) → Result B ImageRefused
(Ok x) >>= f = f x
(Err e) >>= f = Err e

-- refused at a place for a cause
abbrev pub fault : {A : Type 0} → ℕ → ImageCause → Result A ImageRefused
fault at cause = Err (record { at = at; cause = cause })

-- the number in the four bytes at a place
abbrev pub number_at : List ℕ → ℕ → Result ℕ ImageRefused
number_at bytes at = if nat_lt (length bytes) (at + 4) then fault (length bytes) Truncated else Ok (from_le_bytes w32 (take 4 (drop at bytes)))

-- the word at a place, which keeps a rule
abbrev pub word_at : (W → Bool) → List ℕ → ℕ → Result W ImageRefused
word_at rule bytes at = number_at bytes at >>= λ n. if rule (word_of n) then Ok (word_of n) else fault at Word

-- the cell at a place, in an image of that many cells
unfoldable pub cell_at : ℕ → List ℕ → ℕ → Result Quad ImageRefused
cell_at count bytes at = do
  t ← word_at (is_rom_word count) bytes at
  x ← word_at (is_rom_word count) bytes (at + 4)
  y ← word_at (is_rom_word count) bytes (at + 8)
  z ← word_at (is_rom_word count) bytes (at + 12)
  Ok (record { t = t; x = x; y = y; z = z })

-- the n cells from a place on
unfoldable pub cells_at : ℕ → List ℕ → ℕ → ℕ → Result (List Quad) ImageRefused
cells_at count bytes at zero = Ok []
cells_at count bytes at (suc n) = do
  q ← cell_at count bytes at
  qs ← cells_at count bytes (at + 16) n
  Ok (q ∷ qs)

-- the bytes begin with the magic, or are a front of it
abbrev pub fits_magic : List ℕ → Bool
fits_magic bytes = starts_with nat_eq bytes magic || starts_with nat_eq magic bytes

-- the count of cells, behind the magic
unfoldable pub count_at : List ℕ → Result ℕ ImageRefused
count_at bytes =
    if fits_magic bytes then
    (number_at bytes 4 >>= λ n. if is_cell_count n then Ok n else fault 4 Count) else
    fault 0 Magic

-- no bytes follow at a place
abbrev pub end_at : List ℕ → ℕ → Result (Unit {0}) ImageRefused
end_at bytes at = if nat_lt at (length bytes) then fault at Extra else Ok tt

-- the image that all the bytes are
unfoldable pub read : List ℕ → Result RomImage ImageRefused
read bytes = do
  count ← count_at bytes
  boot ← word_at (is_boot_word count) bytes 8
  cells ← cells_at count bytes 12 count
  end ← end_at bytes (12 + 16 * count)
  Ok (record { boot = boot; cells = cells })

-- what a call answered, seen by `view`, is what reading gives, unless memory ran out
abbrev pub Fails : {Y : Type 0} → DecodeError → Result Y ImageRefused → Type 0
Fails NoMemory reading = Unit {0}
Fails (Refused why) reading = reading ≡ Err why

abbrev pub Gives : {X Y : Type 0} → (X → Y) → Result X DecodeError → Result Y ImageRefused → Type 0
Gives view (Ok x) reading = reading ≡ Ok (view x)
Gives view (Err e) reading = Fails e reading
