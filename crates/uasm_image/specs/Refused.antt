-- Where bytes that are no image's first leave the format, and why.
use Rattle.std.specs.Prelude.{◌≡◌, ℕ, ◌+◌, ◌*◌, ◌/◌, ◌≤◌, List, ◌∷◌, ◌++◌, length, take}
use Rattle.quad_memory.specs.Image.{RomImage}
use Rattle.uasm_image.specs.declared.error.ImageCause.{ImageCause}
use Rattle.uasm_image.specs.declared.error.ImageCause.TheVariants.{Magic, Count, Word, Truncated, Extra}
use Rattle.uasm_image.specs.Spelled.{spelled, IsImage}

-- some image's bytes begin with these
abbrev pub Begins : List ℕ → Type 0
Begins bytes = (i : RomImage) × IsImage i × (rest : List ℕ) × (spelled i ≡ bytes ++ rest)

-- some image's bytes begin with these and go on
abbrev pub GoesOn : List ℕ → Type 0
GoesOn bytes = (i : RomImage) × IsImage i × (b : ℕ) × (rest : List ℕ) × (spelled i ≡ bytes ++ b ∷ rest)

-- The bytes are no image's, for a cause at a place: up to there they begin as some image's do that goes on, and with the number there
-- as none's. Of a number whose bytes are not all there nothing is asked, but that of the magic.
pub data IsRefusedAt (bytes : List ℕ) : ℕ → ImageCause → Type 0 where
  -- the first four bytes, or all of fewer, begin no image's bytes
  magic : (Begins (take 4 bytes) → ⊥) → IsRefusedAt bytes 0 Magic
  count : 8 ≤ length bytes → GoesOn (take 4 bytes) → (Begins (take 8 bytes) → ⊥) → IsRefusedAt bytes 4 Count
  -- the boot word is number 0, and the words of cells have the numbers from 1 on
  word : (k : ℕ) → 8 + 4 * k + 4 ≤ length bytes → GoesOn (take (8 + 4 * k) bytes) → (Begins (take (8 + 4 * k + 4) bytes) → ⊥)
      → IsRefusedAt bytes (8 + 4 * k) Word
  -- as far as their numbers are whole, the bytes begin an image that goes on
  truncated : Begins (take 4 bytes) → GoesOn (take (length bytes / 4 * 4) bytes) → IsRefusedAt bytes (length bytes) Truncated
  -- an image ends, and the bytes go on
  extra : (i : RomImage) → IsImage i → (b : ℕ) (rest : List ℕ) → bytes ≡ spelled i ++ b ∷ rest → IsRefusedAt bytes (length (spelled i)) Extra
