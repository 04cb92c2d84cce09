-- The image from the parts that were read.
use Rattle.std.proofs.Common.{◌≡◌, ℕ, ◌+◌, ◌*◌, Bool, true, false, cond, List, Option, Some, None, Ok, Err, refl, ap}
use Rattle.cap_words.specs.declared.word.Quad.{Quad}
use Rattle.cap_words.specs.Words.{W}
use Rattle.quad_memory.specs.Image.{RomImage, is_image, is_boot_word}
use Rattle.uasm_image.specs.declared.error.ImageRefused.{ImageRefused}
use Rattle.uasm_image.specs.declared.error.DecodeError.{DecodeError}
use Rattle.uasm_image.specs.declared.error.DecodeError.TheVariants.{NoMemory, Refused}
use Rattle.uasm_image.specs.Reading.{word_at, cells_at, count_at, end_at, read, Fails}
use Rattle.uasm_image.proofs.Exact.{boot_rom}
use Rattle.uasm_image.proofs.Steps.{IsBytes, word_ok}
use Rattle.uasm_image.proofs.Whole.{count_ok, cells_ok, fronts}

-- what was read of the bytes
pub record Parts (bytes : List ℕ) (count : ℕ) (boot : W) (cells : List Quad) : Type 0 where
  pub count_is : count_at bytes ≡ Ok count
  pub boot_is : word_at (is_boot_word count) bytes 8 ≡ Ok boot
  pub cells_are : cells_at count bytes 12 count ≡ Ok cells

parts_image : (bytes : List ℕ) (count : ℕ) (boot : W) (cells : List Quad) → IsBytes bytes → Parts bytes count boot cells → is_image boot cells ≡ true
parts_image bytes count boot cells fits p =
    let b = word_ok (is_boot_word count) count bytes 8 boot (boot_rom count) fits p.boot_is in
    (fronts bytes count boot cells (count_ok bytes count fits p.count_is) b
    (cells_ok count bytes 12 count cells fits b.whole p.cells_are)).image.rules

-- an image, where its rules hold
abbrev pub where_kept : Bool → RomImage → Option RomImage
where_kept b i = cond b (Some i) None

made : (b : Bool) (x y : RomImage) → Some y ≡ where_kept b x → x ≡ y
made true x y e = cc
made false x y e = absurd cc

none_made : (b : Bool) (x : RomImage) → b ≡ true → None ≡ where_kept b x → ⊥
none_made true x h e = cc
none_made false x h e = cc

pub image_made : (bytes : List ℕ) (count : ℕ) (boot : W) (cells : List Quad) → IsBytes bytes → Parts bytes count boot cells
    → None ≡ where_kept (is_image boot cells) (record { boot = boot; cells = cells }) → ⊥
image_made bytes count boot cells fits p e = none_made (is_image boot cells) (record { boot = boot; cells = cells })
    (parts_image bytes count boot cells fits p) e

pub image_read : (bytes : List ℕ) (count : ℕ) (boot : W) (cells : List Quad) (i : RomImage) (u : Unit {0}) → Parts bytes count boot cells
    → end_at bytes (12 + 16 * count) ≡ Ok u
    → Some i ≡ where_kept (is_image boot cells) (record { boot = boot; cells = cells }) → read bytes ≡ Ok i
unfolding read
image_read bytes count boot cells i u p end e =
    rw (p.count_is, p.boot_is, p.cells_are, end) (ap (λ (j : RomImage). Ok j)
    (made (is_image boot cells) (record { boot = boot; cells = cells }) i e))

pub end_failed : (bytes : List ℕ) (count : ℕ) (boot : W) (cells : List Quad) (why : ImageRefused) → Parts bytes count boot cells
    → end_at bytes (12 + 16 * count) ≡ Err why → read bytes ≡ Err why
unfolding read
end_failed bytes count boot cells why p end = rw (p.count_is, p.boot_is, p.cells_are, end) refl

pub cells_failed : (bytes : List ℕ) (count : ℕ) (boot : W) (e : DecodeError) → count_at bytes ≡ Ok count
    → word_at (is_boot_word count) bytes 8 ≡ Ok boot → Fails e (cells_at count bytes 12 count) → Fails e (read bytes)
unfolding read
cells_failed bytes count boot NoMemory c b h = tt
cells_failed bytes count boot (Refused why) c b h = rw (c, b, h) refl
