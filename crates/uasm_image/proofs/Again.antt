-- What is spelled so is read.
use Rattle.std.proofs.Common.{◌≡◌, ℕ, ◌+◌, ◌*◌, ◌^◌, ◌<◌, ◌≤◌, Bool, true, false, ltb, ◌&&◌, List, [], ◌∷◌, ◌++◌, length, Ok, IsTrue, refl, sym, ap, ◌∙◌, append_assoc, arith}
use Rattle.std.specs.List.{flat_map, list_all}
use Rattle.std.proofs.lemmas.Bool.{le-ltb}
use Rattle.std.proofs.lemmas.Bool.Decides.{nat_tests}
use Rattle.std.proofs.lemmas.List.{append-nil, length-append, drop_at}
use Rattle.std.proofs.lemmas.Nat.{from_le_bytes-to_le_bytes_4}
use Rattle.cap_words.specs.declared.word.Quad.{Quad}
use Rattle.cap_words.specs.Words.{W, bits_of}
use Rattle.quad_memory.specs.Image.{RomImage, is_cell_count, is_boot_word, is_rom_word, is_rom_quad}
use Rattle.uasm_image.specs.Spelled.{number, word, cell, magic, spelled, is_exact, is_exact_quad, IsImage}
use Rattle.uasm_image.specs.Reading.{number_at, word_at, cell_at, cells_at, fits_magic, count_at, read}
use Rattle.uasm_image.proofs.Exact.{word_back, bits_below, boot_rom, boot_exact}
use Rattle.uasm_image.proofs.Steps.{IsGood}
use Rattle.uasm_image.proofs.Whole.{both_left, both_right, spelled_len}

pub count_below : (n : ℕ) → IsTrue (is_cell_count n) → n ≤ 1048560
count_below n h = grind (arith, nat_tests)

number_again : (bytes front rest : List ℕ) (at n : ℕ) → bytes ≡ front ++ (number n ++ rest) → length front ≡ at → n < 2 ^ 32
    → number_at bytes at ≡ Ok n
number_again bytes front rest at n same len lt =
    let long : ltb (length (front ++ (number n ++ rest))) (at + 4) ≡ false = le-ltb _ _ (omega (arith, length-append front (number n ++ rest))) in
    rw (same, long, drop_at front (number n ++ rest) at len) (ap (λ (m : ℕ). Ok m) (from_le_bytes-to_le_bytes_4 n lt))

word_again : (rule : W → Bool) (count : ℕ) (bytes front rest : List ℕ) (at : ℕ) (w : W) → count ≤ 1048560 → IsGood count w → IsTrue (rule w)
    → bytes ≡ front ++ (word w ++ rest) → length front ≡ at → word_at rule bytes at ≡ Ok w
word_again rule count bytes front rest at w le good kept same len =
    rw (
      number_again bytes front rest at (bits_of w) same len
          (bits_below count w le good.kept good.exact),
      word_back count w le good.kept good.exact,
      kept,
    ) refl

split4 : (a b c d : Bool) → (a && b && c && d) ≡ true → (a ≡ true) × (b ≡ true) × (c ≡ true) × (d ≡ true)
split4 a b c d h =
    let abc = both_left (a && b && c) d h in
    let ab = both_left (a && b) c abc in
    (both_left a b ab, both_right a b ab, both_right (a && b) c abc, both_right (a && b && c) d h)

-- the four words of a cell are good where the cell is
pub record GoodWords (count : ℕ) (q : Quad) : Type 0 where
  pub t : IsGood count q.t
  pub x : IsGood count q.x
  pub y : IsGood count q.y
  pub z : IsGood count q.z

pub good_words : (count : ℕ) (q : Quad) → IsTrue (is_rom_quad count q) → IsTrue (is_exact_quad q) → GoodWords count q
good_words count q k e =
    let a = split4 (is_rom_word count q.t) (is_rom_word count q.x) (is_rom_word count q.y) (is_rom_word count q.z) k in
    let b = split4 (is_exact q.t) (is_exact q.x) (is_exact q.y) (is_exact q.z) e in
    record {
      t = record { kept = a.0; exact = b.0 };
      x = record { kept = a.1; exact = b.1 };
      y = record { kept = a.2; exact = b.2 };
      z =
          record { kept = a.3; exact = b.3 };
    }

-- one more word before what is read next
after : (front four rest : List ℕ) (bytes : List ℕ) → bytes ≡ front ++ (four ++ rest) → bytes ≡ (front ++ four) ++ rest
after front four rest bytes e = e ∙ sym (append_assoc front four rest)

after_len : (front four : List ℕ) (at n : ℕ) → length front ≡ at → length four ≡ n → length (front ++ four) ≡ at + n
after_len front four at n e f = omega (arith, length-append front four)

cell_again : (count : ℕ) (bytes front rest : List ℕ) (at : ℕ) (q : Quad) → count ≤ 1048560 → GoodWords count q
    → bytes ≡ front ++ (cell q ++ rest) → length front ≡ at → cell_at count bytes at ≡ Ok q
unfolding cell_at
cell_again count bytes front rest at q le g same len =
    let rule = is_rom_word count in
    let zs = word q.z ++ rest in
    let ys = word q.y ++ zs in
    let xs = word q.x ++ ys in
    let sx = after front (word q.t) xs bytes same in
    let sy = after (front ++ word q.t) (word q.x) ys bytes sx in
    let sz = after ((front ++ word q.t) ++ word q.x) (word q.y) zs bytes sy in
    let lx = after_len front (word q.t) at 4 len refl in
    let ly = after_len (front ++ word q.t) (word q.x) (at + 4) 4 lx refl in
    let lz = after_len ((front ++ word q.t) ++ word q.x) (word q.y) (at + 4 + 4) 4 ly refl in
    let t : word_at rule bytes at ≡ Ok q.t = word_again rule count bytes front xs at q.t le g.t g.t.kept same len in
    let x : word_at rule bytes (at + 4) ≡ Ok q.x = word_again rule count bytes (front ++ word q.t) ys (at + 4) q.x le g.x g.x.kept sx lx in
    let y : word_at rule bytes (at + 8) ≡ Ok q.y = word_again rule count bytes ((front ++ word q.t) ++ word q.x) zs
    (at + 8) q.y le g.y g.y.kept sy (omega (arith, ly)) in
    let z : word_at rule bytes (at + 12) ≡ Ok q.z = word_again rule count bytes (((front ++ word q.t) ++ word q.x) ++ word q.y) rest
    (at + 12) q.z le g.z g.z.kept sz (omega (arith, lz)) in
    rw (t, x, y, z) refl

cells_again : (count : ℕ) (bytes front rest : List ℕ) (at : ℕ) (qs : List Quad) → count ≤ 1048560 → IsTrue (list_all (is_rom_quad count) qs)
    → IsTrue (list_all is_exact_quad qs)
    → bytes ≡ front ++ (flat_map cell qs ++ rest) → length front ≡ at → cells_at count bytes at (length qs) ≡ Ok qs
unfolding cells_at
cells_again count bytes front rest at [] le k e same len = refl
cells_again count bytes front rest at (q ∷ qs) le k e same len =
    let g = good_words count q (both_left _ _ k) (both_left _ _ e) in
    let first : cell_at count bytes at ≡ Ok q = cell_again count bytes front (flat_map cell qs ++ rest) at q le g same len in
    let next = after front (cell q) (flat_map cell qs ++ rest) bytes same in
    let others : cells_at count bytes (at + 16) (length qs) ≡ Ok qs =
    cells_again count bytes (front ++ cell q) rest (at + 16) qs le (both_right _ _ k) (both_right _ _ e) next
    (after_len front (cell q) at 16 len refl) in
    rw (first, others) refl

pub read_again : (i : RomImage) → IsImage i → read (spelled i) ≡ Ok i
unfolding read count_at
read_again i good =
    let n = length i.cells in
    let bytes = spelled i in
    let counted : is_cell_count n ≡ true = both_left _ _ (both_left _ _ good.rules) in
    let booted : is_boot_word n i.boot ≡ true = both_right (is_cell_count n) _ (both_left _ _ good.rules) in
    let kept : list_all (is_rom_quad n) i.cells ≡ true = both_right (is_cell_count n && is_boot_word n i.boot) _ good.rules in
    let le : n ≤ 1048560 = count_below n counted in
    let magic_fits : fits_magic bytes ≡ true = refl in
    let many : number_at bytes 4 ≡ Ok n = number_again bytes magic (word i.boot ++ flat_map cell i.cells) 4 n refl refl (omega (arith, le)) in
    let boot : word_at (is_boot_word n) bytes 8 ≡ Ok i.boot =
    word_again (is_boot_word n) n bytes (magic ++ number n) (flat_map cell i.cells) 8 i.boot le
    (record { kept = boot_rom n i.boot booted; exact = boot_exact n i.boot booted }) booted refl refl in
    let cells : cells_at n bytes 12 n ≡ Ok i.cells =
    cells_again n bytes (magic ++ number n ++ word i.boot) [] 12 i.cells le kept good.exact
    (ap (λ (f : List ℕ). (magic ++ number n ++ word i.boot) ++ f) (sym (append-nil (flat_map cell i.cells)))) refl in
    let end : ltb (12 + 16 * n) (length bytes) ≡ false = le-ltb _ _ (omega (arith, spelled_len i)) in
    rw (many, counted, boot, cells, end) refl
