-- What the bytes of an image hold behind a front that they share with others.
use Rattle.std.proofs.Common.{◌≡◌, ℕ, ◌^◌, ◌<◌, ◌≤◌, true, ◌&&◌, List, [], ◌∷◌, ◌++◌, length, IsTrue, refl, sym, ap, subst, ◌∙◌, append_assoc, arith}
use Rattle.std.specs.Int.{w32, from_le_bytes}
use Rattle.std.specs.List.{flat_map, list_all, AllByRecursion}
use Rattle.std.proofs.lemmas.Nat.{from_le_bytes-to_le_bytes_4}
use Rattle.cap_words.specs.declared.word.Quad.{Quad}
use Rattle.cap_words.specs.Words.{W, bits_of, word_of}
use Rattle.quad_memory.specs.Image.{RomImage, is_cell_count, is_boot_word, is_rom_word, is_rom_quad}
use Rattle.uasm_image.specs.Spelled.{number, word, cell, magic, spelled, is_exact_quad, IsImage}
use Rattle.uasm_image.proofs.Exact.{word_back, bits_below, boot_rom, boot_exact}
use Rattle.uasm_image.proofs.Steps.{IsGood}
use Rattle.uasm_image.proofs.Whole.{both_left, both_right, words_of}
use Rattle.uasm_image.proofs.Again.{good_words, count_below}

pub number_one : (a b : ℕ) → a < 2 ^ 32 → b < 2 ^ 32 → number a ≡ number b → a ≡ b
number_one a b la lb e = sym (from_le_bytes-to_le_bytes_4 a la) ∙ ap (from_le_bytes w32) e ∙ from_le_bytes-to_le_bytes_4 b lb

-- ---- the words of an image's cells

cells_words : (qs : List Quad) → flat_map cell qs ≡ flat_map word (flat_map words_of qs)
cells_words [] = refl
cells_words (q ∷ qs) = ap (λ (r : List ℕ). cell q ++ r) (cells_words qs)

all_good : (count : ℕ) (qs : List Quad) → IsTrue (list_all (is_rom_quad count) qs) → IsTrue (list_all is_exact_quad qs)
    → AllByRecursion (IsGood count) (flat_map words_of qs)
all_good count [] k e = tt
all_good count (q ∷ qs) k e =
    let g = good_words count q (both_left _ _ k) (both_left _ _ e) in
    (g.t, (g.x, (g.y, (g.z, all_good count qs (both_right _ _ k) (both_right _ _ e)))))

-- a word of these that has the bits n
pub record HasBits (count n : ℕ) : Type 0 where
  pub w : W
  pub good : IsGood count w
  pub same : word w ≡ number n

hit : (count n : ℕ) (vs ws : List W) (rest : List ℕ) → AllByRecursion (IsGood count) vs
    → flat_map word vs ≡ flat_map word ws ++ (number n ++ rest) → HasBits count n
hit count n [] [] rest good e = absurd cc
hit count n [] (w ∷ ws) rest good e = absurd cc
hit count n (v ∷ vs) [] rest good e = record { w = v; good = good.0; same = cc }
hit count n (v ∷ vs) (w ∷ ws) rest good e =
    let tail : flat_map word vs ≡ flat_map word ws ++ (number n ++ rest) = cc in
    hit count n vs ws rest good.1 tail

word_kept : (count n : ℕ) → count ≤ 1048560 → n < 2 ^ 32 → HasBits count n → IsTrue (is_rom_word count (word_of n))
word_kept count n le lt h =
    let bits : bits_of h.w ≡ n = number_one (bits_of h.w) n (bits_below count h.w le h.good.kept h.good.exact) lt h.same in
    let is : word_of n ≡ h.w = ap word_of (sym bits) ∙ word_back count h.w le h.good.kept h.good.exact in
    rw is h.good.kept

-- ---- an image with a front

-- the rules of an image that has that many cells
pub record Keeps (i : RomImage) (count : ℕ) : Type 0 where
  pub counted : IsTrue (is_cell_count count)
  pub booted : IsTrue (is_boot_word count i.boot)
  pub cells : IsTrue (list_all (is_rom_quad count) i.cells)

keeps : (i : RomImage) (count : ℕ) → IsImage i → count < 2 ^ 32 → number (length i.cells) ≡ number count → Keeps i count
keeps i count good lt e =
    let n = length i.cells in
    let counted : is_cell_count n ≡ true = both_left _ _ (both_left _ _ good.rules) in
    let le : n ≤ 1048560 = count_below n counted in
    let same : n ≡ count = number_one n count (omega (arith, le)) lt e in
    subst (λ (k : ℕ). Keeps i k) same
    (record {
      counted = counted;
      booted = both_right (is_cell_count n) _ (both_left _ _ good.rules);
      cells =
          both_right (is_cell_count n && is_boot_word n i.boot) _ good.rules;
    })

pub count_hit : (i : RomImage) (n : ℕ) (rest : List ℕ) → IsImage i → n < 2 ^ 32 → spelled i ≡ (magic ++ number n) ++ rest → IsTrue (is_cell_count n)
count_hit i n rest good lt e =
    let same : number (length i.cells) ≡ number n = cc in
    (keeps i n good lt same).counted

pub boot_hit : (i : RomImage) (count n : ℕ) (rest : List ℕ) → IsImage i → count < 2 ^ 32 → n < 2 ^ 32
    → spelled i ≡ ((magic ++ number count) ++ number n) ++ rest → IsTrue (is_boot_word count (word_of n))
boot_hit i count n rest good lt below e =
    let same : number (length i.cells) ≡ number count = cc in
    let k = keeps i count good lt same in
    let le = count_below count k.counted in
    let rom = boot_rom count i.boot k.booted in
    let exact = boot_exact count i.boot k.booted in
    let boot : word i.boot ≡ number n = cc in
    let bits : bits_of i.boot ≡ n = number_one (bits_of i.boot) n (bits_below count i.boot le rom exact) below boot in
    let is : word_of n ≡ i.boot = ap word_of (sym bits) ∙ word_back count i.boot le rom exact in
    rw is k.booted

pub word_hit : (i : RomImage) (count : ℕ) (boot : W) (ws : List W) (n : ℕ) (rest : List ℕ) → IsImage i → count < 2 ^ 32 → n < 2 ^ 32
    → spelled i ≡ (((magic ++ number count ++ word boot) ++ flat_map word ws) ++ number n) ++ rest → IsTrue (is_rom_word count (word_of n))
word_hit i count boot ws n rest good lt below e =
    let same : number (length i.cells) ≡ number count = cc in
    let k = keeps i count good lt same in
    let tail : flat_map cell i.cells ≡ (flat_map word ws ++ number n) ++ rest = cc in
    let words : flat_map word (flat_map words_of i.cells) ≡ flat_map word ws ++ (number n ++ rest) = sym (cells_words i.cells) ∙ tail
    ∙ append_assoc (flat_map word ws) (number n) rest in
    word_kept count n (count_below count k.counted) below (hit count n (flat_map words_of i.cells) ws rest
    (all_good count i.cells k.cells good.exact) words)
