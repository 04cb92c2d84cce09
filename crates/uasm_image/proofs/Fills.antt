-- Images whose bytes begin with words that were read.
use Rattle.std.proofs.Common.{◌≡◌, ℕ, zero, suc, ◌*◌, ◌<◌, ◌&&◌, List, [], ◌∷◌, ◌++◌, length, IsTrue, refl, sym, ap, subst, ◌∙◌, append_assoc, arith}
use Rattle.std.specs.List.{flat_map, list_all, AllByRecursion}
use Rattle.std.proofs.lemmas.Bool.Decides.{nat_tests}
use Rattle.cap_words.specs.declared.word.Quad.{Quad}
use Rattle.cap_words.specs.Words.{W, Rom, undef}
use Rattle.quad_memory.specs.Image.{RomImage, is_cell_count, is_boot_word, is_rom_quad}
use Rattle.uasm_image.specs.Spelled.{number, word, cell, magic, spelled, is_exact_quad, IsImage}
use Rattle.uasm_image.specs.Refused.{GoesOn}
use Rattle.uasm_image.proofs.Steps.{IsGood}
use Rattle.uasm_image.proofs.Whole.{both, good_quad}

-- ---- cells that begin with some words

-- that many cells, which are those of an image, spell these words and more
pub record Fills (count n : ℕ) (ws : List W) : Type 0 where
  pub cells : List Quad
  pub many : length cells ≡ n
  pub kept : IsTrue (list_all (is_rom_quad count) cells)
  pub exact : IsTrue (list_all is_exact_quad cells)
  pub next : ℕ
  pub rest : List ℕ
  pub same : flat_map cell cells ≡ flat_map word ws ++ next ∷ rest

blank_good : (count : ℕ) → IsGood count undef
blank_good count = record { kept = grind (arith, nat_tests); exact = refl }

pub record Blanks (count n : ℕ) : Type 0 where
  pub cells : List Quad
  pub many : length cells ≡ n
  pub kept : IsTrue (list_all (is_rom_quad count) cells)
  pub exact : IsTrue (list_all is_exact_quad cells)

blanks : (count n : ℕ) → Blanks count n
blanks count zero = record { cells = []; many = refl; kept = refl; exact = refl }
blanks count (suc n) =
    let b = blanks count n in
    let u = blank_good count in
    let q : Quad = record { t = undef; x = undef; y = undef; z = undef } in
    let g = good_quad count q u u u u in
    record { cells = q ∷ b.cells; many = ap suc b.many; kept = both _ _ g.0 b.kept; exact = both _ _ g.1 b.exact }

-- a first cell, and others behind it
with_first : (count n : ℕ) (q : Quad) (ws : List W) (next : ℕ) (rest : List ℕ) → IsGood count q.t → IsGood count q.x → IsGood count q.y
    → IsGood count q.z → (b : Blanks count n) → cell q ++ flat_map cell b.cells ≡ flat_map word ws ++ next ∷ rest
    → Fills count (suc n) ws
with_first count n q ws next rest t x y z b same =
    let g = good_quad count q t x y z in
    record {
      cells = q ∷ b.cells;
      many = ap suc b.many;
      kept = both _ _ g.0 b.kept;
      exact = both _ _ g.1 b.exact;
      next = next;
      rest =
          rest;
      same = same;
    }

pub fills : (count n : ℕ) (ws : List W) → AllByRecursion (IsGood count) ws → length ws < 4 * n → Fills count n ws
fills count zero ws good lt = absurd (omega arith)
fills count (suc n) [] good lt =
    let b = blanks count n in let u = blank_good count in
    with_first count n (record { t = undef; x = undef; y = undef; z = undef }) [] _ _ u u u u b refl
fills count (suc n) (t ∷ []) good lt =
    let b = blanks count n in let u = blank_good count in
    with_first count n (record { t = t; x = undef; y = undef; z = undef }) (t ∷ []) _ _ good.0 u u u b refl
fills count (suc n) (t ∷ x ∷ []) good lt =
    let b = blanks count n in let u = blank_good count in
    with_first count n (record { t = t; x = x; y = undef; z = undef }) (t ∷ x ∷ []) _ _ good.0 good.1.0 u u b refl
fills count (suc n) (t ∷ x ∷ y ∷ []) good lt =
    let b = blanks count n in let u = blank_good count in
    with_first count n (record { t = t; x = x; y = y; z = undef }) (t ∷ x ∷ y ∷ []) _ _ good.0 good.1.0 good.1.1.0 u b refl
fills count (suc n) (t ∷ x ∷ y ∷ z ∷ ws) good lt =
    let q : Quad = record { t = t; x = x; y = y; z = z } in
    let f = fills count n ws good.1.1.1.1 (omega arith) in
    let g = good_quad count q good.0 good.1.0 good.1.1.0 good.1.1.1.0 in
    record {
      cells = q ∷ f.cells;
      many = ap suc f.many;
      kept = both _ _ g.0 f.kept;
      exact = both _ _ g.1 f.exact;
      next = f.next;
      rest =
          f.rest;
      same = ap (λ (r : List ℕ). cell q ++ r) f.same;
    }

-- ---- the image of such cells

-- words that were read behind a boot word, fewer than an image has, begin an image that goes on
pub goes_on_words : (count : ℕ) (boot : W) (ws : List W) → IsTrue (is_cell_count count) → IsTrue (is_boot_word count boot)
    → AllByRecursion (IsGood count) ws → length ws < 4 * count
    → GoesOn ((magic ++ number count ++ word boot) ++ flat_map word ws)
goes_on_words count boot ws counted booted good lt =
    let f = fills count count ws good lt in
    let i : RomImage = record { boot = boot; cells = f.cells } in
    let is : IsImage i = record {
      rules = subst (λ (k : ℕ). IsTrue (is_cell_count k && is_boot_word k boot && list_all (is_rom_quad k) f.cells)) (sym f.many)
          (both _ _ (both _ _ counted booted) f.kept);
      exact = f.exact;
    } in
    let head = magic ++ number count ++ word boot in
    let same : spelled i ≡ (head ++ flat_map word ws) ++ f.next ∷ f.rest =
    ap (λ (k : ℕ). magic ++ number k ++ word boot ++ flat_map cell f.cells) f.many ∙ ap (λ (r : List ℕ). head ++ r) f.same
    ∙ sym (append_assoc head (flat_map word ws) (f.next ∷ f.rest)) in
    (i, is, f.next, f.rest, same)

boot_word : (count : ℕ) → IsTrue (is_cell_count count) → IsTrue (is_boot_word count (Rom 16))
boot_word count h = grind (arith, nat_tests)

-- the head begins an image that goes on
pub goes_on_head : (count : ℕ) → IsTrue (is_cell_count count) → GoesOn (magic ++ number count)
goes_on_head count counted =
    let g = goes_on_words count (Rom 16) [] counted (boot_word count counted) tt (let h = counted in grind (arith, nat_tests)) in
    (g.0, g.1, _, _, g.4)

pub goes_on_magic : GoesOn magic
goes_on_magic = let g = goes_on_head 1 refl in (g.0, g.1, _, _, g.4)

pub goes_on_none : GoesOn []
goes_on_none = let g = goes_on_magic in (g.0, g.1, _, _, g.4)
