-- What is read is spelled so: the bytes up to a place, from the values that reading gave.
use Rattle.std.proofs.Common.{◌≡◌, ℕ, zero, suc, ◌+◌, ◌*◌, ◌^◌, ◌<◌, ◌≤◌, Bool, true, false, cond, ltb, ◌&&◌, ◌||◌, List, [], ◌∷◌, ◌++◌, length, take, nat_eq, Result, Ok, IsTrue, ◌⊎◌, inl, inr, refl, sym, ap, subst, ◌∙◌, append_assoc, rules, arith}
use Rattle.std.specs.List.{flat_map, list_all, starts_with}
use Rattle.std.proofs.lemmas.Bool.{ltb-false}
use Rattle.std.proofs.lemmas.Bool.Decides.{Decides-eqb}
use Rattle.std.proofs.lemmas.Slice.Eq.{slice_eq-Decides}
use Rattle.std.proofs.lemmas.List.{append-nil, take_all}
use Rattle.cap_words.specs.declared.word.Quad.{Quad}
use Rattle.cap_words.specs.Words.{W}
use Rattle.quad_memory.specs.Image.{RomImage, is_cell_count, is_boot_word, is_rom_word, is_rom_quad}
use Rattle.uasm_image.specs.declared.error.ImageRefused.{ImageRefused}
use Rattle.uasm_image.specs.declared.error.ImageCause.TheVariants.{Magic, Count, Extra}
use Rattle.uasm_image.specs.Spelled.{number, word, cell, magic, spelled, is_exact_quad, IsImage}
use Rattle.uasm_image.specs.Reading.{◌>>=◌, fault, number_at, word_at, cell_at, cells_at, fits_magic, count_at, end_at, read}
use Rattle.uasm_image.proofs.Exact.{boot_rom}
use Rattle.uasm_image.proofs.Steps.{IsBytes, bind_ok, chosen, ok_is, err_no_ok, number_ok, IsGood, Fits, word_ok}

pub both : (a b : Bool) → a ≡ true → b ≡ true → (a && b) ≡ true
both a b p q = rw (p, q) refl

pub both_left : (a b : Bool) → (a && b) ≡ true → a ≡ true
both_left true b h = refl
both_left false b h = cc

pub both_right : (a b : Bool) → (a && b) ≡ true → b ≡ true
both_right true b h = h
both_right false b h = cc

pub cases_bool : (b : Bool) → (b ≡ true) ⊎ (b ≡ false)
cases_bool true = inl refl
cases_bool false = inr refl

other_side : (a b : Bool) → (a || b) ≡ true → a ≡ false → b ≡ true
other_side true b h miss = absurd cc
other_side false b h miss = h

-- the four words of a cell
abbrev pub words_of : Quad → List W
words_of q = q.t ∷ q.x ∷ q.y ∷ q.z ∷ []

-- a cell's words keep their rule
abbrev pub IsGoodQuad : ℕ → Quad → Type 0
IsGoodQuad count q = IsTrue (is_rom_quad count q) × IsTrue (is_exact_quad q)

pub good_quad : (count : ℕ) (q : Quad) → IsGood count q.t → IsGood count q.x → IsGood count q.y → IsGood count q.z → IsGoodQuad count q
good_quad count q t x y z = (search (rules, both, t.kept, x.kept, y.kept, z.kept), search (rules, both, t.exact, x.exact, y.exact, z.exact))

-- the words of a cell that stand at a place
pub record CellFits (count : ℕ) (bytes : List ℕ) (at : ℕ) (q : Quad) : Type 0 where
  pub t : Fits (is_rom_word count) count bytes at q.t
  pub x : Fits (is_rom_word count) count bytes (at + 4) q.x
  pub y : Fits (is_rom_word count) count bytes (at + 8) q.y
  pub z : Fits (is_rom_word count) count bytes (at + 12) q.z

pub cell_ok : (count : ℕ) (bytes : List ℕ) (at : ℕ) (q : Quad) → IsBytes bytes → cell_at count bytes at ≡ Ok q → CellFits count bytes at q
unfolding cell_at
cell_ok count bytes at q fits e =
    let rule = is_rom_word count in
    let one = λ (from : ℕ) (w : W) (h : word_at rule bytes from ≡ Ok w). word_ok rule count bytes from w (λ v k. k) fits h in
    let t = bind_ok (word_at rule bytes at) (λ t. word_at rule bytes (at + 4) >>= λ x. word_at rule bytes (at + 8) >>= λ y. word_at rule bytes
    (at + 12) >>= λ z. Ok (record { t = t; x = x; y = y; z = z })) q e in
    let x = bind_ok (word_at rule bytes (at + 4)) (λ x. word_at rule bytes (at + 8) >>= λ y. word_at rule bytes (at + 12) >>= λ z. Ok
    (record { t = t.0; x = x; y = y; z = z })) q t.2 in
    let y = bind_ok (word_at rule bytes (at + 8)) (λ y. word_at rule bytes (at + 12) >>= λ z. Ok (record { t = t.0; x = x.0; y = y; z = z })) q x.2 in
    let z = bind_ok (word_at rule bytes (at + 12)) (λ z. Ok (record { t = t.0; x = x.0; y = y.0; z = z })) q y.2 in
    let made : Quad = record { t = t.0; x = x.0; y = y.0; z = z.0 } in
    subst (λ (c : Quad). CellFits count bytes at c) (ok_is made q z.2)
    (record { t = one at t.0 t.1; x = one (at + 4) x.0 x.1; y = one (at + 8) y.0 y.1; z = one (at + 12) z.0 z.1 })

cell_same : (count : ℕ) (bytes : List ℕ) (at : ℕ) (q : Quad) → CellFits count bytes at q → take (at + 16) bytes ≡ take at bytes ++ cell q
cell_same count bytes at q f =
    let e : take (at + 16) bytes ≡ take (at + 12) bytes ++ word q.z =
    subst (λ (k : ℕ). take k bytes ≡ take (at + 12) bytes ++ word q.z) (omega arith) f.z.same in
    let d : take (at + 12) bytes ≡ take (at + 8) bytes ++ word q.y =
    subst (λ (k : ℕ). take k bytes ≡ take (at + 8) bytes ++ word q.y) (omega arith) f.y.same in
    let b : take (at + 8) bytes ≡ take (at + 4) bytes ++ word q.x =
    subst (λ (k : ℕ). take k bytes ≡ take (at + 4) bytes ++ word q.x) (omega arith) f.x.same in
    rw (e, d, b, f.t.same) (simp append_assoc)

-- cells that stand from a place on
pub record CellsFit (count : ℕ) (bytes : List ℕ) (at n : ℕ) (qs : List Quad) : Type 0 where
  pub many : length qs ≡ n
  pub kept : IsTrue (list_all (is_rom_quad count) qs)
  pub exact : IsTrue (list_all is_exact_quad qs)
  pub same : take (at + 16 * n) bytes ≡ take at bytes ++ flat_map cell qs
  pub whole : at + 16 * n ≤ length bytes

pub cells_ok : (count : ℕ) (bytes : List ℕ) (at n : ℕ) (qs : List Quad) → IsBytes bytes → at ≤ length bytes → cells_at count bytes at n ≡ Ok qs
    → CellsFit count bytes at n qs
unfolding cells_at
cells_ok count bytes at zero qs fits le e =
    subst (λ (ps : List Quad). CellsFit count bytes at 0 ps) (ok_is [] qs e)
    (record {
      many = refl;
      kept = refl;
      exact = refl;
      same = let z : at + 16 * 0 ≡ at =
          omega arith in rw z (sym (append-nil (take at bytes)));
      whole = omega arith;
    })
cells_ok count bytes at (suc n) qs fits le e =
    let a = bind_ok (cell_at count bytes at) (λ q. cells_at count bytes (at + 16) n >>= λ more. Ok (q ∷ more)) qs e in
    let b = bind_ok (cells_at count bytes (at + 16) n) (λ more. Ok (a.0 ∷ more)) qs a.2 in
    let first = cell_ok count bytes at a.0 fits a.1 in
    let reach : at + 16 ≤ length bytes = let h = first.z.whole in omega arith in
    let rest = cells_ok count bytes (at + 16) n b.0 fits reach b.1 in
    let good = good_quad count a.0 first.t.good first.x.good first.y.good first.z.good in
    let place : at + 16 + 16 * n ≡ at + 16 * suc n = omega arith in
    let joined : take (at + 16 * suc n) bytes ≡ take at bytes ++ flat_map cell (a.0 ∷ b.0) =
    ap (λ k. take k bytes) (sym place) ∙ rest.same ∙ ap (λ f. f ++ flat_map cell b.0) (cell_same count bytes at a.0 first)
    ∙ append_assoc (take at bytes) (cell a.0) (flat_map cell b.0) in
    subst (λ (ps : List Quad). CellsFit count bytes at (suc n) ps) (ok_is (a.0 ∷ b.0) qs b.2)
    (record {
      many = ap suc rest.many;
      kept = both _ _ good.0 rest.kept;
      exact = both _ _ good.1 rest.exact;
      same = joined;
      whole = subst (λ (k : ℕ). k ≤ length bytes) place rest.whole;
    })

-- ---- the magic and the count

pub magic_is : (bytes : List ℕ) → fits_magic bytes ≡ true → (take 4 bytes ≡ magic) ⊎ (bytes ≡ take (length bytes) magic)
magic_is bytes e =
    elim (cases_bool (starts_with nat_eq bytes magic)) [
      | inl hit ↦ inl (sym ((slice_eq-Decides Decides-eqb magic (take 4 bytes) _ refl).0 hit))
      | inr miss ↦ inr ((slice_eq-Decides Decides-eqb bytes (take (length bytes) magic) _ refl).0 (other_side _ _ e miss))
    ]

pub magic_stands : (bytes : List ℕ) → fits_magic bytes ≡ true → 4 ≤ length bytes → take 4 bytes ≡ magic
magic_stands bytes e long =
    elim (magic_is bytes e) [
      | inl hit ↦ hit
      | inr front ↦
          let all : take (length bytes) magic ≡ magic = take_all (length bytes) magic long in
          let same : bytes ≡ magic = front ∙ all in
          rw same refl
    ]

-- the head of an image of n cells
pub record HeadFits (bytes : List ℕ) (n : ℕ) : Type 0 where
  pub counted : IsTrue (is_cell_count n)
  pub same : take 8 bytes ≡ magic ++ number n
  pub whole : 8 ≤ length bytes
  pub below : n < 2 ^ 32

pub count_ok : (bytes : List ℕ) (n : ℕ) → IsBytes bytes → count_at bytes ≡ Ok n → HeadFits bytes n
unfolding count_at
count_ok bytes n fits e =
    elim (chosen (fits_magic bytes) (number_at bytes 4 >>= λ m. cond (is_cell_count m) (Ok m) (fault 4 Count)) (fault 0 Magic) (Ok n) e) [
      | inl hit ↦
          let b = bind_ok (number_at bytes 4) (λ m. cond (is_cell_count m) (Ok m) (fault 4 Count)) n hit.1 in
          let s = number_ok bytes 4 b.0 fits b.1 in
          elim (chosen (is_cell_count b.0) (Ok b.0) (fault 4 Count) (Ok n) b.2) [
            | inl counted ↦
                subst (λ (m : ℕ). HeadFits bytes m) (ok_is _ _ counted.1)
                (record {
                  counted = counted.0;
                  same = s.same ∙ ap (λ f. f ++ number b.0)
                      (magic_stands bytes hit.0 (let w = s.whole in omega arith));
                  whole = s.whole;
                  below = s.below;
                })
            | inr miss ↦ err_no_ok _ _ miss.1
          ]
      | inr miss ↦ err_no_ok _ _ miss.1
    ]

-- ---- the image

-- an image whose bytes are the first ones
pub record Fronts (bytes : List ℕ) (count : ℕ) (i : RomImage) : Type 0 where
  pub image : IsImage i
  pub same : spelled i ≡ take (12 + 16 * count) bytes
  pub len : length (spelled i) ≡ 12 + 16 * count

cells_len : (qs : List Quad) → length (flat_map cell qs) ≡ 16 * length qs
cells_len [] = refl
cells_len (q ∷ qs) = let h = cells_len qs in omega (arith, h)

pub spelled_len : (i : RomImage) → length (spelled i) ≡ 12 + 16 * length i.cells
spelled_len i = omega (arith, cells_len i.cells)

pub fronts : (bytes : List ℕ) (count : ℕ) (boot : W) (cells : List Quad) → HeadFits bytes count → Fits (is_boot_word count) count bytes 8 boot
    → CellsFit count bytes 12 count cells
    → Fronts bytes count (record { boot = boot; cells = cells })
fronts bytes count boot cells head boots fit =
    let many = fit.many in
    record {
      image = record {
        rules = subst (λ (k : ℕ). IsTrue (is_cell_count k && is_boot_word k boot && list_all (is_rom_quad k) cells)) (sym many)
            (both _ _ (both _ _ head.counted boots.rule_kept) fit.kept);
        exact = fit.exact;
      };
      same = ap (λ (k : ℕ). magic ++ number k ++ word boot ++ flat_map cell cells) many
          ∙ sym (fit.same ∙ ap (λ (f : List ℕ). f ++ flat_map cell cells) (boots.same ∙ ap (λ (f : List ℕ). f ++ word boot) head.same));
      len = spelled_len (record { boot = boot; cells = cells }) ∙ ap (λ k. 12 + 16 * k) many;
    }

-- an image that stands in all the bytes
pub record Whole (bytes : List ℕ) (i : RomImage) : Type 0 where
  pub image : IsImage i
  pub same : bytes ≡ spelled i

-- what follows the count, the boot word and the cells in reading
abbrev pub after_count : List ℕ → ℕ → Result RomImage ImageRefused
after_count bytes count = word_at (is_boot_word count) bytes 8 >>= λ boot. cells_at count bytes 12 count >>= λ cells. end_at bytes
    (12 + 16 * count) >>= λ end. Ok (record { boot = boot; cells = cells })

abbrev pub after_boot : List ℕ → ℕ → W → Result RomImage ImageRefused
after_boot bytes count boot = cells_at count bytes 12 count >>= λ cells. end_at bytes (12 + 16 * count) >>= λ end. Ok
    (record { boot = boot; cells = cells })

abbrev pub after_cells : List ℕ → ℕ → W → List Quad → Result RomImage ImageRefused
after_cells bytes count boot cells = end_at bytes (12 + 16 * count) >>= λ end. Ok (record { boot = boot; cells = cells })

end_ok : (bytes : List ℕ) (at : ℕ) (u : Unit {0}) → end_at bytes at ≡ Ok u → length bytes ≤ at
end_ok bytes at u e =
    elim (chosen (ltb at (length bytes)) (fault at Extra) (Ok tt) (Ok u) e) [
      | inl long ↦ err_no_ok _ _ long.1
      | inr end ↦ ltb-false _ _ end.0
    ]

pub read_ok : (bytes : List ℕ) (i : RomImage) → IsBytes bytes → read bytes ≡ Ok i → Whole bytes i
unfolding read
read_ok bytes i fits e =
    let a = bind_ok (count_at bytes) (after_count bytes) i e in
    let b = bind_ok (word_at (is_boot_word a.0) bytes 8) (after_boot bytes a.0) i a.2 in
    let d = bind_ok (cells_at a.0 bytes 12 a.0) (after_cells bytes a.0 b.0) i b.2 in
    let end = bind_ok (end_at bytes (12 + 16 * a.0)) (λ u. Ok (record { boot = b.0; cells = d.0 })) i d.2 in
    let head = count_ok bytes a.0 fits a.1 in
    let boot = word_ok (is_boot_word a.0) a.0 bytes 8 b.0 (boot_rom a.0) fits b.1 in
    let cells = cells_ok a.0 bytes 12 a.0 d.0 fits boot.whole d.1 in
    let f = fronts bytes a.0 b.0 d.0 head boot cells in
    let short = end_ok bytes (12 + 16 * a.0) end.0 end.1 in
    subst (λ (j : RomImage). Whole bytes j) (ok_is _ _ end.2) (record { image = f.image; same = sym (f.same ∙ take_all (12 + 16 * a.0) bytes short) })
