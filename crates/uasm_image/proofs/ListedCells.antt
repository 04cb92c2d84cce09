-- The operands of a listing: they are words, name cells that have labels, and link to the words that they stand for.
use Rattle.std.proofs.Common.{◌≡◌, ℕ, ◌+◌, ◌<◌, ◌≤◌, ◌^◌, Bool, true, false, List, [], ◌∷◌, ◌++◌, refl, sym, ap, ◌∙◌, arith, nat_eq, nat_lt}
use Rattle.std.specs.Prelude.{◌&&◌, if◌then◌else◌}
use Rattle.std.specs.List.{list_all, flat_map}
use Rattle.std.specs.Str.{bytes_eq}
use Rattle.std.proofs.lemmas.Bool.{and_parts, and_from, or_left, or_right, ltb-true, ltb-false}
use Rattle.std.proofs.lemmas.Bool.Decides.{nat_tests}
use Rattle.std.proofs.lemmas.List.Folds.{list_all-append}
use Rattle.std.proofs.lemmas.Slice.Eq.{bytes_eq-Decides}
use Rattle.cap_words.specs.declared.word.Quad.{Quad}
use Rattle.cap_words.specs.Words.{W, Fix, Rom, Ram, Cap, same_word}
use Rattle.cap_words.proofs.Same.{word_same}
use Rattle.quad_memory.specs.Image.{is_rom_word, is_rom_quad}
use Rattle.instr_table.specs.Code.{operation}
use Rattle.uasm_read.specs.declared.operand.Operand.{Operand}
use Rattle.uasm_read.specs.declared.operand.Operand.TheVariants as operand
use Rattle.uasm_read.specs.Texts.{Name, has_name}
use Rattle.uasm_read.specs.Modules.{names_in, is_word, used_in}
use Rattle.uasm_read.specs.Links.{linked_word, linked_cell, linked_cells}
use Rattle.uasm_read.specs.Laws.{IsWrittenAs}
use Rattle.uasm_image.specs.Spelled.{is_exact, is_exact_quad}
use Rattle.uasm_image.specs.Listed.{cell_label, word_operand, goes_on, is_instruction_first, is_followed, next_operand, cell_operands, names_of, operand_names, cell_items}
use Rattle.uasm_image.proofs.Labels.{label_is_name, same_label, or_false}

-- ---- cells and their words

pub four_parts : (a b c d : Bool) → (a && b && c && d) ≡ true → (a ≡ true) × (b ≡ true) × (c ≡ true) × (d ≡ true)
four_parts a b c d h =
    let last = and_parts (a && b && c) d h in
    let third = and_parts (a && b) c last.0 in
    let first = and_parts a b third.0 in
    (first.0, first.1, third.1, last.1)

-- what a cell of an image has in its four words
pub rom_parts : (count : ℕ) (q : Quad) → is_rom_quad count q ≡ true
    → (is_rom_word count q.t ≡ true) × (is_rom_word count q.x ≡ true) × (is_rom_word count q.y ≡ true) × (is_rom_word count q.z ≡ true)
rom_parts count q h = four_parts (is_rom_word count q.t) (is_rom_word count q.x) (is_rom_word count q.y) (is_rom_word count q.z) h

pub exact_parts : (q : Quad) → is_exact_quad q ≡ true
    → (is_exact q.t ≡ true) × (is_exact q.x ≡ true) × (is_exact q.y ≡ true) × (is_exact q.z ≡ true)
exact_parts q h = four_parts (is_exact q.t) (is_exact q.x) (is_exact q.y) (is_exact q.z) h

-- ---- tests of names

apart : (R : Name → Bool) (xs ys : List Name) → list_all R (xs ++ ys) ≡ true → (list_all R xs ≡ true) × (list_all R ys ≡ true)
apart R xs ys h = and_parts (list_all R xs) (list_all R ys) (sym (list_all-append R xs ys) ∙ h)

joined : (R : Name → Bool) (xs ys : List Name) → list_all R xs ≡ true → list_all R ys ≡ true → list_all R (xs ++ ys) ≡ true
joined R xs ys h k = list_all-append R xs ys ∙ and_from (list_all R xs) (list_all R ys) h k

names_apart : (R : Name → Bool) (t x y z : Operand) → list_all R (flat_map names_in (t ∷ x ∷ y ∷ z ∷ [])) ≡ true
    → (list_all R (names_in t) ≡ true) × (list_all R (names_in x) ≡ true) × (list_all R (names_in y) ≡ true) ×
    (list_all R (names_in z) ≡ true)
names_apart R t x y z h =
    let one = apart R (names_in t) (names_in x ++ (names_in y ++ (names_in z ++ []))) h in
    let two = apart R (names_in x) (names_in y ++ (names_in z ++ [])) one.1 in
    let three = apart R (names_in y) (names_in z ++ []) two.1 in
    let four = apart R (names_in z) [] three.1 in
    (one.0, two.0, three.0, four.0)

names_joined : (R : Name → Bool) (t x y z : Operand) → list_all R (names_in t) ≡ true → list_all R (names_in x) ≡ true
    → list_all R (names_in y) ≡ true → list_all R (names_in z) ≡ true → list_all R (flat_map names_in (t ∷ x ∷ y ∷ z ∷ [])) ≡ true
names_joined R t x y z ht hx hy hz =
    joined R (names_in t) (names_in x ++ (names_in y ++ (names_in z ++ []))) ht
    (joined R (names_in x) (names_in y ++ (names_in z ++ [])) hx
    (joined R (names_in y) (names_in z ++ []) hy (joined R (names_in z) [] hz refl)))

-- each of these names is one of them
each_there : (xs names : List Name) → ((name : Name) → has_name xs name ≡ true → has_name names name ≡ true)
    → list_all (has_name names) xs ≡ true
each_there [] names within = refl
each_there (x ∷ xs) names within =
    and_from (has_name names x) (list_all (has_name names) xs)
    (within x (or_left (bytes_eq x x) (has_name xs x) ((bytes_eq-Decides x x).1 refl)))
    (each_there xs names (λ name h. within name (or_right (bytes_eq name x) (has_name xs name) h)))

pub all_there : (names : List Name) → list_all (has_name names) names ≡ true
all_there names = each_there names names (λ name h. h)

-- ---- what a cell goes on at

pub followed_parts : (at : ℕ) (q : Quad) (after : List Quad) → is_followed at q after ≡ true
    → (goes_on (operation q) ≡ true) × (q.z ≡ Rom (at + 1)) × (is_instruction_first after ≡ true)
followed_parts at q after h =
    let last = and_parts (goes_on (operation q) && same_word q.z (Rom (at + 1))) (is_instruction_first after) h in
    let first = and_parts (goes_on (operation q)) (same_word q.z (Rom (at + 1))) last.0 in
    (first.0, word_same q.z (Rom (at + 1)) first.1, last.1)

-- the next operand, by whether the cell after it follows
abbrev next_by : Bool → Quad → Operand
next_by followed q = if followed then operand.Following else word_operand q.z

-- an operand of a ROM word, by whether that is a constant
abbrev rom_operand : Bool → ℕ → Operand
rom_operand const k = if const then operand.Const k else operand.Label (cell_label k)

module _ (count : ℕ) (few : count ≤ 1048560) where
  rom_low : (k : ℕ) → is_rom_word count (Rom k) ≡ true → k < 16 + count
  rom_low k h = ltb-true k (16 + count) h

  pub operand_word : (w : W) → is_rom_word count w ≡ true → is_exact w ≡ true → is_word (word_operand w) ≡ true
  operand_word (Fix n) h e = e
  operand_word (Rom k) h e = by_case (nat_lt k 16) refl
    where
      by_case : (b : Bool) → nat_lt k 16 ≡ b → is_word (rom_operand b k) ≡ true
      by_case true is = is
      by_case false is = let low = rom_low k h in label_is_name k (omega arith)
  operand_word (Ram n) h e = absurd (let z : false ≡ true = h in cc)
  operand_word (Cap n) h e = absurd (let z : false ≡ true = h in cc)

  pub operand_written : (w : W) → is_rom_word count w ≡ true → IsWrittenAs (word_operand w) w
  operand_written (Fix n) h = refl
  operand_written (Rom k) h = by_case (nat_lt k 16) refl
    where
      by_case : (b : Bool) → nat_lt k 16 ≡ b → IsWrittenAs (rom_operand b k) (Rom k)
      by_case true is = refl
      by_case false is = (k, ltb-false k 16 is, refl)
  operand_written (Ram n) h = absurd (let z : false ≡ true = h in cc)
  operand_written (Cap n) h = absurd (let z : false ≡ true = h in cc)

  eq_swap : (m n : ℕ) → nat_eq m n ≡ nat_eq n m
  eq_swap m n = grind (arith, nat_tests)

  below_other : (m k : ℕ) → m < 16 → 16 ≤ k → nat_eq m k ≡ false
  below_other m k low high = grind (arith, nat_tests)

  -- a cell is named by an operand where the operand's word names it
  pub operand_names_cell : (w : W) (k : ℕ) → is_rom_word count w ≡ true → 16 ≤ k → k < 2 ^ 32
      → has_name (names_in (word_operand w)) (cell_label k) ≡ same_word w (Rom k)
  operand_names_cell (Fix n) k h low high = refl
  operand_names_cell (Rom m) k h low high = by_case (nat_lt m 16) refl
    where
      by_case : (b : Bool) → nat_lt m 16 ≡ b → has_name (names_in (rom_operand b m)) (cell_label k) ≡ nat_eq m k
      by_case true is = sym (below_other m k (ltb-true m 16 is) low)
      by_case false is = let lower = rom_low m h in or_false _ ∙ same_label k m high (omega arith) ∙ eq_swap k m
  operand_names_cell (Ram n) k h low high = absurd (let z : false ≡ true = h in cc)
  operand_names_cell (Cap n) k h low high = absurd (let z : false ≡ true = h in cc)

  module _ (P : Name → Bool) where
    -- where the names of all operands have P, each name with P that is a cell's has Q
    module _ (Q : Name → Bool) (implies : (k : ℕ) → 16 ≤ k → k < 16 + count → P (cell_label k) ≡ true → Q (cell_label k) ≡ true) where
      word_used : (w : W) → is_rom_word count w ≡ true → list_all P (names_in (word_operand w)) ≡ true
          → list_all Q (names_in (word_operand w)) ≡ true
      word_used (Fix n) h p = refl
      word_used (Rom k) h p = by_case (nat_lt k 16) refl p
        where
          by_case : (b : Bool) → nat_lt k 16 ≡ b → list_all P (names_in (rom_operand b k)) ≡ true
              → list_all Q (names_in (rom_operand b k)) ≡ true
          by_case true is p = refl
          by_case false is p = and_from (Q (cell_label k)) true
              (implies k (ltb-false k 16 is) (rom_low k h) (and_parts (P (cell_label k)) true p).0) refl
      word_used (Ram n) h p = absurd (let z : false ≡ true = h in cc)
      word_used (Cap n) h p = absurd (let z : false ≡ true = h in cc)

      next_used : (at : ℕ) (q : Quad) (after : List Quad) → is_rom_word count q.z ≡ true
          → list_all P (names_in (next_operand at q after)) ≡ true
          → list_all Q (names_in (next_operand at q after)) ≡ true
      next_used at q after h p = by_case (is_followed at q after) p
        where
          by_case : (b : Bool) → list_all P (names_in (next_by b q)) ≡ true → list_all Q (names_in (next_by b q)) ≡ true
          by_case true p = refl
          by_case false p = word_used q.z h p

      pub names_used : (at : ℕ) (qs : List Quad) → list_all (is_rom_quad count) qs ≡ true → list_all P (operand_names at qs) ≡ true
          → list_all Q (operand_names at qs) ≡ true
      unfolding operand_names
      names_used at [] roms p = refl
      names_used at (q ∷ after) roms p =
          let parts = and_parts (is_rom_quad count q) (list_all (is_rom_quad count) after) roms in
          let own = rom_parts count q parts.0 in
          let both = apart P (names_of at q after) (operand_names (at + 1) after) p in
          let four = names_apart P (word_operand q.t) (word_operand q.x) (word_operand q.y) (next_operand at q after) both.0 in
          joined Q (names_of at q after) (operand_names (at + 1) after)
          (names_joined Q (word_operand q.t) (word_operand q.x) (word_operand q.y) (next_operand at q after)
          (word_used q.t own.0 four.0) (word_used q.x own.1 four.1) (word_used q.y own.2 four.2) (next_used at q after own.3 four.3))
          (names_used (at + 1) after parts.1 both.1)

    -- where the names of all operands have P, and each name with P that is a cell's stands for the cell, the operands link to their words
    module _ (words : Name → W) (found : (k : ℕ) → 16 ≤ k → k < 16 + count → P (cell_label k) ≡ true → words (cell_label k) ≡ Rom k) where
      word_linked : (at : ℕ) (w : W) → is_rom_word count w ≡ true → list_all P (names_in (word_operand w)) ≡ true
          → linked_word words at (word_operand w) ≡ w
      word_linked at (Fix n) h p = refl
      word_linked at (Rom k) h p = by_case (nat_lt k 16) refl p
        where
          by_case : (b : Bool) → nat_lt k 16 ≡ b → list_all P (names_in (rom_operand b k)) ≡ true
              → linked_word words at (rom_operand b k) ≡ Rom k
          by_case true is p = refl
          by_case false is p = found k (ltb-false k 16 is) (rom_low k h) (and_parts (P (cell_label k)) true p).0
      word_linked at (Ram n) h p = absurd (let z : false ≡ true = h in cc)
      word_linked at (Cap n) h p = absurd (let z : false ≡ true = h in cc)

      next_linked : (at : ℕ) (q : Quad) (after : List Quad) → is_rom_word count q.z ≡ true
          → list_all P (names_in (next_operand at q after)) ≡ true
          → linked_word words at (next_operand at q after) ≡ q.z
      next_linked at q after h p = by_case (is_followed at q after) refl p
        where
          by_case : (b : Bool) → is_followed at q after ≡ b → list_all P (names_in (next_by b q)) ≡ true
              → linked_word words at (next_by b q) ≡ q.z
          by_case true is p = sym (followed_parts at q after is).1
          by_case false is p = word_linked at q.z h p

      pub cells_linked : (boot : W) (named : ℕ → Bool) (at : ℕ) (qs : List Quad) → list_all (is_rom_quad count) qs ≡ true
          → list_all P (operand_names at qs) ≡ true
          → linked_cells words at (cell_items boot named at qs) ≡ qs
      unfolding linked_cells cell_items operand_names
      cells_linked boot named at [] roms p = refl
      cells_linked boot named at (q ∷ after) roms p =
          let parts = and_parts (is_rom_quad count q) (list_all (is_rom_quad count) after) roms in
          let own = rom_parts count q parts.0 in
          let both = apart P (names_of at q after) (operand_names (at + 1) after) p in
          let four = names_apart P (word_operand q.t) (word_operand q.x) (word_operand q.y) (next_operand at q after) both.0 in
          let cell : linked_cell words at (cell_operands at q after) ≡ q =
          same_quad (linked_word words at (word_operand q.t)) (linked_word words at (word_operand q.x))
          (linked_word words at (word_operand q.y))
          (linked_word words at (next_operand at q after)) q
          (word_linked at q.t own.0 four.0) (word_linked at q.x own.1 four.1) (word_linked at q.y own.2 four.2)
          (next_linked at q after own.3 four.3) in
          ap (λ (c : Quad). c ∷ linked_cells words (at + 1) (cell_items boot named (at + 1) after)) cell
          ∙ ap (λ (cs : List Quad). q ∷ cs) (cells_linked boot named (at + 1) after parts.1 both.1)
        where
          same_quad : (a b c d : W) (q : Quad) → a ≡ q.t → b ≡ q.x → c ≡ q.y → d ≡ q.z → record { t = a; x = b; y = c; z = d } ≡ q
          same_quad a b c d q ht hx hy hz = rw (ht, hx, hy, hz) refl

-- the names that the items use are those of the operands
pub used_names : (boot : W) (named : ℕ → Bool) (at : ℕ) (qs : List Quad) → used_in (cell_items boot named at qs) ≡ operand_names at qs
unfolding cell_items operand_names
used_names boot named at [] = refl
used_names boot named at (q ∷ after) = ap (λ names. names_of at q after ++ names) (used_names boot named (at + 1) after)
