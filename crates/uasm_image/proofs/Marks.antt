-- Marks of the cells that operands name.
use Rattle.std.proofs.Common.{◌≡◌, ℕ, ◌+◌, ◌-◌, ◌<◌, ◌≤◌, ◌^◌, Bool, true, false, List, [], ◌∷◌, ◌++◌, length, get_or, set, take, refl, sym, ap, ◌∙◌, arith, nat_eq, nat_lt, inl, inr}
use Rattle.std.specs.Prelude.{◌||◌, if◌then◌else◌}
use Rattle.std.specs.Str.{bytes_eq}
use Rattle.std.proofs.lemmas.Bool.{cases_eq, eq-eqb, ne_eqb, or_right, ltb-true}
use Rattle.std.proofs.lemmas.List.{get_or-set_same, get_or-set_other, take-append-le, take_all}
use Rattle.std.proofs.lemmas.List.Folds.{list_any-append}
use Rattle.cap_words.specs.declared.word.Quad.{Quad}
use Rattle.cap_words.specs.declared.word.Kind.TheVariants.{Const as ConstKind, Rom as RomKind}
use Rattle.cap_words.specs.Words.{W, Fix, Rom, Ram, Cap, same_word, kind_of}
use Rattle.quad_memory.specs.Image.{is_rom_word, is_rom_quad}
use Rattle.uasm_read.specs.declared.operand.Operand.{Operand}
use Rattle.uasm_read.specs.declared.operand.Operand.TheVariants as operand
use Rattle.uasm_read.specs.Texts.{Name, has_name}
use Rattle.uasm_read.specs.Modules.{names_in}
use Rattle.uasm_image.specs.Listed.{cell_label, word_operand, is_followed, next_operand, names_of, operand_names, cell_item, cell_items}
use Rattle.uasm_image.proofs.Labels.{or_false}
use Rattle.uasm_image.proofs.ListedCells.{rom_parts, operand_names_cell}

-- ---- one word

pub marked : (xs : List Bool) (m k : ℕ) → 16 ≤ m → m < 16 + length xs
    → get_or (set xs (m - 16) true) k false ≡ (get_or xs k false || nat_eq m (16 + k))
marked xs m k low high = elim (cases_eq k (m - 16)) [
  | inl e ↦
      ap (λ n. get_or (set xs (m - 16) true) n false) e ∙ get_or-set_same xs (m - 16) true false (omega arith)
      ∙ sym (or_right (get_or xs k false) (nat_eq m (16 + k)) (eq-eqb m (16 + k) (omega arith)))
  | inr n ↦
      get_or-set_other xs (m - 16) k true false n
      ∙ sym (ap (λ b. get_or xs k false || b) (ne_eqb m (16 + k) (λ e. n (omega arith))) ∙ or_false (get_or xs k false))
]

-- a word that names no cell from 16 on
pub names_none : (w : W) (k : ℕ) → (kind_of w ≡ RomKind → ⊥) → same_word w (Rom (16 + k)) ≡ false
names_none (Fix n) k other = refl
names_none (Rom m) k other = by_case (nat_lt m 16) refl other
  where
    by_case : (b : Bool) → nat_lt m 16 ≡ b → ((if b then ConstKind else RomKind) ≡ RomKind → ⊥) → nat_eq m (16 + k) ≡ false
    by_case true is other = let low = ltb-true m 16 is in ne_eqb m (16 + k) (λ e. omega arith)
    by_case false is other = absurd (other refl)
names_none (Ram n) k other = refl
names_none (Cap n) k other = refl

-- ---- one cell

or_joined : (o a b c d : Bool) → ((((o || a) || b) || c) || d) ≡ (o || (a || (b || (c || (d || false)))))
or_joined true a b c d = refl
or_joined false true b c d = refl
or_joined false false true c d = refl
or_joined false false false true d = refl
or_joined false false false false d = sym (or_false d)

module _ (count : ℕ) (few : count ≤ 1048560) (at : ℕ) (q : Quad) (after : List Quad) (rom : is_rom_quad count q ≡ true) (k : ℕ)
    (low : 16 + k < 2 ^ 32) where
  has : Operand → Bool
  has word = has_name (names_in word) (cell_label (16 + k))

  names : W → Bool
  names w = same_word w (Rom (16 + k))

  names_split : has_name (names_of at q after) (cell_label (16 + k))
      ≡ (has (word_operand q.t) || (has (word_operand q.x) || (has (word_operand q.y) || (has (next_operand at q after) || false))))
  unfolding has
  names_split =
      let test = bytes_eq (cell_label (16 + k)) in
      let y = names_in (word_operand q.y) in
      let z = names_in (next_operand at q after) in
      list_any-append test (names_in (word_operand q.t)) (names_in (word_operand q.x) ++ (y ++ (z ++ [])))
      ∙ ap (λ b. has (word_operand q.t) || b)
      (list_any-append test (names_in (word_operand q.x)) (y ++ (z ++ []))
      ∙ ap (λ b. has (word_operand q.x) || b)
      (list_any-append test y (z ++ []) ∙ ap (λ b. has (word_operand q.y) || b) (list_any-append test z [])))

  word_named : (w : W) → is_rom_word count w ≡ true → has (word_operand w) ≡ names w
  unfolding has names
  word_named w h = operand_names_cell count few w (16 + k) h (omega arith) low

  cell_named : (next : Bool) → has (next_operand at q after) ≡ next
      → has_name (names_of at q after) (cell_label (16 + k)) ≡ (names q.t || (names q.x || (names q.y || (next || false))))
  cell_named next h =
      let own = rom_parts count q rom in
      names_split ∙ rw (word_named q.t own.0, word_named q.x own.1, word_named q.y own.2, h) refl

  -- the marks of all four words
  pub four_marked : (o : Bool) → is_followed at q after ≡ false
      → ((((o || same_word q.t (Rom (16 + k))) || same_word q.x (Rom (16 + k))) || same_word q.y (Rom (16 + k)))
      || same_word q.z (Rom (16 + k)))
      ≡ (o || has_name (names_of at q after) (cell_label (16 + k)))
  unfolding has names
  four_marked o h =
      or_joined o (names q.t) (names q.x) (names q.y) (names q.z)
      ∙ ap (λ b. o || b) (sym (cell_named (names q.z) (ap (λ b. has (if b then operand.Following else word_operand q.z)) h
      ∙ word_named q.z (rom_parts count q rom).3)))

  -- the marks of three words, where the cell goes on at the next one
  pub three_marked : (o : Bool) → is_followed at q after ≡ true
      → (((o || same_word q.t (Rom (16 + k))) || same_word q.x (Rom (16 + k))) || same_word q.y (Rom (16 + k)))
      ≡ (o || has_name (names_of at q after) (cell_label (16 + k)))
  unfolding has names
  three_marked o h =
      sym (or_false _) ∙ or_joined o (names q.t) (names q.x) (names q.y) false
      ∙ ap (λ b. o || b) (sym (cell_named false (ap (λ b. has (if b then operand.Following else word_operand q.z)) h)))

-- ---- cells one after the other

-- what was written to all of a slice
pub all_written : (n : ℕ) (xs ys : List Bool) → length xs ≡ n → take n (xs ++ ys) ≡ xs
all_written n xs ys e = take-append-le n xs ys (omega arith) ∙ take_all n xs (omega arith)

or_assoc : (a b c : Bool) → ((a || b) || c) ≡ (a || (b || c))
or_assoc true b c = refl
or_assoc false b c = refl

pub marks_on : (at : ℕ) (rest after : List Quad) (q : Quad) → rest ≡ q ∷ after → (name : Name) (old new total : Bool)
    → new ≡ (old || has_name (names_of at q after) name) → (old || has_name (operand_names at rest) name) ≡ total
    → (new || has_name (operand_names (at + 1) after) name) ≡ total
unfolding operand_names
marks_on at rest after q split name old new total is so_far =
    let test = bytes_eq name in
    ap (λ b. b || has_name (operand_names (at + 1) after) name) is
    ∙ or_assoc old (has_name (names_of at q after) name) (has_name (operand_names (at + 1) after) name)
    ∙ ap (λ b. old || b) (sym (list_any-append test (names_of at q after) (operand_names (at + 1) after)))
    ∙ sym (ap (λ qs. old || has_name (operand_names at qs) name) split) ∙ so_far

pub marks_done : (at : ℕ) (rest : List Quad) → rest ≡ [] → (name : Name) (old total : Bool)
    → (old || has_name (operand_names at rest) name) ≡ total → old ≡ total
unfolding operand_names
marks_done at rest none name old total so_far = sym (or_false old) ∙ sym (ap (λ qs. old || has_name (operand_names at qs) name) none)
    ∙ so_far

-- ---- items one after the other

pub items_front : (boot : W) (named : ℕ → Bool) (at : ℕ) (rest after : List Quad) (q : Quad) → rest ≡ q ∷ after
    → cell_items boot named at rest ≡ cell_item boot (named at) at q after ∷ cell_items boot named (at + 1) after
unfolding cell_items
items_front boot named at rest after q split = ap (cell_items boot named at) split

pub no_items : (boot : W) (named : ℕ → Bool) (at : ℕ) (rest : List Quad) → rest ≡ [] → cell_items boot named at rest ≡ []
unfolding cell_items
no_items boot named at rest none = ap (cell_items boot named at) none

-- the items are the same where the marks are
pub items_same : (boot : W) (f g : ℕ → Bool) (at : ℕ) (qs : List Quad) → ((k : ℕ) → at ≤ k → k < at + length qs → f k ≡ g k)
    → cell_items boot f at qs ≡ cell_items boot g at qs
unfolding cell_items
items_same boot f g at [] same = refl
items_same boot f g at (q ∷ after) same =
    ap (λ b. cell_item boot b at q after ∷ cell_items boot f (at + 1) after) (same at (omega arith) (omega arith))
    ∙ ap (λ rest. cell_item boot (g at) at q after ∷ rest) (items_same boot f g (at + 1) after
    (λ k low high. same k (omega arith) (omega arith)))
