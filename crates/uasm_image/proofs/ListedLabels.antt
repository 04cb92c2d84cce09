-- The labels of a listing: where they stand, that they are names, and that no two are the same.
use Rattle.std.proofs.Common.{◌≡◌, ℕ, ◌+◌, ◌<◌, ◌≤◌, ◌^◌, Bool, true, false, List, [], ◌∷◌, ◌++◌, length, Some, None, refl, sym, ap, ◌∙◌, subst, arith, nat_eq, append_assoc, inl, inr}
use Rattle.std.specs.Prelude.{◌&&◌, ◌||◌, not, if◌then◌else◌}
use Rattle.std.specs.List.{list_all}
use Rattle.std.specs.Str.{bytes_eq}
use Rattle.std.proofs.lemmas.Bool.{eq-eqb, ne_eqb, cases_eq, and_from, and_right, or_from, not_from_false, cond-true, cond-false}
use Rattle.std.proofs.lemmas.Bool.Decides.{Decides-eqb}
use Rattle.std.proofs.lemmas.List.Folds.{list_any-append}
use Rattle.cap_words.specs.declared.word.Quad.{Quad}
use Rattle.cap_words.specs.Words.{W, Rom, same_word}
use Rattle.uasm_read.specs.declared.item.Item.{Item}
use Rattle.uasm_read.specs.Texts.{Name, has_name, is_name}
use Rattle.uasm_read.specs.Modules.{labels_in, are_different}
use Rattle.uasm_read.specs.Links.{label_number, boot_name}
use Rattle.uasm_image.specs.Listed.{cell_label, name_if, cell_labels, cell_item, cell_items}
use Rattle.uasm_image.proofs.Labels.{label_is_name, same_label, or_false}

-- ---- one item in front

module _ (at : ℕ) (item : Item) (items : List Item) (name : Name) where
  here : has_name item.labels name ≡ true → label_number at (item ∷ items) name ≡ Some at
  unfolding label_number
  here e = cond-true (has_name item.labels name) (Some at) (label_number (at + 1) items name) e

  behind : has_name item.labels name ≡ false → label_number at (item ∷ items) name ≡ label_number (at + 1) items name
  unfolding label_number
  behind e = cond-false (has_name item.labels name) (Some at) (label_number (at + 1) items name) e

-- a label that has a number is one
pub numbered_has : (at : ℕ) (items : List Item) (name : Name) (n : ℕ) → label_number at items name ≡ Some n
    → has_name (labels_in items) name ≡ true
unfolding label_number
numbered_has at [] name n h = absurd (let e : None ≡ Some n = h in cc)
numbered_has at (item ∷ items) name n h =
    list_any-append (bytes_eq name) item.labels (labels_in items)
    ∙ by_case (has_name item.labels name) refl h (numbered_has (at + 1) items name n)
  where
    by_case : (b : Bool) → has_name item.labels name ≡ b → (if b then Some at else label_number (at + 1) items name) ≡ Some n
        → (label_number (at + 1) items name ≡ Some n → has_name (labels_in items) name ≡ true)
        → (b || has_name (labels_in items) name) ≡ true
    by_case true e k more = refl
    by_case false e k more = more k

-- ---- the labels of one item

-- the labels of cell `at`, where it is or is not that of the boot word, and is named or not
abbrev labels : (boot named : Bool) → ℕ → List Name
labels boot named at = name_if boot boot_name ++ name_if named (cell_label at)

cell_alone : (boot named : Bool) (at k : ℕ) → has_name (labels boot named at) (cell_label k)
    ≡ (named && bytes_eq (cell_label k) (cell_label at))
cell_alone true true at k = or_false _
cell_alone true false at k = refl
cell_alone false true at k = or_false _
cell_alone false false at k = refl

has_boot : (boot named : Bool) (at : ℕ) → has_name (labels boot named at) boot_name ≡ boot
has_boot true true at = refl
has_boot true false at = refl
has_boot false true at = refl
has_boot false false at = refl

has_cell : (boot named : Bool) (at k : ℕ) → at < 2 ^ 32 → k < 2 ^ 32
    → has_name (labels boot named at) (cell_label k) ≡ (named && nat_eq k at)
has_cell boot named at k low lower = cell_alone boot named at k ∙ ap (λ b. named && b) (same_label k at lower low)

different_if : (b : Bool) (name : Name) (rest : List Name) → are_different rest ≡ true → (b ≡ true → has_name rest name ≡ false)
    → are_different (name_if b name ++ rest) ≡ true
different_if true name rest differ absent = and_from (not (has_name rest name)) (are_different rest)
    (not_from_false (has_name rest name) (absent refl)) differ
different_if false name rest differ absent = differ

names_if : (b : Bool) (name : Name) (rest : List Name) → is_name name ≡ true → list_all is_name rest ≡ true
    → list_all is_name (name_if b name ++ rest) ≡ true
names_if true name rest named all = and_from (is_name name) (list_all is_name rest) named all
names_if false name rest named all = all

boot_is_name : is_name boot_name ≡ true
unfolding is_name
boot_is_name = refl

behind_boot : (named : Bool) (at : ℕ) (rest : List Name) → has_name (name_if named (cell_label at) ++ rest) boot_name
    ≡ has_name rest boot_name
behind_boot true at rest = refl
behind_boot false at rest = refl

-- ---- the labels of all

module _ (boot : W) (named : ℕ → Bool) where
  -- where a cell that is named stands
  pub cell_number : (at : ℕ) (qs : List Quad) (k : ℕ) → at + length qs ≤ 2 ^ 32 → at ≤ k → k < at + length qs → named k ≡ true
      → label_number at (cell_items boot named at qs) (cell_label k) ≡ Some k
  unfolding cell_items
  cell_number at [] k few low high h = absurd (omega arith)
  cell_number at (q ∷ after) k few low high h = elim (cases_eq k at) [
    | inl e ↦
        here at (cell_item boot (named at) at q after) _ (cell_label k)
        (has_cell (same_word boot (Rom at)) (named at) at k (omega arith) (omega arith)
        ∙ and_from (named at) (nat_eq k at) (subst (λ n. named n ≡ true) e h) (eq-eqb k at e))
        ∙ ap (λ (n : ℕ). Some n) (sym e)
    | inr n ↦
        behind at (cell_item boot (named at) at q after) _ (cell_label k)
        (has_cell (same_word boot (Rom at)) (named at) at k (omega arith) (omega arith)
        ∙ and_right (named at) (nat_eq k at) (ne_eqb k at n))
        ∙ cell_number (at + 1) after k (omega arith) (let m = n in omega arith) (omega arith) h
  ]

  -- no cell behind has the label of one before
  cell_absent : (at : ℕ) (qs : List Quad) (k : ℕ) → at + length qs ≤ 2 ^ 32 → k < at
      → has_name (labels_in (cell_items boot named at qs)) (cell_label k) ≡ false
  unfolding cell_items
  cell_absent at [] k few low = refl
  cell_absent at (q ∷ after) k few low =
      list_any-append (bytes_eq (cell_label k)) (cell_labels boot (named at) at) (labels_in (cell_items boot named (at + 1) after))
      ∙ or_from (has_name (cell_labels boot (named at) at) (cell_label k)) _
      (has_cell (same_word boot (Rom at)) (named at) at k (omega arith) (omega arith)
      ∙ and_right (named at) (nat_eq k at) (ne_eqb k at (λ e. omega arith)))
      (cell_absent (at + 1) after k (omega arith) (omega arith))

  module _ (b : ℕ) (is : boot ≡ Rom b) where
    same_boot : (at : ℕ) → same_word boot (Rom at) ≡ nat_eq b at
    same_boot at = ap (λ w. same_word w (Rom at)) is

    -- where the boot cell stands
    pub boot_number : (at : ℕ) (qs : List Quad) → at ≤ b → b < at + length qs
        → label_number at (cell_items boot named at qs) boot_name ≡ Some b
    unfolding cell_items
    boot_number at [] low high = absurd (omega arith)
    boot_number at (q ∷ after) low high = elim (cases_eq b at) [
      | inl e ↦
          here at (cell_item boot (named at) at q after) _ boot_name
          (has_boot (same_word boot (Rom at)) (named at) at ∙ same_boot at ∙ eq-eqb b at e)
          ∙ ap (λ (n : ℕ). Some n) (sym e)
      | inr n ↦
          behind at (cell_item boot (named at) at q after) _ boot_name
          (has_boot (same_word boot (Rom at)) (named at) at ∙ same_boot at ∙ ne_eqb b at n)
          ∙ boot_number (at + 1) after (let m = n in omega arith) (omega arith)
    ]

    boot_absent : (at : ℕ) (qs : List Quad) → b < at → has_name (labels_in (cell_items boot named at qs)) boot_name ≡ false
    unfolding cell_items
    boot_absent at [] low = refl
    boot_absent at (q ∷ after) low =
        list_any-append (bytes_eq boot_name) (cell_labels boot (named at) at) (labels_in (cell_items boot named (at + 1) after))
        ∙ or_from (has_name (cell_labels boot (named at) at) boot_name) _
        (has_boot (same_word boot (Rom at)) (named at) at ∙ same_boot at ∙ ne_eqb b at (λ e. omega arith))
        (boot_absent (at + 1) after (omega arith))

    is_boot_at : (at : ℕ) → same_word boot (Rom at) ≡ true → b < at + 1
    is_boot_at at h = let e = Decides-eqb b at in let same = e.0 (sym (same_boot at) ∙ h) in omega arith

    pub all_differ : (at : ℕ) (qs : List Quad) → at + length qs ≤ 2 ^ 32 → are_different (labels_in (cell_items boot named at qs)) ≡ true
    unfolding cell_items
    all_differ at [] few = refl
    all_differ at (q ∷ after) few =
        let rest = labels_in (cell_items boot named (at + 1) after) in
        let own = name_if (named at) (cell_label at) in
        ap are_different (append_assoc (name_if (same_word boot (Rom at)) boot_name) own rest)
        ∙ different_if (same_word boot (Rom at)) boot_name (own ++ rest)
        (different_if (named at) (cell_label at) rest (all_differ (at + 1) after (omega arith))
        (λ e. cell_absent (at + 1) after at (omega arith) (omega arith)))
        (λ e. behind_boot (named at) at rest ∙ boot_absent (at + 1) after (is_boot_at at e))

  pub all_named : (at : ℕ) (qs : List Quad) → at + length qs ≤ 2 ^ 32 → list_all is_name (labels_in (cell_items boot named at qs)) ≡ true
  unfolding cell_items
  all_named at [] few = refl
  all_named at (q ∷ after) few =
      let rest = labels_in (cell_items boot named (at + 1) after) in
      let own = name_if (named at) (cell_label at) in
      ap (list_all is_name) (append_assoc (name_if (same_word boot (Rom at)) boot_name) own rest)
      ∙ names_if (same_word boot (Rom at)) boot_name (own ++ rest) boot_is_name
      (names_if (named at) (cell_label at) rest (label_is_name at (omega arith)) (all_named (at + 1) after (omega arith)))
