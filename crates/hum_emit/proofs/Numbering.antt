-- Where the labels of a module stand.
use Rattle.std.proofs.Common.{◌≡◌, ℕ, zero, suc, ◌+◌, ◌-◌, ◌<◌, ◌≤◌, ◌^◌, Bool, true, false, List, [], ◌∷◌, ◌++◌, length, Some, None, refl, ap, ◌∙◌, subst, arith, nat_eq, inl, inr}
use Rattle.std.specs.Prelude.{◌||◌, if◌then◌else◌, slice_get}
use Rattle.std.specs.Str.{bytes_eq}
use Rattle.std.proofs.lemmas.Bool.{eq-eqb, ne_eqb, eqb-true, eqb-false, cases_eq, and_from, and_left, and_right, cond-true, cond-false}
use Rattle.std.proofs.lemmas.List.Folds.{list_any-append}
use Rattle.std.proofs.lemmas.Option.{slice_get_within}
use Rattle.uasm_read.specs.declared.item.Item.{Item}
use Rattle.uasm_read.specs.Texts.{Name, has_name}
use Rattle.uasm_read.specs.Modules.{labels_in}
use Rattle.uasm_read.specs.Links.{label_number}
use Rattle.hum_emit.specs.declared.instruction.Instruction.{Instruction}
use Rattle.hum_emit.specs.declared.instruction.Datum.{Datum}
use Rattle.hum_emit.specs.Module.{code_label, unit_label, datum_label, apply_label, boot_label, begins, labels_of, item_of, rest_if, code_items, datum_item, datum_items}
use Rattle.hum_emit.specs.Runtime.{apply_place}
use Rattle.hum_emit.specs.Made.{Descend}
use Rattle.hum_emit.proofs.ItemLabels.{same_number, or_false, has_code, has_unit, has_datum, has_apply, has_boot}

-- ---- one item in front

module _ (at : ℕ) (item : Item) (items : List Item) (name : Name) where
  pub here : has_name item.labels name ≡ true → label_number at (item ∷ items) name ≡ Some at
  unfolding label_number
  here e = cond-true (has_name item.labels name) (Some at) (label_number (at + 1) items name) e

  pub behind : has_name item.labels name ≡ false → label_number at (item ∷ items) name ≡ label_number (at + 1) items name
  unfolding label_number
  behind e = cond-false (has_name item.labels name) (Some at) (label_number (at + 1) items name) e

-- a label that has a number is one
pub numbered_has : (at : ℕ) (items : List Item) (name : Name) (n : ℕ) → label_number at items name ≡ Some n → has_name (labels_in items) name ≡ true
unfolding label_number
numbered_has at [] name n h = absurd (let e : None ≡ Some n = h in cc)
numbered_has at (item ∷ items) name n h =
    list_any-append (bytes_eq name) item.labels (labels_in items)
    ∙ by_case (has_name item.labels name) refl h (numbered_has (at + 1) items name n)
  where
    by_case : (b : Bool) → has_name item.labels name ≡ b → (if b then Some at else label_number (at + 1) items name) ≡ Some n
        → (label_number (at + 1) items name ≡ Some n → has_name (labels_in items) name ≡ true) → (b || has_name (labels_in items) name) ≡ true
    by_case true e k more = refl
    by_case false e k more = more k

-- ---- the items of instructions, before further ones

-- what descends is below what it descends from
pub entry_below : (size : ℕ) (entries : List ℕ) (m e : ℕ) → Descend size entries → slice_get entries m ≡ Some e → e < size
entry_below size [] m e descend h = absurd (let z : None ≡ Some e = h in cc)
entry_below size (entry ∷ entries) zero e descend h = (let z : Some entry ≡ Some e = h in let same : entry ≡ e = cc in let low = descend.0 in omega arith)
entry_below size (entry ∷ entries) (suc m) e descend h = (let low = entry_below entry entries m e descend.1 h in let first = descend.0 in omega arith)

pub entries_few : (size : ℕ) (entries : List ℕ) → Descend size entries → length entries ≤ size
entries_few size [] descend = omega arith
entries_few size (entry ∷ entries) descend = (let few = entries_few entry entries descend.1 in let first = descend.0 in omega arith)

module _ (size : ℕ) (tail : List Item) where
  abbrev pub items_from : List Instruction → (k : ℕ) → List ℕ → List Item
  items_from xs k entries = code_items size xs k entries ++ tail

  pub code_number : (at : ℕ) (xs : List Instruction) (k : ℕ) (entries : List ℕ) (j : ℕ) → length xs ≤ 2 ^ 32 → j < length xs
      → label_number at (items_from xs k entries) (code_label j) ≡ Some (at + (length xs - suc j))
  code_number at [] k entries j low h = absurd (omega arith)
  code_number at (x ∷ xs) k entries j low h = elim (cases_eq j (length xs)) [
    | inl e ↦
        here at (item_of (labels_of size (length xs) k entries) x) _ (code_label j) (has_code size (length xs) k entries j (omega arith) (omega arith) ∙ eq-eqb j (length xs) e)
        ∙ ap Some (let z : at ≡ at + (suc (length xs) - suc j) = omega arith in z)
    | inr n ↦
        let below : j < length xs = (let m = n in omega arith) in
        behind at (item_of (labels_of size (length xs) k entries) x) _ (code_label j) (has_code size (length xs) k entries j (omega arith) (omega arith) ∙ ne_eqb j (length xs) n)
        ∙ code_number (at + 1) xs (if begins entries (length xs) then suc k else k) (rest_if (begins entries (length xs)) entries) j (omega arith) below
        ∙ ap Some (let z : at + 1 + (length xs - suc j) ≡ at + (suc (length xs) - suc j) = omega arith in z)
  ]

  pub datum_number : (at : ℕ) (xs : List Instruction) (k : ℕ) (entries : List ℕ) (j : ℕ)
      → label_number at (items_from xs k entries) (datum_label j) ≡ label_number (at + length xs) tail (datum_label j)
  datum_number at [] k entries j = ap (λ a. label_number a tail (datum_label j)) (let z : at ≡ at + 0 = omega arith in z)
  datum_number at (x ∷ xs) k entries j =
      behind at (item_of (labels_of size (length xs) k entries) x) _ (datum_label j) (has_datum size (length xs) k entries j)
      ∙ datum_number (at + 1) xs (if begins entries (length xs) then suc k else k) (rest_if (begins entries (length xs)) entries) j
      ∙ ap (λ a. label_number a tail (datum_label j)) (let z : at + 1 + length xs ≡ at + suc (length xs) = omega arith in z)

  -- the first instruction of a unit that is to come
  pub unit_number : (at : ℕ) (xs : List Instruction) (k : ℕ) (entries : List ℕ) (m e : ℕ)
      → k + length entries ≤ 2 ^ 32 → Descend (length xs) entries → slice_get entries m ≡ Some e
      → label_number at (items_from xs k entries) (unit_label (k + m)) ≡ Some (at + (length xs - suc e))
  unit_number at xs k [] m e low descend h = absurd (let z : None ≡ Some e = h in cc)
  unit_number at [] k (entry ∷ entries) m e low descend h = absurd (let z : entry < 0 = descend.0 in omega arith)
  unit_number at (x ∷ xs) k (entry ∷ entries) m e low descend h =
      by_case (nat_eq entry (length xs)) refl (λ at k entries m e low descend h. unit_number at xs k entries m e low descend h) m h
    where
      item : Item
      item = item_of (labels_of size (length xs) k (entry ∷ entries)) x

      by_case : (b : Bool) → nat_eq entry (length xs) ≡ b
          → ((at k : ℕ) (entries : List ℕ) (m e : ℕ) → k + length entries ≤ 2 ^ 32 → Descend (length xs) entries → slice_get entries m ≡ Some e
          → label_number at (items_from xs k entries) (unit_label (k + m)) ≡ Some (at + (length xs - suc e)))
          → (m : ℕ) → slice_get (entry ∷ entries) m ≡ Some e
          → label_number at (item ∷ code_items size xs (if b then suc k else k) (rest_if b (entry ∷ entries)) ++ tail) (unit_label (k + m)) ≡ Some (at + (suc (length xs) - suc e))
      by_case true z again zero h =
          let first : Some entry ≡ Some e = h in
          let is : entry ≡ length xs = eqb-true entry (length xs) z in
          let same : entry ≡ e = cc in
          here at item _ (unit_label (k + 0))
          (has_unit size (length xs) k (entry ∷ entries) (k + 0) (omega arith) (omega arith) ∙ and_from (nat_eq entry (length xs)) _ z (eq-eqb (k + 0) k (omega arith)))
          ∙ ap Some (let n : at ≡ at + (suc (length xs) - suc e) = omega arith in n)
      by_case true z again (suc m) h =
          let is : entry ≡ length xs = eqb-true entry (length xs) z in
          let later : Descend (length xs) entries = subst (λ n. Descend n entries) is descend.1 in
          let below = entry_below (length xs) entries m e later h in
          let within : m < length entries = slice_get_within entries m e h in
          behind at item _ (unit_label (k + suc m))
          (has_unit size (length xs) k (entry ∷ entries) (k + suc m) (omega arith) (omega arith) ∙ and_right (nat_eq entry (length xs)) _ (ne_eqb (k + suc m) k (λ same. omega arith)))
          ∙ ap (λ n. label_number (at + 1) (items_from xs (suc k) entries) (unit_label n)) (let n : k + suc m ≡ suc k + m = omega arith in n)
          ∙ again (at + 1) (suc k) entries m e (omega arith) later h
          ∙ ap Some (let n : at + 1 + (length xs - suc e) ≡ at + (suc (length xs) - suc e) = omega arith in n)
      by_case false z again m h =
          let first : entry < suc (length xs) = descend.0 in
          let other = eqb-false entry (length xs) z in
          let lower : entry < length xs = (let n = other in omega arith) in
          let later : Descend (length xs) (entry ∷ entries) = (lower, descend.1) in
          let below = entry_below (length xs) (entry ∷ entries) m e later h in
          let within : m < suc (length entries) = slice_get_within (entry ∷ entries) m e h in
          behind at item _ (unit_label (k + m))
          (has_unit size (length xs) k (entry ∷ entries) (k + m) (omega arith) (omega arith) ∙ and_left (nat_eq entry (length xs)) _ z)
          ∙ again (at + 1) k (entry ∷ entries) m e low later h
          ∙ ap Some (let n : at + 1 + (length xs - suc e) ≡ at + (suc (length xs) - suc e) = omega arith in n)

-- ---- the items of data

pub data_number : (at j : ℕ) (ds : List Datum) (n : ℕ) → j + length ds ≤ 2 ^ 32 → n < length ds → label_number at (datum_items j ds) (datum_label (j + n)) ≡ Some (at + n)
data_number at j [] n low h = absurd (omega arith)
data_number at j (d ∷ ds) zero low h =
    here at (datum_item j d) (datum_items (suc j) ds) (datum_label (j + 0)) (or_false _ ∙ same_number 100 (j + 0) j (omega arith) (omega arith) ∙ eq-eqb (j + 0) j (omega arith))
    ∙ ap Some (let z : at ≡ at + 0 = omega arith in z)
data_number at j (d ∷ ds) (suc n) low h =
    behind at (datum_item j d) (datum_items (suc j) ds) (datum_label (j + suc n))
    (or_false _ ∙ same_number 100 (j + suc n) j (omega arith) (omega arith) ∙ ne_eqb (j + suc n) j (λ same. omega arith))
    ∙ ap (λ m. label_number (at + 1) (datum_items (suc j) ds) (datum_label m)) (let z : j + suc n ≡ suc j + n = omega arith in z)
    ∙ data_number (at + 1) (suc j) ds n (omega arith) (omega arith)
    ∙ ap Some (let z : at + 1 + n ≡ at + suc n = omega arith in z)

-- the last made instruction is the first item
pub boot_number : (size at : ℕ) (tail : List Item) (xs : List Instruction) (k : ℕ) (entries : List ℕ) → length xs ≡ size → 0 < size
    → label_number at (code_items size xs k entries ++ tail) boot_label ≡ Some at
boot_number size at tail [] k entries same some = absurd (omega arith)
boot_number size at tail (x ∷ xs) k entries same some =
    here at (item_of (labels_of size (length xs) k entries) x) _ boot_label (has_boot size (length xs) k entries ∙ eq-eqb (suc (length xs)) size same)

-- the routine that applies a behaviour begins at that instruction
pub apply_number : (size at : ℕ) (tail : List Item) (xs : List Instruction) (k : ℕ) (entries : List ℕ) → apply_place < length xs
    → label_number at (code_items size xs k entries ++ tail) apply_label ≡ Some (at + (length xs - suc apply_place))
apply_number size at tail [] k entries h = absurd (omega arith)
apply_number size at tail (x ∷ xs) k entries h = elim (cases_eq (length xs) apply_place) [
  | inl e ↦
      here at (item_of (labels_of size (length xs) k entries) x) _ apply_label (has_apply size (length xs) k entries ∙ eq-eqb (length xs) apply_place e)
      ∙ ap Some (let z : at ≡ at + (suc (length xs) - suc apply_place) = omega arith in z)
  | inr n ↦
      let above : apply_place < length xs = (let m = n in omega arith) in
      behind at (item_of (labels_of size (length xs) k entries) x) _ apply_label (has_apply size (length xs) k entries ∙ ne_eqb (length xs) apply_place n)
      ∙ apply_number size (at + 1) tail xs (if begins entries (length xs) then suc k else k) (rest_if (begins entries (length xs)) entries) above
      ∙ ap Some (let z : at + 1 + (length xs - suc apply_place) ≡ at + (suc (length xs) - suc apply_place) = omega arith in z)
]
