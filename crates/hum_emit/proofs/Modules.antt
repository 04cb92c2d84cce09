-- What is made of a well made emission is a module.
use Rattle.std.proofs.Common.{◌≡◌, ℕ, suc, ◌+◌, ◌-◌, ◌<◌, ◌≤◌, ◌^◌, Bool, true, false, List, [], ◌∷◌, ◌++◌, length, reverse, Option, Some, None, refl, sym, ap, ◌∙◌, subst, arith}
use Rattle.std.specs.Prelude.{◌&&◌, if◌then◌else◌, slice_index, pos}
use Rattle.std.specs.List.{list_all, All}
use Rattle.std.specs.Str.{bytes_eq}
use Rattle.std.proofs.lemmas.Bool.{and_from, or_left, lt-ltb}
use Rattle.std.proofs.lemmas.List.{length-reverse}
use Rattle.std.proofs.lemmas.List.Elements.{All-head, All-tail}
use Rattle.std.proofs.lemmas.List.Folds.{list_any-append, list_all-append}
use Rattle.std.proofs.lemmas.List.Sorted.{All-permutation, IsPermutation-reverse}
use Rattle.std.proofs.lemmas.Option.{slice_get-get_or}
use Rattle.uasm_read.specs.declared.operand.Operand.{Operand}
use Rattle.uasm_read.specs.declared.operand.Operand.TheVariants as operand
use Rattle.uasm_read.specs.declared.item.Item.{Item}
use Rattle.uasm_read.specs.Texts.{Name, has_name, is_name}
use Rattle.uasm_read.specs.Modules.{labels_in, are_different, used_in, names_in, is_word, is_cell, are_items, is_module}
use Rattle.uasm_read.specs.Links.{label_number}
use Rattle.hum_emit.specs.declared.instruction.Field.{Field}
use Rattle.hum_emit.specs.declared.instruction.Field.TheVariants as field
use Rattle.hum_emit.specs.declared.instruction.Instruction.{Instruction}
use Rattle.hum_emit.specs.declared.instruction.Datum.{Datum}
use Rattle.hum_emit.specs.Module.{code_label, unit_label, datum_label, apply_label, boot_label, begins, operand_of, next_operand, labels_of, rest_if, item_of, code_items, datum_items, module_from}
use Rattle.hum_emit.specs.Runtime.{apply_place}
use Rattle.hum_emit.specs.Made.{Descend, FieldMade, NextMade, InstructionMade, DatumMade, Made}
use Rattle.hum_emit.proofs.Labels.{label_is_name}
use Rattle.hum_emit.proofs.Numbering.{numbered_has, entries_few, code_number, unit_number, datum_number, data_number, apply_number, boot_number}
use Rattle.hum_emit.proofs.Differences.{all_differ, all_named}

-- ---- the numbers of all labels

module _ (code : List Instruction) (cells : List Datum) (entries : List ℕ) (made : Made code cells entries) where
  abbrev pub items : List Item
  items = (module_from code cells entries).items

  backwards : length (reverse code) ≡ length code
  backwards = length-reverse code

  pub number_of_code : (i : ℕ) → i < length code → label_number 16 items (code_label i) ≡ Some (16 + (length code - suc i))
  number_of_code i h =
      let few = made.few_instructions in
      let same = backwards in
      code_number (length code) (datum_items 0 cells) 16 (reverse code) 0 entries i (omega arith) (omega arith)
      ∙ ap (λ n. Some (16 + (n - suc i))) same

  pub number_of_unit : (k : ℕ) → k < length entries → label_number 16 items (unit_label k) ≡ Some (16 + (length code - suc (slice_index entries k)))
  number_of_unit k h =
      let few = made.few_instructions in
      let units = entries_few (length code) entries made.entries_descend in
      let same = backwards in
      ap (λ n. label_number 16 items (unit_label n)) (let z : k ≡ 0 + k = omega arith in z)
      ∙ unit_number (length code) (datum_items 0 cells) 16 (reverse code) 0 entries k (slice_index entries k) (omega arith)
      (subst (λ n. Descend n entries) (sym same) made.entries_descend) (slice_get-get_or entries k 0 h)
      ∙ ap (λ n. Some (16 + (n - suc (slice_index entries k)))) same

  pub number_of_datum : (j : ℕ) → j < length cells → label_number 16 items (datum_label j) ≡ Some (16 + (length code + j))
  number_of_datum j h =
      let few = made.few_cells in
      let same = backwards in
      datum_number (length code) (datum_items 0 cells) 16 (reverse code) 0 entries j
      ∙ ap (λ n. label_number (16 + length (reverse code)) (datum_items 0 cells) (datum_label n)) (let z : j ≡ 0 + j = omega arith in z)
      ∙ data_number (16 + length (reverse code)) 0 cells j (omega arith) h
      ∙ ap Some (let z : 16 + length (reverse code) + j ≡ 16 + (length code + j) = omega arith in z)

  pub number_of_apply : apply_place < length code → label_number 16 items apply_label ≡ Some (16 + (length code - suc apply_place))
  number_of_apply h =
      let same = backwards in
      apply_number (length code) 16 (datum_items 0 cells) (reverse code) 0 entries (omega (arith, same, h)) ∙ ap (λ n. Some (16 + (n - suc apply_place))) same

  pub number_of_boot : label_number 16 items boot_label ≡ Some 16
  number_of_boot = boot_number (length code) 16 (datum_items 0 cells) (reverse code) 0 entries backwards made.some

-- ---- each word is one

module _ (size units count : ℕ) (few : size ≤ 2 ^ 32) (few_units : units ≤ 2 ^ 32) (few_data : count ≤ 2 ^ 32) where
  field_word : (f : Field) → FieldMade size units count f → is_word (operand_of f) ≡ true
  field_word (field.Number n) h = h
  field_word (field.Constant c) h = lt-ltb c 16 h
  field_word (field.Place i) h = label_is_name 99 i refl (omega arith)
  field_word (field.Unit k) h = label_is_name 117 k refl (omega arith)
  field_word (field.Data j) h = label_is_name 100 j refl (omega arith)

  four : (a b c d : Bool) → a ≡ true → b ≡ true → c ≡ true → d ≡ true → (a && b && c && d) ≡ true
  four a b c d ha hb hc hd = rw (ha, hb, hc, hd) refl

  word_cell : (x y : Operand) (next : Option ℕ) (after : List Item) → is_word x ≡ true → is_word y ≡ true → NextMade size units count next
      → is_cell (operand.Const 9 ∷ x ∷ y ∷ next_operand next ∷ []) after ≡ true
  word_cell x y None after hx hy h = four true (is_word x) (is_word y) true refl hx hy refl
  word_cell x y (Some i) after hx hy h = four true (is_word x) (is_word y) (is_name (code_label i)) refl hx hy (label_is_name 99 i refl (omega arith))

  instruction_cell : (labels : List Name) (x : Instruction) (after : List Item) → InstructionMade size units count x → is_cell (item_of labels x).cell after ≡ true
  instruction_cell labels x after made =
      let low = made.operation in
      word_cell (operand.Fix (pos x.operation)) (operand_of x.field) x.next after (lt-ltb x.operation (2 ^ 30) (omega arith)) (field_word x.field made.field) made.next

  datum_cells : (j : ℕ) (ds : List Datum) → All (DatumMade size units count) ds → are_items (datum_items j ds) ≡ true
  datum_cells j [] all = refl
  datum_cells j (d ∷ ds) all =
      let made = All-head (DatumMade size units count) d ds all in
      and_from (is_word (operand.Const d.kind) && is_word (operand_of d.first) && is_word (operand_of d.second) && true) (are_items (datum_items (suc j) ds))
      (four (is_word (operand.Const d.kind)) (is_word (operand_of d.first)) (is_word (operand_of d.second)) true
      (lt-ltb d.kind 16 made.kind) (field_word d.first made.first) (field_word d.second made.second) refl)
      (datum_cells (suc j) ds (All-tail (DatumMade size units count) d ds all))

  code_cells : (total : ℕ) (tail : List Item) → are_items tail ≡ true → (xs : List Instruction) (k : ℕ) (entries : List ℕ)
      → All (InstructionMade size units count) xs → are_items (code_items total xs k entries ++ tail) ≡ true
  code_cells total tail rest [] k entries all = rest
  code_cells total tail rest (x ∷ xs) k entries all =
      let b = begins entries (length xs) in
      let more = code_items total xs (if b then suc k else k) (rest_if b entries) ++ tail in
      and_from (is_cell (item_of (labels_of total (length xs) k entries) x).cell more) (are_items more)
      (instruction_cell (labels_of total (length xs) k entries) x more (All-head (InstructionMade size units count) x xs all))
      (code_cells total tail rest xs (if b then suc k else k) (rest_if b entries) (All-tail (InstructionMade size units count) x xs all))

-- ---- each name that is used is there

module _ (P : Name → Bool) (size units count : ℕ) (codes_in : (i : ℕ) → i < size → P (code_label i) ≡ true)
    (units_in : (k : ℕ) → k < units → P (unit_label k) ≡ true) (data_in : (j : ℕ) → j < count → P (datum_label j) ≡ true) where
  one : (name : Name) → P name ≡ true → list_all P (name ∷ []) ≡ true
  one name h = and_from (P name) true h refl

  field_in : (f : Field) → FieldMade size units count f → list_all P (names_in (operand_of f)) ≡ true
  field_in (field.Number n) h = refl
  field_in (field.Constant c) h = refl
  field_in (field.Place i) h = one (code_label i) (codes_in i h)
  field_in (field.Unit k) h = one (unit_label k) (units_in k h)
  field_in (field.Data j) h = one (datum_label j) (data_in j h)

  next_in : (next : Option ℕ) → NextMade size units count next → list_all P (names_in (next_operand next)) ≡ true
  next_in None h = refl
  next_in (Some i) h = one (code_label i) (codes_in i h)

  both : (xs ys : List Name) → list_all P xs ≡ true → list_all P ys ≡ true → list_all P (xs ++ ys) ≡ true
  both xs ys hx hy = list_all-append P xs ys ∙ and_from (list_all P xs) (list_all P ys) hx hy

  data_used : (j : ℕ) (ds : List Datum) → All (DatumMade size units count) ds → list_all P (used_in (datum_items j ds)) ≡ true
  data_used j [] all = refl
  data_used j (d ∷ ds) all =
      let made = All-head (DatumMade size units count) d ds all in
      both (names_in (operand_of d.first) ++ (names_in (operand_of d.second) ++ [])) (used_in (datum_items (suc j) ds))
      (both (names_in (operand_of d.first)) (names_in (operand_of d.second) ++ []) (field_in d.first made.first) (both (names_in (operand_of d.second)) [] (field_in d.second made.second) refl))
      (data_used (suc j) ds (All-tail (DatumMade size units count) d ds all))

  code_used : (total : ℕ) (tail : List Item) → list_all P (used_in tail) ≡ true → (xs : List Instruction) (k : ℕ) (entries : List ℕ)
      → All (InstructionMade size units count) xs → list_all P (used_in (code_items total xs k entries ++ tail)) ≡ true
  code_used total tail rest [] k entries all = rest
  code_used total tail rest (x ∷ xs) k entries all =
      let made = All-head (InstructionMade size units count) x xs all in
      let b = begins entries (length xs) in
      both (names_in (operand_of x.field) ++ (names_in (next_operand x.next) ++ [])) (used_in (code_items total xs (if b then suc k else k) (rest_if b entries) ++ tail))
      (both (names_in (operand_of x.field)) (names_in (next_operand x.next) ++ []) (field_in x.field made.field) (both (names_in (next_operand x.next)) [] (next_in x.next made.next) refl))
      (code_used total tail rest xs (if b then suc k else k) (rest_if b entries) (All-tail (InstructionMade size units count) x xs all))

-- ---- the whole

whole : (a b c d e : Bool) → a ≡ true → b ≡ true → c ≡ true → d ≡ true → e ≡ true → (true && a && true && b && true && c && d && e) ≡ true
whole a b c d e ha hb hc hd he = rw (ha, hb, hc, hd, he) refl

pub module_made : (code : List Instruction) (cells : List Datum) (entries : List ℕ) → Made code cells entries → is_module (module_from code cells entries) ≡ true
unfolding is_module
module_made code cells entries made =
    let few = made.few_instructions in
    let few_data = made.few_cells in
    let few_units = entries_few (length code) entries made.entries_descend in
    let same = length-reverse code in
    let all : All (InstructionMade (length code) (length entries) (length cells)) (reverse code) =
    All-permutation (InstructionMade (length code) (length entries) (length cells)) code (reverse code) (IsPermutation-reverse code) made.instructions_made in
    let names : List Name = labels_in (items code cells entries made) in
    let known : (name : Name) (n : ℕ) → label_number 16 (items code cells entries made) name ≡ Some n → has_name (names ++ []) name ≡ true =
    λ name n h. list_any-append (bytes_eq name) names [] ∙ or_left (has_name names name) false (numbered_has 16 (items code cells entries made) name n h) in
    let codes_in : (i : ℕ) → i < length code → has_name (names ++ []) (code_label i) ≡ true =
    λ i h. known (code_label i) (16 + (length code - suc i)) (number_of_code code cells entries made i h) in
    let units_in : (k : ℕ) → k < length entries → has_name (names ++ []) (unit_label k) ≡ true =
    λ k h. known (unit_label k) (16 + (length code - suc (slice_index entries k))) (number_of_unit code cells entries made k h) in
    let data_in : (j : ℕ) → j < length cells → has_name (names ++ []) (datum_label j) ≡ true =
    λ j h. known (datum_label j) (16 + (length code + j)) (number_of_datum code cells entries made j h) in
    whole (list_all is_name names) (are_different names) (list_all (has_name names) (boot_label ∷ [])) (list_all (has_name (names ++ [])) (used_in (items code cells entries made)))
    (are_items (items code cells entries made))
    (all_named (length code) cells (omega arith) (reverse code) 0 entries (omega arith))
    (all_differ (length code) cells (omega arith) (reverse code) 0 entries (omega arith) (omega arith))
    (and_from (has_name names boot_label) true (numbered_has 16 (items code cells entries made) boot_label 16 (number_of_boot code cells entries made)) refl)
    (code_used (has_name (names ++ [])) (length code) (length entries) (length cells) codes_in units_in data_in (length code) (datum_items 0 cells)
    (data_used (has_name (names ++ [])) (length code) (length entries) (length cells) codes_in units_in data_in 0 cells made.cells_made) (reverse code) 0 entries all)
    (code_cells (length code) (length entries) (length cells) (omega arith) (omega arith) (omega arith) (length code) (datum_items 0 cells)
    (datum_cells (length code) (length entries) (length cells) (omega arith) (omega arith) (omega arith) 0 cells made.cells_made) (reverse code) 0 entries all)
