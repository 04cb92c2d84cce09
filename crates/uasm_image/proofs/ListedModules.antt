-- The listing of an image is a module, and links to the image.
use Rattle.std.proofs.Common.{◌≡◌, ℕ, suc, ◌+◌, ◌-◌, ◌<◌, ◌≤◌, Bool, true, false, List, [], ◌∷◌, ◌++◌, length, get_or, Option, Some, None, refl, sym, ap, ◌∙◌, arith, nat_lt, append-nil}
use Rattle.std.specs.Prelude.{◌&&◌, unwrap_or, nat_le}
use Rattle.std.specs.List.{list_all}
use Rattle.std.specs.Option.{option_or}
use Rattle.std.specs.Str.{bytes_eq}
use Rattle.std.proofs.lemmas.Bool.{and_parts, and_from, or_left, both_ways, ltb-true, leb-true, le-ltb}
use Rattle.std.proofs.lemmas.List.Folds.{list_any-append}
use Rattle.cap_words.specs.declared.word.Quad.{Quad}
use Rattle.cap_words.specs.Words.{W, Fix, Rom, Ram, Cap}
use Rattle.quad_memory.specs.Image.{RomImage, is_cell_count, is_boot_word, is_rom_quad}
use Rattle.uasm_read.specs.declared.item.Item.{Item}
use Rattle.uasm_read.specs.Texts.{Name, has_name, is_name}
use Rattle.uasm_read.specs.Modules.{labels_in, used_in, are_different, are_items, is_module}
use Rattle.uasm_read.specs.Links.{label_number, export_number, first_number, name_word, linked_cells, linked_modules, link_fault, fault_where, item_limit, count_of_items, exports_of_all, imports_of_all, first_twice, boot_name, Linked}
use Rattle.uasm_read.specs.Links.LinkFault.{Large}
use Rattle.uasm_read.specs.Laws.{OperationsHaveLines}
use Rattle.uasm_image.specs.Spelled.{IsImage}
use Rattle.uasm_image.specs.Listed.{cell_label, operand_names, cell_items, is_named, listing_of}
use Rattle.uasm_image.proofs.ListedLabels.{numbered_has, cell_number, boot_number, all_differ, all_named}
use Rattle.uasm_image.proofs.ListedCells.{all_there, names_used, cells_linked, used_names}
use Rattle.uasm_image.proofs.ListedItems.{items_are}
use Rattle.uasm_image.proofs.Marks.{items_same}

-- ---- what was made

-- items by marks of the cells that are named
pub made_items : (i : RomImage) (boot : W) (cells : List Quad) (marks : List Bool) → boot ≡ i.boot → cells ≡ i.cells
    → ((k : ℕ) → k < length cells → get_or marks k false ≡ has_name (operand_names 16 cells) (cell_label (16 + k)))
    → cell_items boot (λ at. get_or marks (at - 16) false) 16 cells ≡ cell_items i.boot (is_named i) 16 i.cells
made_items i boot cells marks hb hc named =
    items_same boot (λ at. get_or marks (at - 16) false) (λ at. has_name (operand_names 16 cells) (cell_label at)) 16 cells
    (λ k low high.
    named (k - 16) (omega arith)
    ∙ ap (λ n. has_name (operand_names 16 cells) (cell_label n)) (let z : 16 + (k - 16) ≡ k = omega arith in z))
    ∙ ap (λ w. cell_items w (λ at. has_name (operand_names 16 cells) (cell_label at)) 16 cells) hb
    ∙ ap (λ qs. cell_items i.boot (λ at. has_name (operand_names 16 qs) (cell_label at)) 16 qs) hc

pub made_module : (i : RomImage) (imports exports : List Name) (items : List Item) → imports ≡ [] → exports ≡ boot_name ∷ []
    → items ≡ cell_items i.boot (is_named i) 16 i.cells → record { imports = imports; exports = exports; items = items } ≡ listing_of i
made_module i imports exports items hm hx hi = rw (hm, hx, hi) refl

-- what the rules of an image say
record Rules (i : RomImage) : Type 0 where
  few : length i.cells ≤ 1048560
  boot : ℕ
  boot_is : i.boot ≡ Rom boot
  boot_low : 16 ≤ boot
  boot_high : boot < 16 + length i.cells
  cells : list_all (is_rom_quad (length i.cells)) i.cells ≡ true

boot_place : (count : ℕ) (w : W) → is_boot_word count w ≡ true → (b : ℕ) × (w ≡ Rom b) × (16 ≤ b) × (b < 16 + count)
boot_place count (Fix n) h = absurd (both_ways false refl h)
boot_place count (Rom n) h =
    let parts = and_parts (nat_le 16 n) (nat_lt n (16 + count)) h in
    (n, refl, leb-true 16 n parts.0, ltb-true n (16 + count) parts.1)
boot_place count (Ram n) h = absurd (both_ways false refl h)
boot_place count (Cap n) h = absurd (both_ways false refl h)

rules : (i : RomImage) → IsImage i → Rules i
rules i is =
    let count = length i.cells in
    let last = and_parts (is_cell_count count && is_boot_word count i.boot) (list_all (is_rom_quad count) i.cells) is.rules in
    let first = and_parts (is_cell_count count) (is_boot_word count i.boot) last.0 in
    let boot = boot_place count i.boot first.1 in
    record {
      few = leb-true count 1048560 (and_parts (nat_le 1 count) (nat_le count 1048560) first.0).1;
      boot = boot.0;
      boot_is = boot.1;
      boot_low = boot.2;
      boot_high = boot.3;
      cells = last.1;
    }

module _ (i : RomImage) (is : IsImage i) where
  kept : Rules i
  kept = rules i is

  abbrev items : List Item
  items = cell_items i.boot (is_named i) first_number i.cells

  -- ---- where labels stand

  number_of_cell : (k : ℕ) → 16 ≤ k → k < 16 + length i.cells → is_named i k ≡ true → label_number 16 items (cell_label k) ≡ Some k
  number_of_cell k low high named = let few = kept.few in cell_number i.boot (is_named i) 16 i.cells k (omega arith) low high named

  number_of_boot : label_number 16 items boot_name ≡ Some (kept.boot)
  number_of_boot = boot_number i.boot (is_named i) kept.boot kept.boot_is 16 i.cells kept.boot_low kept.boot_high

  -- ---- the rules of modules

  known : (name : Name) (n : ℕ) → label_number 16 items name ≡ Some n → has_name (labels_in items ++ []) name ≡ true
  known name n h = list_any-append (bytes_eq name) (labels_in items) []
      ∙ or_left (has_name (labels_in items) name) false (numbered_has 16 items name n h)

  used : list_all (has_name (labels_in items ++ [])) (used_in items) ≡ true
  used =
      ap (list_all (has_name (labels_in items ++ []))) (used_names i.boot (is_named i) 16 i.cells)
      ∙ names_used (length i.cells) kept.few (has_name (operand_names 16 i.cells)) (has_name (labels_in items ++ []))
      (λ k low high named. known (cell_label k) k (number_of_cell k low high named)) 16 i.cells kept.cells
      (all_there (operand_names 16 i.cells))

  whole : (a b c d e : Bool) → a ≡ true → b ≡ true → c ≡ true → d ≡ true → e ≡ true → (true && a && true && b && true && c && d && e) ≡ true
  whole a b c d e ha hb hc hd he = rw (ha, hb, hc, hd, he) refl

  pub is_module_listed : OperationsHaveLines → is_module (listing_of i) ≡ true
  unfolding is_module
  is_module_listed lines =
      let few = kept.few in
      whole (list_all is_name (labels_in items)) (are_different (labels_in items)) (list_all (has_name (labels_in items)) (boot_name ∷ []))
      (list_all (has_name (labels_in items ++ [])) (used_in items)) (are_items items)
      (all_named i.boot (is_named i) 16 i.cells (omega arith))
      (all_differ i.boot (is_named i) kept.boot kept.boot_is 16 i.cells (omega arith))
      (and_from (has_name (labels_in items) boot_name) true (numbered_has 16 items boot_name kept.boot number_of_boot) refl)
      used (items_are lines (length i.cells) few i.boot (is_named i) 16 i.cells kept.cells is.exact)

  -- ---- what it links to

  item_count : (boot : W) (named : ℕ → Bool) (at : ℕ) (qs : List Quad) → length (cell_items boot named at qs) ≡ length qs
  unfolding cell_items
  item_count boot named at [] = refl
  item_count boot named at (q ∷ after) = ap suc (item_count boot named (at + 1) after)

  no_fault : link_fault (listing_of i ∷ []) ≡ None
  unfolding link_fault count_of_items exports_of_all imports_of_all first_twice
  no_fault =
      let few = kept.few in
      let count = item_count i.boot (is_named i) 16 i.cells in
      ap (λ b. fault_where b Large) (le-ltb item_limit (length items + 0) (omega arith))

  words : Name → W
  words = name_word (listing_of i ∷ []) 16 (listing_of i)

  cell_found : (k : ℕ) → 16 ≤ k → k < 16 + length i.cells → is_named i k ≡ true → words (cell_label k) ≡ Rom k
  unfolding words
  cell_found k low high named =
      ap (λ (found : Option ℕ). Rom (unwrap_or (option_or found (export_number first_number (listing_of i ∷ []) (cell_label k))) 0))
      (number_of_cell k low high named)

  boot_found : i.boot ≡ Rom (unwrap_or (export_number first_number (listing_of i ∷ []) boot_name) 0)
  unfolding export_number
  boot_found = kept.boot_is ∙ sym (ap (λ (found : Option ℕ). Rom (unwrap_or found 0)) number_of_boot)

  cells_found : i.cells ≡ linked_modules (listing_of i ∷ []) first_number (listing_of i ∷ [])
  unfolding linked_modules words
  cells_found =
      sym (append-nil (linked_cells words 16 items)
      ∙ cells_linked (length i.cells) kept.few (has_name (operand_names 16 i.cells)) words cell_found i.boot
      (is_named i) 16 i.cells kept.cells (all_there (operand_names 16 i.cells)))

  pub links_back : Linked (listing_of i ∷ []) i.boot i.cells
  links_back = record { sound = no_fault; boots = boot_found; placed = cells_found }
