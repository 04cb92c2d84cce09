-- What modules link to is an image.
use Rattle.std.proofs.Common.{◌≡◌, ℕ, suc, ◌+◌, ◌<◌, ◌≤◌, ◌^◌, Bool, true, false, List, [], ◌∷◌, ◌++◌, length, length-append, Option, Some, None, refl, sym, ap, ◌∙◌, subst, arith, rules, inl, inr}
use Rattle.std.specs.Prelude.{◌⊎◌, ◌&&◌, ◌||◌, not, nat_lt, nat_le, if◌then◌else◌, unwrap_or, is_some, option_map}
use Rattle.std.specs.List.{list_all, find}
use Rattle.std.specs.Option.{option_or}
use Rattle.std.proofs.lemmas.Bool.{and_parts, and_from}
use Rattle.std.proofs.lemmas.List.Folds.{list_all-append, list_any-append}
use Rattle.std.specs.Str.{bytes_eq}
use borrow.Author.Tests.{tests}
use Rattle.cap_words.specs.declared.word.Quad.{Quad}
use Rattle.cap_words.specs.Words.{W, Rom}
use Rattle.quad_memory.specs.Image.{is_rom_word, is_rom_quad, is_boot_word, is_cell_count, is_image, RomImage}
use Rattle.uasm_read.specs.declared.operand.Operand.{Operand}
use Rattle.uasm_read.specs.declared.operand.Operand.TheVariants as operand
use Rattle.uasm_read.specs.declared.operation.Operation.{Operation}
use Rattle.uasm_read.specs.declared.item.Item.{Item}
use Rattle.uasm_read.specs.Texts.{Name, has_name}
use Rattle.uasm_read.specs.Operations.{goes_on}
use Rattle.uasm_read.specs.Modules.{ModuleParts, is_word, is_instr_t, numbered, may_go_on, begins_with_instruction, is_cell, are_items, is_module}
use Rattle.uasm_read.specs.Links.{label_number, export_number, first_number, name_word, linked_word, linked_cell, linked_cells, linked_modules, LinkFault, NameTwice, NoSuchName, BootMissing, Large, first_twice, fault_where, link_fault, exports_of_all, imports_of_all, count_of_items, item_limit, boot_name, linked_boot, Linked}
use Rattle.uasm_read.proofs.Fits.{operand_word}
use Rattle.uasm_link.specs.Linkable.{is_linkable, are_linkable}
use Rattle.uasm_link.specs.Numbering.{rom_of}
use Rattle.uasm_link.proofs.Steps.{module_kept, export_found}
use Rattle.uasm_link.proofs.Bounds.{Bounded, label_bounded, export_bounded, name_bounded}

-- ---- cells

followed : (item : Item) (items : List Item) (t x y : Operand) → is_cell (t ∷ x ∷ y ∷ operand.Following ∷ []) items ≡ true
    → (is_instr_t t ≡ true) × (is_word x ≡ true) × (may_go_on (numbered x) y ≡ true) × (begins_with_instruction items ≡ true)
followed item items t x y h =
    let a = and_parts (is_instr_t t && is_word x && may_go_on (numbered x) y) _ h in
    let b = and_parts (is_instr_t t && is_word x) _ a.0 in
    let c = and_parts (is_instr_t t) _ b.0 in
    (c.0, c.1, b.1, a.1)

instr_word : (t : Operand) → is_instr_t t ≡ true → is_word t ≡ true
instr_word (operand.Fix n) h = absurd (let no : false ≡ true = h in cc)
instr_word (operand.Const k) h = search (rules, tests)
instr_word (operand.Label name) h = absurd (let no : false ≡ true = h in cc)
instr_word operand.Following h = absurd (let no : false ≡ true = h in cc)

going_word : (operation : Option Operation) (word : Operand) → may_go_on operation word ≡ true → is_word word ≡ true
going_word None word h = absurd (let no : false ≡ true = h in cc)
going_word (Some operation) word h = operand_word operation word (and_parts (goes_on operation) _ h).1

some_follow : (items : List Item) → begins_with_instruction items ≡ true → 1 ≤ length items
some_follow [] h = absurd (let no : false ≡ true = h in cc)
some_follow (item ∷ items) h = omega arith

word_linkable : (word : Operand) → is_word word ≡ true → is_linkable word ≡ true
word_linkable (operand.Fix n) h = h
word_linkable (operand.Const k) h = h
word_linkable (operand.Label name) h = refl
word_linkable operand.Following h = refl

-- the words of a cell: each has a number that is in range, or names the next item where there is one
pub record Words (t x y z : Operand) (after : List Item) : Type 0 where
  pub t_word : is_word t ≡ true
  pub x_word : is_word x ≡ true
  pub y_word : is_word y ≡ true
  pub z_word : (is_word z ≡ true) ⊎ ((z ≡ operand.Following) × (1 ≤ length after))

plain_words : (t x y z : Operand) (after : List Item) → (is_word t && is_word x && is_word y && is_word z) ≡ true → Words t x y z after
plain_words t x y z after h =
    let a = and_parts (is_word t && is_word x && is_word y) _ h in
    let b = and_parts (is_word t && is_word x) _ a.0 in
    let c = and_parts (is_word t) _ b.0 in
    record { t_word = c.0; x_word = c.1; y_word = b.1; z_word = inl a.1 }

words_of : (t x y z : Operand) (after : List Item) → is_cell (t ∷ x ∷ y ∷ z ∷ []) after ≡ true → Words t x y z after
words_of t x y (operand.Fix n) after h = plain_words t x y (operand.Fix n) after h
words_of t x y (operand.Const k) after h = plain_words t x y (operand.Const k) after h
words_of t x y (operand.Label name) after h = plain_words t x y (operand.Label name) after h
words_of t x y operand.Following after h =
    let a = and_parts (is_instr_t t && is_word x && may_go_on (numbered x) y) _ h in
    let b = and_parts (is_instr_t t && is_word x) _ a.0 in
    let c = and_parts (is_instr_t t) _ b.0 in
    record { t_word = instr_word t c.0; x_word = c.1; y_word = going_word (numbered x) y b.1; z_word = inr (refl, some_follow after a.1) }

no_cell : {P : Type 0} (words : List Operand) (after : List Item) → is_cell words after ≡ true → ((t x y z : Operand) → words ≡ t ∷ x ∷ y ∷ z ∷ [] → Words t x y z after → P) → P
no_cell [] after h f = absurd (let no : false ≡ true = h in cc)
no_cell (t ∷ []) after h f = absurd (let no : false ≡ true = h in cc)
no_cell (t ∷ x ∷ []) after h f = absurd (let no : false ≡ true = h in cc)
no_cell (t ∷ x ∷ y ∷ []) after h f = absurd (let no : false ≡ true = h in cc)
no_cell (t ∷ x ∷ y ∷ z ∷ []) after h f = f t x y z refl (words_of t x y z after h)
no_cell (t ∷ x ∷ y ∷ operand.Fix n ∷ w ∷ words) after h f = absurd (let no : false ≡ true = h in cc)
no_cell (t ∷ x ∷ y ∷ operand.Const k ∷ w ∷ words) after h f = absurd (let no : false ≡ true = h in cc)
no_cell (t ∷ x ∷ y ∷ operand.Label name ∷ w ∷ words) after h f = absurd (let no : false ≡ true = h in cc)
no_cell (t ∷ x ∷ y ∷ operand.Following ∷ w ∷ words) after h f = absurd (let no : false ≡ true = h in cc)

last_linkable : (z : Operand) (after : List Item) → (is_word z ≡ true) ⊎ ((z ≡ operand.Following) × (1 ≤ length after)) → is_linkable z ≡ true
last_linkable z after (inl h) = word_linkable z h
last_linkable z after (inr h) = rw h.0 refl

cell_linkable : (words : List Operand) (after : List Item) → is_cell words after ≡ true → list_all is_linkable words ≡ true
cell_linkable words after h = no_cell words after h (λ t x y z same w.
    subst (λ ws. list_all is_linkable ws ≡ true) (sym same)
    (and_from (is_linkable t) _ (word_linkable t w.t_word) (and_from (is_linkable x) _ (word_linkable x w.x_word) (and_from (is_linkable y) _ (word_linkable y w.y_word) (and_from (is_linkable z) _ (last_linkable z after w.z_word) refl)))))

pub items_linkable : (items : List Item) → are_items items ≡ true → are_linkable items ≡ true
items_linkable [] h = refl
items_linkable (item ∷ items) h =
    let parts = and_parts (is_cell item.cell items) _ h in
    and_from (list_all is_linkable item.cell) _ (cell_linkable item.cell items parts.0) (items_linkable items parts.1)

module _ (count : ℕ) (words : Name → W) (named : (name : Name) → is_rom_word count (words name) ≡ true) where
  word_rom : (at : ℕ) (word : Operand) → is_word word ≡ true → is_rom_word count (linked_word words at word) ≡ true
  word_rom at (operand.Fix n) h = refl
  word_rom at (operand.Const k) h = search (rules, tests)
  word_rom at (operand.Label name) h = named name
  word_rom at operand.Following h = absurd (let no : false ≡ true = h in cc)

  last_rom : (at : ℕ) (z : Operand) (after : List Item) → at + suc (length after) ≤ 16 + count → (is_word z ≡ true) ⊎ ((z ≡ operand.Following) × (1 ≤ length after)) → is_rom_word count (linked_word words at z) ≡ true
  last_rom at z after few (inl h) = word_rom at z h
  last_rom at z after few (inr h) = let some = h.1 in let less : at + 1 < 16 + count = omega arith in rw h.0 (search (rules, tests))

  cell_rom : (at : ℕ) (cell : List Operand) (after : List Item) → at + suc (length after) ≤ 16 + count → is_cell cell after ≡ true → is_rom_quad count (linked_cell words at cell) ≡ true
  cell_rom at cell after few h = no_cell cell after h (λ t x y z same w.
      subst (λ ws. is_rom_quad count (linked_cell words at ws) ≡ true) (sym same)
      (and_from (is_rom_word count (linked_word words at t) && is_rom_word count (linked_word words at x) && is_rom_word count (linked_word words at y)) _
      (and_from (is_rom_word count (linked_word words at t) && is_rom_word count (linked_word words at x)) _
      (and_from (is_rom_word count (linked_word words at t)) _ (word_rom at t w.t_word) (word_rom at x w.x_word)) (word_rom at y w.y_word))
      (last_rom at z after few w.z_word)))

  cells_rom : (at : ℕ) (items : List Item) → at + length items ≤ 16 + count → are_items items ≡ true → list_all (is_rom_quad count) (linked_cells words at items) ≡ true
  unfolding linked_cells
  cells_rom at [] few h = refl
  cells_rom at (item ∷ items) few h =
      let parts = and_parts (is_cell item.cell items) _ h in
      and_from (is_rom_quad count (linked_cell words at item.cell)) _ (cell_rom at item.cell items few parts.0) (cells_rom (at + 1) items (omega arith) parts.1)

-- ---- names

pub number_below : (all : List ModuleParts) (at : ℕ) (m : ModuleParts) (name : Name) → at + length m.items ≤ 16 + count_of_items all
    → unwrap_or (option_or (label_number at m.items name) (export_number first_number all name)) 0 < 16 + count_of_items all
number_below all at m name few =
    name_bounded at (16 + count_of_items all) (at + length m.items) (label_number at m.items name) (export_number first_number all name) 16 (omega arith) few (label_bounded at m.items name) (export_bounded 16 all name)

named_rom : (all : List ModuleParts) (at : ℕ) (m : ModuleParts) → at + length m.items ≤ 16 + count_of_items all → (name : Name) → is_rom_word (count_of_items all) (name_word all at m name) ≡ true
named_rom all at m few name = let less = number_below all at m name few in search (rules, tests)

modules_rom : (all : List ModuleParts) (at : ℕ) (modules : List ModuleParts) → at + count_of_items modules ≤ 16 + count_of_items all → list_all is_module modules ≡ true
    → list_all (is_rom_quad (count_of_items all)) (linked_modules all at modules) ≡ true
unfolding linked_modules count_of_items
modules_rom all at [] few kept = refl
modules_rom all at (m ∷ modules) few kept =
    let parts = and_parts (is_module m) _ kept in
    list_all-append (is_rom_quad (count_of_items all)) (linked_cells (name_word all at m) at m.items) (linked_modules all (at + length m.items) modules)
    ∙ and_from (list_all (is_rom_quad (count_of_items all)) (linked_cells (name_word all at m) at m.items)) _
    (cells_rom (count_of_items all) (name_word all at m) (named_rom all at m (omega (arith, few))) at m.items (omega (arith, few)) (module_kept m parts.0).items)
    (modules_rom all (at + length m.items) modules (omega (arith, few)) parts.1)

length-linked_cells : (words : Name → W) (at : ℕ) (items : List Item) → length (linked_cells words at items) ≡ length items
unfolding linked_cells
length-linked_cells words at [] = refl
length-linked_cells words at (item ∷ items) = ap suc (length-linked_cells words (at + 1) items)

length-linked_modules : (all : List ModuleParts) (at : ℕ) (modules : List ModuleParts) → length (linked_modules all at modules) ≡ count_of_items modules
unfolding linked_modules count_of_items
length-linked_modules all at [] = refl
length-linked_modules all at (m ∷ modules) =
    let here = length-linked_cells (name_word all at m) at m.items in
    let more = length-linked_modules all (at + length m.items) modules in
    omega (arith, length-append (linked_cells (name_word all at m) at m.items) (linked_modules all (at + length m.items) modules), here, more)

-- ---- boot

found_if : (b c : Bool) (o other : Option ℕ) → (b || c) ≡ true → (b ≡ true → is_some o ≡ true) → (c ≡ true → is_some other ≡ true) → is_some (if b then o else other) ≡ true
found_if true c o other h here more = here refl
found_if false c o other h here more = more h

exported_number : (at : ℕ) (modules : List ModuleParts) (name : Name) → list_all is_module modules ≡ true → has_name (exports_of_all modules) name ≡ true → is_some (export_number at modules name) ≡ true
unfolding export_number exports_of_all
exported_number at [] name kept h = absurd (let no : false ≡ true = h in cc)
exported_number at (m ∷ modules) name kept h =
    let parts = and_parts (is_module m) _ kept in
    found_if (has_name m.exports name) (has_name (exports_of_all modules) name) (label_number at m.items name) (export_number (at + length m.items) modules name)
    (sym (list_any-append (bytes_eq name) m.exports (exports_of_all modules)) ∙ h) (export_found at m name parts.0) (exported_number (at + length m.items) modules name parts.1)

boot_rom : (count : ℕ) (o : Option ℕ) → Bounded 16 (16 + count) o → is_some o ≡ true → (is_boot_word count (Rom (unwrap_or o 0)) ≡ true) × (1 ≤ count)
boot_rom count None b some = absurd (let no : false ≡ true = some in cc)
boot_rom count (Some k) b some = let low = b.0 in let high = b.1 in (and_from (nat_le 16 k) _ (search (rules, tests)) (search (rules, tests)), omega arith)

-- ---- what is not refused

pub record Sound (modules : List ModuleParts) : Type 0 where
  pub twice : first_twice [] (exports_of_all modules) ≡ None
  pub found : find (λ name. not (has_name (exports_of_all modules) name)) (imports_of_all modules) ≡ None
  pub boot : has_name (exports_of_all modules) boot_name ≡ true
  pub few : count_of_items modules ≤ item_limit

or_none : {X : Type 0} (o other : Option X) → option_or o other ≡ None → (o ≡ None) × (other ≡ None)
or_none None other h = (refl, h)
or_none (Some x) other h = absurd (let no : Some x ≡ None = h in cc)

map_none : {X Y : Type 0} (f : X → Y) (o : Option X) → option_map f o ≡ None → o ≡ None
map_none f None h = refl
map_none f (Some x) h = absurd (let no : Some (f x) ≡ None = h in cc)

not_where : (b : Bool) (fault : LinkFault) → fault_where b fault ≡ None → b ≡ false
not_where true fault h = absurd (let no : Some fault ≡ None = h in cc)
not_where false fault h = refl

not_not : (b : Bool) → not b ≡ false → b ≡ true
not_not true h = refl
not_not false h = sym h

pub sound_of : (modules : List ModuleParts) → link_fault modules ≡ None → Sound modules
unfolding link_fault
sound_of modules h =
    let a = or_none (option_map NameTwice (first_twice [] (exports_of_all modules))) _ h in
    let b = or_none (option_map NoSuchName (find (λ name. not (has_name (exports_of_all modules) name)) (imports_of_all modules))) _ a.1 in
    let c = or_none (fault_where (not (has_name (exports_of_all modules) boot_name)) BootMissing) _ b.1 in
    record {
      twice = map_none NameTwice _ a.0;
      found = map_none NoSuchName _ b.0;
      boot = not_not _ (not_where _ BootMissing c.0);
      few = (let more : nat_lt item_limit (count_of_items modules) ≡ false = not_where _ Large c.1 in search (rules, tests));
    }

pub image_sound : (modules : List ModuleParts) → list_all is_module modules ≡ true → link_fault modules ≡ None
    → is_image (linked_boot modules) (linked_modules modules first_number modules) ≡ true
image_sound modules kept sound =
    let s = sound_of modules sound in
    let b = boot_rom (count_of_items modules) (export_number first_number modules boot_name) (export_bounded 16 modules boot_name) (exported_number first_number modules boot_name kept s.boot) in
    let few = s.few in
    let some = b.1 in
    let counted : is_cell_count (count_of_items modules) ≡ true = and_from (nat_le 1 (count_of_items modules)) _ (search (rules, tests)) (search (rules, tests)) in
    subst (λ n. (is_cell_count n && is_boot_word n (linked_boot modules) && list_all (is_rom_quad n) (linked_modules modules first_number modules)) ≡ true) (sym (length-linked_modules modules first_number modules))
    (and_from (is_cell_count (count_of_items modules) && is_boot_word (count_of_items modules) (linked_boot modules)) _
    (and_from (is_cell_count (count_of_items modules)) _ counted b.0) (modules_rom modules first_number modules (omega arith) kept))

-- ---- words by maps

pub rom_of-small : (k : ℕ) → k < 2 ^ 29 → rom_of k ≡ Rom k
rom_of-small k small = search (rules, tests)

word_same : (words others : Name → W) → ((name : Name) → words name ≡ others name) → (at : ℕ) (word : Operand) → linked_word words at word ≡ linked_word others at word
word_same words others same at (operand.Fix n) = refl
word_same words others same at (operand.Const k) = refl
word_same words others same at (operand.Label name) = same name
word_same words others same at operand.Following = refl

cell_same : (words others : Name → W) → ((name : Name) → words name ≡ others name) → (at : ℕ) (cell : List Operand) → linked_cell words at cell ≡ linked_cell others at cell
cell_same words others same at [] = refl
cell_same words others same at (t ∷ []) = refl
cell_same words others same at (t ∷ x ∷ []) = refl
cell_same words others same at (t ∷ x ∷ y ∷ []) = refl
cell_same words others same at (t ∷ x ∷ y ∷ z ∷ []) = rw (word_same words others same at t, word_same words others same at x, word_same words others same at y, word_same words others same at z) refl
cell_same words others same at (t ∷ x ∷ y ∷ z ∷ w ∷ cell) = refl

pub cells_same : (words others : Name → W) → ((name : Name) → words name ≡ others name) → (at : ℕ) (items : List Item) → linked_cells words at items ≡ linked_cells others at items
unfolding linked_cells
cells_same words others same at [] = refl
cells_same words others same at (item ∷ items) = rw (cell_same words others same at item.cell, cells_same words others same (at + 1) items) refl

pub word_resolved : (all : List ModuleParts) (at : ℕ) (m : ModuleParts) (name : Name) (label export : Option ℕ) → label ≡ label_number at m.items name → export ≡ export_number first_number all name
    → at + length m.items ≤ 16 + count_of_items all → count_of_items all ≤ item_limit → rom_of (unwrap_or (option_or label export) 0) ≡ name_word all at m name
word_resolved all at m name label export l e few limit =
    let below = number_below all at m name few in
    rw (l, e) (rom_of-small (unwrap_or (option_or (label_number at m.items name) (export_number first_number all name)) 0) (omega (arith, below, limit)))

pub cells_front : (words : Name → W) (at : ℕ) (rest : List Item) (item : Item) (more : List Item) → rest ≡ item ∷ more → linked_cells words at rest ≡ linked_cell words at item.cell ∷ linked_cells words (at + 1) more
unfolding linked_cells
cells_front words at rest item more split = ap (linked_cells words at) split

pub no_cells : (words : Name → W) (at : ℕ) → linked_cells words at [] ≡ []
unfolding linked_cells
no_cells words at = refl

pub modules_front : (all : List ModuleParts) (at : ℕ) (rest : List ModuleParts) (m : ModuleParts) (more : List ModuleParts) → rest ≡ m ∷ more
    → linked_modules all at rest ≡ linked_cells (name_word all at m) at m.items ++ linked_modules all (at + length m.items) more
unfolding linked_modules
modules_front all at rest m more split = ap (linked_modules all at) split

pub no_modules : (all : List ModuleParts) (at : ℕ) → linked_modules all at [] ≡ []
unfolding linked_modules
no_modules all at = refl

-- ---- faults

pub find_same : (p q : Name → Bool) → ((name : Name) → p name ≡ q name) → (names : List Name) → find p names ≡ find q names
find_same p q same [] = refl
find_same p q same (name ∷ names) = rw (same name, find_same p q same names) refl

pub fault_twice : (modules : List ModuleParts) (name : Name) → first_twice [] (exports_of_all modules) ≡ Some name → link_fault modules ≡ Some (NameTwice name)
unfolding link_fault
fault_twice modules name h = rw h refl

pub fault_missing : (modules : List ModuleParts) (name : Name) → first_twice [] (exports_of_all modules) ≡ None → find (λ name. not (has_name (exports_of_all modules) name)) (imports_of_all modules) ≡ Some name
    → link_fault modules ≡ Some (NoSuchName name)
unfolding link_fault
fault_missing modules name twice h = rw (twice, h) refl

pub fault_boot : (modules : List ModuleParts) → first_twice [] (exports_of_all modules) ≡ None → find (λ name. not (has_name (exports_of_all modules) name)) (imports_of_all modules) ≡ None
    → has_name (exports_of_all modules) boot_name ≡ false → link_fault modules ≡ Some BootMissing
unfolding link_fault
fault_boot modules twice found h = rw (twice, found, h) refl

pub fault_large : (modules : List ModuleParts) → first_twice [] (exports_of_all modules) ≡ None → find (λ name. not (has_name (exports_of_all modules) name)) (imports_of_all modules) ≡ None
    → has_name (exports_of_all modules) boot_name ≡ true → nat_lt item_limit (count_of_items modules) ≡ true → link_fault modules ≡ Some Large
unfolding link_fault
fault_large modules twice found boot h = rw (twice, found, boot, h) refl

pub no_fault : (modules : List ModuleParts) → first_twice [] (exports_of_all modules) ≡ None → find (λ name. not (has_name (exports_of_all modules) name)) (imports_of_all modules) ≡ None
    → has_name (exports_of_all modules) boot_name ≡ true → nat_lt item_limit (count_of_items modules) ≡ false → link_fault modules ≡ None
unfolding link_fault
no_fault modules twice found boot h = rw (twice, found, boot, h) refl

-- ---- the whole

boot_small : (count : ℕ) (o : Option ℕ) → count ≤ item_limit → Bounded 16 (16 + count) o → rom_of (unwrap_or o 0) ≡ Rom (unwrap_or o 0)
boot_small count None few b = refl
boot_small count (Some k) few b = let high = b.1 in rom_of-small k (omega arith)

pub boot_word : (modules : List ModuleParts) (o : Option ℕ) → count_of_items modules ≤ item_limit → o ≡ export_number first_number modules boot_name → rom_of (unwrap_or o 0) ≡ linked_boot modules
boot_word modules o few same = rw same (boot_small (count_of_items modules) (export_number first_number modules boot_name) few (export_bounded 16 modules boot_name))

pub image_made : (modules : List ModuleParts) (boot : W) (cells : List Quad) (made : Option RomImage) → list_all is_module modules ≡ true → link_fault modules ≡ None
    → boot ≡ linked_boot modules → cells ≡ linked_modules modules first_number modules
    → made ≡ (if is_image boot cells then Some (record { boot = boot; cells = cells }) else None)
    → made ≡ Some (record { boot = linked_boot modules; cells = linked_modules modules first_number modules })
image_made modules boot cells made kept sound b c is = is ∙ rw (b, c, image_sound modules kept sound) refl

pub linked_image : (modules : List ModuleParts) (image : RomImage) → link_fault modules ≡ None → Some image ≡ Some (record { boot = linked_boot modules; cells = linked_modules modules first_number modules })
    → Linked modules image.boot image.cells
linked_image modules image sound is =
    let same : image ≡ record { boot = linked_boot modules; cells = linked_modules modules first_number modules } = cc in
    record { sound = sound; boots = ap (λ i. i.boot) same; placed = ap (λ i. i.cells) same }

pub only_image : (modules : List ModuleParts) (image : RomImage) (boot : W) (cells : List Quad) → Linked modules image.boot image.cells → Linked modules boot cells → image ≡ record { boot = boot; cells = cells }
only_image modules image boot cells l m = rw (m.boots, m.placed, ← l.boots, ← l.placed) refl
