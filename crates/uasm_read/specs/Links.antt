-- What modules link to.
use Rattle.std.specs.Prelude.{◌≡◌, ℕ, ◌+◌, Bool, not, if◌then◌else◌, nat_lt, List, [], ◌∷◌, ◌++◌, length, Option, Some, None, option_map, unwrap_or, codes}
use Rattle.std.specs.List.{flat_map, find}
use Rattle.std.specs.Option.{option_or}
use Rattle.cap_words.specs.declared.word.Quad.{Quad}
use Rattle.cap_words.specs.Words.{W, Fix, Rom, undef}
use Rattle.uasm_read.specs.declared.operand.Operand.{Operand}
use Rattle.uasm_read.specs.declared.operand.Operand.TheVariants as operand
use Rattle.uasm_read.specs.declared.item.Item.{Item}
use Rattle.uasm_read.specs.Texts.{Name, has_name}
use Rattle.uasm_read.specs.Modules.{ModuleParts}

-- ---- numbers of items

-- the number of the item that has a label; the first item has this number
unfoldable pub label_number : ℕ → List Item → Name → Option ℕ
label_number at [] name = None
label_number at (item ∷ items) name = if has_name item.labels name then Some at else label_number (at + 1) items name

-- the number of the item that modules export under a name; the first item of all has this number
unfoldable pub export_number : ℕ → List ModuleParts → Name → Option ℕ
export_number at [] name = None
export_number at (m ∷ modules) name =
    if has_name m.exports name then label_number at m.items name else export_number (at + length m.items) modules name

-- ROM numbers begin at 16, behind the constants
abbrev pub first_number : ℕ
first_number = 16

-- the word that a name stands for in a module whose first item has the number `at`: the number of its label, or else that of an export
abbrev pub name_word : List ModuleParts → ℕ → ModuleParts → Name → W
name_word modules at m name = Rom (unwrap_or (option_or (label_number at m.items name) (export_number first_number modules name)) 0)

-- ---- cells

-- the word of an operand in the item of number `at`
abbrev pub linked_word : (Name → W) → ℕ → Operand → W
linked_word words at (operand.Fix n) = Fix n
linked_word words at (operand.Const k) = Rom k
linked_word words at (operand.Label name) = words name
linked_word words at operand.Following = Rom (at + 1)

abbrev pub linked_cell : (Name → W) → ℕ → List Operand → Quad
linked_cell words at (t ∷ x ∷ y ∷ z ∷ []) =
    record { t = linked_word words at t; x = linked_word words at x; y = linked_word words at y; z = linked_word words at z }
linked_cell words at operands = record { t = undef; x = undef; y = undef; z = undef }

unfoldable pub linked_cells : (Name → W) → ℕ → List Item → List Quad
linked_cells words at [] = []
linked_cells words at (item ∷ items) = linked_cell words at item.cell ∷ linked_cells words (at + 1) items

-- the cells of modules, one after the other; the first list has all modules that are linked
unfoldable pub linked_modules : List ModuleParts → ℕ → List ModuleParts → List Quad
linked_modules all at [] = []
linked_modules all at (m ∷ modules) =
    linked_cells (name_word all at m) at m.items ++ linked_modules all (at + length m.items) modules

-- ---- what is not linked

-- why modules are not linked
pub data LinkFault : Type 0 where
  NameTwice : Name → LinkFault
  NoSuchName : Name → LinkFault
  BootMissing : LinkFault
  Large : LinkFault

unfoldable pub exports_of_all : List ModuleParts → List Name
exports_of_all modules = flat_map (λ m. m.exports) modules

unfoldable pub imports_of_all : List ModuleParts → List Name
imports_of_all modules = flat_map (λ m. m.imports) modules

unfoldable pub count_of_items : List ModuleParts → ℕ
count_of_items [] = 0
count_of_items (m ∷ modules) = length m.items + count_of_items modules

-- the first name that stands before, among these or behind them
unfoldable pub first_twice : List Name → List Name → Option Name
first_twice before [] = None
first_twice before (name ∷ names) = if has_name before name then Some name else first_twice (name ∷ before) names

-- the most items that an image has room for
abbrev pub item_limit : ℕ
item_limit = 1048560

abbrev pub boot_name : Name
boot_name = codes "boot"

abbrev pub fault_where : Bool → LinkFault → Option LinkFault
fault_where fails fault = if fails then Some fault else None

-- why modules are not linked, the first of these: a name exported twice, an import that nothing exports, no `boot`, too many items
unfoldable pub link_fault : List ModuleParts → Option LinkFault
link_fault modules =
    option_or (option_map NameTwice (first_twice [] (exports_of_all modules)))
    (option_or (option_map NoSuchName (find (λ name. not (has_name (exports_of_all modules) name)) (imports_of_all modules)))
    (option_or (fault_where (not (has_name (exports_of_all modules) boot_name)) BootMissing)
    (fault_where (nat_lt item_limit (count_of_items modules)) Large)))

-- the boot word of modules
abbrev pub linked_boot : List ModuleParts → W
linked_boot modules = Rom (unwrap_or (export_number first_number modules boot_name) 0)

-- the modules link to an image of this boot word and these cells
pub record Linked (modules : List ModuleParts) (boot : W) (cells : List Quad) : Type 0 where
  pub sound : link_fault modules ≡ None
  pub boots : boot ≡ linked_boot modules
  pub placed : cells ≡ linked_modules modules first_number modules
