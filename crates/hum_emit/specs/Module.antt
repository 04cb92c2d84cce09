-- The module of what was emitted.
use Rattle.std.specs.Prelude.{ℕ, suc, pos, nat_eq, Bool, true, false, if◌then◌else◌, List, [], ◌∷◌, ◌++◌, length, reverse, Option, Some, None, codes}
use Rattle.std.specs.Fmt.{decimal}
use Rattle.uasm_read.specs.declared.operand.Operand.{Operand}
use Rattle.uasm_read.specs.declared.operand.Operand.TheVariants.{Fix, Const, Label}
use Rattle.uasm_read.specs.declared.item.Item.{Item}
use Rattle.uasm_read.specs.Texts.{Name}
use Rattle.uasm_read.specs.Modules.{ModuleParts}
use Rattle.hum_emit.specs.declared.instruction.Field.{Field}
use Rattle.hum_emit.specs.declared.instruction.Field.TheVariants.{Number, Constant, Place, Unit, Data}
use Rattle.hum_emit.specs.declared.instruction.Instruction.{Instruction}
use Rattle.hum_emit.specs.declared.instruction.Datum.{Datum}
use Rattle.hum_emit.specs.Emitted.{Emitted}
use Rattle.hum_emit.specs.Runtime.{apply_place}

-- ---- names: a letter and a number

-- of instruction i
abbrev pub code_label : ℕ → Name
code_label i = 99 ∷ decimal i

-- of unit k
abbrev pub unit_label : ℕ → Name
unit_label k = 117 ∷ decimal k

-- of datum j
abbrev pub datum_label : ℕ → Name
datum_label j = 100 ∷ decimal j

abbrev pub boot_label : Name
boot_label = codes "boot"

abbrev pub apply_label : Name
apply_label = codes "apply"

-- ---- words

abbrev pub operand_of : Field → Operand
operand_of (Number n) = Fix n
operand_of (Constant c) = Const c
operand_of (Place i) = Label (code_label i)
operand_of (Unit k) = Label (unit_label k)
operand_of (Data j) = Label (datum_label j)

abbrev pub next_operand : Option ℕ → Operand
next_operand None = Const 0
next_operand (Some i) = Label (code_label i)

-- ---- items

-- whether the first of these is that number
abbrev pub begins : List ℕ → ℕ → Bool
begins [] i = false
begins (entry ∷ entries) i = nat_eq entry i

abbrev pub named_if : Bool → Name → List Name
named_if named name = if named then name ∷ [] else []

-- the labels of instruction i; unit k is the next one whose first instruction is to come
abbrev pub labels_of : (size i k : ℕ) → List ℕ → List Name
labels_of size i k entries =
    code_label i ∷ named_if (begins entries i) (unit_label k) ++ named_if (nat_eq i apply_place) apply_label ++ named_if (nat_eq (suc i) size) boot_label

abbrev pub item_of : List Name → Instruction → Item
item_of labels x = record { labels = labels; cell = Const 9 ∷ Fix (pos x.operation) ∷ operand_of x.field ∷ next_operand x.next ∷ [] }

abbrev pub rest_if : Bool → List ℕ → List ℕ
rest_if true (entry ∷ entries) = entries
rest_if _ entries = entries

-- the items of instructions, the last made first, where the units from k on have these first instructions
abbrev pub code_items : (size : ℕ) → List Instruction → (k : ℕ) → List ℕ → List Item
code_items size [] k entries = []
code_items size (x ∷ xs) k entries =
    item_of (labels_of size (length xs) k entries) x
    ∷ code_items size xs (if begins entries (length xs) then suc k else k) (rest_if (begins entries (length xs)) entries)

abbrev pub datum_item : ℕ → Datum → Item
datum_item j d = record { labels = datum_label j ∷ []; cell = Const d.kind ∷ operand_of d.first ∷ operand_of d.second ∷ Const 0 ∷ [] }

abbrev pub datum_items : ℕ → List Datum → List Item
datum_items j [] = []
datum_items j (d ∷ ds) = datum_item j d ∷ datum_items (suc j) ds

-- ---- the module: it exports where the first event begins

abbrev pub module_from : List Instruction → List Datum → (entries : List ℕ) → ModuleParts
module_from code cells entries = record {
  imports = [];
  exports = boot_label ∷ [];
  items = code_items (length code) (reverse code) 0 entries ++ datum_items 0 cells;
}

abbrev pub module_of : Emitted → (entries : List ℕ) → ModuleParts
module_of e entries = module_from e.code e.cells entries
