-- The module that an image is listed as.
use Rattle.std.specs.Prelude.{ℕ, ◌+◌, nat_lt, Bool, true, false, ◌&&◌, if◌then◌else◌, List, [], ◌∷◌, ◌++◌, Option, Some, None}
use Rattle.std.specs.List.{flat_map}
use Rattle.std.specs.Fmt.{decimal}
use Rattle.cap_words.specs.declared.word.Quad.{Quad}
use Rattle.cap_words.specs.Words.{W, Fix, Rom, Ram, Cap, same_word, instr_t}
use Rattle.quad_memory.specs.Image.{RomImage}
use Rattle.instr_table.specs.declared.op.Op.{Op}
use Rattle.instr_table.specs.declared.op.Op.TheVariants.{End, Jump}
use Rattle.instr_table.specs.Code.{operation}
use Rattle.uasm_read.specs.declared.operand.Operand.{Operand}
use Rattle.uasm_read.specs.declared.operand.Operand.TheVariants as operand
use Rattle.uasm_read.specs.declared.item.Item.{Item}
use Rattle.uasm_read.specs.Texts.{Name, has_name}
use Rattle.uasm_read.specs.Modules.{ModuleParts, names_in}
use Rattle.uasm_read.specs.Links.{boot_name, first_number}

-- ---- operands

-- the label of the cell of that number: `c` and the number in decimal
abbrev pub cell_label : ℕ → Name
cell_label k = 99 ∷ decimal k

-- a number is itself, a constant goes by its number, and a cell by its label; images have no other words
abbrev pub word_operand : W → Operand
word_operand (Fix n) = operand.Fix n
word_operand (Rom k) = if nat_lt k 16 then operand.Const k else operand.Label (cell_label k)
word_operand (Ram n) = operand.Const 0
word_operand (Cap n) = operand.Const 0

-- there is an operation, and the machine goes on behind it: it is neither `end` nor `jump`
abbrev pub goes_on : Option Op → Bool
goes_on None = false
goes_on (Some (End n)) = false
goes_on (Some Jump) = false
goes_on (Some op) = true

-- the first of these cells has the first word `#instr_t`
abbrev pub is_instruction_first : List Quad → Bool
is_instruction_first [] = false
is_instruction_first (q ∷ after) = same_word q.t instr_t

-- cell `at`, with these cells after it, spells an instruction that goes on at the cell after it, and that has the first word `#instr_t`
abbrev pub is_followed : ℕ → Quad → List Quad → Bool
is_followed at q after = goes_on (operation q) && same_word q.z (Rom (at + 1)) && is_instruction_first after

abbrev pub next_operand : ℕ → Quad → List Quad → Operand
next_operand at q after = if is_followed at q after then operand.Following else word_operand q.z

-- the operands of cell `at`, with these cells after it
abbrev pub cell_operands : ℕ → Quad → List Quad → List Operand
cell_operands at q after = word_operand q.t ∷ word_operand q.x ∷ word_operand q.y ∷ next_operand at q after ∷ []

-- ---- labels

-- the names that the operands of cell `at` have, with these cells after it
abbrev pub names_of : ℕ → Quad → List Quad → List Name
names_of at q after = flat_map names_in (cell_operands at q after)

-- the names that the operands of cells have; the first cell has the number `at`
unfoldable pub operand_names : ℕ → List Quad → List Name
operand_names at [] = []
operand_names at (q ∷ after) = names_of at q after ++ operand_names (at + 1) after

abbrev pub name_if : Bool → Name → List Name
name_if holds name = if holds then name ∷ [] else []

-- the cell of the boot word is `boot`, and then each cell that an operand names has its label
abbrev pub cell_labels : W → Bool → ℕ → List Name
cell_labels boot named at = name_if (same_word boot (Rom at)) boot_name ++ name_if named (cell_label at)

-- ---- the module

-- cell `at`, with these cells after it
abbrev pub cell_item : W → Bool → ℕ → Quad → List Quad → Item
cell_item boot named at q after = record { labels = cell_labels boot named at; cell = cell_operands at q after }

-- the items of cells, of which the first has the number `at`
unfoldable pub cell_items : W → (ℕ → Bool) → ℕ → List Quad → List Item
cell_items boot named at [] = []
cell_items boot named at (q ∷ after) = cell_item boot (named at) at q after ∷ cell_items boot named (at + 1) after

-- whether an operand of the image's listing names the cell of that number
abbrev pub is_named : RomImage → ℕ → Bool
is_named i at = has_name (operand_names first_number i.cells) (cell_label at)

-- a listing takes nothing from other modules, and gives `boot`
abbrev pub listing_of : RomImage → ModuleParts
listing_of i = record {
  imports = [];
  exports = boot_name ∷ [];
  items = cell_items i.boot (is_named i) first_number i.cells;
}
