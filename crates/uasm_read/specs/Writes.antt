-- How modules are written.
use Rattle.std.specs.Prelude.{ℕ, ℤ, pos, negsuc, ◌-ℤ◌, Bool, true, false, not, ◌&&◌, if◌then◌else◌, nat_eq, List, [], ◌∷◌, ◌++◌, map, slice_index_or, Option, Some, None, codes}
use Rattle.std.specs.List.{flat_map, join_with_byte}
use Rattle.std.specs.Fmt.{signed_decimal}
use Rattle.uasm_read.specs.declared.operand.Operand.{Operand}
use Rattle.uasm_read.specs.declared.operand.Operand.TheVariants as operand
use Rattle.uasm_read.specs.declared.operation.Operation.{Operation}
use Rattle.uasm_read.specs.declared.item.Item.{Item}
use Rattle.uasm_read.specs.declared.line.Line.{Line}
use Rattle.uasm_read.specs.declared.line.Line.TheVariants.{Import, Export, Label, Instruction, Next, Cell}
use Rattle.uasm_read.specs.Texts.{Bytes, parts_of, constant_names}
use Rattle.uasm_read.specs.Operations.{Shape, Nothing, Choice, row_of, goes_on}
use Rattle.uasm_read.specs.Modules.{ModuleParts, is_instr_t, fits, numbered}

-- ---- the parts of a line

-- the word that stands at that place, counted from 0, and nothing past the last one
unfoldable pub part_at : Bytes → ℕ → Bytes
part_at words k = slice_index_or (parts_of words) k []

-- how a word is written
abbrev pub word_text : Operand → Bytes
word_text (operand.Fix n) = signed_decimal n
word_text (operand.Const k) = part_at constant_names k
word_text (operand.Label name) = name
word_text operand.Following = []

-- a number that is not below 0, and 0 for one that is
abbrev pub natural : ℤ → ℕ
natural (pos n) = n
natural (negsuc n) = 0

-- what stands behind an operation
abbrev pub operand_parts : Shape → Operand → List Bytes
operand_parts Nothing word = []
operand_parts (Choice first words) (operand.Fix n) = part_at words (natural (n -ℤ first)) ∷ []
operand_parts shape word = word_text word ∷ []

abbrev pub is_constant : ℕ → Operand → Bool
is_constant number (operand.Const k) = nat_eq k number
is_constant number word = false

-- an item by its four words
abbrev pub cell_parts : Operand → Operand → Operand → Operand → List Bytes
cell_parts t x y z =
    if is_constant 10 t && is_constant 0 z then codes "pair_t" ∷ word_text x ∷ word_text y ∷ []
    else codes "cell" ∷ word_text t ∷ word_text x ∷ word_text y ∷ word_text z ∷ []

-- the parts of a line that has a form
abbrev pub line_parts : Line → List Bytes
line_parts (Import name) = codes ".import" ∷ name ∷ []
line_parts (Export name) = codes ".export" ∷ name ∷ []
line_parts (Label name) = (name ++ codes ":") ∷ []
line_parts (Instruction operation word) = (row_of operation).name ∷ operand_parts (row_of operation).operand word
line_parts (Next (Some name)) = codes "ref" ∷ name ∷ []
line_parts (Cell t x y z) = cell_parts t x y z
line_parts line = []

-- one blank between two parts
unfoldable pub line_text : Line → Bytes
line_text line = join_with_byte 32 (line_parts line)

-- ---- the lines of a module

-- the next word is one that an instruction line may have
abbrev pub may_follow : Operation → Operand → Bool
may_follow operation operand.Following = true
may_follow operation (operand.Label name) = true
may_follow operation (operand.Const k) = not (goes_on operation) && nat_eq k 0
may_follow operation (operand.Fix n) = false

abbrev pub line_operation : Option Operation → Operand → Operand → Option Operation
line_operation None y z = None
line_operation (Some operation) y z = if fits (row_of operation).operand y && may_follow operation z then Some operation else None

-- the operation whose line spells these words
abbrev pub spelled : Operand → Operand → Operand → Operand → Option Operation
spelled t x y z = if is_instr_t t then line_operation (numbered x) y z else None

-- a `ref` for a name
abbrev pub next_lines : Operand → List Line
next_lines (operand.Label name) = Next (Some name) ∷ []
next_lines z = []

abbrev pub lines_by : Option Operation → Operand → Operand → Operand → Operand → List Line
lines_by None t x y z = Cell t x y z ∷ []
lines_by (Some operation) t x y z = Instruction operation y ∷ next_lines z

-- the lines of an item's four words: an instruction line, if one spells them, and else the words themselves
abbrev pub cell_lines : List Operand → List Line
cell_lines (t ∷ x ∷ y ∷ z ∷ []) = lines_by (spelled t x y z) t x y z
cell_lines words = []

abbrev pub item_lines : Item → List Line
item_lines item = map Label item.labels ++ cell_lines item.cell

-- the imports, the exports and the items
unfoldable pub module_lines : ModuleParts → List Line
module_lines m = map Import m.imports ++ (map Export m.exports ++ flat_map item_lines m.items)

-- a line feed ends each line
abbrev pub ended : Line → Bytes
ended line = line_text line ++ codes "\n"

-- the text of a module
unfoldable pub written : ModuleParts → Bytes
written m = flat_map ended (module_lines m)
