-- Modules, and the rule that they keep.
use Rattle.std.specs.Prelude.{◌-◌, ℤ, pos, ◌+ℤ◌, Bool, true, false, not, ◌&&◌, nat_eq, nat_lt, List, [], ◌∷◌, ◌++◌, length, Option, Some, None}
use Rattle.std.specs.List.{list_all, flat_map, find}
use Rattle.std.specs.Ordering.{int_eq}
use Rattle.cap_words.specs.Fixnums.{in_range}
use Rattle.instr_table.specs.Code.{within, turns}
use Rattle.uasm_read.specs.declared.operand.Operand.{Operand}
use Rattle.uasm_read.specs.declared.operand.Operand.TheVariants.{Fix, Const, Label, Following}
use Rattle.uasm_read.specs.declared.operation.Operation.{Operation}
use Rattle.uasm_read.specs.declared.item.Item.{Item}
use Rattle.uasm_read.specs.Texts.{Name, parts_of, is_name, has_name}
use Rattle.uasm_read.specs.Operations.{Shape, Value, Nothing, Within, Turn, Choice, row_of, operations, goes_on}

-- a module: the names that it takes from others, the names that it gives to others, and its items in order
pub record ModuleParts : Type 0 where
  pub imports : List Name
  pub exports : List Name
  pub items : List Item

-- ---- words

-- the word is `#instr_t`
abbrev pub is_instr_t : Operand → Bool
is_instr_t (Const k) = nat_eq k 9
is_instr_t word = false

-- the name of a word that has one
abbrev pub names_in : Operand → List Name
names_in (Label name) = name ∷ []
names_in word = []

-- a fixnum, a constant or a name
abbrev pub is_word : Operand → Bool
is_word (Fix n) = in_range n
is_word (Const k) = nat_lt k 16
is_word (Label name) = is_name name
is_word Following = false

-- ---- items

-- the word is an operand of that shape
abbrev pub fits : Shape → Operand → Bool
fits Value word = is_word word
fits Nothing (Const k) = nat_eq k 0
fits (Within low high) (Fix n) = within low high n
fits (Turn most) (Fix n) = turns most n
fits (Choice from words) (Fix n) = within from (from +ℤ pos (length (parts_of words) - 1)) n
fits shape word = false

-- the operation of that number
unfoldable pub operation_at : ℤ → Option Operation
operation_at n = find (λ operation. int_eq n (pos (row_of operation).number)) operations

-- the operation whose number the word is
abbrev pub numbered : Operand → Option Operation
numbered (Fix n) = operation_at n
numbered word = None

-- an instruction of that operation, which goes on
abbrev pub may_go_on : Option Operation → Operand → Bool
may_go_on None operand = false
may_go_on (Some operation) operand = goes_on operation && fits (row_of operation).operand operand

-- the first of these words is `#instr_t`
abbrev pub is_instruction : List Operand → Bool
is_instruction [] = false
is_instruction (t ∷ words) = is_instr_t t

-- the first item's first word is `#instr_t`
abbrev pub begins_with_instruction : List Item → Bool
begins_with_instruction [] = false
begins_with_instruction (item ∷ items) = is_instruction item.cell

-- the four words of an item before these items; the next word of an instruction may be the item after it, where that is an instruction too
abbrev pub is_cell : List Operand → List Item → Bool
is_cell (t ∷ x ∷ y ∷ Following ∷ []) after = is_instr_t t && is_word x && may_go_on (numbered x) y && begins_with_instruction after
is_cell (t ∷ x ∷ y ∷ z ∷ []) after = is_word t && is_word x && is_word y && is_word z
is_cell words after = false

abbrev pub are_items : List Item → Bool
are_items [] = true
are_items (item ∷ items) = is_cell item.cell items && are_items items

-- ---- names

abbrev pub labels_in : List Item → List Name
labels_in items = flat_map (λ item. item.labels) items

abbrev pub used_in : List Item → List Name
used_in items = flat_map (λ item. flat_map names_in item.cell) items

-- no name stands twice
abbrev pub are_different : List Name → Bool
are_different [] = true
are_different (name ∷ names) = not (has_name names name) && are_different names

-- no name stands in both lists
abbrev pub are_apart : List Name → List Name → Bool
are_apart names others = list_all (λ name. not (has_name others name)) names

-- ---- the rule

-- labels and imports are names and all different, what is exported is a label, what is used is a label or an import, and the items are
-- cells
unfoldable pub is_module : ModuleParts → Bool
is_module m =
    list_all is_name m.imports && list_all is_name (labels_in m.items) &&
    are_different m.imports && are_different (labels_in m.items) && are_apart m.imports (labels_in m.items) &&
    list_all (has_name (labels_in m.items)) m.exports &&
    list_all (has_name (labels_in m.items ++ m.imports)) (used_in m.items) &&
    are_items m.items
