-- What the parts of the reader answer.
use Rattle.std.specs.Prelude.{ℕ, ◌+◌, pos, negsuc, Bool, true, not, ◌&&◌, if◌then◌else◌, nat_le, nat_lt, int_le, List, [], ◌∷◌, ◌++◌, length, Option, Some, None}
use Rattle.std.specs.Borrow.{Bor}
use Rattle.std.specs.HashSet.{HashSet, contains_by}
use Rattle.std.specs.Str.{bytes_eq}
use Rattle.uasm_read.specs.declared.line.Line.{Line}
use Rattle.uasm_read.specs.declared.line.Line.TheVariants.{Import, Export}
use Rattle.uasm_read.specs.declared.operation.Shape.{Shape as Named}
use Rattle.uasm_read.specs.declared.operation.Shape.TheVariants as named
use Rattle.uasm_read.specs.declared.faults.Which.{Which}
use Rattle.uasm_read.specs.declared.faults.Which.TheVariants as which
use Rattle.uasm_read.specs.declared.build.Directive.{Directive}
use Rattle.uasm_read.specs.declared.build.Directive.TheVariants as directive
use Rattle.uasm_read.specs.Faults.{label_of, import_of, export_of, defined_by, may_be_item}
use Rattle.uasm_read.specs.declared.texts.Class.{Class}
use Rattle.uasm_read.specs.declared.texts.Class.TheVariants as class
use Rattle.uasm_read.specs.Operations.{Shape, Value, Nothing, Within, Turn, Choice}
use Rattle.uasm_read.specs.Texts.{Bytes, Name, is_blank, is_semicolon, is_line_feed}

abbrev pub is_in : Class → ℕ → Bool
is_in class.Blank b = is_blank b
is_in class.Part b = not (is_blank b)
is_in class.Code b = not (is_semicolon b)
is_in class.Line b = not (is_line_feed b)

-- a number, if it is at most 2 to the 30
abbrev pub up_to_limit : ℕ → Option ℕ
up_to_limit n = if nat_le n 1073741824 then Some n else None

-- ---- operations

-- what an operation has as its operand
abbrev pub shape_of : Named → Shape
shape_of named.Value = Value
shape_of named.Nothing = Nothing
shape_of (named.Within low high) = Within low high
shape_of (named.Turn most) = Turn most
shape_of (named.Choice from words) = Choice from words.now

-- the words of a choice are few, and stand for numbers from -1 or 0 on
abbrev pub is_near : Shape → Bool
is_near (Choice from words) = nat_lt (length words) 128 && int_le (negsuc 0) from && int_le from (pos 0)
is_near shape = true

-- ---- lines that are written

-- a blank before each part
abbrev pub blanked : List Bytes → Bytes
blanked [] = []
blanked (part ∷ parts) = 32 ∷ (part ++ blanked parts)

-- the line of a directive
abbrev pub directive_line : Directive → Name → Line
directive_line directive.Imports name = Import name
directive_line directive.Exports name = Export name

-- ---- sets of names

-- the set has the name
abbrev pub holds : {S : Type 0} → HashSet (Bor Bytes) S → Name → Bool
holds names name = contains_by (λ key. bytes_eq name key.now) names

-- the names of a line that are looked for
abbrev pub names_by : Which → Line → List Name
names_by which.Labels line = label_of line
names_by which.Defined line = defined_by line

-- the names of a directive
abbrev pub directed_by : Directive → Line → List Name
directed_by directive.Imports line = import_of line
directed_by directive.Exports line = export_of line

-- how many lines have the form of an item, or none
abbrev pub items_among : List Line → ℕ
items_among [] = 0
items_among (line ∷ lines) = (if may_be_item line then 1 else 0) + items_among lines
