-- What a line says by itself.
use Rattle.std.specs.Prelude.{◌&&◌, if◌then◌else◌, ◌==◌, List, [], ◌∷◌, Option, Some, None, codes}
use Rattle.std.specs.List.{list_all, before_first}
use Rattle.std.specs.Str.{bytes_eq}
use Rattle.uasm_read.specs.declared.error.UasmCause.TheVariants as cause
use Rattle.uasm_read.specs.declared.operand.Operand.{Operand}
use Rattle.uasm_read.specs.declared.operand.Operand.TheVariants.{Const}
use Rattle.uasm_read.specs.declared.operation.Operation.{Operation}
use Rattle.uasm_read.specs.declared.line.Line.{Line}
use Rattle.uasm_read.specs.declared.line.Line.TheVariants.{Blank, Import, Export, Label, Instruction, Next, Cell, Bad}
use Rattle.uasm_read.specs.Texts.{Bytes, Name, is_ascii, is_semicolon, last_byte, before_last_byte, parts_of, is_name}
use Rattle.uasm_read.specs.Operations.{row_of, operation_of, value_of, operand_of}

-- the name that stands alone
unfoldable pub name_alone : List Bytes → Option Name
name_alone (part ∷ []) = if is_name part then Some part else None
name_alone parts = None

-- a directive with its name
abbrev pub directive : (Name → Line) → Option Name → Line
directive form None = Bad cause.BadLine
directive form (Some name) = form name

-- the name of a label, which a colon follows
unfoldable pub label_in : Bytes → Option Name
label_in part = if last_byte part == 58 && is_name (before_last_byte part) then Some (before_last_byte part) else None

-- a label, behind which nothing stands
abbrev pub label_line : Name → List Bytes → Line
label_line name [] = Label name
label_line name parts = Bad cause.BadLine

-- an item of these four words
abbrev pub cell_of : Option Operand → Option Operand → Option Operand → Option Operand → Line
cell_of (Some t) (Some x) (Some y) (Some z) = Cell t x y z
cell_of t x y z = Bad cause.BadOperand

-- `pair_t X Y`
unfoldable pub pair_line : List Bytes → Line
pair_line (x ∷ y ∷ []) = cell_of (Some (Const 10)) (value_of x) (value_of y) (Some (Const 0))
pair_line parts = Bad cause.BadOperand

-- `cell T X Y Z`
unfoldable pub cell_line : List Bytes → Line
cell_line (t ∷ x ∷ y ∷ z ∷ []) = cell_of (value_of t) (value_of x) (value_of y) (value_of z)
cell_line parts = Bad cause.BadOperand

-- an operation with its operand
abbrev pub instruction_of : Operation → Option Operand → Line
instruction_of operation None = Bad cause.BadOperand
instruction_of operation (Some operand) = Instruction operation operand

abbrev pub instruction_line : Option Operation → List Bytes → Line
instruction_line None parts = Bad cause.NoOperation
instruction_line (Some operation) parts = instruction_of operation (operand_of (row_of operation).operand parts)

-- a line that begins with a name
unfoldable pub item_line : Name → List Bytes → Line
item_line name parts =
    if bytes_eq name (codes "ref") then Next (name_alone parts) else
    if bytes_eq name (codes "pair_t") then pair_line parts else
    if bytes_eq name (codes "cell") then cell_line parts else instruction_line (operation_of name) parts

-- a line whose first part is a label, a name or neither
abbrev pub named_line : Bytes → Option Name → List Bytes → Line
named_line part (Some label) parts = label_line label parts
named_line part None parts = if is_name part then item_line part parts else Bad cause.BadLine

-- what the parts of a line say
unfoldable pub line_in : List Bytes → Line
line_in [] = Blank
line_in (part ∷ parts) =
    if bytes_eq part (codes ".import") then directive Import (name_alone parts) else
    if bytes_eq part (codes ".export") then directive Export (name_alone parts) else
    named_line part (label_in part) parts

-- what a line says; a comment begins at the first semicolon
unfoldable pub line_of : Bytes → Line
line_of line = if list_all is_ascii line then line_in (parts_of (before_first is_semicolon line)) else Bad cause.BadLine
