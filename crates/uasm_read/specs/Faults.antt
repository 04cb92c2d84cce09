-- Why lines are refused.
use Rattle.std.specs.Prelude.{ℕ, ◌+◌, Bool, true, false, not, ◌&&◌, if◌then◌else◌, List, [], ◌∷◌, ◌++◌, length, Option, Some, None, is_some}
use Rattle.std.specs.List.{list_all, list_any, flat_map}
use Rattle.std.specs.Option.{option_or}
use Rattle.uasm_read.specs.declared.error.UasmCause.{UasmCause}
use Rattle.uasm_read.specs.declared.error.UasmCause.TheVariants as cause
use Rattle.uasm_read.specs.declared.error.UasmRefused.{UasmRefused}
use Rattle.uasm_read.specs.declared.line.Line.{Line}
use Rattle.uasm_read.specs.declared.line.Line.TheVariants.{Blank, Import, Export, Label, Instruction, Next, Cell, Bad}
use Rattle.uasm_read.specs.Texts.{Name, has_name}
use Rattle.uasm_read.specs.Operations.{goes_on}
use Rattle.uasm_read.specs.Modules.{names_in, is_instr_t}

-- ---- the names of lines

abbrev pub label_of : Line → List Name
label_of (Label name) = name ∷ []
label_of line = []

abbrev pub import_of : Line → List Name
import_of (Import name) = name ∷ []
import_of line = []

abbrev pub export_of : Line → List Name
export_of (Export name) = name ∷ []
export_of line = []

-- the names that lines give a meaning, labels and imports
abbrev pub defined_by : Line → List Name
defined_by line = label_of line ++ import_of line

unfoldable pub labels_of : List Line → List Name
labels_of lines = flat_map label_of lines

unfoldable pub imports_of : List Line → List Name
imports_of lines = flat_map import_of lines

unfoldable pub exports_of : List Line → List Name
exports_of lines = flat_map export_of lines

unfoldable pub defined_in : List Line → List Name
defined_in lines = flat_map defined_by lines

-- the names that a line's words have
abbrev pub used_by : Line → List Name
used_by (Instruction operation operand) = names_in operand
used_by (Next (Some name)) = name ∷ []
used_by (Cell t x y z) = names_in t ++ (names_in x ++ (names_in y ++ names_in z))
used_by line = []

-- ---- the first line that is refused

abbrev pub refused_or : ℕ → Option UasmCause → Option UasmRefused → Option UasmRefused
refused_or line None later = later
refused_or line (Some why) later = Some (record { line = line; cause = why })

-- The first line that a test refuses. The test looks at the lines before the line, the nearest one first, at the line, and at those after it.
unfoldable pub first : (List Line → Line → List Line → Option UasmCause) → List Line → List Line → Option UasmRefused
first test before [] = None
first test before (line ∷ after) = refused_or (length before + 1) (test before line after) (first test (line ∷ before) after)

abbrev pub fault_if : Bool → UasmCause → Option UasmCause
fault_if refused why = if refused then Some why else None

-- ---- lines by themselves

-- the line has the form of an item, or none: then it is refused itself, at its own place
abbrev pub may_be_item : Line → Bool
may_be_item (Instruction operation operand) = true
may_be_item (Cell t x y z) = true
may_be_item (Bad why) = true
may_be_item line = false

-- whether nothing but blanks stands behind an instruction, by the line and by whether that holds before it
abbrev pub follows_after : Line → Bool → Bool
follows_after Blank before = before
follows_after (Instruction operation operand) before = true
follows_after line before = false

unfoldable pub follows_instruction : List Line → Bool
follows_instruction [] = false
follows_instruction (line ∷ before) = follows_after line (follows_instruction before)

abbrev pub next_fault : Bool → Option Name → Option UasmCause
next_fault false name = Some cause.BadLine
next_fault true None = Some cause.BadOperand
next_fault true (Some name) = None

-- Why a line is refused whatever the names mean: it has no form; a `ref` that follows no instruction; a label that neither a line with the
-- form of an item nor one without a form follows; a label or import that stands before it already.
abbrev pub fault_by : (Name → Bool) → Bool → Bool → Line → Option UasmCause
fault_by stands follows_instruction item_follows (Bad why) = Some why
fault_by stands follows_instruction item_follows (Next name) = next_fault follows_instruction name
fault_by stands follows_instruction item_follows (Label name) = if item_follows then fault_if (stands name) cause.Twice else Some cause.BadLine
fault_by stands follows_instruction item_follows (Import name) = fault_if (stands name) cause.Twice
fault_by stands follows_instruction item_follows line = None

abbrev pub line_fault : List Line → Line → List Line → Option UasmCause
line_fault before line after = fault_by (has_name (defined_in before)) (follows_instruction before) (list_any may_be_item after) line

-- ---- names

-- why a line is refused among all lines: it uses what is neither label nor import, or exports what is no label
abbrev pub unknown_by : (Name → Bool) → (Name → Bool) → Line → Option UasmCause
unknown_by is_label is_known (Export name) = fault_if (not (is_label name)) cause.Unknown
unknown_by is_label is_known line = fault_if (not (list_all is_known (used_by line))) cause.Unknown

abbrev pub name_unknown : List Line → List Line → Line → List Line → Option UasmCause
name_unknown lines before line after = unknown_by (has_name (labels_of lines)) (has_name (defined_in lines)) line

-- ---- what goes on

-- the name of the `ref` that stands behind an instruction
unfoldable pub next_named : List Line → Option Name
next_named (Blank ∷ after) = next_named after
next_named (Next name ∷ after) = name
next_named after = None

-- the next item has the first word `#instr_t`
unfoldable pub instruction_follows : List Line → Bool
instruction_follows [] = false
instruction_follows (Instruction operation operand ∷ after) = true
instruction_follows (Cell t x y z ∷ after) = is_instr_t t
instruction_follows (line ∷ after) = instruction_follows after

-- why an instruction is refused: it would go on at the item after it, and there is none or it is no instruction
abbrev pub falls_by : Line → List Line → Option UasmCause
falls_by (Instruction operation operand) after =
    fault_if (goes_on operation && (not (is_some (next_named after)) && not (instruction_follows after))) cause.FallsOff
falls_by line after = None

abbrev pub falls_off : List Line → Line → List Line → Option UasmCause
falls_off before line after = falls_by line after

-- ---- all together

-- why lines are refused: first what they are by themselves, then names, then what goes on
unfoldable pub refusal : List Line → Option UasmRefused
refusal lines = option_or (first line_fault [] lines) (option_or (first (name_unknown lines) [] lines) (first falls_off [] lines))
