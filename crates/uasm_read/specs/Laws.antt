-- What the table of lines has to do with the machine's table.
use Rattle.std.specs.Prelude.{◌≡◌, ◌≤◌, ℕ, pos, true, is_some}
use Rattle.cap_words.specs.Words.{W, Fix, Rom, instr_t}
use Rattle.instr_table.specs.Code.{operation}
use Rattle.uasm_read.specs.declared.operand.Operand.{Operand}
use Rattle.uasm_read.specs.declared.operand.Operand.TheVariants as operand
use Rattle.uasm_read.specs.declared.operation.Operation.{Operation}
use Rattle.uasm_read.specs.Operations.{row_of}
use Rattle.uasm_read.specs.Modules.{is_word, fits}

-- the word is that of an operand; a name may stand for any
abbrev pub StandsFor : Operand → W → Type 0
StandsFor (operand.Fix n) w = w ≡ Fix n
StandsFor (operand.Const k) w = w ≡ Rom k
StandsFor (operand.Label name) w = Unit {0}
StandsFor operand.Following w = ⊥

-- the cell of an operation with an operand of its own spells an operation of the machine, whatever its names stand for and whatever comes next
abbrev pub LinesSpell : Type 0
LinesSpell =
    (line : Operation) (word : Operand) (w next : W) → fits (row_of line).operand word ≡ true → StandsFor word w
    → is_some (operation (record { t = instr_t; x = Fix (pos (row_of line).number); y = w; z = next })) ≡ true

-- the operand that a word is written as: a number, a constant, or else a name
abbrev pub IsWrittenAs : Operand → W → Type 0
IsWrittenAs (operand.Fix n) w = w ≡ Fix n
IsWrittenAs (operand.Const k) w = w ≡ Rom k
IsWrittenAs (operand.Label name) w = (k : ℕ) × (16 ≤ k) × (w ≡ Rom k)
IsWrittenAs operand.Following w = ⊥

-- the word is the number of an operation that may have the operand
pub record LineOf (x : W) (word : Operand) : Type 0 where
  pub line : Operation
  pub number : x ≡ Fix (pos (row_of line).number)
  pub operand : fits (row_of line).operand word ≡ true

-- a cell that spells an operation of the machine is that of a line, whose operand its second word is written as
abbrev pub OperationsHaveLines : Type 0
OperationsHaveLines =
    (word : Operand) (x w next : W) → is_word word ≡ true → IsWrittenAs word w
    → is_some (operation (record { t = instr_t; x = x; y = w; z = next })) ≡ true → LineOf x word
