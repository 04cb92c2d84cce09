-- What is emitted, and the pieces that code is put together from.
use Rattle.std.specs.Prelude.{ℕ, suc, ℤ, pos, if◌then◌else◌, List, [], ◌∷◌, ◌++◌, length, Option, Some, None}
use Rattle.std.specs.Str.{bytes_eq}
use Rattle.hum_core.specs.declared.slot.Const.{Const}
use Rattle.hum_core.specs.declared.slot.Const.TheVariants as const
use Rattle.hum_emit.specs.declared.instruction.Field.{Field}
use Rattle.hum_emit.specs.declared.instruction.Field.TheVariants.{Number, Constant, Place, Data}
use Rattle.hum_emit.specs.declared.instruction.Instruction.{Instruction}
use Rattle.hum_emit.specs.declared.instruction.Datum.{Datum}

-- the instructions and the data in the order in which they were made, and the datum of each symbol that has one
pub record Emitted : Type 0 where
  pub code : List Instruction
  pub cells : List Datum
  pub symbols : List ℕ → Option ℕ

-- Code is made from the back: a piece gets the number of the instruction to go on with, and gives what is emitted then and the number of its
-- own first instruction.
abbrev pub Piece : Type 0
Piece = (k : ℕ) → Emitted → Emitted × ℕ

-- no instruction
abbrev pub nothing : Piece
nothing = λ k s. (s, k)

-- the first piece, and then the second one
infixr 5 ◌▷◌
abbrev pub ◌▷◌ : Piece → Piece → Piece
p ▷ q = λ k s. p (q k s).1 (q k s).0

-- ---- instructions

abbrev pub put : Instruction → Emitted → Emitted × ℕ
put i s = (record s { code = s.code ++ i ∷ [] }, length s.code)

-- one instruction that goes on with what comes next
abbrev pub one : (operation : ℕ) → Field → Piece
one operation field = λ k s. put (record { operation = operation; field = field; next = Some k }) s

-- goes on with what comes next where the value on top is true, and else at that number
abbrev pub choose : (miss : ℕ) → Piece
choose miss = λ k s. put (record { operation = 15; field = Place k; next = Some miss }) s

-- goes to a routine, which comes back to what comes next
abbrev pub calls : (routine : ℕ) → Piece
calls routine = λ k s. put (record { operation = 0; field = Place k; next = Some routine }) s

-- goes where the value on top says
abbrev pub jump : Piece
jump = λ k s. put (record { operation = 16; field = Constant 0; next = None }) s

abbrev pub push : Field → Piece
push = one 0

abbrev pub dup : ℕ → Piece
dup n = one 1 (Number (pos n))

abbrev pub drop : ℕ → Piece
drop n = one 2 (Number (pos n))

abbrev pub pick : ℕ → Piece
pick n = one 3 (Number (pos n))

abbrev pub roll : ℤ → Piece
roll n = one 4 (Number n)

abbrev pub pair : ℕ → Piece
pair n = one 6 (Number (pos n))

abbrev pub part : ℕ → Piece
part n = one 7 (Number (pos n))

abbrev pub nth : ℤ → Piece
nth n = one 8 (Number n)

abbrev pub quad : ℤ → Piece
quad n = one 9 (Number n)

-- the value on top is of the type that the constant of that number is
abbrev pub typeq : ℕ → Piece
typeq constant = one 11 (Constant constant)

abbrev pub eq : Field → Piece
eq = one 12

abbrev pub state : ℕ → Piece
state n = one 18 (Number (pos n))

abbrev pub myself : Piece
myself = one 19 (Number (pos 0))

abbrev pub send : Piece
send = one 20 (Number (pos 0))

abbrev pub create : Piece
create = one 20 (Number (pos 2))

abbrev pub become : Piece
become = one 20 (Number (pos 4))

abbrev pub debug : Piece
debug = one 26 (Constant 0)

-- ---- data

-- the numbers of the constants
abbrev pub nil : ℕ
nil = 1

abbrev pub actor_type : ℕ
actor_type = 6

abbrev pub pair_type : ℕ
pair_type = 10

abbrev pub symbol_type : ℕ
symbol_type = 13

abbrev pub function_type : ℕ
function_type = 14

abbrev pub block_type : ℕ
block_type = 15

-- the cells of a list of numbers, of which the first is made after that many others
abbrev pub list_cells : (at : ℕ) → List ℕ → List Datum
list_cells at [] = []
list_cells at (n ∷ []) = record { kind = pair_type; first = Number (pos n); second = Constant nil } ∷ []
list_cells at (n ∷ m ∷ more) = record { kind = pair_type; first = Number (pos n); second = Data (suc at) } ∷ list_cells (suc at) (m ∷ more)

abbrev pub list_field : (at : ℕ) → List ℕ → Field
list_field at [] = Constant nil
list_field at (n ∷ more) = Data at

-- a text, and the word that it has
abbrev pub text : List ℕ → Emitted → Emitted × Field
text points s = (record s { cells = s.cells ++ list_cells (length s.cells) points }, list_field (length s.cells) points)

-- a symbol's cell, and those of its name
abbrev pub symbol_cells : (at : ℕ) → List ℕ → List Datum
symbol_cells at name = record { kind = symbol_type; first = list_field (suc at) name; second = Constant 0 } ∷ list_cells (suc at) name

abbrev pub with_symbol : List ℕ → ℕ → (List ℕ → Option ℕ) → List ℕ → Option ℕ
with_symbol name n symbols other = if bytes_eq other name then Some n else symbols other

-- a symbol, which has one cell
abbrev pub symbol_at : Option ℕ → List ℕ → Emitted → Emitted × Field
symbol_at (Some n) name s = (s, Data n)
symbol_at None name s =
    (record s { cells = s.cells ++ symbol_cells (length s.cells) name; symbols = with_symbol name (length s.cells) s.symbols }, Data (length s.cells))

-- a constant, and the word that it has
abbrev pub constant : Const → Emitted → Emitted × Field
constant const.Undef s = (s, Constant 0)
constant const.Nil s = (s, Constant nil)
constant const.True s = (s, Constant 3)
constant const.False s = (s, Constant 2)
constant (const.Num n) s = (s, Number n)
constant (const.Sym name) s = symbol_at (s.symbols name) name s

-- a piece that has a word, which may be one of data that are made before
abbrev pub with_field : (Emitted → Emitted × Field) → (Field → Piece) → Piece
with_field field piece = λ k s. piece (field s).1 k (field s).0
