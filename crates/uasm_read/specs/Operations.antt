-- The operations' names, numbers and operands.
use Rattle.std.specs.Prelude.{ℕ, ℤ, pos, negsuc, ◌+ℤ◌, Bool, true, false, if◌then◌else◌, List, [], ◌∷◌, Option, Some, None, option_map, codes}
use Rattle.std.specs.List.{find}
use Rattle.std.specs.Option.{option_or}
use Rattle.std.specs.Str.{bytes_eq}
use Rattle.instr_table.specs.Code.{within, turns, passing}
use Rattle.uasm_read.specs.declared.operand.Operand.{Operand}
use Rattle.uasm_read.specs.declared.operand.Operand.TheVariants.{Fix, Const, Label}
use Rattle.uasm_read.specs.declared.operation.Operation.{Operation}
use Rattle.uasm_read.specs.declared.operation.Operation.TheVariants as o
use Rattle.uasm_read.specs.Texts.{Bytes, is_name, fixnum_of, constant_names, place_of}

-- what an operation has as its operand
pub data Shape : Type 0 where
  -- a fixnum, a constant or a name
  Value : Shape
  -- none, which is `#?`
  Nothing : Shape
  -- a number from the first to the second one
  Within : ℤ → ℤ → Shape
  -- a number of that size at most, but not 0
  Turn : ℕ → Shape
  -- one of these words, which stand for the numbers from this one on
  Choice : ℤ → Bytes → Shape

-- an operation's name, its number and its operand
pub record Row : Type 0 where
  pub name : Bytes
  pub number : ℕ
  pub operand : Shape

abbrev row : ℕ → Bytes → Shape → Row
row number name operand = record { name = name; number = number; operand = operand }

-- the table of operations
abbrev pub row_of : Operation → Row
row_of o.Push = row 0 (codes "push") Value
row_of o.Dup = row 1 (codes "dup") (Within (pos 0) (pos 15))
row_of o.Drop = row 2 (codes "drop") (Within (pos 0) (pos 4095))
row_of o.Pick = row 3 (codes "pick") (Within (pos 1) (pos 4095))
row_of o.Roll = row 4 (codes "roll") (Turn 15)
row_of o.Depth = row 5 (codes "depth") Nothing
row_of o.Pair = row 6 (codes "pair") (Within (pos 1) (pos 15))
row_of o.Part = row 7 (codes "part") (Within (pos 1) (pos 15))
row_of o.Nth = row 8 (codes "nth") (Within (negsuc 4094) (pos 4095))
row_of o.Quad = row 9 (codes "quad") (Turn 4)
row_of o.Get = row 10 (codes "get") (Within (pos 0) (pos 3))
row_of o.Typeq = row 11 (codes "typeq") Value
row_of o.Eq = row 12 (codes "eq") Value
row_of o.Cmp = row 13 (codes "cmp") (Choice (pos 0) (codes "eq ge gt lt le ne"))
row_of o.Alu = row 14 (codes "alu") (Choice (pos 0) (codes "not and or xor add sub mul"))
row_of o.If = row 15 (codes "if") Value
row_of o.Jump = row 16 (codes "jump") Nothing
row_of o.Msg = row 17 (codes "msg") (Within (negsuc 4094) (pos 4095))
row_of o.State = row 18 (codes "state") (Within (negsuc 4094) (pos 4095))
row_of o.My = row 19 (codes "my") (Choice (pos 0) (codes "self beh state"))
row_of o.Actor = row 20 (codes "actor") (Choice (pos 0) (codes "send post create assign become"))
row_of o.End = row 21 (codes "end") (Choice (negsuc 0) (codes "abort stop commit"))
row_of o.Dict = row 22 (codes "dict") (Choice (pos 0) (codes "has get add set del"))
row_of o.Deque = row 23 (codes "deque") (Choice (pos 0) (codes "new empty push pop put pull len"))
row_of o.Sponsor = row 24 (codes "sponsor") (Choice (pos 0) (codes "new memory events cycles reclaim start stop"))
row_of o.Assert = row 25 (codes "assert") Value
row_of o.Debug = row 26 (codes "debug") Nothing

-- each operation once
abbrev pub operations : List Operation
operations =
    o.Push ∷ o.Dup ∷ o.Drop ∷ o.Pick ∷ o.Roll ∷ o.Depth ∷ o.Pair ∷ o.Part ∷ o.Nth ∷ o.Quad ∷ o.Get ∷ o.Typeq ∷ o.Eq ∷ o.Cmp ∷ o.Alu ∷ o.If ∷
    o.Jump ∷ o.Msg ∷ o.State ∷ o.My ∷ o.Actor ∷ o.End ∷ o.Dict ∷ o.Deque ∷ o.Sponsor ∷ o.Assert ∷ o.Debug ∷ []

-- the operation of that name
unfoldable pub operation_of : Bytes → Option Operation
operation_of part = find (λ operation. bytes_eq part (row_of operation).name) operations

-- `end` and `jump` go on at no next instruction
abbrev pub goes_on : Operation → Bool
goes_on o.End = false
goes_on o.Jump = false
goes_on _ = true

-- a fixnum, a constant or a name
unfoldable pub value_of : Bytes → Option Operand
value_of part =
    option_or (option_map Fix (fixnum_of part))
    (option_or (option_map Const (place_of part constant_names)) (if is_name part then Some (Label part) else None))

-- the operand that a part writes
unfoldable pub operand_in : Shape → Bytes → Option Operand
operand_in Value part = value_of part
operand_in Nothing part = None
operand_in (Within low high) part = option_map Fix (passing (within low high) (fixnum_of part))
operand_in (Turn most) part = option_map Fix (passing (turns most) (fixnum_of part))
operand_in (Choice first words) part = option_map (λ k. Fix (first +ℤ pos k)) (place_of part words)

-- the operation has no operand
abbrev pub is_alone : Shape → Bool
is_alone Nothing = true
is_alone shape = false

-- the operand that stands behind an operation
unfoldable pub operand_of : Shape → List Bytes → Option Operand
operand_of shape [] = if is_alone shape then Some (Const 0) else None
operand_of shape (part ∷ []) = operand_in shape part
operand_of shape parts = None
