-- Operations on dictionaries and deques, their operands on a stack, and what they cost there.
use Rattle.std.specs.Prelude.{◌≡◌, Bool, true, false, List}
use Rattle.cap_words.specs.Words.{W}
use Rattle.cap_words.specs.Seen.{seen}
use Rattle.quad_memory.specs.Memory.{Memory}
use Rattle.instr_table.specs.declared.op.Op.{Op}
use Rattle.instr_table.specs.declared.op.Op.TheVariants.{DictTest, DictPut, DictDel, DequeNew, DequeTest, DequePut, DequeTake}
use Rattle.instr_table.specs.declared.charge.Charge.{Charge}
use Rattle.instr_table.specs.Lists.{item}
use Rattle.instr_table.specs.Event.{Own, Effects}
use Rattle.instr_table.specs.Sheet.{Account}
use Rattle.instr_table.specs.Row.{row}

-- whether the operation is one on a dictionary or a deque
abbrev pub is_list_op : Op → Bool
is_list_op (DictTest n) = true
is_list_op (DictPut n) = true
is_list_op DictDel = true
is_list_op DequeNew = true
is_list_op (DequeTest n) = true
is_list_op (DequePut n) = true
is_list_op (DequeTake n) = true
is_list_op op = false

-- the words are the dictionary or deque and the key that the operation finds on this stack, as far as it has such operands
abbrev pub AreOperands : Op → List W → W → W → Type 0
AreOperands (DictTest n) vs list key = (item vs 2 ≡ list) × (item vs 1 ≡ key)
AreOperands (DictPut n) vs list key = (item vs 3 ≡ list) × (item vs 2 ≡ key)
AreOperands DictDel vs list key = (item vs 2 ≡ list) × (item vs 1 ≡ key)
AreOperands DequeNew vs list key = Unit {0}
AreOperands (DequeTest n) vs list key = item vs 1 ≡ list
AreOperands (DequePut n) vs list key = item vs 2 ≡ list
AreOperands (DequeTake n) vs list key = item vs 1 ≡ list
AreOperands op vs list key = Unit {0}

-- the charge is the row's, whatever the event has beside these operands
abbrev pub IsCost : Op → Memory → W → W → Charge → Type 0
IsCost op m list key c = (own : Own) (sheet : List Account) (e : Effects) (vs : List W) (k : W) → AreOperands op vs list key → c ≡ (row own op (seen m.store) sheet e vs k).charge
