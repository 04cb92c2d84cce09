-- What is taken from a deque, by the number of the operation.
use Rattle.std.specs.Prelude.{ℤ, pos, if◌then◌else◌}
use Rattle.std.specs.Ordering.{int_eq}
use Rattle.cap_words.specs.Words.{W}
use Rattle.quad_memory.specs.Memory.{Memory}
use Rattle.instr_table.specs.Lists.{Built}
use Rattle.vm_dict.specs.Calls.{from_front, from_back, popped_in, pulled_in}

-- the deque that is left
abbrev pub taken_in : ℤ → Memory → W → Built
taken_in n m deque = if int_eq n (pos 3) then popped_in m deque else pulled_in m deque

-- the value
abbrev pub taken_value : ℤ → Memory → W → W
taken_value n m deque = if int_eq n (pos 3) then (from_front m deque).value else (from_back m deque).value
