-- What the operations cost, by what their calls take.
use Rattle.std.specs.Prelude.{◌≡◌, ℕ, ◌+◌, List, length}
use Rattle.cap_words.specs.Words.{W}
use Rattle.cap_words.specs.Seen.{seen}
use Rattle.quad_memory.specs.Memory.{Memory}
use Rattle.instr_table.specs.declared.op.Op.{Op}
use Rattle.instr_table.specs.Lists.{Built}
use Rattle.instr_table.specs.Event.{Own, Effects}
use Rattle.instr_table.specs.Sheet.{Account}
use Rattle.instr_table.specs.Outcome.{charge}
use Rattle.instr_table.specs.Row.{row}

-- whatever else the event has, the operation costs so many quads on that stack, and no message
abbrev pub Costs : Op → (Memory → List W → ℕ) → Type 0
Costs op quads = (m : Memory) (own : Own) (sheet : List Account) (e : Effects) (vs : List W) (k : W) → (row own op (seen m.store) sheet e vs k).charge ≡ charge (quads m vs) 0

-- the quads of a result's cells, and of so many items
abbrev pub quads_of : Built → ℕ → ℕ
quads_of b items = length b.cells + items
