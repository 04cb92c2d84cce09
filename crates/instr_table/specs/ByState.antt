-- What the operations cost whose charge depends on the state.
use Rattle.std.specs.Prelude.{◌≡◌, ℕ, ◌+◌, nat_lt, if◌then◌else◌, pos, List, length, position, Option, Some, None}
use Rattle.std.specs.Ordering.{int_eq}
use Rattle.cap_words.specs.declared.word.Quad.{Quad}
use Rattle.cap_words.specs.Words.{W, same_word}
use Rattle.cap_words.specs.Seen.{Seen, cell_seen}
use Rattle.instr_table.specs.declared.op.Op.{Op}
use Rattle.instr_table.specs.declared.op.Op.TheVariants.{DictPut, DictDel, DequeTake, SponsorNew}
use Rattle.instr_table.specs.Spelling.{charge_of}
use Rattle.instr_table.specs.Lists.{item, items, pair_in}
use Rattle.instr_table.specs.Dictionary.{entries}
use Rattle.instr_table.specs.Deque.{ends}
use Rattle.instr_table.specs.Event.{Own, Effects}
use Rattle.instr_table.specs.Sheet.{Account}
use Rattle.instr_table.specs.Outcome.{charge}
use Rattle.instr_table.specs.SponsorRows.{most_sponsors}
use Rattle.instr_table.specs.Row.{row}

-- the place of the first entry with a key, counted from 0; none where no entry has it
abbrev pub place_of_key : W → List Quad → Option ℕ
place_of_key key es = position (λ (e : Quad). same_word e.x key) es

-- `dict set`: the item, the new entry, and a copy of each entry before the one that it replaces
abbrev pub set_quads : Option ℕ → ℕ
set_quads (Some place) = place + 2
set_quads None = 2

-- `dict del`: the item, and a copy of each entry before the one that is left out
abbrev pub del_quads : Option ℕ → ℕ
del_quads (Some place) = place + 1
del_quads None = 1

-- `deque pop` and `pull`, by the pair that the near list begins with: both items and the deque; where there is none, also a pair for each
-- item of the far list, which is turned round
abbrev pub take_quads : Option Quad → List W → ℕ
take_quads (Some pair) far_items = 3
take_quads None far_items = 3 + length far_items

-- `sponsor new`: the item and the sponsor's two quads, or the item alone where no more sponsors may be made
abbrev pub new_quads : List Account → ℕ
new_quads sheet = if nat_lt (length sheet) most_sponsors then 3 else 1

-- the quads that such an operation costs; the operands are on the stack, the top first
abbrev pub quads_by_state : Op → Seen → List Account → List W → ℕ
quads_by_state (DictPut n) s sheet vs = set_quads (place_of_key (item vs 2) (entries s (item vs 3)))
quads_by_state DictDel s sheet vs = del_quads (place_of_key (item vs 1) (entries s (item vs 2)))
quads_by_state (DequeTake n) s sheet vs =
    let d = ends s (item vs 1) in
    if int_eq n (pos 3) then take_quads (pair_in (cell_seen s d.front)) (items s d.back) else take_quads (pair_in (cell_seen s d.back)) (items s d.front)
quads_by_state SponsorNew s sheet vs = new_quads sheet
quads_by_state op s sheet vs = 0

-- where the table's column says nothing, the row charges so many quads and no event
abbrev pub ChargesByState : Type 0
ChargesByState = (own : Own) (op : Op) (s : Seen) (sheet : List Account) (e : Effects) (vs : List W) (k : W) → charge_of op ≡ None → (row own op s sheet e vs k).charge ≡ charge (quads_by_state op s sheet vs) 0
