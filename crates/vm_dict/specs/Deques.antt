-- A deque as the list of its values.
use Rattle.std.specs.Prelude.{◌≡◌, ◌<◌, ◌≤◌, List, [], ◌∷◌, ◌++◌, length, reverse, drop, Some, None}
use Rattle.cap_words.specs.declared.word.Quad.{Quad}
use Rattle.cap_words.specs.Words.{W}
use Rattle.cap_words.specs.Seen.{Seen, Slot, seen, cell_seen}
use Rattle.instr_table.specs.Lists.{next_quad, longest, pair_in, items, item}
use Rattle.instr_table.specs.Deque.{ends, deque_len}
use Rattle.instr_table.specs.Authority.{IsTaken}
use Rattle.quad_memory.specs.Memory.{Memory}
use Rattle.vm_dict.specs.Made.{Takes}
use Rattle.vm_dict.specs.Calls.{new_in, pushed_in, put_in, from_front, from_back, popped_in, pulled_in}

-- the word stands for these values: a pair for each, and at the end a word that names none and no quad that is still to be taken, as `#nil`
abbrev pub IsList : Seen → W → List W → Type 0
IsList s w [] = (pair_in (cell_seen s w) ≡ None) × IsTaken (next_quad s) w
IsList s w (v ∷ vs) = (q : Quad) × (pair_in (cell_seen s w) ≡ Some q) × (q.x ≡ v) × IsList s q.y vs

-- the word stands for these values: those of its front list, and then those of its back list from the last one on; neither list is too long
pub record IsDeque (s : Seen) (w : W) (vs : List W) : Type 0 where
  pub front_items : List W
  pub back_items : List W
  pub values_are : vs ≡ front_items ++ reverse back_items
  pub front : IsList s (ends s w).front front_items
  pub back : IsList s (ends s w).back back_items
  pub front_within : length front_items ≤ longest
  pub back_within : length back_items ≤ longest
  pub named : IsTaken (next_quad s) w

-- ---- what the calls do is what lists do

abbrev pub IsDequeIn : Memory → W → List W → Type 0
IsDequeIn m w vs = IsDeque (seen m.store) w vs

abbrev pub CountsItsValues : Type 0
CountsItsValues = (m : Memory) (deque : W) (vs : List W) → IsDequeIn m deque vs → deque_len (seen m.store) deque ≡ length vs

abbrev pub BeginsEmpty : Type 0
BeginsEmpty = (old new : Memory) → Takes old new (new_in old).cells → IsDequeIn new (new_in old).word []

-- where the front list is not full
abbrev pub PushesInFront : Type 0
PushesInFront = (old new : Memory) (deque value : W) (vs : List W) → IsDequeIn old deque vs → length (items (seen old.store) (ends (seen old.store) deque).front) < longest → Takes old new (pushed_in old deque value).cells → IsDequeIn new (pushed_in old deque value).word (value ∷ vs)

-- where the back list is not full
abbrev pub PutsBehind : Type 0
PutsBehind = (old new : Memory) (deque value : W) (vs : List W) → IsDequeIn old deque vs → length (items (seen old.store) (ends (seen old.store) deque).back) < longest → Takes old new (put_in old deque value).cells → IsDequeIn new (put_in old deque value).word (vs ++ value ∷ [])

-- `#?` and no value are left of an empty deque
abbrev pub PopsTheFirst : Type 0
PopsTheFirst = (old new : Memory) (deque : W) (vs : List W) → IsDequeIn old deque vs → Takes old new (popped_in old deque).cells → ((from_front old deque).value ≡ item vs 1) × IsDequeIn new (popped_in old deque).word (drop 1 vs)

abbrev pub PullsTheLast : Type 0
PullsTheLast = (old new : Memory) (deque : W) (vs : List W) → IsDequeIn old deque vs → Takes old new (pulled_in old deque).cells → ((from_back old deque).value ≡ item (reverse vs) 1) × IsDequeIn new (pulled_in old deque).word (reverse (drop 1 (reverse vs)))

-- each deque stands for the same values after any cells were taken
abbrev pub DequesStand : Type 0
DequesStand = (old new : Memory) (cells : List Slot) (deque : W) (vs : List W) → IsDequeIn old deque vs → Takes old new cells → IsDequeIn new deque vs
