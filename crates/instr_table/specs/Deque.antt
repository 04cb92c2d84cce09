-- Deques: a front list, and a back list that is kept reversed.
use Rattle.std.specs.Prelude.{ℕ, suc, ◌+◌, nat_eq, if◌then◌else◌, ℤ, pos, Bool, List, [], ◌∷◌, ◌++◌, length, Option, Some, None}
use Rattle.std.specs.Ordering.{int_eq}
use Rattle.cap_words.specs.declared.word.Quad.{Quad}
use Rattle.cap_words.specs.Words.{W, Ram, same_word, undef, nil, deque_t}
use Rattle.cap_words.specs.Seen.{Seen, Slot, OpenSlot, cell_seen}
use Rattle.instr_table.specs.Lists.{Built, pair_quad, pair_in, items}

-- the first words of a deque's two lists
pub record Ends : Type 0 where
  pub front : W
  pub back : W

-- the words of a deque's cell
abbrev pub deque_quad : W → W → Quad
deque_quad front back = record { t = deque_t; x = front; y = back; z = undef }

-- a word that is no deque acts as an empty one
abbrev pub ends_in : Option Quad → Ends
ends_in None = record { front = nil; back = nil }
ends_in (Some q) = if same_word q.t deque_t then record { front = q.x; back = q.y } else record { front = nil; back = nil }

-- the first words of the lists of what a word names
abbrev pub ends : Seen → W → Ends
ends s w = ends_in (cell_seen s w)

-- how many items a deque has
abbrev pub deque_len : Seen → W → ℕ
deque_len s w = length (items s (ends s w).front) + length (items s (ends s w).back)

-- whether it has no items
abbrev pub is_empty : Seen → W → Bool
is_empty s w = nat_eq (deque_len s w) 0

-- a deque after these cells, taken from n on
abbrev pub deque_after : ℕ → List Slot → W → W → Built
deque_after n cells front back = record { cells = cells ++ OpenSlot (deque_quad front back) ∷ []; word = Ram (n + length cells) }

-- a value put at the front
abbrev pub pushed_front : ℕ → Ends → W → Built
pushed_front n d v = deque_after n (OpenSlot (pair_quad v d.front) ∷ []) (Ram n) d.back

-- a value put at the back
abbrev pub pushed_back : ℕ → Ends → W → Built
pushed_back n d v = deque_after n (OpenSlot (pair_quad v d.back) ∷ []) d.front (Ram n)

-- `push`, or `put`, by its number
abbrev pub deque_put : ℤ → ℕ → Ends → W → Built
deque_put k n d v = if int_eq k (pos 2) then pushed_front n d v else pushed_back n d v

-- what is taken from one end: the cells of a list that was turned round, the value, and the two lists after it
pub record Taking : Type 0 where
  pub cells : List Slot
  pub value : W
  pub near : W
  pub far : W

-- one pair for each item of the far list, of which the last is taken; the first one is of v, before that tail
abbrev pub turned_on : ℕ → W → W → List W → Taking
turned_on n tail v [] = record { cells = OpenSlot (pair_quad v tail) ∷ []; value = v; near = tail; far = nil }
turned_on n tail v (w ∷ ws) = let t : Taking = turned_on (suc n) (Ram n) w ws in record t { cells = OpenSlot (pair_quad v tail) ∷ t.cells }

-- the far list turned round into a new near list, of which the first item is taken
abbrev pub turned : ℕ → List W → Taking
turned n [] = record { cells = []; value = undef; near = nil; far = nil }
turned n (v ∷ vs) = turned_on n nil v vs

-- the first item of the near list is taken; where there is none, of the far one turned round
abbrev pub taken_from : Option Quad → ℕ → List W → W → Taking
taken_from (Some q) n far_items far = record { cells = []; value = q.x; near = q.y; far = far }
taken_from None n far_items far = turned n far_items

-- what is taken from the end that is near: the front for `pop`, the back for `pull`
unfoldable pub taking : Seen → ℕ → W → W → Taking
taking s n near far = taken_from (pair_in (cell_seen s near)) n (items s far) far
