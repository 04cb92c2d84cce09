-- Stacks as plain lists, and lists of linked cells.
use Rattle.std.specs.Prelude.{ℕ, zero, suc, ◌-◌, if◌then◌else◌, ℤ, pos, negsuc, List, [], ◌∷◌, ◌++◌, length, drop, Option, Some, None, get_or}
use Rattle.cap_words.specs.declared.word.Quad.{Quad}
use Rattle.cap_words.specs.Words.{W, Ram, same_word, undef, pair_t}
use Rattle.cap_words.specs.Seen.{Seen, Slot, OpenSlot, cell_seen}

-- the number of the quad that is taken next
abbrev pub next_quad : Seen → ℕ
next_quad s = length s.slots

-- ---- stacks, as lists with the top first

-- the k-th value, 1 being the top; `#?` where there is none
abbrev pub item : List W → ℕ → W
item vs k = get_or vs (k - 1) undef

-- the top n values, `#?` for those that are missing
abbrev pub top_items : ℕ → List W → List W
top_items zero vs = []
top_items (suc n) [] = undef ∷ top_items n []
top_items (suc n) (v ∷ vs) = v ∷ top_items n vs

-- the top items after a roll: the n-th comes to the top, or the top goes to the n-th place
abbrev pub rolled : ℤ → List W → List W
rolled (pos n) vs = item vs n ∷ top_items (n - 1) vs
rolled (negsuc n) vs = top_items n (drop 1 vs) ++ item vs 1 ∷ []

-- ---- cells that are linked

-- cells that a result is made of, and the word of the result
pub record Built : Type 0 where
  pub cells : List Slot
  pub word : W

-- cells for values in front of a tail, each naming the one before; the first is taken at n
abbrev pub linked : {A : Type 0} → (A → W → Quad) → ℕ → List A → W → List Slot
linked cell_for n [] tail = []
linked cell_for n (x ∷ xs) tail = OpenSlot (cell_for x tail) ∷ linked cell_for (suc n) xs (Ram n)

-- the word of the last of these cells, or the tail where there is none
abbrev pub last_linked : {A : Type 0} → ℕ → List A → W → W
last_linked n [] tail = tail
last_linked n (x ∷ xs) tail = last_linked (suc n) xs (Ram n)

-- such cells, as a result
abbrev pub chained : {A : Type 0} → (A → W → Quad) → ℕ → List A → W → Built
chained cell_for n xs tail = record { cells = linked cell_for n xs tail; word = last_linked n xs tail }

-- one cell, taken at n
abbrev pub one_cell : ℕ → Quad → Built
one_cell n q = record { cells = OpenSlot q ∷ []; word = Ram n }

-- ---- pairs

-- the words of a pair's cell
abbrev pub pair_quad : W → W → Quad
pair_quad head tail = record { t = pair_t; x = head; y = tail; z = undef }

-- the words of a pair, or none
abbrev pub pair_in : Option Quad → Option Quad
pair_in None = None
pair_in (Some q) = if same_word q.t pair_t then Some q else None

-- the head of a pair, `#?` of anything else
abbrev pub head_in : Option Quad → W
head_in None = undef
head_in (Some q) = if same_word q.t pair_t then q.x else undef

-- the tail of a pair, `#?` of anything else
abbrev pub tail_in : Option Quad → W
tail_in None = undef
tail_in (Some q) = if same_word q.t pair_t then q.y else undef

-- what is left of a list after n items
abbrev pub tail_after : Seen → ℕ → W → W
tail_after s zero w = w
tail_after s (suc n) w = tail_after s n (tail_in (cell_seen s w))

-- the n-th item of a list; below 0 the tail after that many; at 0 the list
abbrev pub nth : Seen → ℤ → W → W
nth s (pos zero) w = w
nth s (pos (suc n)) w = head_in (cell_seen s (tail_after s n w))
nth s (negsuc n) w = tail_after s (suc n) w

-- the tail after n items, and then the n-th to the first
abbrev pub parted : Seen → ℕ → W → List W
parted s zero w = w ∷ []
parted s (suc n) w = parted s n (tail_in (cell_seen s w)) ++ head_in (cell_seen s w) ∷ []

-- a longer list counts as its first cells
abbrev pub longest : ℕ
longest = 4095

-- the items of a list, the first n at most
unfoldable pub items_to : Seen → ℕ → W → List W
items_to s zero w = []
items_to s (suc n) w = elim (pair_in (cell_seen s w)) [
  | None ↦ []
  | Some q ↦ q.x ∷ items_to s n q.y
]

-- the items of a list
abbrev pub items : Seen → W → List W
items s w = items_to s longest w

-- ---- the words of a cell

-- the word of that number in a cell, `#?` where there is no cell
abbrev pub field_in : Option Quad → ℕ → W
field_in None n = undef
field_in (Some q) n = get_or (q.t ∷ q.x ∷ q.y ∷ q.z ∷ []) n undef

-- the first n words of a cell, the last first
abbrev pub fields_in : Option Quad → ℕ → List W
fields_in q zero = []
fields_in q (suc n) = field_in q n ∷ fields_in q n
