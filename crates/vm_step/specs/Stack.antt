-- The stack that a lane's word and depth name.
use Rattle.std.specs.Prelude.{◌≡◌, ℕ, zero, suc, List, [], ◌∷◌, Some}
use Rattle.cap_words.specs.Words.{W, nil}
use Rattle.cap_words.specs.Seen.{Seen, cell_seen}
use Rattle.instr_table.specs.Lists.{head_in, tail_in, pair_quad}
use Rattle.instr_table.specs.Lane.{Item}

-- the first d items from a word on, each with the word of its cell
abbrev pub items_from : Seen → ℕ → W → List Item
items_from s zero w = []
items_from s (suc d) w = record { value = head_in (cell_seen s w); at = w } ∷ items_from s d (tail_in (cell_seen s w))

-- the word names a list of d pairs that ends with `#nil`
abbrev pub IsStack : Seen → ℕ → W → Type 0
IsStack s zero w = w ≡ nil
IsStack s (suc d) w = (v : W) × (t : W) × (cell_seen s w ≡ Some (pair_quad v t)) × IsStack s d t
