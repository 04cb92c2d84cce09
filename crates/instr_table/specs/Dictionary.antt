-- Dictionaries: lists of entries, of which the first one with a key counts.
use Rattle.std.specs.Prelude.{ℕ, zero, suc, if◌then◌else◌, ℤ, pos, List, [], ◌∷◌, reverse, Option, Some, None}
use Rattle.std.specs.Ordering.{int_eq}
use Rattle.cap_words.specs.declared.word.Quad.{Quad}
use Rattle.cap_words.specs.Words.{W, same_word, undef, dict_t}
use Rattle.cap_words.specs.Seen.{Seen, cell_seen}
use Rattle.instr_table.specs.Lists.{Built, chained, one_cell, longest}

-- the words of an entry's cell
abbrev pub entry_quad : W → W → W → Quad
entry_quad key value next = record { t = dict_t; x = key; y = value; z = next }

-- the words of an entry, or none
abbrev pub entry_in : Option Quad → Option Quad
entry_in None = None
entry_in (Some q) = if same_word q.t dict_t then Some q else None

-- the entries of a dictionary, the first n at most
unfoldable pub entries_to : Seen → ℕ → W → List Quad
entries_to s zero w = []
entries_to s (suc n) w = elim (entry_in (cell_seen s w)) [
  | None ↦ []
  | Some q ↦ q ∷ entries_to s n q.z
]

-- the entries of a dictionary; a word that is none has no entry
abbrev pub entries : Seen → W → List Quad
entries s w = entries_to s longest w

-- the first entry with a key
abbrev pub first_with : W → List Quad → Option Quad
first_with key [] = None
first_with key (e ∷ es) = if same_word e.x key then Some e else first_with key es

-- the entries before the first one with a key
abbrev pub before : W → List Quad → List Quad
before key [] = []
before key (e ∷ es) = if same_word e.x key then [] else e ∷ before key es

-- an entry with another next
abbrev pub copy : Quad → W → Quad
copy e next = entry_quad e.x e.y next

-- the value under a key, `#?` where there is none
abbrev pub value_in : Option Quad → W
value_in None = undef
value_in (Some e) = e.y

-- an entry put in front
abbrev pub dict_added : ℕ → W → W → W → Built
dict_added n w key value = one_cell n (entry_quad key value w)

-- the first entry with the key replaced, and those before it copied; or an entry put in front
abbrev pub set_at : Option Quad → ℕ → List Quad → W → W → W → Built
set_at None n es w key value = dict_added n w key value
set_at (Some e) n es w key value = chained copy n (entry_quad key value undef ∷ reverse (before key es)) e.z

-- `set` on a dictionary; its cells are taken from n on
unfoldable pub dict_set : Seen → ℕ → W → W → W → Built
dict_set s n w key value = set_at (first_with key (entries s w)) n (entries s w) w key value

-- `add`, or `set`, by its number
abbrev pub dict_put : ℤ → Seen → ℕ → W → W → W → Built
dict_put k s n w key value = if int_eq k (pos 3) then dict_set s n w key value else dict_added n w key value

-- the first entry with the key left out, and those before it copied; or the dictionary as it stands
abbrev pub del_at : Option Quad → ℕ → List Quad → W → W → Built
del_at None n es w key = record { cells = []; word = w }
del_at (Some e) n es w key = chained copy n (reverse (before key es)) e.z

-- `del` on a dictionary; its cells are taken from n on
unfoldable pub dict_del : Seen → ℕ → W → W → Built
dict_del s n w key = del_at (first_with key (entries s w)) n (entries s w) w key
