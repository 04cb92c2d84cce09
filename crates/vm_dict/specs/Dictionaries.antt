-- A dictionary as the list of its keys and values.
use Rattle.std.specs.Prelude.{◌≡◌, ◌≤◌, if◌then◌else◌, List, [], ◌∷◌, length, Option, Some, None, is_some}
use Rattle.cap_words.specs.declared.word.Quad.{Quad}
use Rattle.cap_words.specs.Words.{W, same_word}
use Rattle.cap_words.specs.Seen.{Seen, Slot, seen, cell_seen}
use Rattle.instr_table.specs.Lists.{next_quad, longest}
use Rattle.instr_table.specs.Dictionary.{entry_in}
use Rattle.instr_table.specs.Authority.{IsTaken}
use Rattle.quad_memory.specs.Memory.{Memory}
use Rattle.vm_dict.specs.Made.{Takes}
use Rattle.vm_dict.specs.Calls.{value_at, added_in, set_in, deleted_in}

-- the word stands for these keys and values: an entry for each, and at the end a word that names none and no quad that is still to be
-- taken, as `#nil`
abbrev pub IsDictionary : Seen → W → List (W × W) → Type 0
IsDictionary s w [] = (entry_in (cell_seen s w) ≡ None) × IsTaken (next_quad s) w
IsDictionary s w (e ∷ es) = (q : Quad) × (entry_in (cell_seen s w) ≡ Some q) × (q.x ≡ e.0) × (q.y ≡ e.1) × IsDictionary s q.z es

-- ---- the operations on lists

-- the first value under a key
abbrev pub looked_up : W → List (W × W) → Option W
looked_up key [] = None
looked_up key (e ∷ es) = if same_word e.0 key then Some e.1 else looked_up key es

-- the first value under a key replaced
abbrev pub replaced : W → W → List (W × W) → List (W × W)
replaced key value [] = []
replaced key value (e ∷ es) = if same_word e.0 key then (key, value) ∷ es else e ∷ replaced key value es

-- the first value under a key replaced, or put in front where there is none
abbrev pub assigned : W → W → List (W × W) → List (W × W)
assigned key value es = if is_some (looked_up key es) then replaced key value es else (key, value) ∷ es

-- the first value under a key left out
abbrev pub left_out : W → List (W × W) → List (W × W)
left_out key [] = []
left_out key (e ∷ es) = if same_word e.0 key then es else e ∷ left_out key es

-- ---- what the calls do is what these do

abbrev pub IsDictionaryIn : Memory → W → List (W × W) → Type 0
IsDictionaryIn m w es = IsDictionary (seen m.store) w es

abbrev pub GetsLookedUp : Type 0
GetsLookedUp = (m : Memory) (dict key : W) (es : List (W × W)) → IsDictionaryIn m dict es → length es ≤ longest → value_at (seen m.store) dict key ≡ looked_up key es

abbrev pub AddsInFront : Type 0
AddsInFront = (old new : Memory) (dict key value : W) (es : List (W × W)) → IsDictionaryIn old dict es → Takes old new (added_in old dict key value).cells → IsDictionaryIn new (added_in old dict key value).word ((key, value) ∷ es)

abbrev pub SetsAssigned : Type 0
SetsAssigned = (old new : Memory) (dict key value : W) (es : List (W × W)) → IsDictionaryIn old dict es → length es ≤ longest → Takes old new (set_in old dict key value).cells → IsDictionaryIn new (set_in old dict key value).word (assigned key value es)

abbrev pub DeletesLeftOut : Type 0
DeletesLeftOut = (old new : Memory) (dict key : W) (es : List (W × W)) → IsDictionaryIn old dict es → length es ≤ longest → Takes old new (deleted_in old dict key).cells → IsDictionaryIn new (deleted_in old dict key).word (left_out key es)

-- each dictionary stands for the same list after any cells were taken
abbrev pub DictionariesStand : Type 0
DictionariesStand = (old new : Memory) (cells : List Slot) (dict : W) (es : List (W × W)) → IsDictionaryIn old dict es → Takes old new cells → IsDictionaryIn new dict es
