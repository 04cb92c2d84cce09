-- The table's operations on the dictionaries and deques of a memory.
use Rattle.std.specs.Prelude.{ℕ, List, length, reverse, Option, option_map}
use Rattle.cap_words.specs.declared.word.Quad.{Quad}
use Rattle.cap_words.specs.Words.{W, Ram, nil}
use Rattle.cap_words.specs.Seen.{Seen, seen}
use Rattle.quad_memory.specs.Memory.{Memory}
use Rattle.instr_table.specs.Lists.{Built, next_quad, chained, one_cell, items}
use Rattle.instr_table.specs.Dictionary.{entries, entries_to, before, copy, first_with, dict_added, dict_set, dict_del}
use Rattle.instr_table.specs.Deque.{ends, Taking, taking, turned, pushed_front, pushed_back, deque_after, deque_quad}
use Rattle.vm_dict.specs.declared.dict.Found.{Found}

-- the value under a key, or none
abbrev pub value_at : Seen → W → W → Option W
value_at s dict key = option_map (λ (e : Quad). e.y) (first_with key (entries s dict))

-- the first entry with a key, and how many are before it
abbrev pub found : W → List Quad → Option Found
found key es = option_map (λ (e : Quad). record { before = length (before key es); entry = e }) (first_with key es)

-- the word of the quad that is taken next
abbrev pub next_word : Memory → W
next_word m = Ram (next_quad (seen m.store))

abbrev pub added_in : Memory → W → W → W → Built
added_in m dict key value = dict_added (next_quad (seen m.store)) dict key value

abbrev pub set_in : Memory → W → W → W → Built
set_in m dict key value = dict_set (seen m.store) (next_quad (seen m.store)) dict key value

abbrev pub deleted_in : Memory → W → W → Built
deleted_in m dict key = dict_del (seen m.store) (next_quad (seen m.store)) dict key

-- so many entries, the first ones of a dictionary, copied in front of a tail
abbrev pub copied_in : Memory → ℕ → W → W → Built
copied_in m count dict tail = chained copy (next_quad (seen m.store)) (reverse (entries_to (seen m.store) count dict)) tail

abbrev pub new_in : Memory → Built
new_in m = one_cell (next_quad (seen m.store)) (deque_quad nil nil)

abbrev pub pushed_in : Memory → W → W → Built
pushed_in m deque value = pushed_front (next_quad (seen m.store)) (ends (seen m.store) deque) value

abbrev pub put_in : Memory → W → W → Built
put_in m deque value = pushed_back (next_quad (seen m.store)) (ends (seen m.store) deque) value

-- what is taken from the list at one end, or from the one at the other end turned round
abbrev pub taking_in : Memory → W → W → Taking
taking_in m near far = taking (seen m.store) (next_quad (seen m.store)) near far

-- what is taken from a list that is turned round
abbrev pub turned_in : Memory → W → Taking
turned_in m far = turned (next_quad (seen m.store)) (items (seen m.store) far)

abbrev pub from_front : Memory → W → Taking
from_front m deque = taking_in m (ends (seen m.store) deque).front (ends (seen m.store) deque).back

abbrev pub from_back : Memory → W → Taking
from_back m deque = taking_in m (ends (seen m.store) deque).back (ends (seen m.store) deque).front

-- the deque that is left
abbrev pub popped_in : Memory → W → Built
popped_in m deque = deque_after (next_quad (seen m.store)) (from_front m deque).cells (from_front m deque).near (from_front m deque).far

abbrev pub pulled_in : Memory → W → Built
pulled_in m deque = deque_after (next_quad (seen m.store)) (from_back m deque).cells (from_back m deque).far (from_back m deque).near
