-- Worked rows on dictionaries and deques.
use Rattle.std.proofs.Common.{◌≡◌, ℕ, pos, List, [], ◌∷◌, ◌++◌, refl}
use Rattle.cap_words.specs.Words.{W, Fix, Rom, Ram, undef, nil}
use Rattle.cap_words.specs.Seen.{Seen, OpenSlot, grown}
use Rattle.instr_table.specs.declared.op.Op.{Op}
use Rattle.instr_table.specs.declared.op.Op.TheVariants.{DictTest, DictPut, DictDel, DequeNew, DequeTest, DequePut, DequeTake}
use Rattle.instr_table.specs.Lists.{items_to, pair_quad}
use Rattle.instr_table.specs.Dictionary.{entries_to, dict_set, dict_del, entry_quad}
use Rattle.instr_table.specs.Deque.{taking, deque_quad}
use Rattle.instr_table.specs.Event.{Own, no_effects}
use Rattle.instr_table.specs.Outcome.{Outcome, Goes, Faults, Commits, Row}
use Rattle.instr_table.specs.Row.{row}

abbrev n : ℕ → W
n k = Fix (pos k)

abbrev own : Own
own = record { sponsor = undef; actor = undef; code = undef; state = undef; message = undef }

abbrev on : Op → Seen → List W → Row
on op s vs = row own op s [] no_effects vs undef

-- a store and the items that the last row pushed
abbrev step_in : Seen → Outcome → Seen × List W
step_in s (Goes g) = (grown s g.made, g.pushed)
step_in s (Faults w) = (s, [])
step_in s Commits = (s, [])

abbrev step : Op → Seen → List W → Seen × List W
step op s vs = step_in s (on op s vs).outcome

abbrev cost : Op → Seen → List W → ℕ
cost op s vs = (on op s vs).charge.quads

abbrev empty : Seen
empty = record { rom = []; slots = [] }

-- ---- a dictionary: 10 under 1, then 20 under 2

abbrev first_added : Seen
first_added = (step (DictPut (pos 2)) empty (n 10 ∷ n 1 ∷ nil ∷ [])).0

abbrev both_added : Seen
both_added = (step (DictPut (pos 2)) first_added (n 20 ∷ n 2 ∷ Ram 0 ∷ [])).0

added : (both_added.slots ≡ OpenSlot (entry_quad (n 1) (n 10) nil) ∷ OpenSlot (entry_quad (n 2) (n 20) (Ram 0)) ∷ []) × (cost (DictPut (pos 2)) empty (n 10 ∷ n 1 ∷ nil ∷ []) ≡ 2)
added = (refl, refl)

asked : (step (DictTest (pos 0)) both_added (n 1 ∷ Ram 1 ∷ [])).1 ++ (step (DictTest (pos 1)) both_added (n 1 ∷ Ram 1 ∷ [])).1 ++ (step (DictTest (pos 0)) both_added (n 3 ∷ Ram 1 ∷ [])).1 ++ (step (DictTest (pos 1)) both_added (n 3 ∷ Ram 1 ∷ [])).1 ≡ Rom 3 ∷ n 10 ∷ Rom 2 ∷ undef ∷ []
unfolding entries_to
asked = refl

-- one entry is copied before the replaced one
replaced : (step (DictPut (pos 3)) both_added (n 11 ∷ n 1 ∷ Ram 1 ∷ [])) ≡ (grown both_added (OpenSlot (entry_quad (n 1) (n 11) nil) ∷ OpenSlot (entry_quad (n 2) (n 20) (Ram 2)) ∷ []), Ram 3 ∷ [])
unfolding entries_to dict_set
replaced = refl

replaced_cost : cost (DictPut (pos 3)) both_added (n 11 ∷ n 1 ∷ Ram 1 ∷ []) ≡ 3
unfolding entries_to dict_set
replaced_cost = refl

-- the first of two entries is left out: nothing is copied
left_out : ((step DictDel both_added (n 2 ∷ Ram 1 ∷ [])) ≡ (grown both_added [], Ram 0 ∷ [])) × (cost DictDel both_added (n 2 ∷ Ram 1 ∷ []) ≡ 1)
unfolding entries_to dict_del
left_out = (refl, refl)

left_out_deeper : ((step DictDel both_added (n 1 ∷ Ram 1 ∷ [])) ≡ (grown both_added (OpenSlot (entry_quad (n 2) (n 20) nil) ∷ []), Ram 2 ∷ [])) × (cost DictDel both_added (n 1 ∷ Ram 1 ∷ []) ≡ 2)
unfolding entries_to dict_del
left_out_deeper = (refl, refl)

-- a word that is no dictionary acts as an empty one, and stays at the end
on_no_dictionary : ((step (DictPut (pos 3)) empty (n 1 ∷ n 2 ∷ n 7 ∷ [])) ≡ (grown empty (OpenSlot (entry_quad (n 2) (n 1) (n 7)) ∷ []), Ram 0 ∷ [])) × ((step DictDel empty (n 2 ∷ n 7 ∷ [])).1 ≡ n 7 ∷ [])
unfolding entries_to dict_set dict_del
on_no_dictionary = (refl, refl)

-- ---- a deque: 1 pushed, then 2 put

abbrev pushed : Seen × List W
pushed = step (DequePut (pos 2)) (step DequeNew empty []).0 (n 1 ∷ Ram 0 ∷ [])

abbrev put : Seen × List W
put = step (DequePut (pos 4)) pushed.0 (n 2 ∷ pushed.1)

two_items : (put.1 ≡ Ram 4 ∷ []) × ((step (DequeTest (pos 6)) put.0 put.1).1 ≡ n 2 ∷ []) × ((step (DequeTest (pos 1)) put.0 put.1).1 ≡ Rom 2 ∷ []) × (cost (DequePut (pos 4)) pushed.0 (n 2 ∷ pushed.1) ≡ 3)
unfolding items_to
two_items = (refl, refl, refl, refl)

first_popped : ((step (DequeTake (pos 3)) put.0 put.1).1 ≡ Ram 5 ∷ n 1 ∷ []) × (cost (DequeTake (pos 3)) put.0 put.1 ≡ 3)
unfolding items_to taking
first_popped = (refl, refl)

abbrev one_left : Seen
unfolding items_to taking
one_left = (step (DequeTake (pos 3)) put.0 put.1).0

-- the back list has one item, which is turned round
second_popped : ((step (DequeTake (pos 3)) one_left (Ram 5 ∷ [])).1 ≡ Ram 7 ∷ n 2 ∷ []) × (cost (DequeTake (pos 3)) one_left (Ram 5 ∷ []) ≡ 4)
unfolding items_to taking
second_popped = (refl, refl)

abbrev none_left : Seen
unfolding items_to taking
none_left = (step (DequeTake (pos 3)) one_left (Ram 5 ∷ [])).0

third_popped : ((step (DequeTake (pos 3)) none_left (Ram 7 ∷ [])).1 ≡ Ram 8 ∷ undef ∷ []) × (cost (DequeTake (pos 3)) none_left (Ram 7 ∷ []) ≡ 3) × ((step (DequeTest (pos 1)) none_left (Ram 7 ∷ [])).1 ≡ Rom 3 ∷ [])
unfolding items_to taking
third_popped = (refl, refl, refl)

-- from the back, a front list of three is turned round: 3, 2 and then 1 are made, and 1, at the back, is taken
abbrev three : Seen
three = record { rom = []; slots = OpenSlot (pair_quad (n 1) nil) ∷ OpenSlot (pair_quad (n 2) (Ram 0)) ∷ OpenSlot (pair_quad (n 3) (Ram 1)) ∷ OpenSlot (deque_quad (Ram 2) nil) ∷ [] }

pulled : ((step (DequeTake (pos 5)) three (Ram 3 ∷ [])) ≡ (grown three (OpenSlot (pair_quad (n 3) nil) ∷ OpenSlot (pair_quad (n 2) (Ram 4)) ∷ OpenSlot (pair_quad (n 1) (Ram 5)) ∷ OpenSlot (deque_quad nil (Ram 5)) ∷ []), Ram 7 ∷ n 1 ∷ [])) × (cost (DequeTake (pos 5)) three (Ram 3 ∷ []) ≡ 6)
unfolding items_to taking
pulled = (refl, refl)
