-- The instruction table: one case for each operation.
use Rattle.std.specs.Prelude.{ℕ, suc, nat_le, if◌then◌else◌, ℤ, pos, unsigned_abs, List, [], ◌∷◌, length, reverse, Option, Some, None, is_some}
use Rattle.std.specs.Ordering.{int_eq}
use Rattle.cap_words.specs.declared.word.Quad.{Quad}
use Rattle.cap_words.specs.Words.{W, Fix, same_word, undef, nil, truth}
use Rattle.cap_words.specs.Seen.{Seen, cell_seen}
use Rattle.instr_table.specs.declared.op.Op.{Op}
use Rattle.instr_table.specs.declared.op.Op.TheVariants.{Push, Dup, Drop, Pick, Roll, Depth, Pair, Part, Nth, QuadMake, QuadTake, Get, Typeq, Eq, Cmp, AluNot, Alu, If, Jump, Msg, State, My, ActorSend, ActorPost, ActorCreate, ActorAssign, ActorBecome, End, DictTest, DictPut, DictDel, DequeNew, DequeTest, DequePut, DequeTake, SponsorNew, SponsorGrant, SponsorReclaim, SponsorStart, SponsorStop, Assert, Debug}
use Rattle.instr_table.specs.Types.{type_of, is_type, is_makeable}
use Rattle.instr_table.specs.Lists.{next_quad, item, top_items, rolled, Built, chained, one_cell, pair_quad, nth, parted, field_in, fields_in}
use Rattle.instr_table.specs.Dictionary.{entries, first_with, value_in, dict_put, dict_del}
use Rattle.instr_table.specs.Deque.{Ends, ends, deque_quad, is_empty, deque_len, deque_after, deque_put, Taking, taking}
use Rattle.instr_table.specs.Arithmetic.{falsy, compared, alu, complement}
use Rattle.instr_table.specs.Event.{Own, Effects, Nothing}
use Rattle.instr_table.specs.Sheet.{Account}
use Rattle.instr_table.specs.Outcome.{Commits, Row, charge, does, goes, gives, ends_with, faults, bad_instruction, assertion_failed, was_stopped}
use Rattle.instr_table.specs.ActorRows.{send_row, post_row, create_row, assign_row, become_row}
use Rattle.instr_table.specs.SponsorRows.{new_row, kind_of_grant, grant_row, reclaim_row, start_row, stop_row}

-- the list of the top n items, with the one below them as its tail
abbrev pub listed : ℕ → Seen → List W → Built
listed n s vs = chained pair_quad (next_quad s) (reverse (top_items n vs)) (item vs (suc n))

-- the k-th item where it is one of the first n, and else `#?`
abbrev pub item_of : ℕ → List W → ℕ → W
item_of n vs k = if nat_le k n then item vs k else undef

-- a cell of n words with the type on top; it costs two quads, also where the word on top is no type of such cells
abbrev pub quad_row : ℕ → Seen → List W → W → Row
quad_row n s vs k =
    if is_makeable s (item vs 1)
    then gives n (one_cell (next_quad s) (record { t = item vs 1; x = item_of n vs 2; y = item_of n vs 3; z = item_of n vs 4 })) k
    else record (goes n (undef ∷ []) k) { charge = charge 2 0 }

-- the actor, its code or its state
abbrev pub own_word : ℤ → Own → W
own_word n own = if int_eq n (pos 0) then own.actor else if int_eq n (pos 1) then own.code else own.state

-- whether the key is there, or its value
abbrev pub dict_tested : ℤ → Option Quad → W
dict_tested n e = if int_eq n (pos 0) then truth (is_some e) else value_in e

-- whether it is empty, or how many items it has
abbrev pub deque_tested : ℤ → Seen → W → W
deque_tested n s w = if int_eq n (pos 1) then truth (is_empty s w) else Fix (pos (deque_len s w))

-- `deque -- deque value`, from the front
abbrev pub popped : ℕ → Taking → W → Row
popped n t k = let b : Built = deque_after n t.cells t.near t.far in does 1 b.cells (b.word ∷ t.value ∷ []) k Nothing

-- `deque -- deque value`, from the back
abbrev pub pulled : ℕ → Taking → W → Row
pulled n t k = let b : Built = deque_after n t.cells t.far t.near in does 1 b.cells (b.word ∷ t.value ∷ []) k Nothing

-- `pop`, or `pull`, by its number
abbrev pub take_row : ℤ → Seen → Ends → W → Row
take_row n s d k =
    if int_eq n (pos 3)
    then popped (next_quad s) (taking s (next_quad s) d.front d.back) k
    else pulled (next_quad s) (taking s (next_quad s) d.back d.front) k

-- abort fails with the item on top, stop with its own reason
abbrev pub end_row : ℤ → List W → Row
end_row n vs =
    if int_eq n (pos 1) then ends_with (charge 0 0) Commits else
    if int_eq n (pos 0) then faults 0 0 was_stopped else faults 0 0 (item vs 1)

-- the row of an operation, over what the event has of its own, the store, the sheet, the event's record, the values on its stack (the
-- top first), and the word of the next instruction
abbrev pub row : Own → Op → Seen → List Account → Effects → List W → W → Row
row own (Push v) s sheet e vs k = goes 0 (v ∷ []) k
row own (Dup n) s sheet e vs k = goes 0 (reverse (top_items (unsigned_abs n) vs)) k
row own (Drop n) s sheet e vs k = goes (unsigned_abs n) [] k
row own (Pick n) s sheet e vs k = goes 0 (item vs (unsigned_abs n) ∷ []) k
row own (Roll n) s sheet e vs k = goes (unsigned_abs n) (reverse (rolled n vs)) k
row own Depth s sheet e vs k = goes 0 (Fix (pos (length vs)) ∷ []) k
row own (Pair n) s sheet e vs k = gives (suc (unsigned_abs n)) (listed (unsigned_abs n) s vs) k
row own (Part n) s sheet e vs k = goes 1 (parted s (unsigned_abs n) (item vs 1)) k
row own (Nth n) s sheet e vs k = goes 1 (nth s n (item vs 1) ∷ []) k
row own (QuadMake n) s sheet e vs k = quad_row (unsigned_abs n) s vs k
row own (QuadTake n) s sheet e vs k = goes 1 (fields_in (cell_seen s (item vs 1)) (unsigned_abs n)) k
row own (Get n) s sheet e vs k = goes 1 (field_in (cell_seen s (item vs 1)) (unsigned_abs n) ∷ []) k
row own (Typeq t) s sheet e vs k = goes 1 (truth (is_type (type_of s (item vs 1)) t) ∷ []) k
row own (Eq v) s sheet e vs k = goes 1 (truth (same_word (item vs 1) v) ∷ []) k
row own (Cmp n) s sheet e vs k = goes 2 (compared n (item vs 2) (item vs 1) ∷ []) k
row own AluNot s sheet e vs k = goes 1 (complement (item vs 1) ∷ []) k
row own (Alu n) s sheet e vs k = goes 2 (alu n (item vs 2) (item vs 1) ∷ []) k
row own (If label) s sheet e vs k = goes 1 [] (if falsy (item vs 1) then k else label)
row own Jump s sheet e vs k = goes 1 [] (item vs 1)
row own (Msg n) s sheet e vs k = goes 0 (nth s n own.message ∷ []) k
row own (State n) s sheet e vs k = goes 0 (nth s n own.state ∷ []) k
row own (My n) s sheet e vs k = goes 0 (own_word n own ∷ []) k
row own ActorSend s sheet e vs k = send_row own.sponsor s vs k
row own ActorPost s sheet e vs k = post_row s vs k
row own ActorCreate s sheet e vs k = create_row s vs k
row own ActorAssign s sheet e vs k = assign_row e vs k
row own ActorBecome s sheet e vs k = become_row e.next vs k
row own (End n) s sheet e vs k = end_row n vs
row own (DictTest n) s sheet e vs k = goes 2 (dict_tested n (first_with (item vs 1) (entries s (item vs 2))) ∷ []) k
row own (DictPut n) s sheet e vs k = gives 3 (dict_put n s (next_quad s) (item vs 3) (item vs 2) (item vs 1)) k
row own DictDel s sheet e vs k = gives 2 (dict_del s (next_quad s) (item vs 2) (item vs 1)) k
row own DequeNew s sheet e vs k = gives 0 (one_cell (next_quad s) (deque_quad nil nil)) k
row own (DequeTest n) s sheet e vs k = goes 1 (deque_tested n s (item vs 1) ∷ []) k
row own (DequePut n) s sheet e vs k = gives 2 (deque_put n (next_quad s) (ends s (item vs 2)) (item vs 1)) k
row own (DequeTake n) s sheet e vs k = take_row n s (ends s (item vs 1)) k
row own SponsorNew s sheet e vs k = new_row s sheet k
row own (SponsorGrant n) s sheet e vs k = grant_row (kind_of_grant n) own.sponsor s sheet vs k
row own SponsorReclaim s sheet e vs k = reclaim_row s vs k
row own SponsorStart s sheet e vs k = start_row own.sponsor s sheet vs k
row own SponsorStop s sheet e vs k = stop_row s vs k
row own (Assert v) s sheet e vs k = if same_word (item vs 1) v then goes 1 [] k else faults 0 0 assertion_failed
row own Debug s sheet e vs k = goes 0 [] k

-- the row of what stands at a code word; where no operation stands, the instruction is a bad one
abbrev pub row_at : Own → Option (Op × W) → Seen → List Account → Effects → List W → Row
row_at own None s sheet e vs = faults 0 0 bad_instruction
row_at own (Some o) s sheet e vs = row own o.0 s sheet e vs o.1
