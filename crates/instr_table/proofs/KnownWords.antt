-- An instruction hands on only words that the event knew, and those of cells, actors and sponsors that it makes.
use Rattle.std.proofs.Common.{◌≡◌, ℕ, suc, ◌+◌, ◌≤◌, pos, Bool, true, false, List, [], ◌∷◌, ◌++◌, length, reverse, Option, Some, None, refl, inl, inr, arith, if◌then◌else◌, unsigned_abs, length-append, nat_lt, nat_le, ◌⊎◌, IsTrue}
use Rattle.std.specs.Ordering.{int_eq}
use Rattle.cap_words.specs.declared.word.Quad.{Quad}
use Rattle.cap_words.specs.Words.{W, Fix, Ram, Cap, same_word, undef, nil}
use Rattle.cap_words.specs.Seen.{Seen, Slot, OpenSlot, UnbornSlot, SponsorSlot, SpentSlot, cell_seen}
use Rattle.instr_table.specs.declared.charge.Quota.{Quota}
use Rattle.instr_table.specs.declared.op.Op.{Op}
use Rattle.instr_table.specs.declared.op.Op.TheVariants.{Push, Dup, Drop, Pick, Roll, Depth, Pair, Part, Nth, QuadMake, QuadTake, Get, Typeq, Eq, Cmp, AluNot, Alu, If, Jump, Msg, State, My, ActorSend, ActorPost, ActorCreate, ActorAssign, ActorBecome, End, DictTest, DictPut, DictDel, DequeNew, DequeTest, DequePut, DequeTake, SponsorNew, SponsorGrant, SponsorReclaim, SponsorStart, SponsorStop, Assert, Debug}
use Rattle.instr_table.specs.Spelling.{spelling}
use Rattle.instr_table.specs.Types.{is_actor, is_sponsor, is_makeable}
use Rattle.instr_table.specs.Lists.{next_quad, item, linked, last_linked, chained, one_cell, Built, pair_quad, pair_in, items, longest}
use Rattle.instr_table.specs.Dictionary.{entries, first_with, before, copy, entry_quad, set_at, del_at, dict_set, dict_del, dict_added}
use Rattle.instr_table.specs.Deque.{Ends, ends, deque_quad, deque_after, pushed_front, pushed_back, Taking, turned_on, turned, taken_from, taking}
use Rattle.instr_table.specs.Arithmetic.{falsy}
use Rattle.instr_table.specs.Event.{Own, Effects, Behaviour, Effect, Nothing, Grants, has_created}
use Rattle.instr_table.specs.Sheet.{Account, runs}
use Rattle.instr_table.specs.Outcome.{Row, does, goes, gives}
use Rattle.instr_table.specs.ActorRows.{become_row, message_to}
use Rattle.instr_table.specs.SponsorRows.{grant_of, most_sponsors}
use Rattle.instr_table.specs.Row.{row, item_of, quad_row, popped, pulled}
use Rattle.instr_table.specs.Reach.{Every, words_of, given, Got, plain, reached, Known, got, new, made_now, is_made}
use Rattle.instr_table.specs.Laws.{words_at, CellKnown, EffectKnown, HandsOn}
use Rattle.instr_table.proofs.Charges.{length-linked, length-turned_on}
use Rattle.instr_table.proofs.GotWords.{pair_is, every-append, every-reverse, every-map, every-of, got-undef, got-nil, got-truth, got-fix, got-either, words-read, got-field, got-fields, got-nth, got-parted, got-item, got-top_items, got-rolled, got-items, GotEntry, got-entries, got-first_with, got-value, got-before, got-ends, got-compared, got-alu, got-complement}

-- ---- cells that are linked, among those that an instruction makes

module _ (s : Seen) (made : List Slot) (ws : List W) (payer : W) where
  all-got : (xs : List W) → Every (Got s ws) xs → Every (Known s made ws) xs
  all-got xs g = every-map (Got s ws) (Known s made ws) xs (λ w h. got h) g

  pair-known : (x tail : W) → Got s ws x → Known s made ws tail → CellKnown s made ws payer (OpenSlot (pair_quad x tail))
  pair-known x tail g h = (got (plain (omega arith)), (got g, (h, (got (got-undef s ws), tt))))

  deque-known : (front back : W) → Known s made ws front → Known s made ws back → CellKnown s made ws payer (OpenSlot (deque_quad front back))
  deque-known front back f b = (got (plain (omega arith)), (f, (b, (got (got-undef s ws), tt))))

  copy-known : (e : Quad) (next : W) → GotEntry s ws e → Known s made ws next → CellKnown s made ws payer (OpenSlot (copy e next))
  copy-known e next g h = (got (plain (omega arith)), (got g.1.0, (got g.1.1.0, (h, tt))))

  linked-known : {A : Type 0} (P : A → Type 0) (f : A → W → Quad) (n : ℕ) (xs : List A) (tail : W) → ((x : A) (t : W) → P x → Known s made ws t → CellKnown s made ws payer (OpenSlot (f x t))) → next_quad s ≤ n → n + length xs ≤ next_quad s + length made → Every P xs → Known s made ws tail → Every (CellKnown s made ws payer) (linked f n xs tail)
  linked-known P f n [] tail c low high g t = tt
  linked-known P f n (x ∷ xs) tail c low high g t = (c x tail g.0 t, linked-known P f (suc n) xs (Ram n) c (omega arith) (omega arith) g.1 (new low (omega arith)))

  last-known : {A : Type 0} (n : ℕ) (xs : List A) (tail : W) → next_quad s ≤ n → n + length xs ≤ next_quad s + length made → Known s made ws tail → Known s made ws (last_linked n xs tail)
  last-known n [] tail low high t = t
  last-known n (x ∷ xs) tail low high t = last-known (suc n) xs (Ram n) (omega arith) (omega arith) (new low (omega arith))

  -- ---- what is taken from a deque

  abbrev TakingKnown : Taking → Type 0
  TakingKnown t = Every (CellKnown s made ws payer) t.cells × Known s made ws t.value × Known s made ws t.near × Known s made ws t.far

  turned_on-known : (n : ℕ) (tail v : W) (vs : List W) → next_quad s ≤ n → n + suc (length vs) ≤ next_quad s + length made → Known s made ws tail → Got s ws v → Every (Got s ws) vs → TakingKnown (turned_on n tail v vs)
  turned_on-known n tail v [] low high t g gs = ((pair-known v tail g t, tt), got g, t, got (got-nil s ws))
  turned_on-known n tail v (w ∷ vs) low high t g gs =
      let h = turned_on-known (suc n) (Ram n) w vs (omega arith) (omega arith) (new low (omega arith)) gs.0 gs.1 in
      ((pair-known v tail g t, h.0), h.1, h.2, h.3)

  turned-known : (vs : List W) → Every (Got s ws) vs → length (turned (next_quad s) vs).cells ≤ length made → TakingKnown (turned (next_quad s) vs)
  turned-known [] g h = (tt, got (got-undef s ws), got (got-nil s ws), got (got-nil s ws))
  turned-known (v ∷ vs) g h =
      let l = length-turned_on (next_quad s) nil v vs in
      turned_on-known (next_quad s) nil v vs (omega arith) (omega arith) (got (got-nil s ws)) g.0 g.1

  taken_from-known : (o : Option Quad) (vs : List W) (far : W) → ((q : Quad) → o ≡ Some q → Every (Got s ws) (words_of q)) → Every (Got s ws) vs → Got s ws far → length (taken_from o (next_quad s) vs far).cells ≤ length made → TakingKnown (taken_from o (next_quad s) vs far)
  taken_from-known (Some q) vs far w g f h = (tt, got (w q refl).1.0, got (w q refl).1.1.0, got f)
  taken_from-known None vs far w g f h = turned-known vs g h

  taking-known : (near far : W) → Got s ws near → Got s ws far → length (taking s (next_quad s) near far).cells ≤ length made → TakingKnown (taking s (next_quad s) near far)
  unfolding taking
  taking-known near far g f h = taken_from-known (pair_in (cell_seen s near)) (items s far) far (λ q e. words-read s ws near g q (pair_is (cell_seen s near) q e)) (got-items s ws longest far f) f h

-- ---- what rows are made of

module _ (s : Seen) (ws : List W) (payer : W) where
  abbrev BuiltKnown : Built → Type 0
  BuiltKnown b = Every (CellKnown s b.cells ws payer) b.cells × Known s b.cells ws b.word

  chained-known : {A : Type 0} (P : A → Type 0) (f : A → W → Quad) (xs : List A) (tail : W) → ((made : List Slot) (x : A) (t : W) → P x → Known s made ws t → CellKnown s made ws payer (OpenSlot (f x t))) → Every P xs → Got s ws tail → BuiltKnown (chained f (next_quad s) xs tail)
  chained-known P f xs tail c g t =
      let made = linked f (next_quad s) xs tail in
      let l = length-linked f (next_quad s) xs tail in
      (linked-known s made ws payer P f (next_quad s) xs tail (c made) (omega arith) (omega arith) g (got t), last-known s made ws payer (next_quad s) xs tail (omega arith) (omega arith) (got t))

  one-known : (q : Quad) → Every (Got s ws) (words_of q) → BuiltKnown (one_cell (next_quad s) q)
  one-known q g = ((all-got s (OpenSlot q ∷ []) ws payer (words_of q) g, tt), new (omega arith) (omega arith))

  deque_after-known : (cells : List Slot) (front back : W) → ((made : List Slot) → length cells ≤ length made → Every (CellKnown s made ws payer) cells × Known s made ws front × Known s made ws back) → BuiltKnown (deque_after (next_quad s) cells front back)
  deque_after-known cells front back h =
      let made = cells ++ OpenSlot (deque_quad front back) ∷ [] in
      let l = length-append cells (OpenSlot (deque_quad front back) ∷ []) in
      let k = h made (omega arith) in
      (every-append (CellKnown s made ws payer) cells (OpenSlot (deque_quad front back) ∷ []) k.0 (deque-known s made ws payer front back k.1 k.2, tt), new (omega arith) (omega arith))

  push-known : (d : Ends) (v : W) → Got s ws d.front × Got s ws d.back → Got s ws v → BuiltKnown (pushed_front (next_quad s) d v)
  push-known d v g h = deque_after-known (OpenSlot (pair_quad v d.front) ∷ []) (Ram (next_quad s)) d.back (λ made l. ((pair-known s made ws payer v d.front h (got g.0), tt), new (omega arith) (omega arith), got g.1))

  put-known : (d : Ends) (v : W) → Got s ws d.front × Got s ws d.back → Got s ws v → BuiltKnown (pushed_back (next_quad s) d v)
  put-known d v g h = deque_after-known (OpenSlot (pair_quad v d.back) ∷ []) d.front (Ram (next_quad s)) (λ made l. ((pair-known s made ws payer v d.back h (got g.1), tt), got g.0, new (omega arith) (omega arith)))

  either-known : (b : Bool) (x y : Built) → BuiltKnown x → BuiltKnown y → BuiltKnown (if b then x else y)
  either-known true x y h k = h
  either-known false x y h k = k

  -- ---- dictionaries

  entry-got : (key value next : W) → Got s ws key → Got s ws value → Got s ws next → GotEntry s ws (entry_quad key value next)
  entry-got key value next k v n = (plain (omega arith), (k, (v, (n, tt))))

  copies-known : (es : List Quad) (tail : W) → Every (GotEntry s ws) es → Got s ws tail → BuiltKnown (chained copy (next_quad s) es tail)
  copies-known es tail g t = chained-known (GotEntry s ws) copy es tail (λ made e w h k. copy-known s made ws payer e w h k) g t

  added-known : (w key value : W) → Got s ws w → Got s ws key → Got s ws value → BuiltKnown (dict_added (next_quad s) w key value)
  added-known w key value g k v = one-known (entry_quad key value w) (entry-got key value w k v g)

  set_at-known : (o : Option Quad) (es : List Quad) (w key value : W) → ((q : Quad) → o ≡ Some q → Every (Got s ws) (words_of q)) → Every (GotEntry s ws) es → Got s ws w → Got s ws key → Got s ws value → BuiltKnown (set_at o (next_quad s) es w key value)
  set_at-known None es w key value o g h k v = added-known w key value h k v
  set_at-known (Some e) es w key value o g h k v =
      copies-known (entry_quad key value undef ∷ reverse (before key es)) e.z (entry-got key value undef k v (got-undef s ws), every-reverse (GotEntry s ws) (before key es) (got-before s ws key es g)) (o e refl).1.1.1.0

  set-known : (w key value : W) → Got s ws w → Got s ws key → Got s ws value → BuiltKnown (dict_set s (next_quad s) w key value)
  unfolding dict_set
  set-known w key value g k v =
      let es = got-entries s ws longest w g in
      set_at-known (first_with key (entries s w)) (entries s w) w key value (got-first_with s ws key (entries s w) es) es g k v

  del_at-known : (o : Option Quad) (es : List Quad) (w key : W) → ((q : Quad) → o ≡ Some q → Every (Got s ws) (words_of q)) → Every (GotEntry s ws) es → Got s ws w → BuiltKnown (del_at o (next_quad s) es w key)
  del_at-known None es w key o g h = (tt, got h)
  del_at-known (Some e) es w key o g h = copies-known (reverse (before key es)) e.z (every-reverse (GotEntry s ws) (before key es) (got-before s ws key es g)) (o e refl).1.1.1.0

  del-known : (w key : W) → Got s ws w → BuiltKnown (dict_del s (next_quad s) w key)
  unfolding dict_del
  del-known w key g =
      let es = got-entries s ws longest w g in
      del_at-known (first_with key (entries s w)) (entries s w) w key (got-first_with s ws key (entries s w) es) es g

-- ---- rows

module _ (s : Seen) (ws : List W) (payer : W) where
  abbrev Hands : Row → Type 0
  Hands r = HandsOn s ws payer r.outcome

  goes-hands : (pops : ℕ) (pushed : List W) (k : W) → Every (Got s ws) pushed → Got s ws k → Hands (goes pops pushed k)
  goes-hands pops pushed k g h = record { items = all-got s [] ws payer pushed g; next = got h; cells = tt; effect = tt }

  gives-hands : (pops : ℕ) (b : Built) (k : W) → BuiltKnown s ws payer b → Got s ws k → Hands (gives pops b k)
  gives-hands pops b k g h = record { items = (g.1, tt); next = got h; cells = g.0; effect = tt }

  either-hands : (b : Bool) (r q : Row) → Hands r → Hands q → Hands (if b then r else q)
  either-hands true r q h k = h
  either-hands false r q h k = k

  -- an effect without cells and items
  does-hands : (pops : ℕ) (k : W) (e : Effect) → EffectKnown s [] ws payer e → Got s ws k → Hands (does pops [] [] k e)
  does-hands pops k e g h = record { items = tt; next = got h; cells = tt; effect = g }

  fault-hands : (n : ℕ) → Known s [] ws (Fix (pos n))
  fault-hands n = got (got-fix s ws (pos n))

  item_of-got : (n : ℕ) (vs : List W) (i : ℕ) → Every (Got s ws) vs → Got s ws (item_of n vs i)
  item_of-got n vs i g = got-either s ws (nat_le i n) (item vs i) undef (got-item s ws vs i g) (got-undef s ws)

  quad-hands : (n : ℕ) (vs : List W) (k : W) → Every (Got s ws) vs → Got s ws k → Hands (quad_row n s vs k)
  quad-hands n vs k g h =
      either-hands (is_makeable s (item vs 1)) _ _
      (gives-hands n (one_cell (next_quad s) (record { t = item vs 1; x = item_of n vs 2; y = item_of n vs 3; z = item_of n vs 4 })) k
      (one-known s ws payer (record { t = item vs 1; x = item_of n vs 2; y = item_of n vs 3; z = item_of n vs 4 }) (got-item s ws vs 1 g, (item_of-got n vs 2 g, (item_of-got n vs 3 g, (item_of-got n vs 4 g, tt))))) h)
      (goes-hands n (undef ∷ []) k (got-undef s ws, tt) h)

  taking-hands : (cells : List Slot) (front back value k : W) → ((made : List Slot) → length cells ≤ length made → Every (CellKnown s made ws payer) cells × Known s made ws front × Known s made ws back × Known s made ws value) → Got s ws k → Hands (does 1 (deque_after (next_quad s) cells front back).cells ((deque_after (next_quad s) cells front back).word ∷ value ∷ []) k Nothing)
  taking-hands cells front back value k h g =
      let l = length-append cells (OpenSlot (deque_quad front back) ∷ []) in
      let b = deque_after-known s ws payer cells front back (λ made m. let r = h made m in (r.0, r.1, r.2)) in
      record { items = (b.1, ((h (deque_after (next_quad s) cells front back).cells (omega arith)).3, tt)); next = got g; cells = b.0; effect = tt }

  pop-hands : (d : Ends) (k : W) → Got s ws d.front × Got s ws d.back → Got s ws k → Hands (popped (next_quad s) (taking s (next_quad s) d.front d.back) k)
  pop-hands d k g h =
      let t = taking s (next_quad s) d.front d.back in
      taking-hands t.cells t.near t.far t.value k (λ made l. let r = taking-known s made ws payer d.front d.back g.0 g.1 l in (r.0, r.2, r.3, r.1)) h

  pull-hands : (d : Ends) (k : W) → Got s ws d.front × Got s ws d.back → Got s ws k → Hands (pulled (next_quad s) (taking s (next_quad s) d.back d.front) k)
  pull-hands d k g h =
      let t = taking s (next_quad s) d.back d.front in
      taking-hands t.cells t.far t.near t.value k (λ made l. let r = taking-known s made ws payer d.back d.front g.1 g.0 l in (r.0, r.3, r.2, r.1)) h

  -- the first quad that is taken
  first-made : (slot : Slot) (slots : List Slot) → IsTrue (is_made (Some slot)) → Known s (slot ∷ slots) ws (Cap (next_quad s))
  first-made slot slots h = made_now 0 (omega arith) h

  message-hands : (pops : ℕ) (sponsor target content k : W) → ((made : List Slot) → (sponsor ≡ payer) ⊎ Known s made ws sponsor) → Got s ws target → Got s ws content → Got s ws k → Hands (message_to pops sponsor s target content k)
  message-hands pops sponsor target content k p t c h =
      record { items = tt; next = got h; cells = ((p _, got t, got c), tt); effect = (refl, p _, got t, got c) }

  become-hands : (b : Option Behaviour) (vs : List W) (k : W) → Every (Got s ws) vs → Got s ws k → Hands (become_row b vs k)
  become-hands None vs k g h = does-hands 2 k _ (got (got-item s ws vs 2 g), got (got-item s ws vs 1 g)) h
  become-hands (Some b) vs k g h = fault-hands 6

  grant-hands : (o : Option ℕ) (kind : Quota) (w k : W) → Got s ws w → Got s ws k → Hands (grant_of o kind s w k)
  grant-hands None kind w k g h = fault-hands 20
  grant-hands (Some n) kind w k g h = either-hands (is_sponsor s w) _ _ (does-hands 1 k (Grants w kind n) (got g) h) (fault-hands 19)

  -- the rows, where the event got at its operand, its own words, its stack and the next code word
  module _ (own : Own) (sheet : List Account) (e : Effects) (vs : List W) (k : W) (g : Every (Got s ws) vs) (h : Got s ws k) (pays : own.sponsor ≡ payer) where
    pub row-hands : (op : Op) → Got s ws (spelling op).1 → Got s ws own.actor → Got s ws own.code → Got s ws own.state → Got s ws own.message → Hands (row own op s sheet e vs k)
    row-hands (Push v) o a c t m = goes-hands 0 _ k (o, tt) h
    row-hands (Dup n) o a c t m = goes-hands 0 _ k (every-reverse (Got s ws) _ (got-top_items s ws (unsigned_abs n) vs g)) h
    row-hands (Drop n) o a c t m = goes-hands _ [] k tt h
    row-hands (Pick n) o a c t m = goes-hands 0 _ k (got-item s ws vs (unsigned_abs n) g, tt) h
    row-hands (Roll n) o a c t m = goes-hands _ _ k (every-reverse (Got s ws) _ (got-rolled s ws n vs g)) h
    row-hands Depth o a c t m = goes-hands 0 _ k (got-fix s ws _, tt) h
    row-hands (Pair n) o a c t m =
        gives-hands _ _ k (chained-known s ws payer (Got s ws) pair_quad _ _ (λ made x w i j. pair-known s made ws payer x w i j) (every-reverse (Got s ws) _ (got-top_items s ws (unsigned_abs n) vs g)) (got-item s ws vs (suc (unsigned_abs n)) g)) h
    row-hands (Part n) o a c t m = goes-hands 1 _ k (got-parted s ws (unsigned_abs n) _ (got-item s ws vs 1 g)) h
    row-hands (Nth n) o a c t m = goes-hands 1 _ k (got-nth s ws n _ (got-item s ws vs 1 g), tt) h
    row-hands (QuadMake n) o a c t m = quad-hands (unsigned_abs n) vs k g h
    row-hands (QuadTake n) o a c t m = goes-hands 1 _ k (got-fields s ws _ (unsigned_abs n) (words-read s ws _ (got-item s ws vs 1 g))) h
    row-hands (Get n) o a c t m = goes-hands 1 _ k (got-field s ws _ (unsigned_abs n) (words-read s ws _ (got-item s ws vs 1 g)), tt) h
    row-hands (Typeq v) o a c t m = goes-hands 1 _ k (got-truth s ws _, tt) h
    row-hands (Eq v) o a c t m = goes-hands 1 _ k (got-truth s ws _, tt) h
    row-hands (Cmp n) o a c t m = goes-hands 2 _ k (got-compared s ws n (item vs 2) (item vs 1), tt) h
    row-hands AluNot o a c t m = goes-hands 1 _ k (got-complement s ws (item vs 1), tt) h
    row-hands (Alu n) o a c t m = goes-hands 2 _ k (got-alu s ws n (item vs 2) (item vs 1), tt) h
    row-hands (If label) o a c t m = goes-hands 1 [] _ tt (got-either s ws (falsy (item vs 1)) k label h o)
    row-hands Jump o a c t m = goes-hands 1 [] _ tt (got-item s ws vs 1 g)
    row-hands (Msg n) o a c t m = goes-hands 0 _ k (got-nth s ws n _ m, tt) h
    row-hands (State n) o a c t m = goes-hands 0 _ k (got-nth s ws n _ t, tt) h
    row-hands (My n) o a c t m = goes-hands 0 _ k (got-either s ws (int_eq n (pos 0)) own.actor _ a (got-either s ws (int_eq n (pos 1)) own.code own.state c t), tt) h
    row-hands ActorSend o a c t m = either-hands (is_actor s (item vs 1)) _ _ (message-hands 2 own.sponsor _ _ k (λ made. inl pays) (got-item s ws vs 1 g) (got-item s ws vs 2 g) h) (fault-hands 3)
    row-hands ActorPost o a c t m =
        either-hands (is_sponsor s (item vs 1)) _ _
        (either-hands (is_actor s (item vs 2)) _ _ (message-hands 3 (item vs 1) _ _ k (λ made. inr (got (got-item s ws vs 1 g))) (got-item s ws vs 2 g) (got-item s ws vs 3 g) h) (fault-hands 3))
        (fault-hands 19)
    row-hands ActorCreate o a c t m =
        let w = first-made UnbornSlot [] refl in
        record { items = (w, tt); next = got h; cells = (tt, tt); effect = (w, got (got-item s ws vs 2 g), got (got-item s ws vs 1 g)) }
    row-hands ActorAssign o a c t m =
        either-hands (has_created (item vs 1) e.created) _ _ (does-hands 3 k _ (got (got-item s ws vs 1 g), got (got-item s ws vs 3 g), got (got-item s ws vs 2 g)) h) (fault-hands 18)
    row-hands ActorBecome o a c t m = become-hands e.next vs k g h
    row-hands (End n) o a c t m = either-hands (int_eq n (pos 1)) _ _ tt (either-hands (int_eq n (pos 0)) _ _ (fault-hands 21) (got (got-item s ws vs 1 g)))
    row-hands (DictTest n) o a c t m =
        goes-hands 2 _ k (got-either s ws (int_eq n (pos 0)) _ _ (got-truth s ws _) (got-value s ws _ (got-first_with s ws _ _ (got-entries s ws longest _ (got-item s ws vs 2 g)))), tt) h
    row-hands (DictPut n) o a c t m =
        gives-hands 3 _ k (either-known s ws payer (int_eq n (pos 3)) _ _ (set-known s ws payer _ _ _ (got-item s ws vs 3 g) (got-item s ws vs 2 g) (got-item s ws vs 1 g)) (added-known s ws payer _ _ _ (got-item s ws vs 3 g) (got-item s ws vs 2 g) (got-item s ws vs 1 g))) h
    row-hands DictDel o a c t m = gives-hands 2 _ k (del-known s ws payer _ _ (got-item s ws vs 2 g)) h
    row-hands DequeNew o a c t m = gives-hands 0 _ k (one-known s ws payer (deque_quad nil nil) (plain (omega arith), (got-nil s ws, (got-nil s ws, (got-undef s ws, tt))))) h
    row-hands (DequeTest n) o a c t m = goes-hands 1 _ k (got-either s ws (int_eq n (pos 1)) _ _ (got-truth s ws _) (got-fix s ws _), tt) h
    row-hands (DequePut n) o a c t m =
        let d = got-ends s ws (item vs 2) (got-item s ws vs 2 g) in
        gives-hands 2 _ k (either-known s ws payer (int_eq n (pos 2)) _ _ (push-known s ws payer _ _ d (got-item s ws vs 1 g)) (put-known s ws payer _ _ d (got-item s ws vs 1 g))) h
    row-hands (DequeTake n) o a c t m =
        let d = got-ends s ws (item vs 1) (got-item s ws vs 1 g) in
        either-hands (int_eq n (pos 3)) _ _ (pop-hands (ends s (item vs 1)) k d h) (pull-hands (ends s (item vs 1)) k d h)
    row-hands SponsorNew o a c t m =
        let w = first-made SponsorSlot (SpentSlot ∷ []) refl in
        either-hands (nat_lt (length sheet) most_sponsors) _ _ (record { items = (w, tt); next = got h; cells = (tt, (tt, tt)); effect = w }) (goes-hands 0 (undef ∷ []) k (got-undef s ws, tt) h)
    row-hands (SponsorGrant n) o a c t m = grant-hands _ _ (item vs 2) k (got-item s ws vs 2 g) h
    row-hands SponsorReclaim o a c t m = either-hands (is_sponsor s (item vs 1)) _ _ (does-hands 0 k _ (got (got-item s ws vs 1 g)) h) (fault-hands 19)
    row-hands SponsorStart o a c t m =
        either-hands (is_actor s (item vs 1)) _ _
        (either-hands (is_sponsor s (item vs 2)) _ _
        (either-hands (runs sheet (item vs 2)) _ _ (fault-hands 22)
        (record { items = tt; next = got h; cells = ((inl pays, got (got-item s ws vs 1 g), got (got-undef s ws)), tt); effect = (got (got-item s ws vs 2 g), refl) }))
        (fault-hands 19))
        (fault-hands 3)
    row-hands SponsorStop o a c t m = either-hands (is_sponsor s (item vs 1)) _ _ (does-hands 0 k _ (got (got-item s ws vs 1 g)) h) (fault-hands 19)
    row-hands (Assert v) o a c t m = either-hands (same_word (item vs 1) v) _ _ (goes-hands 1 [] k tt h) (fault-hands 17)
    row-hands Debug o a c t m = goes-hands 0 [] k tt h

-- with the words that the event has at the operation
pub row-keeps : (own : Own) (op : Op) (s : Seen) (sheet : List Account) (e : Effects) (vs : List W) (k : W) → HandsOn s (words_at own op vs k) own.sponsor (row own op s sheet e vs k).outcome
row-keeps own op s sheet e vs k =
    let ws = words_at own op vs k in
    let all : Every (Got s ws) ws = every-of (Got s ws) ws (λ w a. reached (given a)) in
    row-hands s ws own.sponsor own sheet e vs k all.1.1.1.1.1.1 all.1.0 refl op all.0 all.1.1.0 all.1.1.1.0 all.1.1.1.1.0 all.1.1.1.1.1.0
