-- What an instruction makes is what its effect names, and else cells of ordinary types.
use Rattle.std.proofs.Common.{◌≡◌, ℕ, zero, suc, pos, Bool, true, false, ◌||◌, List, [], ◌∷◌, length, reverse, Option, Some, None, refl, ap, sym, drop, slice_get, if◌then◌else◌, unsigned_abs, nat_lt, IsTrue, subst}
use Rattle.std.specs.Ordering.{int_eq}
use Rattle.std.proofs.lemmas.Bool.{or_right}
use Rattle.cap_words.specs.declared.word.Quad.{Quad}
use Rattle.cap_words.specs.Words.{W, Ram, same_word, number_of, undef, nil, instr_t, pair_t, dict_t, deque_t}
use Rattle.cap_words.specs.Seen.{Seen, Slot, OpenSlot, ActorSlot, UnbornSlot, EventSlot, SponsorSlot, SpentSlot, cell_seen, open_in, grown}
use Rattle.cap_words.proofs.Same.{word_same}
use Rattle.instr_table.specs.declared.charge.Quota.{Quota}
use Rattle.instr_table.specs.declared.op.Op.{Op}
use Rattle.instr_table.specs.declared.op.Op.TheVariants.{Push, Dup, Drop, Pick, Roll, Depth, Pair, Part, Nth, QuadMake, QuadTake, Get, Typeq, Eq, Cmp, AluNot, Alu, If, Jump, Msg, State, My, ActorSend, ActorPost, ActorCreate, ActorAssign, ActorBecome, End, DictTest, DictPut, DictDel, DequeNew, DequeTest, DequePut, DequeTake, SponsorNew, SponsorGrant, SponsorReclaim, SponsorStart, SponsorStop, Assert, Debug}
use Rattle.instr_table.specs.Code.{operation, by_number, with_next, fetched_in, fetched}
use Rattle.instr_table.specs.Types.{is_actor, is_sponsor, is_makeable}
use Rattle.instr_table.specs.Lists.{next_quad, item, linked, one_cell, Built, pair_quad, pair_in, items}
use Rattle.instr_table.specs.Dictionary.{entries, first_with, before, copy, entry_quad, set_at, del_at, dict_set, dict_del}
use Rattle.instr_table.specs.Deque.{ends, deque_quad, deque_after, pushed_front, pushed_back, turned_on, taken_from, taking}
use Rattle.instr_table.specs.Event.{Own, Effects, Behaviour, Effect, Nothing, Sends, Creates, Assigns, Becomes, Sponsors, Grants, Reclaims, Starts, Stops, has_created}
use Rattle.instr_table.specs.Sheet.{Account, runs}
use Rattle.instr_table.specs.Outcome.{Going, Goes, Row, charge, goes, gives}
use Rattle.instr_table.specs.ActorRows.{become_row}
use Rattle.instr_table.specs.SponsorRows.{grant_of, most_sponsors}
use Rattle.instr_table.specs.Row.{row, row_at, item_of, quad_row}
use Rattle.instr_table.specs.Lane.{Item, Lane, values, top_at, push_one, push_all, after_going, lane_row}
use Rattle.instr_table.specs.Reach.{Every}
use Rattle.instr_table.specs.Making.{is_ordinary, IsOrdinaryCell, MadeWith, MakesNamed, NoCodeInRam}
use Rattle.instr_table.proofs.GotWords.{every-append, every-map}

-- a cell of such a type is no instruction
pub ordinary-spells_nothing : (s : Seen) (q : Quad) → IsOrdinaryCell s (OpenSlot q) → operation q ≡ None
ordinary-spells_nothing s q h = from (same_word q.t instr_t) refl
  where
    from : (b : Bool) → same_word q.t instr_t ≡ b → (if b then by_number (number_of q.x) q.y else None) ≡ None
    from true e = let f : false ≡ true = subst (λ (t : W). is_ordinary s t ≡ true) (word_same q.t instr_t e) h in absurd cc
    from false e = refl

-- ---- cells

module _ (s : Seen) where
  abbrev Ordinary : List Slot → Type 0
  Ordinary made = Every (IsOrdinaryCell s) made

  linked-ordinary : {A : Type 0} (f : A → W → Quad) (n : ℕ) (xs : List A) (tail : W) → ((x : A) (t : W) → IsTrue (is_ordinary s (f x t).t)) → Ordinary (linked f n xs tail)
  linked-ordinary f n [] tail h = tt
  linked-ordinary f n (x ∷ xs) tail h = (h x tail, linked-ordinary f (suc n) xs (Ram n) h)

  -- ---- dictionaries

  set_at-ordinary : (o : Option Quad) (n : ℕ) (es : List Quad) (w key value : W) → Ordinary (set_at o n es w key value).cells
  set_at-ordinary None n es w key value = (refl, tt)
  set_at-ordinary (Some e) n es w key value = linked-ordinary copy n (entry_quad key value undef ∷ reverse (before key es)) e.z (λ x t. refl)

  set-ordinary : (n : ℕ) (w key value : W) → Ordinary (dict_set s n w key value).cells
  unfolding dict_set
  set-ordinary n w key value = set_at-ordinary (first_with key (entries s w)) n (entries s w) w key value

  del_at-ordinary : (o : Option Quad) (n : ℕ) (es : List Quad) (w key : W) → Ordinary (del_at o n es w key).cells
  del_at-ordinary None n es w key = tt
  del_at-ordinary (Some e) n es w key = linked-ordinary copy n (reverse (before key es)) e.z (λ x t. refl)

  del-ordinary : (n : ℕ) (w key : W) → Ordinary (dict_del s n w key).cells
  unfolding dict_del
  del-ordinary n w key = del_at-ordinary (first_with key (entries s w)) n (entries s w) w key

  -- ---- deques

  deque_after-ordinary : (n : ℕ) (cells : List Slot) (front back : W) → Ordinary cells → Ordinary (deque_after n cells front back).cells
  deque_after-ordinary n cells front back h = every-append (IsOrdinaryCell s) cells (OpenSlot (deque_quad front back) ∷ []) h (refl, tt)

  turned_on-ordinary : (n : ℕ) (tail v : W) (vs : List W) → Ordinary (turned_on n tail v vs).cells
  turned_on-ordinary n tail v [] = (refl, tt)
  turned_on-ordinary n tail v (w ∷ vs) = (refl, turned_on-ordinary (suc n) (Ram n) w vs)

  taken_from-ordinary : (o : Option Quad) (n : ℕ) (vs : List W) (far : W) → Ordinary (taken_from o n vs far).cells
  taken_from-ordinary (Some q) n vs far = tt
  taken_from-ordinary None n [] far = tt
  taken_from-ordinary None n (v ∷ vs) far = turned_on-ordinary n nil v vs

  taking-ordinary : (n : ℕ) (near far : W) → Ordinary (taking s n near far).cells
  unfolding taking
  taking-ordinary n near far = taken_from-ordinary (pair_in (cell_seen s near)) n (items s far) far

  either-ordinary : (b : Bool) (x y : Built) → Ordinary x.cells → Ordinary y.cells → Ordinary (if b then x else y).cells
  either-ordinary true x y h k = h
  either-ordinary false x y h k = k

-- ---- rows

module _ (own : Own) (s : Seen) (sheet : List Account) (e : Effects) (vs : List W) (k : W) where
  abbrev Makes : Row → Type 0
  Makes r = MakesNamed own.sponsor (item vs 1) s r.outcome

  either-makes : (b : Bool) (r q : Row) → Makes r → Makes q → Makes (if b then r else q)
  either-makes true r q h g = h
  either-makes false r q h g = g

  become-makes : (b : Option Behaviour) → Makes (become_row b vs k)
  become-makes None = tt
  become-makes (Some b) = tt

  grant-makes : (o : Option ℕ) (kind : Quota) (w : W) → Makes (grant_of o kind s w k)
  grant-makes None kind w = tt
  grant-makes (Some n) kind w = either-makes (is_sponsor s w) _ _ tt tt

  -- what `quad` makes is of a type that it may make
  quad-makes : (n : ℕ) → Makes (quad_row n s vs k)
  quad-makes n = from (is_makeable s t) refl
    where
      t : W
      t = item vs 1

      from : (b : Bool) → is_makeable s t ≡ b → Makes (if b then gives n (one_cell (next_quad s) (record { t = t; x = item_of n vs 2; y = item_of n vs 3; z = item_of n vs 4 })) k else record (goes n (undef ∷ []) k) { charge = charge 2 0 })
      from true h = (or_right (same_word t pair_t || same_word t dict_t || same_word t deque_t) (is_makeable s t) h, tt)
      from false h = tt

  row-makes : (op : Op) → Makes (row own op s sheet e vs k)
  row-makes (Push v) = tt
  row-makes (Dup n) = tt
  row-makes (Drop n) = tt
  row-makes (Pick n) = tt
  row-makes (Roll n) = tt
  row-makes Depth = tt
  row-makes (Pair n) = linked-ordinary s pair_quad _ _ _ (λ x t. refl)
  row-makes (Part n) = tt
  row-makes (Nth n) = tt
  row-makes (QuadMake n) = quad-makes (unsigned_abs n)
  row-makes (QuadTake n) = tt
  row-makes (Get n) = tt
  row-makes (Typeq t) = tt
  row-makes (Eq v) = tt
  row-makes (Cmp n) = tt
  row-makes AluNot = tt
  row-makes (Alu n) = tt
  row-makes (If label) = tt
  row-makes Jump = tt
  row-makes (Msg n) = tt
  row-makes (State n) = tt
  row-makes (My n) = tt
  row-makes ActorSend = either-makes (is_actor s (item vs 1)) _ _ (refl, refl) tt
  row-makes ActorPost = either-makes (is_sponsor s (item vs 1)) _ _ (either-makes (is_actor s (item vs 2)) _ _ (refl, refl) tt) tt
  row-makes ActorCreate = (refl, refl)
  row-makes ActorAssign = either-makes (has_created (item vs 1) e.created) _ _ tt tt
  row-makes ActorBecome = become-makes e.next
  row-makes (End n) = either-makes (int_eq n (pos 1)) _ _ tt (either-makes (int_eq n (pos 0)) _ _ tt tt)
  row-makes (DictTest n) = tt
  row-makes (DictPut n) = either-ordinary s (int_eq n (pos 3)) _ _ (set-ordinary s (next_quad s) (item vs 3) (item vs 2) (item vs 1)) (refl, tt)
  row-makes DictDel = del-ordinary s (next_quad s) (item vs 2) (item vs 1)
  row-makes DequeNew = (refl, tt)
  row-makes (DequeTest n) = tt
  row-makes (DequePut n) = either-ordinary s (int_eq n (pos 2)) (pushed_front (next_quad s) (ends s (item vs 2)) (item vs 1)) (pushed_back (next_quad s) (ends s (item vs 2)) (item vs 1)) (refl, (refl, tt)) (refl, (refl, tt))
  row-makes (DequeTake n) =
      let d = ends s (item vs 1) in
      either-makes (int_eq n (pos 3)) _ _ (deque_after-ordinary s (next_quad s) _ _ _ (taking-ordinary s (next_quad s) d.front d.back)) (deque_after-ordinary s (next_quad s) _ _ _ (taking-ordinary s (next_quad s) d.back d.front))
  row-makes SponsorNew = either-makes (nat_lt (length sheet) most_sponsors) _ _ (refl, refl) tt
  row-makes (SponsorGrant n) = grant-makes _ _ (item vs 2)
  row-makes SponsorReclaim = either-makes (is_sponsor s (item vs 1)) _ _ tt tt
  row-makes SponsorStart = either-makes (is_actor s (item vs 1)) _ _ (either-makes (is_sponsor s (item vs 2)) _ _ (either-makes (runs sheet (item vs 2)) _ _ tt (refl, refl)) tt) tt
  row-makes SponsorStop = either-makes (is_sponsor s (item vs 1)) _ _ tt tt
  row-makes (Assert v) = either-makes (same_word (item vs 1) v) _ _ tt tt
  row-makes Debug = tt

-- at any code word
pub row_at-makes : (own : Own) (o : Option (Op × W)) (s : Seen) (sheet : List Account) (e : Effects) (vs : List W) → MakesNamed own.sponsor (item vs 1) s (row_at own o s sheet e vs).outcome
row_at-makes own None s sheet e vs = tt
row_at-makes own (Some o) s sheet e vs = row-makes own s sheet e vs o.1 o.0

-- ---- code stays out of RAM

-- a quad that spells nothing
abbrev IsNoCode : Slot → Type 0
IsNoCode slot = fetched_in (open_in (Some slot)) ≡ None

to-every : (xs : List Slot) → ((n : ℕ) → fetched_in (open_in (slice_get xs n)) ≡ None) → Every IsNoCode xs
to-every [] h = tt
to-every (x ∷ xs) h = (h zero, to-every xs (λ n. h (suc n)))

from-every : (xs : List Slot) → Every IsNoCode xs → (n : ℕ) → fetched_in (open_in (slice_get xs n)) ≡ None
from-every [] e n = refl
from-every (x ∷ xs) e zero = e.0
from-every (x ∷ xs) e (suc n) = from-every xs e.1 n

pushed-no_code : (p : Seen × List Item) (vs : List W) → Every IsNoCode p.0.slots → Every IsNoCode (push_all p vs).0.slots
pushed-no_code p [] h = h
pushed-no_code p (v ∷ vs) h = pushed-no_code (push_one p v) vs (every-append IsNoCode p.0.slots (OpenSlot (pair_quad v (top_at p.1)) ∷ []) h (refl, tt))

module _ (payer controller : W) (s : Seen) (made : List Slot) where
  ordinary-no_code : (slot : Slot) → IsOrdinaryCell s slot → IsNoCode slot
  ordinary-no_code (OpenSlot q) h = ap (λ (o : Option Op). with_next o q.z) (ordinary-spells_nothing s q h)
  ordinary-no_code (ActorSlot a b c) h = absurd h
  ordinary-no_code UnbornSlot h = absurd h
  ordinary-no_code (EventSlot a b c) h = absurd h
  ordinary-no_code SponsorSlot h = absurd h
  ordinary-no_code SpentSlot h = absurd h

  cells-no_code : Every (IsOrdinaryCell s) made → Every IsNoCode made
  cells-no_code h = every-map (IsOrdinaryCell s) IsNoCode made ordinary-no_code h

  made-no_code : (e : Effect) → MadeWith payer controller s made e → Every IsNoCode made
  made-no_code Nothing h = cells-no_code h
  made-no_code (Sends m) h = subst (Every IsNoCode) (sym h.1) (refl, tt)
  made-no_code (Creates m) h = subst (Every IsNoCode) (sym h.1) (refl, tt)
  made-no_code (Assigns m) h = cells-no_code h
  made-no_code (Becomes b) h = cells-no_code h
  made-no_code (Sponsors w) h = subst (Every IsNoCode) (sym h.1) (refl, (refl, tt))
  made-no_code (Grants w kind n) h = cells-no_code h
  made-no_code (Reclaims w) h = cells-no_code h
  made-no_code (Starts w signal) h = subst (Every IsNoCode) (sym h.1) (refl, tt)
  made-no_code (Stops w) h = cells-no_code h

pub keeps-code_out : (s : Seen) (sheet : List Account) (l : Lane) (g : Going) → (lane_row s sheet l).outcome ≡ Goes g → NoCodeInRam s → NoCodeInRam (after_going s l.stack g).0
keeps-code_out s sheet l g e h =
    let controller : W = item (values l.stack) 1 in
    let m = subst (MakesNamed l.own.sponsor controller s) e (row_at-makes l.own (fetched s l.code) s sheet l.effects (values l.stack)) in
    from-every (after_going s l.stack g).0.slots (pushed-no_code (grown s g.made, drop g.pops l.stack) g.pushed (every-append IsNoCode s.slots g.made (to-every s.slots h) (made-no_code l.own.sponsor controller s g.made g.effect m)))
