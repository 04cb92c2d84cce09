-- What each row charges, and that it covers what the row takes.
use Rattle.std.proofs.Common.{◌≡◌, ℕ, zero, suc, ◌+◌, ◌-◌, ◌≤◌, ℤ, pos, negsuc, Bool, true, false, List, [], ◌∷◌, length, reverse, drop, Option, Some, None, refl, ap, arith, if◌then◌else◌, unsigned_abs, length-append, nat_lt, IfSome, IsTrue}
use Rattle.std.specs.Ordering.{int_eq}
use Rattle.std.proofs.Math.Nat.{le_refl}
use Rattle.std.proofs.lemmas.List.{length-reverse}
use Rattle.std.proofs.lemmas.Bool.Decides.{nat_tests}
use Rattle.cap_words.specs.declared.word.Quad.{Quad}
use Rattle.cap_words.specs.Words.{W, Ram, nil, same_word}
use Rattle.cap_words.specs.Seen.{Seen, cell_seen}
use Rattle.instr_table.specs.declared.charge.Charge.{Charge}
use Rattle.instr_table.specs.declared.charge.Quota.{Quota}
use Rattle.instr_table.specs.declared.op.Op.{Op}
use Rattle.instr_table.specs.declared.op.Op.TheVariants.{Push, Dup, Drop, Pick, Roll, Depth, Pair, Part, Nth, QuadMake, QuadTake, Get, Typeq, Eq, Cmp, AluNot, Alu, If, Jump, Msg, State, My, ActorSend, ActorPost, ActorCreate, ActorAssign, ActorBecome, End, DictTest, DictPut, DictDel, DequeNew, DequeTest, DequePut, DequeTake, SponsorNew, SponsorGrant, SponsorReclaim, SponsorStart, SponsorStop, Assert, Debug}
use Rattle.instr_table.specs.Code.{turns}
use Rattle.instr_table.specs.Spelling.{is_op}
use Rattle.instr_table.specs.Types.{is_actor, is_sponsor, is_makeable}
use Rattle.instr_table.specs.Lists.{next_quad, item, top_items, rolled, linked, pair_quad, parted, fields_in, tail_in, head_in, Built}
use Rattle.instr_table.specs.Deque.{ends, Ends, pushed_front, pushed_back, turned_on, turned}
use Rattle.instr_table.specs.Event.{Own, Effects, Behaviour, has_created}
use Rattle.instr_table.specs.Sheet.{Account, runs}
use Rattle.instr_table.specs.Outcome.{Row, charge, gives}
use Rattle.instr_table.specs.ActorRows.{become_row}
use Rattle.instr_table.specs.SponsorRows.{grant_of, most_sponsors}
use Rattle.instr_table.specs.Row.{row, row_at}
use Rattle.instr_table.specs.Laws.{IsCharged, Covers}

-- ---- how long the lists are

pub length-top_items : (n : ℕ) (vs : List W) → length (top_items n vs) ≡ n
length-top_items zero vs = refl
length-top_items (suc n) [] = ap suc (length-top_items n [])
length-top_items (suc n) (v ∷ vs) = ap suc (length-top_items n vs)

pub length-linked : {A : Type 0} (f : A → W → Quad) (n : ℕ) (xs : List A) (tail : W) → length (linked f n xs tail) ≡ length xs
length-linked f n [] tail = refl
length-linked f n (x ∷ xs) tail = ap suc (length-linked f (suc n) xs _)

pub length-turned_on : (n : ℕ) (tail v : W) (vs : List W) → length (turned_on n tail v vs).cells ≡ suc (length vs)
length-turned_on n tail v [] = refl
length-turned_on n tail v (w ∷ vs) = ap suc (length-turned_on (suc n) (Ram n) w vs)

pub length-turned : (n : ℕ) (vs : List W) → length (turned n vs).cells ≡ length vs
length-turned n [] = refl
length-turned n (v ∷ vs) = length-turned_on n nil v vs

pub length-parted : (s : Seen) (n : ℕ) (w : W) → length (parted s n w) ≡ n + 1
length-parted s zero w = refl
length-parted s (suc n) w =
    let h = length-parted s n (tail_in (cell_seen s w)) in
    let e = length-append (parted s n (tail_in (cell_seen s w))) (head_in (cell_seen s w) ∷ []) in
    omega arith

pub length-fields : (q : Option Quad) (n : ℕ) → length (fields_in q n) ≡ n
length-fields q zero = refl
length-fields q (suc n) = ap suc (length-fields q n)

length-reversed : (n : ℕ) (vs : List W) → length (reverse (top_items n vs)) ≡ n
length-reversed n vs = let a = length-reverse (top_items n vs) in let b = length-top_items n vs in omega arith

length-rolled : (n : ℤ) (vs : List W) → 1 ≤ unsigned_abs n → length (reverse (rolled n vs)) ≡ unsigned_abs n
length-rolled (pos n) vs h =
    let a = length-reverse (rolled (pos n) vs) in
    let b = length-top_items (n - 1) vs in
    omega arith
length-rolled (negsuc n) vs h =
    let a = length-reverse (rolled (negsuc n) vs) in
    let b = length-append (top_items n (drop 1 vs)) (item vs 1 ∷ []) in
    let c = length-top_items n (drop 1 vs) in
    omega arith

turns-size : (n : ℤ) → IsTrue (turns 15 n) → 1 ≤ unsigned_abs n
turns-size n h = grind (arith, nat_tests)

-- ---- the charge

quads_are : (a b e : ℕ) → a ≡ b → charge a e ≡ charge b e
quads_are a b e h = ap (λ (q : ℕ). charge q e) h

either_charge : (b : Bool) (r q : Row) (c : Charge) → r.charge ≡ c → q.charge ≡ c → (if b then r else q).charge ≡ c
either_charge true r q c h k = h
either_charge false r q c h k = k

put_charge : (b : Bool) (x y : Built) (k : W) → (gives 3 y k).charge ≡ charge 2 0 → IfSome (if b then None else Some (charge 2 0)) (λ (c : Charge). (gives 3 (if b then x else y) k).charge ≡ c)
put_charge true x y k h = tt
put_charge false x y k h = h

deque_charge : (b : Bool) (n : ℕ) (d : Ends) (v k : W) → (gives 2 (if b then pushed_front n d v else pushed_back n d v) k).charge ≡ charge 3 0
deque_charge true n d v k = refl
deque_charge false n d v k = refl

become_charge : (b : Option Behaviour) (vs : List W) (k : W) → (become_row b vs k).charge ≡ charge 0 0
become_charge None vs k = refl
become_charge (Some b) vs k = refl

grant_charge : (o : Option ℕ) (kind : Quota) (s : Seen) (w k : W) → (grant_of o kind s w k).charge ≡ charge 0 0
grant_charge None kind s w k = refl
grant_charge (Some n) kind s w k = either_charge (is_sponsor s w) _ _ _ refl refl

module _ (own : Own) (s : Seen) (sheet : List Account) (e : Effects) (vs : List W) (k : W) where
  pub row-charged : (op : Op) → IsTrue (is_op op) → IsCharged op (row own op s sheet e vs k)
  row-charged (Push v) h = refl
  row-charged (Dup n) h = let l = length-reversed (unsigned_abs n) vs in quads_are _ _ _ (omega arith)
  row-charged (Drop n) h = refl
  row-charged (Pick n) h = refl
  row-charged (Roll n) h = let l = length-rolled n vs (turns-size n h) in quads_are _ _ _ (omega arith)
  row-charged Depth h = refl
  row-charged (Pair n) h =
      let a = length-reversed (unsigned_abs n) vs in
      let b = length-linked pair_quad (next_quad s) (reverse (top_items (unsigned_abs n) vs)) (item vs (suc (unsigned_abs n))) in
      quads_are _ _ _ (omega arith)
  row-charged (Part n) h = let l = length-parted s (unsigned_abs n) (item vs 1) in quads_are _ _ _ (omega arith)
  row-charged (Nth n) h = refl
  row-charged (QuadMake n) h = either_charge (is_makeable s (item vs 1)) _ _ _ refl refl
  row-charged (QuadTake n) h = let l = length-fields (cell_seen s (item vs 1)) (unsigned_abs n) in quads_are _ _ _ (omega arith)
  row-charged (Get n) h = refl
  row-charged (Typeq t) h = refl
  row-charged (Eq v) h = refl
  row-charged (Cmp n) h = refl
  row-charged AluNot h = refl
  row-charged (Alu n) h = refl
  row-charged (If label) h = refl
  row-charged Jump h = refl
  row-charged (Msg n) h = refl
  row-charged (State n) h = refl
  row-charged (My n) h = refl
  row-charged ActorSend h = either_charge (is_actor s (item vs 1)) _ _ _ refl refl
  row-charged ActorPost h = either_charge (is_sponsor s (item vs 1)) _ _ _ (either_charge (is_actor s (item vs 2)) _ _ _ refl refl) refl
  row-charged ActorCreate h = refl
  row-charged ActorAssign h = either_charge (has_created (item vs 1) e.created) _ _ _ refl refl
  row-charged ActorBecome h = become_charge e.next vs k
  row-charged (End n) h = either_charge (int_eq n (pos 1)) _ _ _ refl (either_charge (int_eq n (pos 0)) _ _ _ refl refl)
  row-charged (DictTest n) h = refl
  row-charged (DictPut n) h = put_charge (int_eq n (pos 3)) _ _ k refl
  row-charged DictDel h = tt
  row-charged DequeNew h = refl
  row-charged (DequeTest n) h = refl
  row-charged (DequePut n) h = deque_charge (int_eq n (pos 2)) (next_quad s) (ends s (item vs 2)) (item vs 1) k
  row-charged (DequeTake n) h = tt
  row-charged SponsorNew h = tt
  row-charged (SponsorGrant n) h = grant_charge _ _ s (item vs 2) k
  row-charged SponsorReclaim h = either_charge (is_sponsor s (item vs 1)) _ _ _ refl refl
  row-charged SponsorStart h = either_charge (is_actor s (item vs 1)) _ _ _ (either_charge (is_sponsor s (item vs 2)) _ _ _ (either_charge (runs sheet (item vs 2)) _ _ _ refl refl) refl) refl
  row-charged SponsorStop h = either_charge (is_sponsor s (item vs 1)) _ _ _ refl refl
  row-charged (Assert v) h = either_charge (same_word (item vs 1) v) _ _ _ refl refl
  row-charged Debug h = refl

-- ---- the charge covers what is taken

abbrev RowCovers : Row → Type 0
RowCovers r = Covers r.charge r.outcome

either_covers : (b : Bool) (r q : Row) → RowCovers r → RowCovers q → RowCovers (if b then r else q)
either_covers true r q h k = h
either_covers false r q h k = k

become_covers : (b : Option Behaviour) (vs : List W) (k : W) → RowCovers (become_row b vs k)
become_covers None vs k = (le_refl _, le_refl _)
become_covers (Some b) vs k = tt

grant_covers : (o : Option ℕ) (kind : Quota) (s : Seen) (w k : W) → RowCovers (grant_of o kind s w k)
grant_covers None kind s w k = tt
grant_covers (Some n) kind s w k = either_covers (is_sponsor s w) _ _ (le_refl _, le_refl _) tt

module _ (own : Own) (s : Seen) (sheet : List Account) (e : Effects) (vs : List W) (k : W) where
  row-covers : (op : Op) → RowCovers (row own op s sheet e vs k)
  row-covers (Push v) = (le_refl _, le_refl _)
  row-covers (Dup n) = (le_refl _, le_refl _)
  row-covers (Drop n) = (le_refl _, le_refl _)
  row-covers (Pick n) = (le_refl _, le_refl _)
  row-covers (Roll n) = (le_refl _, le_refl _)
  row-covers Depth = (le_refl _, le_refl _)
  row-covers (Pair n) = (le_refl _, le_refl _)
  row-covers (Part n) = (le_refl _, le_refl _)
  row-covers (Nth n) = (le_refl _, le_refl _)
  row-covers (QuadMake n) = either_covers (is_makeable s (item vs 1)) _ _ (le_refl _, le_refl _) (omega arith, omega arith)
  row-covers (QuadTake n) = (le_refl _, le_refl _)
  row-covers (Get n) = (le_refl _, le_refl _)
  row-covers (Typeq t) = (le_refl _, le_refl _)
  row-covers (Eq v) = (le_refl _, le_refl _)
  row-covers (Cmp n) = (le_refl _, le_refl _)
  row-covers AluNot = (le_refl _, le_refl _)
  row-covers (Alu n) = (le_refl _, le_refl _)
  row-covers (If label) = (le_refl _, le_refl _)
  row-covers Jump = (le_refl _, le_refl _)
  row-covers (Msg n) = (le_refl _, le_refl _)
  row-covers (State n) = (le_refl _, le_refl _)
  row-covers (My n) = (le_refl _, le_refl _)
  row-covers ActorSend = either_covers (is_actor s (item vs 1)) _ _ (le_refl _, le_refl _) tt
  row-covers ActorPost = either_covers (is_sponsor s (item vs 1)) _ _ (either_covers (is_actor s (item vs 2)) _ _ (le_refl _, le_refl _) tt) tt
  row-covers ActorCreate = (le_refl _, le_refl _)
  row-covers ActorAssign = either_covers (has_created (item vs 1) e.created) _ _ (le_refl _, le_refl _) tt
  row-covers ActorBecome = become_covers e.next vs k
  row-covers (End n) = either_covers (int_eq n (pos 1)) _ _ tt (either_covers (int_eq n (pos 0)) _ _ tt tt)
  row-covers (DictTest n) = (le_refl _, le_refl _)
  row-covers (DictPut n) = (le_refl _, le_refl _)
  row-covers DictDel = (le_refl _, le_refl _)
  row-covers DequeNew = (le_refl _, le_refl _)
  row-covers (DequeTest n) = (le_refl _, le_refl _)
  row-covers (DequePut n) = (le_refl _, le_refl _)
  row-covers (DequeTake n) = either_covers (int_eq n (pos 3)) _ _ (le_refl _, le_refl _) (le_refl _, le_refl _)
  row-covers SponsorNew = either_covers (nat_lt (length sheet) most_sponsors) _ _ (le_refl _, le_refl _) (le_refl _, le_refl _)
  row-covers (SponsorGrant n) = grant_covers _ _ s (item vs 2) k
  row-covers SponsorReclaim = either_covers (is_sponsor s (item vs 1)) _ _ (le_refl _, le_refl _) tt
  row-covers SponsorStart = either_covers (is_actor s (item vs 1)) _ _ (either_covers (is_sponsor s (item vs 2)) _ _ (either_covers (runs sheet (item vs 2)) _ _ tt (le_refl _, le_refl _)) tt) tt
  row-covers SponsorStop = either_covers (is_sponsor s (item vs 1)) _ _ (le_refl _, le_refl _) tt
  row-covers (Assert v) = either_covers (same_word (item vs 1) v) _ _ (le_refl _, le_refl _) tt
  row-covers Debug = (le_refl _, le_refl _)

-- at any code word
pub row_at-covers : (own : Own) (o : Option (Op × W)) (s : Seen) (sheet : List Account) (e : Effects) (vs : List W) → RowCovers (row_at own o s sheet e vs)
row_at-covers own None s sheet e vs = tt
row_at-covers own (Some o) s sheet e vs = row-covers own s sheet e vs o.1 o.0
