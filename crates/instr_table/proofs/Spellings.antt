-- A quad that spells an operation is the one quad that spells it with that next word.
use Rattle.std.proofs.Common.{◌≡◌, ℕ, ℤ, pos, negsuc, Bool, true, false, IsTrue, Option, Some, None, option_map, if◌then◌else◌, refl, sym, subst, ap, nat_eq, ◌∙◌, IfSome}
use Rattle.std.specs.Ordering.{int_eq}
use Rattle.std.proofs.lemmas.Bool.Decides.{Decides-eqb, Decides-int_eq}
use Rattle.cap_words.specs.declared.word.Quad.{Quad}
use Rattle.cap_words.specs.Words.{W, Fix, Rom, Ram, Cap, same_word, number_of, undef, instr_t}
use Rattle.cap_words.proofs.Same.{word_same}
use Rattle.instr_table.specs.declared.op.Op.{Op}
use Rattle.instr_table.specs.declared.op.Op.TheVariants.{Push, Dup, Drop, Pick, Roll, Depth, Pair, Part, Nth, QuadMake, QuadTake, Get, Typeq, Eq, Cmp, AluNot, Alu, If, Jump, Msg, State, My, ActorSend, ActorPost, ActorCreate, ActorAssign, ActorBecome, End, DictTest, DictPut, DictDel, DequeNew, DequeTest, DequePut, DequeTake, SponsorNew, SponsorGrant, SponsorReclaim, SponsorStart, SponsorStop, Assert, Debug}
use Rattle.instr_table.specs.Code.{operation, by_number, named, numbered, bare, within, turns, either, quad_operation, alu_operation, actor_operation, dict_operation, deque_operation, sponsor_operation}
use Rattle.instr_table.specs.Spelling.{is_op, spelling, spelled}

-- this number and operand are an operation's
record Spells (k : ℕ) (v : W) (op : Op) : Type 0 where
  in_row : IsTrue (is_op op)
  number : k ≡ (spelling op).0
  operand : v ≡ (spelling op).1

-- ---- tests

choose : (b : Bool) (x y : Option Op) (op : Op) (P : Type 0) → (b ≡ true → x ≡ Some op → P) → (b ≡ false → y ≡ Some op → P) → (if b then x else y) ≡ Some op → P
choose true x y op P f g h = f refl h
choose false x y op P f g h = g refl h

some_is : (a b : Op) → Some a ≡ Some b → a ≡ b
some_is a b h = cc

none_is : (op : Op) (P : Type 0) → None ≡ Some op → P
none_is op P h = cc

direct : (k : ℕ) (v : W) (a op : Op) → Spells k v a → Some a ≡ Some op → Spells k v op
direct k v a op h e = subst (λ (o : Op). Spells k v o) (some_is a op e) h

-- an operation that is made of the number alone
from_number : (k : ℕ) (n m : ℤ) (a op : Op) → Spells k (Fix m) a → int_eq n m ≡ true → Some a ≡ Some op → Spells k (Fix n) op
from_number k n m a op h e g = subst (λ (z : ℤ). Spells k (Fix z) op) (sym ((Decides-int_eq n m).0 e)) (direct k (Fix m) a op h g)

numbered-spells : (test : ℤ → Bool) (make : ℤ → Op) (k : ℕ) (v : W) (op : Op) → ((n : ℤ) → test n ≡ true → Spells k (Fix n) (make n)) → numbered test make (number_of v) ≡ Some op → Spells k v op
numbered-spells test make k (Fix n) op f h = from (test n) (f n) h
  where
    from : (b : Bool) → (b ≡ true → Spells k (Fix n) (make n)) → option_map make (if b then Some n else None) ≡ Some op → Spells k (Fix n) op
    from true g e = direct k (Fix n) (make n) op (g refl) e
    from false g e = none_is op _ e
numbered-spells test make k (Rom n) op f h = none_is op _ h
numbered-spells test make k (Ram n) op f h = none_is op _ h
numbered-spells test make k (Cap n) op f h = none_is op _ h

grouped-spells : (f : Option ℤ → Option Op) (k : ℕ) (v : W) (op : Op) → f None ≡ None → ((n : ℤ) → f (Some n) ≡ Some op → Spells k (Fix n) op) → f (number_of v) ≡ Some op → Spells k v op
grouped-spells f k (Fix n) op e g h = g n h
grouped-spells f k (Rom n) op e g h = none_is op _ (sym e ∙ h)
grouped-spells f k (Ram n) op e g h = none_is op _ (sym e ∙ h)
grouped-spells f k (Cap n) op e g h = none_is op _ (sym e ∙ h)

bare-spells : (a : Op) (k : ℕ) (v : W) (op : Op) → Spells k undef a → bare a v ≡ Some op → Spells k v op
bare-spells a k v op f h =
    choose (same_word v undef) (Some a) None op (Spells k v op) (λ e g. subst (λ (w : W). Spells k w op) (sym (word_same v undef e)) (direct k undef a op f g)) (λ e g. none_is op _ g) h

-- ---- groups of operations with one number

quad-spells : (n : ℤ) (op : Op) → quad_operation (Some n) ≡ Some op → Spells 9 (Fix n) op
quad-spells n op h =
    choose (within (pos 1) (pos 4) n) _ _ op _ (λ e g. direct 9 (Fix n) (QuadMake n) op (record { in_row = e; number = refl; operand = refl }) g) (λ e.
    choose (within (negsuc 3) (negsuc 0) n) _ _ op _ (λ f g. direct 9 (Fix n) (QuadTake n) op (record { in_row = f; number = refl; operand = refl }) g) (λ f g. none_is op _ g)) h

alu-spells : (n : ℤ) (op : Op) → alu_operation (Some n) ≡ Some op → Spells 14 (Fix n) op
alu-spells n op h =
    choose (int_eq n (pos 0)) _ _ op _ (λ e g. from_number 14 n (pos 0) AluNot op (record { in_row = refl; number = refl; operand = refl }) e g) (λ e.
    choose (within (pos 1) (pos 6) n) _ _ op _ (λ f g. direct 14 (Fix n) (Alu n) op (record { in_row = f; number = refl; operand = refl }) g) (λ f g. none_is op _ g)) h

actor-spells : (n : ℤ) (op : Op) → actor_operation (Some n) ≡ Some op → Spells 20 (Fix n) op
actor-spells n op h =
    choose (int_eq n (pos 0)) _ _ op _ (λ e g. from_number 20 n (pos 0) ActorSend op (record { in_row = refl; number = refl; operand = refl }) e g) (λ e.
    choose (int_eq n (pos 1)) _ _ op _ (λ e g. from_number 20 n (pos 1) ActorPost op (record { in_row = refl; number = refl; operand = refl }) e g) (λ e.
    choose (int_eq n (pos 2)) _ _ op _ (λ e g. from_number 20 n (pos 2) ActorCreate op (record { in_row = refl; number = refl; operand = refl }) e g) (λ e.
    choose (int_eq n (pos 3)) _ _ op _ (λ e g. from_number 20 n (pos 3) ActorAssign op (record { in_row = refl; number = refl; operand = refl }) e g) (λ e.
    choose (int_eq n (pos 4)) _ _ op _ (λ e g. from_number 20 n (pos 4) ActorBecome op (record { in_row = refl; number = refl; operand = refl }) e g) (λ e g. none_is op _ g))))) h

dict-spells : (n : ℤ) (op : Op) → dict_operation (Some n) ≡ Some op → Spells 22 (Fix n) op
dict-spells n op h =
    choose (within (pos 0) (pos 1) n) _ _ op _ (λ e g. direct 22 (Fix n) (DictTest n) op (record { in_row = e; number = refl; operand = refl }) g) (λ e.
    choose (within (pos 2) (pos 3) n) _ _ op _ (λ e g. direct 22 (Fix n) (DictPut n) op (record { in_row = e; number = refl; operand = refl }) g) (λ e.
    choose (int_eq n (pos 4)) _ _ op _ (λ e g. from_number 22 n (pos 4) DictDel op (record { in_row = refl; number = refl; operand = refl }) e g) (λ e g. none_is op _ g))) h

deque-spells : (n : ℤ) (op : Op) → deque_operation (Some n) ≡ Some op → Spells 23 (Fix n) op
deque-spells n op h =
    choose (int_eq n (pos 0)) _ _ op _ (λ e g. from_number 23 n (pos 0) DequeNew op (record { in_row = refl; number = refl; operand = refl }) e g) (λ e.
    choose (either (pos 1) (pos 6) n) _ _ op _ (λ e g. direct 23 (Fix n) (DequeTest n) op (record { in_row = e; number = refl; operand = refl }) g) (λ e.
    choose (either (pos 2) (pos 4) n) _ _ op _ (λ e g. direct 23 (Fix n) (DequePut n) op (record { in_row = e; number = refl; operand = refl }) g) (λ e.
    choose (either (pos 3) (pos 5) n) _ _ op _ (λ e g. direct 23 (Fix n) (DequeTake n) op (record { in_row = e; number = refl; operand = refl }) g) (λ e g. none_is op _ g)))) h

sponsor-spells : (n : ℤ) (op : Op) → sponsor_operation (Some n) ≡ Some op → Spells 24 (Fix n) op
sponsor-spells n op h =
    choose (int_eq n (pos 0)) _ _ op _ (λ e g. from_number 24 n (pos 0) SponsorNew op (record { in_row = refl; number = refl; operand = refl }) e g) (λ e.
    choose (within (pos 1) (pos 3) n) _ _ op _ (λ e g. direct 24 (Fix n) (SponsorGrant n) op (record { in_row = e; number = refl; operand = refl }) g) (λ e.
    choose (int_eq n (pos 4)) _ _ op _ (λ e g. from_number 24 n (pos 4) SponsorReclaim op (record { in_row = refl; number = refl; operand = refl }) e g) (λ e.
    choose (int_eq n (pos 5)) _ _ op _ (λ e g. from_number 24 n (pos 5) SponsorStart op (record { in_row = refl; number = refl; operand = refl }) e g) (λ e.
    choose (int_eq n (pos 6)) _ _ op _ (λ e g. from_number 24 n (pos 6) SponsorStop op (record { in_row = refl; number = refl; operand = refl }) e g) (λ e g. none_is op _ g))))) h

-- ---- the table, line by line

-- one line, and those after it
line : (k j : ℕ) (v : W) (op : Op) (x y : Option Op) → (x ≡ Some op → Spells j v op) → (y ≡ Some op → Spells k v op) → (if nat_eq k j then x else y) ≡ Some op → Spells k v op
line k j v op x y f g h =
    choose (nat_eq k j) x y op (Spells k v op) (λ e i. subst (λ (n : ℕ). Spells n v op) (sym ((Decides-eqb k j).0 e)) (f i)) (λ e i. g i) h

-- the facts of an operation whose number is one of its row, however that is known
abbrev facts : (k : ℕ) (v : W) (op : Op) → IsTrue (is_op op) → k ≡ (spelling op).0 → v ≡ (spelling op).1 → Spells k v op
facts k v op a b c = record { in_row = a; number = b; operand = c }

module _ (k : ℕ) (v : W) (op : Op) where
  named-spells : named k v ≡ Some op → Spells k v op
  named-spells h =
      line k 0 v op _ _ (direct 0 v (Push v) op (facts 0 v (Push v) refl refl refl)) (
      line k 1 v op _ _ (numbered-spells (within (pos 0) (pos 15)) Dup 1 v op (λ n t. facts 1 (Fix n) (Dup n) t refl refl)) (
      line k 2 v op _ _ (numbered-spells (within (pos 0) (pos 4095)) Drop 2 v op (λ n t. facts 2 (Fix n) (Drop n) t refl refl)) (
      line k 3 v op _ _ (numbered-spells (within (pos 1) (pos 4095)) Pick 3 v op (λ n t. facts 3 (Fix n) (Pick n) t refl refl)) (
      line k 4 v op _ _ (numbered-spells (turns 15) Roll 4 v op (λ n t. facts 4 (Fix n) (Roll n) t refl refl)) (
      line k 5 v op _ _ (bare-spells Depth 5 v op (facts 5 undef Depth refl refl refl)) (
      line k 6 v op _ _ (numbered-spells (within (pos 1) (pos 15)) Pair 6 v op (λ n t. facts 6 (Fix n) (Pair n) t refl refl)) (
      line k 7 v op _ _ (numbered-spells (within (pos 1) (pos 15)) Part 7 v op (λ n t. facts 7 (Fix n) (Part n) t refl refl)) (
      line k 8 v op _ _ (numbered-spells (within (negsuc 4094) (pos 4095)) Nth 8 v op (λ n t. facts 8 (Fix n) (Nth n) t refl refl)) (
      line k 9 v op _ _ (grouped-spells quad_operation 9 v op refl (λ n. quad-spells n op)) (
      line k 10 v op _ _ (numbered-spells (within (pos 0) (pos 3)) Get 10 v op (λ n t. facts 10 (Fix n) (Get n) t refl refl)) (
      line k 11 v op _ _ (direct 11 v (Typeq v) op (facts 11 v (Typeq v) refl refl refl)) (
      line k 12 v op _ _ (direct 12 v (Eq v) op (facts 12 v (Eq v) refl refl refl)) (
      line k 13 v op _ _ (numbered-spells (within (pos 0) (pos 5)) Cmp 13 v op (λ n t. facts 13 (Fix n) (Cmp n) t refl refl)) (
      line k 14 v op _ _ (grouped-spells alu_operation 14 v op refl (λ n. alu-spells n op)) (
      line k 15 v op _ _ (direct 15 v (If v) op (facts 15 v (If v) refl refl refl)) (
      line k 16 v op _ _ (bare-spells Jump 16 v op (facts 16 undef Jump refl refl refl)) (
      line k 17 v op _ _ (numbered-spells (within (negsuc 4094) (pos 4095)) Msg 17 v op (λ n t. facts 17 (Fix n) (Msg n) t refl refl)) (
      line k 18 v op _ _ (numbered-spells (within (negsuc 4094) (pos 4095)) State 18 v op (λ n t. facts 18 (Fix n) (State n) t refl refl)) (
      line k 19 v op _ _ (numbered-spells (within (pos 0) (pos 2)) My 19 v op (λ n t. facts 19 (Fix n) (My n) t refl refl)) (
      line k 20 v op _ _ (grouped-spells actor_operation 20 v op refl (λ n. actor-spells n op)) (
      line k 21 v op _ _ (numbered-spells (within (negsuc 0) (pos 1)) End 21 v op (λ n t. facts 21 (Fix n) (End n) t refl refl)) (
      line k 22 v op _ _ (grouped-spells dict_operation 22 v op refl (λ n. dict-spells n op)) (
      line k 23 v op _ _ (grouped-spells deque_operation 23 v op refl (λ n. deque-spells n op)) (
      line k 24 v op _ _ (grouped-spells sponsor_operation 24 v op refl (λ n. sponsor-spells n op)) (
      line k 25 v op _ _ (direct 25 v (Assert v) op (facts 25 v (Assert v) refl refl refl)) (
      line k 26 v op _ _ (bare-spells Debug 26 v op (facts 26 undef Debug refl refl refl)) (none_is op _))))))))))))))))))))))))))) h

by_number-spells : (x v : W) (op : Op) → by_number (number_of x) v ≡ Some op → IsTrue (is_op op) × (x ≡ Fix (pos (spelling op).0)) × (v ≡ (spelling op).1)
by_number-spells (Fix (pos k)) v op h = let f = named-spells k v op h in (f.in_row, ap (λ (n : ℕ). Fix (pos n)) f.number, f.operand)
by_number-spells (Fix (negsuc k)) v op h = none_is op _ h
by_number-spells (Rom n) v op h = none_is op _ h
by_number-spells (Ram n) v op h = none_is op _ h
by_number-spells (Cap n) v op h = none_is op _ h

-- a quad that spells an operation is the one that the operation is spelled by, and its number is one of its row
pub spells : (q : Quad) (op : Op) → operation q ≡ Some op → IsTrue (is_op op) × (q ≡ spelled op q.z)
spells q op h =
    choose (same_word q.t instr_t) _ None op _ (λ e g.
    let f = by_number-spells q.x q.y op g in
    let t = word_same q.t instr_t e in
    let x = f.1 in
    let y = f.2 in
    (f.0, λ i. record { t = t i; x = x i; y = y i; z = q.z })) (λ e g. none_is op _ g) h

pub decoded-in_row : (q : Quad) (o : Option Op) → o ≡ operation q → IfSome o (λ op. IsTrue (is_op op))
decoded-in_row q None h = tt
decoded-in_row q (Some op) h = (spells q op (sym h)).0

pub decoded-spelled : (q : Quad) (o : Option Op) → o ≡ operation q → IfSome o (λ op. q ≡ spelled op q.z)
decoded-spelled q None h = tt
decoded-spelled q (Some op) h = (spells q op (sym h)).1
