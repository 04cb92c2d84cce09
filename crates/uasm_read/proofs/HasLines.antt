-- Each cell that spells an operation of the machine's table is that of a line.
use Rattle.std.proofs.Common.{◌≡◌, ℕ, suc, Bool, true, false, Option, Some, None, refl, sym, ap, ◌∙◌, subst, arith, rules, pos, negsuc, ℤ}
use Rattle.std.specs.Prelude.{is_some, if◌then◌else◌, ◌||◌, nat_eq, nat_le, int_le, option_map}
use Rattle.std.specs.Ordering.{int_eq}
use Rattle.std.proofs.lemmas.Bool.{eqb-true, and_parts, and_from}
use Rattle.std.proofs.lemmas.Bool.Decides.{Decides-int_eq}
use Rattle.std.proofs.lemmas.Int.{ints}
use borrow.Author.Tests.{tests}
use Rattle.cap_words.specs.Words.{W, Fix, Rom, Ram, Cap, number_of}
use Rattle.instr_table.specs.declared.op.Op.{Op}
use Rattle.instr_table.specs.declared.op.Op.TheVariants as machine
use Rattle.instr_table.specs.Code.{within, turns, numbered, bare, named, either, quad_operation, alu_operation, actor_operation, dict_operation, deque_operation, sponsor_operation}
use Rattle.uasm_read.specs.declared.operand.Operand.{Operand}
use Rattle.uasm_read.specs.declared.operand.Operand.TheVariants as operand
use Rattle.uasm_read.specs.declared.operation.Operation.{Operation}
use Rattle.uasm_read.specs.declared.operation.Operation.TheVariants as o
use Rattle.uasm_read.specs.Texts.{parts_of}
use Rattle.uasm_read.specs.Operations.{Shape, Nothing, row_of}
use Rattle.uasm_read.specs.Modules.{is_word, fits}
use Rattle.uasm_read.specs.Laws.{IsWrittenAs, LineOf, OperationsHaveLines}
use Rattle.uasm_read.proofs.WrittenItems.{false_true}

-- ---- one condition after the other

-- what comes of a choice by a test comes of one of its two sides
side : {X : Type 0} (b : Bool) (a rest : Option Op) → (b ≡ true → is_some a ≡ true → X) → (is_some rest ≡ true → X) → is_some (if b then a else rest) ≡ true → X
side true a rest here later h = here refl h
side false a rest here later h = later h

at_number : {X : Type 0} (k i : ℕ) (a rest : Option Op) → (k ≡ i → is_some a ≡ true → X) → (is_some rest ≡ true → X) → is_some (if nat_eq k i then a else rest) ≡ true → X
at_number k i a rest here later h = side (nat_eq k i) a rest (λ e. here (eqb-true k i e)) later h

-- ---- numbers of operands

passed : (test : ℤ → Bool) (op : ℤ → Op) (n : ℤ) → is_some (numbered test op (Some n)) ≡ true → test n ≡ true
passed test op n h = by_case (test n) refl h
  where
    by_case : (b : Bool) → test n ≡ b → is_some (option_map op (if b then Some n else None)) ≡ true → test n ≡ true
    by_case true e k = e
    by_case false e k = false_true k

-- a number that is this one
is_number : (low high i n : ℤ) → within low high i ≡ true → int_eq n i ≡ true → within low high n ≡ true
is_number low high i n h e = subst (λ m. within low high m ≡ true) (sym ((Decides-int_eq n i).0 e)) h

-- a number that is one of two
is_either : (low high a b n : ℤ) → within low high a ≡ true → within low high b ≡ true → either a b n ≡ true → within low high n ≡ true
is_either low high a b n ha hb e = by_case (int_eq n a) refl e
  where
    by_case : (v : Bool) → int_eq n a ≡ v → (v || int_eq n b) ≡ true → within low high n ≡ true
    by_case true f k = is_number low high a n ha f
    by_case false f k = is_number low high b n hb k

-- a number between closer bounds
closer : (a b c d n : ℤ) → int_le a c ≡ true → int_le d b ≡ true → within c d n ≡ true → within a b n ≡ true
closer a b c d n low high h =
    let parts = and_parts (int_le c n) _ h in
    let from = parts.0 in
    let to = parts.1 in
    and_from (int_le a n) _ (grind (arith, ints)) (grind (arith, ints))

alu_within : (n : ℤ) → is_some (alu_operation (Some n)) ≡ true → within (pos 0) (pos 6) n ≡ true
alu_within n h =
    side (int_eq n (pos 0)) (Some machine.AluNot) _ (λ e s. is_number (pos 0) (pos 6) (pos 0) n refl e)
    (λ h. side (within (pos 1) (pos 6) n) (Some (machine.Alu n)) None (λ e s. closer (pos 0) (pos 6) (pos 1) (pos 6) n refl refl e) false_true h) h

actor_within : (n : ℤ) → is_some (actor_operation (Some n)) ≡ true → within (pos 0) (pos 4) n ≡ true
actor_within n h =
    side (int_eq n (pos 0)) (Some machine.ActorSend) _ (λ e s. is_number (pos 0) (pos 4) (pos 0) n refl e)
    (λ h. side (int_eq n (pos 1)) (Some machine.ActorPost) _ (λ e s. is_number (pos 0) (pos 4) (pos 1) n refl e)
    (λ h. side (int_eq n (pos 2)) (Some machine.ActorCreate) _ (λ e s. is_number (pos 0) (pos 4) (pos 2) n refl e)
    (λ h. side (int_eq n (pos 3)) (Some machine.ActorAssign) _ (λ e s. is_number (pos 0) (pos 4) (pos 3) n refl e)
    (λ h. side (int_eq n (pos 4)) (Some machine.ActorBecome) None (λ e s. is_number (pos 0) (pos 4) (pos 4) n refl e) false_true h) h) h) h) h

dict_within : (n : ℤ) → is_some (dict_operation (Some n)) ≡ true → within (pos 0) (pos 4) n ≡ true
dict_within n h =
    side (within (pos 0) (pos 1) n) (Some (machine.DictTest n)) _ (λ e s. closer (pos 0) (pos 4) (pos 0) (pos 1) n refl refl e)
    (λ h. side (within (pos 2) (pos 3) n) (Some (machine.DictPut n)) _ (λ e s. closer (pos 0) (pos 4) (pos 2) (pos 3) n refl refl e)
    (λ h. side (int_eq n (pos 4)) (Some machine.DictDel) None (λ e s. is_number (pos 0) (pos 4) (pos 4) n refl e) false_true h) h) h

deque_within : (n : ℤ) → is_some (deque_operation (Some n)) ≡ true → within (pos 0) (pos 6) n ≡ true
deque_within n h =
    side (int_eq n (pos 0)) (Some machine.DequeNew) _ (λ e s. is_number (pos 0) (pos 6) (pos 0) n refl e)
    (λ h. side (either (pos 1) (pos 6) n) (Some (machine.DequeTest n)) _ (λ e s. is_either (pos 0) (pos 6) (pos 1) (pos 6) n refl refl e)
    (λ h. side (either (pos 2) (pos 4) n) (Some (machine.DequePut n)) _ (λ e s. is_either (pos 0) (pos 6) (pos 2) (pos 4) n refl refl e)
    (λ h. side (either (pos 3) (pos 5) n) (Some (machine.DequeTake n)) None (λ e s. is_either (pos 0) (pos 6) (pos 3) (pos 5) n refl refl e) false_true h) h) h) h

sponsor_within : (n : ℤ) → is_some (sponsor_operation (Some n)) ≡ true → within (pos 0) (pos 6) n ≡ true
sponsor_within n h =
    side (int_eq n (pos 0)) (Some machine.SponsorNew) _ (λ e s. is_number (pos 0) (pos 6) (pos 0) n refl e)
    (λ h. side (within (pos 1) (pos 3) n) (Some (machine.SponsorGrant n)) _ (λ e s. closer (pos 0) (pos 6) (pos 1) (pos 3) n refl refl e)
    (λ h. side (int_eq n (pos 4)) (Some machine.SponsorReclaim) _ (λ e s. is_number (pos 0) (pos 6) (pos 4) n refl e)
    (λ h. side (int_eq n (pos 5)) (Some machine.SponsorStart) _ (λ e s. is_number (pos 0) (pos 6) (pos 5) n refl e)
    (λ h. side (int_eq n (pos 6)) (Some machine.SponsorStop) None (λ e s. is_number (pos 0) (pos 6) (pos 6) n refl e) false_true h) h) h) h) h

made : (n : ℤ) → within (pos 1) (pos 4) n ≡ true → turns 4 n ≡ true
made (pos k) h = let parts = and_parts (int_le (pos 1) (pos k)) _ h in and_from (nat_le 1 k) _ parts.0 parts.1
made (negsuc k) h = false_true h

taken : (n : ℤ) → within (negsuc 3) (negsuc 0) n ≡ true → turns 4 n ≡ true
taken (pos k) h = false_true (and_parts (int_le (negsuc 3) (pos k)) _ h).1
taken (negsuc k) h = let parts = and_parts (int_le (negsuc 3) (negsuc k)) _ h in let low = parts.0 in and_from (nat_le 1 (suc k)) _ (search (rules, tests)) (search (rules, tests))

quad_turns : (n : ℤ) → is_some (quad_operation (Some n)) ≡ true → turns 4 n ≡ true
quad_turns n h =
    side (within (pos 1) (pos 4) n) (Some (machine.QuadMake n)) _ (λ e s. made n e)
    (λ h. side (within (negsuc 3) (negsuc 0) n) (Some (machine.QuadTake n)) None (λ e s. taken n e) false_true h) h

-- ---- operands

numeric : (shape : Shape) (f : Option ℤ → Option Op) → is_some (f None) ≡ false → ((n : ℤ) → is_some (f (Some n)) ≡ true → fits shape (operand.Fix n) ≡ true)
    → (word : Operand) (w : W) → IsWrittenAs word w → is_some (f (number_of w)) ≡ true → fits shape word ≡ true
numeric shape f none some (operand.Fix n) w s h = some n (subst (λ v. is_some (f (number_of v)) ≡ true) s h)
numeric shape f none some (operand.Const k) w s h = false_true (sym none ∙ subst (λ v. is_some (f (number_of v)) ≡ true) s h)
numeric shape f none some (operand.Label name) w s h = false_true (sym none ∙ subst (λ v. is_some (f (number_of v)) ≡ true) s.2 h)
numeric shape f none some operand.Following w s h = absurd s

nothing : (op : Op) (word : Operand) (w : W) → IsWrittenAs word w → is_some (bare op w) ≡ true → fits Nothing word ≡ true
nothing op (operand.Fix n) w s h = false_true (subst (λ v. is_some (bare op v) ≡ true) s h)
nothing op (operand.Const k) w s h = side (nat_eq k 0) (Some op) None (λ e some. e) false_true (subst (λ v. is_some (bare op v) ≡ true) s h)
nothing op (operand.Label name) w s h =
    let high = s.1 in
    side (nat_eq s.0 0) (Some op) None (λ e some. let zero = eqb-true s.0 0 e in absurd (omega (arith, high, zero))) false_true (subst (λ v. is_some (bare op v) ≡ true) s.2 h)
nothing op operand.Following w s h = absurd s

-- ---- lines

row : (line : Operation) (k : ℕ) (word : Operand) → k ≡ (row_of line).number → fits (row_of line).operand word ≡ true → LineOf (Fix (pos k)) word
row line k word e f = record { line = line; number = ap (λ m. Fix (pos m)) e; operand = f }

has_line : (word : Operand) (w : W) (k : ℕ) → is_word word ≡ true → IsWrittenAs word w → is_some (named k w) ≡ true → LineOf (Fix (pos k)) word
unfolding parts_of
has_line word w k i s h =
    at_number k 0 _ _ (λ e some. row o.Push k word e i)
    (λ h. at_number k 1 _ _ (λ e some. row o.Dup k word e (numeric (row_of o.Dup).operand (numbered (within (pos 0) (pos 15)) machine.Dup) refl (passed (within (pos 0) (pos 15)) machine.Dup) word w s some))
    (λ h. at_number k 2 _ _ (λ e some. row o.Drop k word e (numeric (row_of o.Drop).operand (numbered (within (pos 0) (pos 4095)) machine.Drop) refl (passed (within (pos 0) (pos 4095)) machine.Drop) word w s some))
    (λ h. at_number k 3 _ _ (λ e some. row o.Pick k word e (numeric (row_of o.Pick).operand (numbered (within (pos 1) (pos 4095)) machine.Pick) refl (passed (within (pos 1) (pos 4095)) machine.Pick) word w s some))
    (λ h. at_number k 4 _ _ (λ e some. row o.Roll k word e (numeric (row_of o.Roll).operand (numbered (turns 15) machine.Roll) refl (passed (turns 15) machine.Roll) word w s some))
    (λ h. at_number k 5 _ _ (λ e some. row o.Depth k word e (nothing machine.Depth word w s some))
    (λ h. at_number k 6 _ _ (λ e some. row o.Pair k word e (numeric (row_of o.Pair).operand (numbered (within (pos 1) (pos 15)) machine.Pair) refl (passed (within (pos 1) (pos 15)) machine.Pair) word w s some))
    (λ h. at_number k 7 _ _ (λ e some. row o.Part k word e (numeric (row_of o.Part).operand (numbered (within (pos 1) (pos 15)) machine.Part) refl (passed (within (pos 1) (pos 15)) machine.Part) word w s some))
    (λ h. at_number k 8 _ _ (λ e some. row o.Nth k word e (numeric (row_of o.Nth).operand (numbered (within (negsuc 4094) (pos 4095)) machine.Nth) refl (passed (within (negsuc 4094) (pos 4095)) machine.Nth) word w s some))
    (λ h. at_number k 9 _ _ (λ e some. row o.Quad k word e (numeric (row_of o.Quad).operand quad_operation refl quad_turns word w s some))
    (λ h. at_number k 10 _ _ (λ e some. row o.Get k word e (numeric (row_of o.Get).operand (numbered (within (pos 0) (pos 3)) machine.Get) refl (passed (within (pos 0) (pos 3)) machine.Get) word w s some))
    (λ h. at_number k 11 _ _ (λ e some. row o.Typeq k word e i)
    (λ h. at_number k 12 _ _ (λ e some. row o.Eq k word e i)
    (λ h. at_number k 13 _ _ (λ e some. row o.Cmp k word e (numeric (row_of o.Cmp).operand (numbered (within (pos 0) (pos 5)) machine.Cmp) refl (passed (within (pos 0) (pos 5)) machine.Cmp) word w s some))
    (λ h. at_number k 14 _ _ (λ e some. row o.Alu k word e (numeric (row_of o.Alu).operand alu_operation refl alu_within word w s some))
    (λ h. at_number k 15 _ _ (λ e some. row o.If k word e i)
    (λ h. at_number k 16 _ _ (λ e some. row o.Jump k word e (nothing machine.Jump word w s some))
    (λ h. at_number k 17 _ _ (λ e some. row o.Msg k word e (numeric (row_of o.Msg).operand (numbered (within (negsuc 4094) (pos 4095)) machine.Msg) refl (passed (within (negsuc 4094) (pos 4095)) machine.Msg) word w s some))
    (λ h. at_number k 18 _ _ (λ e some. row o.State k word e (numeric (row_of o.State).operand (numbered (within (negsuc 4094) (pos 4095)) machine.State) refl (passed (within (negsuc 4094) (pos 4095)) machine.State) word w s some))
    (λ h. at_number k 19 _ _ (λ e some. row o.My k word e (numeric (row_of o.My).operand (numbered (within (pos 0) (pos 2)) machine.My) refl (passed (within (pos 0) (pos 2)) machine.My) word w s some))
    (λ h. at_number k 20 _ _ (λ e some. row o.Actor k word e (numeric (row_of o.Actor).operand actor_operation refl actor_within word w s some))
    (λ h. at_number k 21 _ _ (λ e some. row o.End k word e (numeric (row_of o.End).operand (numbered (within (negsuc 0) (pos 1)) machine.End) refl (passed (within (negsuc 0) (pos 1)) machine.End) word w s some))
    (λ h. at_number k 22 _ _ (λ e some. row o.Dict k word e (numeric (row_of o.Dict).operand dict_operation refl dict_within word w s some))
    (λ h. at_number k 23 _ _ (λ e some. row o.Deque k word e (numeric (row_of o.Deque).operand deque_operation refl deque_within word w s some))
    (λ h. at_number k 24 _ _ (λ e some. row o.Sponsor k word e (numeric (row_of o.Sponsor).operand sponsor_operation refl sponsor_within word w s some))
    (λ h. at_number k 25 _ _ (λ e some. row o.Assert k word e i)
    (λ h. at_number k 26 _ None (λ e some. row o.Debug k word e (nothing machine.Debug word w s some)) false_true h) h) h) h) h) h) h) h) h) h) h) h) h) h) h) h) h) h) h) h) h) h) h) h) h) h) h

pub operations_have_lines : OperationsHaveLines
operations_have_lines word (Fix (pos k)) w next i s h = has_line word w k i s h
operations_have_lines word (Fix (negsuc k)) w next i s h = false_true h
operations_have_lines word (Rom n) w next i s h = false_true h
operations_have_lines word (Ram n) w next i s h = false_true h
operations_have_lines word (Cap n) w next i s h = false_true h
