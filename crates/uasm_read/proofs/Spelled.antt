-- Each line spells an operation of the machine's table.
use Rattle.std.proofs.Common.{◌≡◌, ℕ, zero, suc, ◌-◌, ◌≤◌, Bool, true, false, [], length, Some, refl, sym, subst, arith, rules, pos, negsuc, ℤ}
use Rattle.std.specs.Prelude.{is_some, nat_le, ◌+ℤ◌, int_le}
use Rattle.std.proofs.lemmas.Bool.{and_parts}
use borrow.Author.Tests.{tests}
use Rattle.cap_words.specs.Words.{W, Fix, undef}
use Rattle.instr_table.specs.declared.op.Op.{Op}
use Rattle.instr_table.specs.declared.op.Op.TheVariants as machine
use Rattle.instr_table.specs.Code.{within, turns, numbered, named, quad_operation, alu_operation, actor_operation, dict_operation, deque_operation, sponsor_operation}
use Rattle.uasm_read.specs.declared.operand.Operand.{Operand}
use Rattle.uasm_read.specs.declared.operand.Operand.TheVariants as operand
use Rattle.uasm_read.specs.declared.operation.Operation.{Operation}
use Rattle.uasm_read.specs.declared.operation.Operation.TheVariants as o
use Rattle.uasm_read.specs.Texts.{Bytes, parts_of}
use Rattle.uasm_read.specs.Operations.{Shape, Value, Nothing, Within, Turn, Choice, row_of}
use Rattle.uasm_read.specs.Modules.{fits}
use Rattle.uasm_read.specs.Laws.{StandsFor, LinesSpell}

abbrev Spells : ℕ → W → Type 0
Spells k w = is_some (named k w) ≡ true

abbrev Case : ℕ → Shape → Type 0
Case k shape = (word : Operand) (w : W) → fits shape word ≡ true → StandsFor word w → Spells k w

passes : (test : ℤ → Bool) (f : ℤ → Op) (n : ℤ) → test n ≡ true → is_some (numbered test f (Some n)) ≡ true
passes test f n h = rw h refl

value_case : (k : ℕ) → ((w : W) → Spells k w) → Case k Value
value_case k all word w h s = all w

nothing_case : (k : ℕ) → Spells k undef → Case k Nothing
nothing_case k one (operand.Fix n) w h s = absurd (let no : false ≡ true = h in cc)
nothing_case k one (operand.Const zero) w h s = subst (Spells k) (sym s) one
nothing_case k one (operand.Const (suc n)) w h s = absurd (let e : suc n ≡ 0 = search (rules, tests) in omega (arith, e))
nothing_case k one (operand.Label name) w h s = absurd (let no : false ≡ true = h in cc)
nothing_case k one operand.Following w h s = absurd (let no : false ≡ true = h in cc)

within_case : (k : ℕ) (low high : ℤ) → ((n : ℤ) → within low high n ≡ true → Spells k (Fix n)) → Case k (Within low high)
within_case k low high all (operand.Fix n) w h s = subst (Spells k) (sym s) (all n h)
within_case k low high all (operand.Const n) w h s = absurd (let no : false ≡ true = h in cc)
within_case k low high all (operand.Label name) w h s = absurd (let no : false ≡ true = h in cc)
within_case k low high all operand.Following w h s = absurd (let no : false ≡ true = h in cc)

turn_case : (k most : ℕ) → ((n : ℤ) → turns most n ≡ true → Spells k (Fix n)) → Case k (Turn most)
turn_case k most all (operand.Fix n) w h s = subst (Spells k) (sym s) (all n h)
turn_case k most all (operand.Const n) w h s = absurd (let no : false ≡ true = h in cc)
turn_case k most all (operand.Label name) w h s = absurd (let no : false ≡ true = h in cc)
turn_case k most all operand.Following w h s = absurd (let no : false ≡ true = h in cc)

choice_case : (k : ℕ) (from : ℤ) (words : Bytes) → ((n : ℤ) → within from (from +ℤ pos (length (parts_of words) - 1)) n ≡ true → Spells k (Fix n)) → Case k (Choice from words)
choice_case k from words all (operand.Fix n) w h s = subst (Spells k) (sym s) (all n h)
choice_case k from words all (operand.Const n) w h s = absurd (let no : false ≡ true = h in cc)
choice_case k from words all (operand.Label name) w h s = absurd (let no : false ≡ true = h in cc)
choice_case k from words all operand.Following w h s = absurd (let no : false ≡ true = h in cc)

-- the numbers from 0 to a limit
up_to : (P : ℤ → Type 0) (m : ℕ) → ((k : ℕ) → k ≤ m → P (pos k)) → (n : ℤ) → within (pos 0) (pos m) n ≡ true → P n
up_to P m all (pos k) h = all k (let parts = and_parts (int_le (pos 0) (pos k)) _ h in let e = parts.1 in search (rules, tests))
up_to P m all (negsuc k) h = absurd (let no : false ≡ true = h in cc)

alu_some : (k : ℕ) → k ≤ 6 → is_some (alu_operation (Some (pos k))) ≡ true
alu_some zero h = refl
alu_some (suc zero) h = refl
alu_some (suc (suc zero)) h = refl
alu_some (suc (suc (suc zero))) h = refl
alu_some (suc (suc (suc (suc zero)))) h = refl
alu_some (suc (suc (suc (suc (suc zero))))) h = refl
alu_some (suc (suc (suc (suc (suc (suc zero)))))) h = refl
alu_some (suc (suc (suc (suc (suc (suc (suc k))))))) h = absurd (omega arith)

actor_some : (k : ℕ) → k ≤ 4 → is_some (actor_operation (Some (pos k))) ≡ true
actor_some zero h = refl
actor_some (suc zero) h = refl
actor_some (suc (suc zero)) h = refl
actor_some (suc (suc (suc zero))) h = refl
actor_some (suc (suc (suc (suc zero)))) h = refl
actor_some (suc (suc (suc (suc (suc k))))) h = absurd (omega arith)

dict_some : (k : ℕ) → k ≤ 4 → is_some (dict_operation (Some (pos k))) ≡ true
dict_some zero h = refl
dict_some (suc zero) h = refl
dict_some (suc (suc zero)) h = refl
dict_some (suc (suc (suc zero))) h = refl
dict_some (suc (suc (suc (suc zero)))) h = refl
dict_some (suc (suc (suc (suc (suc k))))) h = absurd (omega arith)

deque_some : (k : ℕ) → k ≤ 6 → is_some (deque_operation (Some (pos k))) ≡ true
deque_some zero h = refl
deque_some (suc zero) h = refl
deque_some (suc (suc zero)) h = refl
deque_some (suc (suc (suc zero))) h = refl
deque_some (suc (suc (suc (suc zero)))) h = refl
deque_some (suc (suc (suc (suc (suc zero))))) h = refl
deque_some (suc (suc (suc (suc (suc (suc zero)))))) h = refl
deque_some (suc (suc (suc (suc (suc (suc (suc k))))))) h = absurd (omega arith)

sponsor_some : (k : ℕ) → k ≤ 6 → is_some (sponsor_operation (Some (pos k))) ≡ true
sponsor_some zero h = refl
sponsor_some (suc zero) h = refl
sponsor_some (suc (suc zero)) h = refl
sponsor_some (suc (suc (suc zero))) h = refl
sponsor_some (suc (suc (suc (suc zero)))) h = refl
sponsor_some (suc (suc (suc (suc (suc zero))))) h = refl
sponsor_some (suc (suc (suc (suc (suc (suc zero)))))) h = refl
sponsor_some (suc (suc (suc (suc (suc (suc (suc k))))))) h = absurd (omega arith)

quad_made : (k : ℕ) → 1 ≤ k → k ≤ 4 → is_some (quad_operation (Some (pos k))) ≡ true
quad_made zero l h = absurd (omega arith)
quad_made (suc zero) l h = refl
quad_made (suc (suc zero)) l h = refl
quad_made (suc (suc (suc zero))) l h = refl
quad_made (suc (suc (suc (suc zero)))) l h = refl
quad_made (suc (suc (suc (suc (suc k))))) l h = absurd (omega arith)

quad_taken : (k : ℕ) → suc k ≤ 4 → is_some (quad_operation (Some (negsuc k))) ≡ true
quad_taken zero h = refl
quad_taken (suc zero) h = refl
quad_taken (suc (suc zero)) h = refl
quad_taken (suc (suc (suc zero))) h = refl
quad_taken (suc (suc (suc (suc k)))) h = absurd (omega arith)

quad_some : (n : ℤ) → turns 4 n ≡ true → is_some (quad_operation (Some n)) ≡ true
quad_some (pos k) h = let parts = and_parts (nat_le 1 k) _ h in let low = parts.0 in let high = parts.1 in quad_made k (search (rules, tests)) (search (rules, tests))
quad_some (negsuc k) h = let parts = and_parts (nat_le 1 (suc k)) _ h in let high = parts.1 in quad_taken k (search (rules, tests))

-- the words of an operation's choice
abbrev choice_words : Shape → Bytes
choice_words (Choice from words) = words
choice_words shape = []

abbrev row_words : Operation → Bytes
row_words line = choice_words (row_of line).operand

pub lines_spell : LinesSpell
unfolding parts_of
lines_spell o.Push word w next h s = value_case 0 (λ w. refl) word w h s
lines_spell o.Dup word w next h s = within_case 1 (pos 0) (pos 15) (passes (within (pos 0) (pos 15)) machine.Dup) word w h s
lines_spell o.Drop word w next h s = within_case 2 (pos 0) (pos 4095) (passes (within (pos 0) (pos 4095)) machine.Drop) word w h s
lines_spell o.Pick word w next h s = within_case 3 (pos 1) (pos 4095) (passes (within (pos 1) (pos 4095)) machine.Pick) word w h s
lines_spell o.Roll word w next h s = turn_case 4 15 (passes (turns 15) machine.Roll) word w h s
lines_spell o.Depth word w next h s = nothing_case 5 refl word w h s
lines_spell o.Pair word w next h s = within_case 6 (pos 1) (pos 15) (passes (within (pos 1) (pos 15)) machine.Pair) word w h s
lines_spell o.Part word w next h s = within_case 7 (pos 1) (pos 15) (passes (within (pos 1) (pos 15)) machine.Part) word w h s
lines_spell o.Nth word w next h s = within_case 8 (negsuc 4094) (pos 4095) (passes (within (negsuc 4094) (pos 4095)) machine.Nth) word w h s
lines_spell o.Quad word w next h s = turn_case 9 4 quad_some word w h s
lines_spell o.Get word w next h s = within_case 10 (pos 0) (pos 3) (passes (within (pos 0) (pos 3)) machine.Get) word w h s
lines_spell o.Typeq word w next h s = value_case 11 (λ w. refl) word w h s
lines_spell o.Eq word w next h s = value_case 12 (λ w. refl) word w h s
lines_spell o.Cmp word w next h s = choice_case 13 (pos 0) (row_words o.Cmp) (passes (within (pos 0) (pos 5)) machine.Cmp) word w h s
lines_spell o.Alu word w next h s = choice_case 14 (pos 0) (row_words o.Alu) (up_to (λ n. is_some (alu_operation (Some n)) ≡ true) 6 alu_some) word w h s
lines_spell o.If word w next h s = value_case 15 (λ w. refl) word w h s
lines_spell o.Jump word w next h s = nothing_case 16 refl word w h s
lines_spell o.Msg word w next h s = within_case 17 (negsuc 4094) (pos 4095) (passes (within (negsuc 4094) (pos 4095)) machine.Msg) word w h s
lines_spell o.State word w next h s = within_case 18 (negsuc 4094) (pos 4095) (passes (within (negsuc 4094) (pos 4095)) machine.State) word w h s
lines_spell o.My word w next h s = choice_case 19 (pos 0) (row_words o.My) (passes (within (pos 0) (pos 2)) machine.My) word w h s
lines_spell o.Actor word w next h s = choice_case 20 (pos 0) (row_words o.Actor) (up_to (λ n. is_some (actor_operation (Some n)) ≡ true) 4 actor_some) word w h s
lines_spell o.End word w next h s = choice_case 21 (negsuc 0) (row_words o.End) (passes (within (negsuc 0) (pos 1)) machine.End) word w h s
lines_spell o.Dict word w next h s = choice_case 22 (pos 0) (row_words o.Dict) (up_to (λ n. is_some (dict_operation (Some n)) ≡ true) 4 dict_some) word w h s
lines_spell o.Deque word w next h s = choice_case 23 (pos 0) (row_words o.Deque) (up_to (λ n. is_some (deque_operation (Some n)) ≡ true) 6 deque_some) word w h s
lines_spell o.Sponsor word w next h s = choice_case 24 (pos 0) (row_words o.Sponsor) (up_to (λ n. is_some (sponsor_operation (Some n)) ≡ true) 6 sponsor_some) word w h s
lines_spell o.Assert word w next h s = value_case 25 (λ w. refl) word w h s
lines_spell o.Debug word w next h s = nothing_case 26 refl word w h s
