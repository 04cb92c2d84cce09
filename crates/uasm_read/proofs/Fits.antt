-- Operations are found again by their numbers, and their operands are words.
use Rattle.std.proofs.Common.{◌≡◌, ℕ, suc, ◌-◌, Bool, true, false, length, Some, refl, rules, pos, negsuc, ℤ}
use Rattle.std.specs.Prelude.{◌&&◌, nat_lt, nat_le, ◌+ℤ◌, int_le}
use Rattle.std.proofs.lemmas.Bool.{and_parts}
use borrow.Author.Tests.{tests}
use Rattle.cap_words.specs.Fixnums.{in_range}
use Rattle.instr_table.specs.Code.{within, turns}
use Rattle.uasm_read.specs.declared.operand.Operand.{Operand}
use Rattle.uasm_read.specs.declared.operand.Operand.TheVariants as operand
use Rattle.uasm_read.specs.declared.operation.Operation.{Operation}
use Rattle.uasm_read.specs.declared.operation.Operation.TheVariants as o
use Rattle.uasm_read.specs.Texts.{parts_of}
use Rattle.uasm_read.specs.Operations.{Shape, Value, Nothing, Within, Turn, Choice, row_of}
use Rattle.uasm_read.specs.Modules.{is_word, fits, operation_at, numbered}

-- the number of an operation is its own
pub number_found : (operation : Operation) → numbered (operand.Fix (pos (row_of operation).number)) ≡ Some operation
unfolding operation_at
number_found o.Push = refl
number_found o.Dup = refl
number_found o.Drop = refl
number_found o.Pick = refl
number_found o.Roll = refl
number_found o.Depth = refl
number_found o.Pair = refl
number_found o.Part = refl
number_found o.Nth = refl
number_found o.Quad = refl
number_found o.Get = refl
number_found o.Typeq = refl
number_found o.Eq = refl
number_found o.Cmp = refl
number_found o.Alu = refl
number_found o.If = refl
number_found o.Jump = refl
number_found o.Msg = refl
number_found o.State = refl
number_found o.My = refl
number_found o.Actor = refl
number_found o.End = refl
number_found o.Dict = refl
number_found o.Deque = refl
number_found o.Sponsor = refl
number_found o.Assert = refl
number_found o.Debug = refl

pub number_word : (operation : Operation) → in_range (pos (row_of operation).number) ≡ true
number_word o.Push = refl
number_word o.Dup = refl
number_word o.Drop = refl
number_word o.Pick = refl
number_word o.Roll = refl
number_word o.Depth = refl
number_word o.Pair = refl
number_word o.Part = refl
number_word o.Nth = refl
number_word o.Quad = refl
number_word o.Get = refl
number_word o.Typeq = refl
number_word o.Eq = refl
number_word o.Cmp = refl
number_word o.Alu = refl
number_word o.If = refl
number_word o.Jump = refl
number_word o.Msg = refl
number_word o.State = refl
number_word o.My = refl
number_word o.Actor = refl
number_word o.End = refl
number_word o.Dict = refl
number_word o.Deque = refl
number_word o.Sponsor = refl
number_word o.Assert = refl
number_word o.Debug = refl

-- the numbers of a shape are fixnums
abbrev small : Shape → Bool
small Value = true
small Nothing = true
small (Within low high) = in_range low && in_range high
small (Turn most) = nat_lt most 1024
small (Choice from words) = in_range from && in_range (from +ℤ pos (length (parts_of words) - 1))

row_small : (operation : Operation) → small (row_of operation).operand ≡ true
unfolding parts_of
row_small o.Push = refl
row_small o.Dup = refl
row_small o.Drop = refl
row_small o.Pick = refl
row_small o.Roll = refl
row_small o.Depth = refl
row_small o.Pair = refl
row_small o.Part = refl
row_small o.Nth = refl
row_small o.Quad = refl
row_small o.Get = refl
row_small o.Typeq = refl
row_small o.Eq = refl
row_small o.Cmp = refl
row_small o.Alu = refl
row_small o.If = refl
row_small o.Jump = refl
row_small o.Msg = refl
row_small o.State = refl
row_small o.My = refl
row_small o.Actor = refl
row_small o.End = refl
row_small o.Dict = refl
row_small o.Deque = refl
row_small o.Sponsor = refl
row_small o.Assert = refl
row_small o.Debug = refl

within_range : (low high n : ℤ) → in_range low ≡ true → in_range high ≡ true → within low high n ≡ true → in_range n ≡ true
within_range low (pos b) (pos n) l h w = let more = and_parts (int_le low (pos n)) _ w in let e = more.1 in search (rules, tests)
within_range low (negsuc b) (pos n) l h w = let more = and_parts (int_le low (pos n)) _ w in absurd (let e : false ≡ true = more.1 in cc)
within_range (negsuc a) high (negsuc n) l h w = let more = and_parts (int_le (negsuc a) (negsuc n)) _ w in let e = more.0 in search (rules, tests)
within_range (pos a) high (negsuc n) l h w = absurd (let e : false ≡ true = w in cc)

turn_range : (most : ℕ) (n : ℤ) → nat_lt most 1024 ≡ true → turns most n ≡ true → in_range n ≡ true
turn_range most (pos n) m t = let more = and_parts (nat_le 1 n) _ t in let e = more.1 in search (rules, tests)
turn_range most (negsuc n) m t = let more = and_parts (nat_le 1 (suc n)) _ t in let e = more.1 in search (rules, tests)

fits_word : (shape : Shape) (word : Operand) → small shape ≡ true → fits shape word ≡ true → is_word word ≡ true
fits_word Value word s h = h
fits_word Nothing (operand.Fix n) s h = absurd (let e : false ≡ true = h in cc)
fits_word Nothing (operand.Const k) s h = search (rules, tests)
fits_word Nothing (operand.Label name) s h = absurd (let e : false ≡ true = h in cc)
fits_word Nothing operand.Following s h = absurd (let e : false ≡ true = h in cc)
fits_word (Within low high) (operand.Fix n) s h = let parts = and_parts (in_range low) _ s in within_range low high n parts.0 parts.1 h
fits_word (Within low high) (operand.Const k) s h = absurd (let e : false ≡ true = h in cc)
fits_word (Within low high) (operand.Label name) s h = absurd (let e : false ≡ true = h in cc)
fits_word (Within low high) operand.Following s h = absurd (let e : false ≡ true = h in cc)
fits_word (Turn most) (operand.Fix n) s h = turn_range most n s h
fits_word (Turn most) (operand.Const k) s h = absurd (let e : false ≡ true = h in cc)
fits_word (Turn most) (operand.Label name) s h = absurd (let e : false ≡ true = h in cc)
fits_word (Turn most) operand.Following s h = absurd (let e : false ≡ true = h in cc)
fits_word (Choice from words) (operand.Fix n) s h = let parts = and_parts (in_range from) _ s in within_range from (from +ℤ pos (length (parts_of words) - 1)) n parts.0 parts.1 h
fits_word (Choice from words) (operand.Const k) s h = absurd (let e : false ≡ true = h in cc)
fits_word (Choice from words) (operand.Label name) s h = absurd (let e : false ≡ true = h in cc)
fits_word (Choice from words) operand.Following s h = absurd (let e : false ≡ true = h in cc)

-- an operand of an operation is a word
pub operand_word : (operation : Operation) (word : Operand) → fits (row_of operation).operand word ≡ true → is_word word ≡ true
operand_word operation word h = fits_word (row_of operation).operand word (row_small operation) h
