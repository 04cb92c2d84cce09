-- How many items pieces of code add.
use Rattle.std.proofs.Common.{ℕ, suc, ◌+◌, ◌≤◌, List, length, Option, Some, None, arith}
use Rattle.std.proofs.lemmas.List.{length-append}
use Rattle.hum_core.specs.declared.slot.Const.{Const}
use Rattle.hum_core.specs.declared.slot.Const.TheVariants as const
use Rattle.hum_core.specs.Sizes.{const_size}
use Rattle.hum_code.proofs.Makings.{length_end}
use Rattle.hum_emit.specs.declared.instruction.Field.{Field}
use Rattle.hum_emit.specs.declared.instruction.Field.TheVariants.{Constant, Place}
use Rattle.hum_emit.specs.declared.instruction.Instruction.{Instruction}
use Rattle.hum_emit.specs.Emitted.{Emitted, Piece, nothing, ◌▷◌, put, one, choose, calls, jump, list_cells, text, symbol_cells, symbol_at, constant, with_field}
use Rattle.hum_emit.specs.Size.{item_count}
use Rattle.hum_emit.proofs.FairData.{length_list}

-- ---- pieces

-- A piece adds at most so many items, and leaves so many of them over.
pub record Adds (over most : ℕ) (q : Piece) : Type 0 where
  pub at : (k : ℕ) (s : Emitted) → over + item_count (q k s).0 ≤ most + item_count s

adds_put : (x : Instruction) (s : Emitted) → 0 + item_count (put x s).0 ≤ 1 + item_count s
adds_put x s = let more = length_end s.code x in omega (arith, more)

pub a_one : {operation : ℕ} {field : Field} → Adds 0 1 (one operation field)
a_one {operation} {field} = record { at = λ k s. adds_put (record { operation = operation; field = field; next = Some k }) s }

pub a_choose : {miss : ℕ} → Adds 0 1 (choose miss)
a_choose {miss} = record { at = λ k s. adds_put (record { operation = 15; field = Place k; next = Some miss }) s }

pub a_calls : {routine : ℕ} → Adds 0 1 (calls routine)
a_calls {routine} = record { at = λ k s. adds_put (record { operation = 0; field = Place k; next = Some routine }) s }

pub a_jump : Adds 0 1 jump
a_jump = record { at = λ k s. adds_put (record { operation = 16; field = Constant 0; next = None }) s }

pub a_nothing : Adds 0 0 nothing
a_nothing = record { at = λ k s. omega arith }

pub a_both : {a b m n : ℕ} {q r : Piece} → Adds a m q → Adds b n r → Adds (a + b) (m + n) (q ▷ r)
a_both {q = q} {r = r} g h = record {
  at = λ k s. let second = h.at k s in let first = g.at (r k s).1 (r k s).0 in omega (arith, first, second);
}

-- the second one goes on at the first one where it fails
pub a_miss : {a b m n : ℕ} {q : Piece} {r : ℕ → Piece} → Adds a m q → ((miss : ℕ) → Adds b n (r miss))
    → Adds (a + b) (m + n) (λ k s. r (q k s).1 k (q k s).0)
a_miss {q = q} {r = r} g h = record {
  at = λ k s. let first = g.at k s in let second = (h (q k s).1).at k (q k s).0 in omega (arith, first, second);
}

-- it goes on at that instruction
pub a_to : {a m : ℕ} {q : Piece} (i : ℕ) → Adds a m q → Adds a m (λ k. q i)
a_to i g = record { at = λ k s. g.at i s }

pub a_fits : {a m : ℕ} (b n : ℕ) {q : Piece} → Adds a m q → b + m ≤ a + n → Adds b n q
a_fits b n g le = record { at = λ k s. let is = g.at k s in omega (arith, is, le) }

-- ---- data

-- it makes at most so many data
abbrev pub Makes : ℕ → (Emitted → Emitted × Field) → Type 0
Makes most field = (s : Emitted) → item_count (field s).0 ≤ most + item_count s

pub a_field : {a n : ℕ} (m : ℕ) {field : Emitted → Emitted × Field} {q : Field → Piece} → Makes m field → ((f : Field) → Adds a n (q f))
    → Adds a (m + n) (with_field field q)
a_field m {field = field} g h = record {
  at = λ k s. let made = g s in let is = (h (field s).1).at k (field s).0 in omega (arith, made, is);
}

pub text_makes : (points : List ℕ) → Makes (length points) (text points)
text_makes points s =
    let more = length-append s.cells (list_cells (length s.cells) points) in
    let many = length_list (length s.cells) points in
    omega (arith, more, many)

symbol_makes : (o : Option ℕ) (name : List ℕ) → Makes (1 + length name) (symbol_at o name)
symbol_makes (Some n) name s = omega arith
symbol_makes None name s =
    let more = length-append s.cells (symbol_cells (length s.cells) name) in
    let many = length_list (suc (length s.cells)) name in
    omega (arith, more, many)

pub constant_makes : (c : Const) → Makes (const_size c) (constant c)
constant_makes const.Undef s = omega arith
constant_makes const.Nil s = omega arith
constant_makes const.True s = omega arith
constant_makes const.False s = omega arith
constant_makes (const.Num n) s = omega arith
constant_makes (const.Sym name) s = symbol_makes (s.symbols name) name s
