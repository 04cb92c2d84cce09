-- What a piece makes stands between its first instruction and the one that it goes on with.
use Rattle.std.proofs.Common.{◌≡◌, refl, ap, sym, ◌∙◌, ℕ, suc, ℤ, pos, true, List, [], ◌∷◌, ◌++◌, length, append_assoc, Some, None}
use Rattle.std.specs.Prelude.{slice_get}
use Rattle.std.specs.Str.{bytes_eq}
use Rattle.std.proofs.lemmas.List.{append-nil}
use Rattle.std.proofs.lemmas.Option.{slice_get_within}
use Rattle.cap_words.specs.Words.{W}
use Rattle.cap_words.proofs.Places.{get-left}
use Rattle.instr_table.specs.declared.op.Op.{Op}
use Rattle.instr_table.specs.declared.op.Op.TheVariants as op
use Rattle.instr_table.specs.Code.{named, with_next}
use Rattle.hum_core.specs.declared.tested.TestUnit.{TestUnit}
use Rattle.hum_code.specs.Comes.{Setting, At}
use Rattle.hum_code.specs.Layout.{Shape, Layout}
use Rattle.hum_code.specs.Code.{Choice}
use Rattle.hum_emit.specs.declared.instruction.Field.{Field}
use Rattle.hum_emit.specs.declared.instruction.Field.TheVariants.{Number, Constant, Place}
use Rattle.hum_emit.specs.declared.instruction.Instruction.{Instruction}
use Rattle.hum_emit.specs.declared.instruction.Datum.{Datum}
use Rattle.hum_emit.specs.Emitted.{Emitted, Piece, nothing, ◌▷◌, one, choose, calls, jump, push, dup, drop, pick, roll, pair, part, nth, quad, symbol_cells, with_field}
use Rattle.hum_emit.specs.Holds.{Places, Holds, place_word, word_of, next_word}
use Rattle.hum_emit.specs.ProgramLayout.{program_layout}

-- ---- data that stand in a row

-- the data stand there, the first one at that number
abbrev pub CellsAt : List Datum → (at : ℕ) → List Datum → Type 0
CellsAt cells at [] = Unit {0}
CellsAt cells at (d ∷ ds) = (slice_get cells at ≡ Some d) × CellsAt cells (suc at) ds

pub cells_longer : (cells more : List Datum) (at : ℕ) (ds : List Datum) → CellsAt cells at ds → CellsAt (cells ++ more) at ds
cells_longer cells more at [] h = tt
cells_longer cells more at (d ∷ ds) h =
    (get-left cells more at (slice_get_within cells at d h.0) ∙ h.0, cells_longer cells more (suc at) ds h.1)

-- the data of each symbol that has some stand where it says, and two names do not have the same
pub record Kept (s : Emitted) : Type 0 where
  pub cells : (name : List ℕ) (n : ℕ) → s.symbols name ≡ Some n → CellsAt s.cells n (symbol_cells n name)
  pub names : (a b : List ℕ) (n : ℕ) → s.symbols a ≡ Some n → s.symbols b ≡ Some n → bytes_eq a b ≡ true

-- ---- what was emitted begins what is emitted later

pub record Begins (s t : Emitted) : Type 0 where
  pub code : List Instruction
  pub code_is : t.code ≡ s.code ++ code
  pub cells : List Datum
  pub cells_is : t.cells ≡ s.cells ++ cells
  pub symbols : (name : List ℕ) (n : ℕ) → s.symbols name ≡ Some n → t.symbols name ≡ Some n
  pub keeps : Kept s → Kept t

pub begins_same : (s : Emitted) → Begins s s
begins_same s = record {
  code = [];
  code_is = sym (append-nil s.code);
  cells = [];
  cells_is = sym (append-nil s.cells);
  symbols = λ name n h. h;
  keeps = λ h. h;
}

pub begins_later : (r s t : Emitted) → Begins r s → Begins s t → Begins r t
begins_later r s t g h = record {
  code = g.code ++ h.code;
  code_is = h.code_is ∙ (ap (λ ys. ys ++ h.code) g.code_is ∙ append_assoc r.code g.code h.code);
  cells = g.cells ++ h.cells;
  cells_is = h.cells_is ∙ (ap (λ ys. ys ++ h.cells) g.cells_is ∙ append_assoc r.cells g.cells h.cells);
  symbols = λ name n k. h.symbols name n (g.symbols name n k);
  keeps = λ k. h.keeps (g.keeps k);
}

pub put_begins : (x : Instruction) (s : Emitted) → Begins s (record s { code = s.code ++ x ∷ [] })
put_begins x s = record {
  code = x ∷ [];
  code_is = refl;
  cells = [];
  cells_is = sym (append-nil s.cells);
  symbols = λ name n h. h;
  keeps = λ h. record { cells = h.cells; names = h.names };
}

-- the item behind a list
pub at_end : {A : Type 0} (xs : List A) (x : A) (rest : List A) → slice_get ((xs ++ x ∷ []) ++ rest) (length xs) ≡ Some x
at_end [] x rest = refl
at_end (y ∷ xs) x rest = at_end xs x rest

-- ---- pieces that only add

pub record Growing (q : Piece) : Type 0 where
  pub at : (k : ℕ) (s : Emitted) → Begins s (q k s).0

pub g_one : {operation : ℕ} {field : Field} → Growing (one operation field)
g_one {operation} {field} = record { at = λ k s. put_begins (record { operation = operation; field = field; next = Some k }) s }

pub g_choose : {miss : ℕ} → Growing (choose miss)
g_choose {miss} = record { at = λ k s. put_begins (record { operation = 15; field = Place k; next = Some miss }) s }

pub g_calls : {routine : ℕ} → Growing (calls routine)
g_calls {routine} = record { at = λ k s. put_begins (record { operation = 0; field = Place k; next = Some routine }) s }

pub g_jump : Growing jump
g_jump = record { at = λ k s. put_begins (record { operation = 16; field = Constant 0; next = None }) s }

pub g_nothing : Growing nothing
g_nothing = record { at = λ k s. begins_same s }

pub g_both : {q r : Piece} → Growing q → Growing r → Growing (q ▷ r)
g_both {q} {r} g h = record { at = λ k s. begins_later _ _ _ (h.at k s) (g.at (r k s).1 (r k s).0) }

-- the second one goes on at the first one where it fails
pub g_miss : {q : Piece} {r : ℕ → Piece} → Growing q → ((miss : ℕ) → Growing (r miss)) → Growing (λ k s. r (q k s).1 k (q k s).0)
g_miss {q} {r} g h = record { at = λ k s. begins_later _ _ _ (g.at k s) ((h (q k s).1).at k (q k s).0) }

pub g_to : {q : Piece} (i : ℕ) → Growing q → Growing (λ k. q i)
g_to {q} i g = record { at = λ k s. g.at i s }

pub g_field : {field : Emitted → Emitted × Field} {q : Field → Piece} → ((s : Emitted) → Begins s (field s).0) → ((f : Field) → Growing (q f))
    → Growing (with_field field q)
g_field {field} {q} g h = record { at = λ k s. begins_later _ _ _ (g s) ((h (field s).1).at k (field s).0) }

-- ---- over what is emitted in the end

-- a store that holds what is emitted in the end, of these units in these shapes
pub record Image : Type 0 where
  pub setting : Setting
  pub places : Places
  pub units : List TestUnit
  pub shapes : List Shape
  pub final : Emitted
  pub holds : Holds places setting.base final

abbrev pub layout : Image → Layout
layout c = program_layout c.places c.units c.shapes c.final

-- a piece is made so that S is so of its first instruction and of the one that it goes on with
pub record Makes (c : Image) (q : Piece) (S : W → W → Type 0) : Type 0 where
  pub grows : Growing q
  pub stands : (k : ℕ) (s : Emitted) → Begins (q k s).0 c.final → S (place_word c.places (q k s).1) (place_word c.places k)

pub put_stands : (c : Image) (x : Instruction) (o : Op) (s : Emitted) → named x.operation (word_of c.places x.field) ≡ Some o
    → Begins (record s { code = s.code ++ x ∷ [] }) c.final → At c.setting (place_word c.places (length s.code)) o (next_word c.places x.next)
put_stands c x o s is later = record {
  is =
      c.holds.instructions (length s.code) x (ap (λ xs. slice_get xs (length s.code)) later.code_is ∙ at_end s.code x later.code)
      ∙ ap (λ y. with_next y (next_word c.places x.next)) is;
}

module _ {c : Image} where
  pub makes_one : {operation : ℕ} {field : Field} (o : Op) → named operation (word_of c.places field) ≡ Some o
      → Makes c (one operation field) (λ a k. At c.setting a o k)
  makes_one {operation} {field} o is = record {
    grows = g_one;
    stands = λ k s later. put_stands c (record { operation = operation; field = field; next = Some k }) o s is later;
  }

  pub makes_choose : {miss : ℕ} → Makes c (choose miss) (λ a k. Choice c.setting a k (place_word c.places miss))
  makes_choose {miss} = record {
    grows = g_choose;
    stands = λ k s later. put_stands c (record { operation = 15; field = Place k; next = Some miss }) _ s refl later;
  }

  pub makes_calls : {routine : ℕ} → Makes c (calls routine) (λ a k. At c.setting a (op.Push k) (place_word c.places routine))
  makes_calls {routine} = record {
    grows = g_calls;
    stands = λ k s later. put_stands c (record { operation = 0; field = Place k; next = Some routine }) _ s refl later;
  }

  pub makes_jump : Makes c jump (λ a k. (j : W) × At c.setting a op.Jump j)
  makes_jump = record {
    grows = g_jump;
    stands = λ k s later. (next_word c.places None, put_stands c (record { operation = 16; field = Constant 0; next = None }) _ s refl later);
  }

  pub makes_nothing : Makes c nothing (λ a k. a ≡ k)
  makes_nothing = record { grows = g_nothing; stands = λ k s later. refl }

  -- one after the other
  pub makes_both : {q r : Piece} {S T : W → W → Type 0} → Makes c q S → Makes c r T → Makes c (q ▷ r) (λ a k. (b : W) × S a b × T b k)
  makes_both {q} {r} {S} {T} g h = record {
    grows = g_both g.grows h.grows;
    stands = λ k s later. (
      place_word c.places (r k s).1,
      g.stands (r k s).1 (r k s).0 later,
      h.stands k s (begins_later _ _ _ (g.grows.at (r k s).1 (r k s).0) later),
    );
  }

  pub makes_as : {q : Piece} {S T : W → W → Type 0} → Makes c q S → ((a k : W) → S a k → T a k) → Makes c q T
  makes_as {q} {S} {T} h f = record { grows = h.grows; stands = λ k s later. f _ _ (h.stands k s later) }

  -- the second one goes on at the first one where it fails
  pub makes_miss : {q : Piece} {r : ℕ → Piece} {S : W → W → Type 0} {T : W → W → W → Type 0} → Makes c q S
      → ((miss : ℕ) → Makes c (r miss) (T (place_word c.places miss)))
      → Makes c (λ k s. r (q k s).1 k (q k s).0) (λ a k. (next : W) × T next a k × S next k)
  makes_miss {q} {r} {S} {T} g h = record {
    grows = g_miss g.grows (λ miss. (h miss).grows);
    stands = λ k s later. (
      place_word c.places (q k s).1,
      (h (q k s).1).stands k (q k s).0 later,
      g.stands k s (begins_later _ _ _ ((h (q k s).1).grows.at k (q k s).0) later),
    );
  }

  pub makes_to : {q : Piece} {S : W → W → Type 0} (i : ℕ) → Makes c q S → Makes c (λ k. q i) (λ a k. S a (place_word c.places i))
  makes_to {q} {S} i g = record { grows = g_to i g.grows; stands = λ k s later. g.stands i s later }

  -- a piece over a word of which K is so
  pub makes_field : {field : Emitted → Emitted × Field} {q : Field → Piece} {K : Field → Type 0} {S : Field → W → W → Type 0}
      → ((s : Emitted) → Begins s (field s).0) → ((s : Emitted) → Begins (field s).0 c.final → K (field s).1) → ((f : Field) → Makes c (q f) (S f))
      → Makes c (with_field field q) (λ a k. (f : Field) × K f × S f a k)
  makes_field {field} {q} {K} {S} g know h = record {
    grows = g_field g (λ f. (h f).grows);
    stands = λ k s later. (
      (field s).1,
      know s (begins_later _ _ _ ((h (field s).1).grows.at k (field s).0) later),
      (h (field s).1).stands k (field s).0 later,
    );
  }

  -- ---- single instructions

  pub pushes : (f : Field) → Makes c (push f) (λ a k. At c.setting a (op.Push (word_of c.places f)) k)
  pushes f = makes_one _ refl

  pub dups : (n : ℕ) → named 1 (word_of c.places (Number (pos n))) ≡ Some (op.Dup (pos n)) → Makes c (dup n) (λ a k. At c.setting a (op.Dup (pos n)) k)
  dups n is = makes_one _ is

  pub drops : (n : ℕ) → named 2 (word_of c.places (Number (pos n))) ≡ Some (op.Drop (pos n)) → Makes c (drop n) (λ a k. At c.setting a (op.Drop (pos n)) k)
  drops n is = makes_one _ is

  pub picks : (n : ℕ) → named 3 (word_of c.places (Number (pos n))) ≡ Some (op.Pick (pos n)) → Makes c (pick n) (λ a k. At c.setting a (op.Pick (pos n)) k)
  picks n is = makes_one _ is

  pub rolls : (n : ℤ) → named 4 (word_of c.places (Number n)) ≡ Some (op.Roll n) → Makes c (roll n) (λ a k. At c.setting a (op.Roll n) k)
  rolls n is = makes_one _ is

  pub pairs_up : (n : ℕ) → named 6 (word_of c.places (Number (pos n))) ≡ Some (op.Pair (pos n)) → Makes c (pair n) (λ a k. At c.setting a (op.Pair (pos n)) k)
  pairs_up n is = makes_one _ is

  pub parts : (n : ℕ) → named 7 (word_of c.places (Number (pos n))) ≡ Some (op.Part (pos n)) → Makes c (part n) (λ a k. At c.setting a (op.Part (pos n)) k)
  parts n is = makes_one _ is

  pub nths : (n : ℤ) → named 8 (word_of c.places (Number n)) ≡ Some (op.Nth n) → Makes c (nth n) (λ a k. At c.setting a (op.Nth n) k)
  nths n is = makes_one _ is

  pub quads : Makes c (quad (pos 3)) (λ a k. At c.setting a (op.QuadMake (pos 3)) k)
  quads = makes_one _ refl
