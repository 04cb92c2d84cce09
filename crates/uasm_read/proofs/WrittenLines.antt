-- A line that is written says the same when it is read.
use Rattle.std.proofs.Common.{◌≡◌, ℕ, ◌-◌, ◌<◌, ◌==◌, ℤ, pos, negsuc, Bool, true, false, List, [], ◌∷◌, ◌++◌, length, Some, None, refl, sym, ap, ◌∙◌, arith, length-append}
use Rattle.std.specs.Prelude.{◌&&◌, nat_lt, codes, option_map, ◌+ℤ◌, ◌-ℤ◌, int_le}
use Rattle.std.specs.List.{list_all, join_with_byte}
use Rattle.std.proofs.Math.Seq.{take-append_seam, get_or-append_seam}
use Rattle.std.proofs.lemmas.List.Folds.{list_all-append}
use Rattle.std.proofs.lemmas.Bool.{and_parts, and_from, eqb-true}
use Rattle.std.proofs.lemmas.Bool.Decides.{nat_tests}
use Rattle.std.proofs.lemmas.Int.{ints}
use borrow.Author.Tests.{ltb-true}
use Rattle.instr_table.specs.Code.{within, turns, passing}
use Rattle.uasm_read.specs.declared.operand.Operand.{Operand}
use Rattle.uasm_read.specs.declared.operand.Operand.TheVariants as operand
use Rattle.uasm_read.specs.declared.operation.Operation.{Operation}
use Rattle.uasm_read.specs.declared.operation.Operation.TheVariants as o
use Rattle.uasm_read.specs.declared.line.Line.{Line}
use Rattle.uasm_read.specs.declared.line.Line.TheVariants.{Blank, Import, Export, Label, Instruction, Next, Cell, Bad}
use Rattle.uasm_read.specs.Texts.{Bytes, Name, is_letter, is_name_byte, is_name, last_byte, before_last_byte, parts_of}
use Rattle.uasm_read.specs.Operations.{Shape, Value, Nothing, Within, Turn, Choice, row_of, operation_of, operand_in, operand_of}
use Rattle.uasm_read.specs.Modules.{is_word, fits, are_different}
use Rattle.uasm_read.specs.Lines.{name_alone, directive, label_in, pair_line, cell_line, instruction_of, item_line, named_line, line_in, line_of}
use Rattle.uasm_read.specs.Writes.{part_at, word_text, natural, operand_parts, is_constant, line_parts, line_text}
use Rattle.uasm_read.proofs.Fits.{operand_word}
use Rattle.uasm_read.proofs.WrittenItems.{false_true}
use Rattle.uasm_read.proofs.WrittenParts.{is_part_byte, is_part, is_line_byte, parts_joined, line_bytes, line_is_ascii, line_no_comments, place_again, word_passes}
use Rattle.uasm_read.proofs.WrittenWords.{name_part, word_part, number_again, value_again}

-- ---- operations

name_is_part : (operation : Operation) → is_part (row_of operation).name ≡ true
name_is_part o.Push = refl
name_is_part o.Dup = refl
name_is_part o.Drop = refl
name_is_part o.Pick = refl
name_is_part o.Roll = refl
name_is_part o.Depth = refl
name_is_part o.Pair = refl
name_is_part o.Part = refl
name_is_part o.Nth = refl
name_is_part o.Quad = refl
name_is_part o.Get = refl
name_is_part o.Typeq = refl
name_is_part o.Eq = refl
name_is_part o.Cmp = refl
name_is_part o.Alu = refl
name_is_part o.If = refl
name_is_part o.Jump = refl
name_is_part o.Msg = refl
name_is_part o.State = refl
name_is_part o.My = refl
name_is_part o.Actor = refl
name_is_part o.End = refl
name_is_part o.Dict = refl
name_is_part o.Deque = refl
name_is_part o.Sponsor = refl
name_is_part o.Assert = refl
name_is_part o.Debug = refl

-- a line that begins with an operation's name
named : (operation : Operation) (parts : List Bytes) → line_in ((row_of operation).name ∷ parts) ≡ instruction_of operation (operand_of (row_of operation).operand parts)
unfolding line_in label_in is_name item_line operation_of
named o.Push parts = refl
named o.Dup parts = refl
named o.Drop parts = refl
named o.Pick parts = refl
named o.Roll parts = refl
named o.Depth parts = refl
named o.Pair parts = refl
named o.Part parts = refl
named o.Nth parts = refl
named o.Quad parts = refl
named o.Get parts = refl
named o.Typeq parts = refl
named o.Eq parts = refl
named o.Cmp parts = refl
named o.Alu parts = refl
named o.If parts = refl
named o.Jump parts = refl
named o.Msg parts = refl
named o.State parts = refl
named o.My parts = refl
named o.Actor parts = refl
named o.End parts = refl
named o.Dict parts = refl
named o.Deque parts = refl
named o.Sponsor parts = refl
named o.Assert parts = refl
named o.Debug parts = refl

-- the words of a choice are parts, and differ
abbrev right : Shape → Bool
right (Choice from words) = are_different (parts_of words) && list_all is_part (parts_of words) && nat_lt 0 (length (parts_of words))
right shape = true

row_right : (operation : Operation) → right (row_of operation).operand ≡ true
unfolding parts_of
row_right o.Push = refl
row_right o.Dup = refl
row_right o.Drop = refl
row_right o.Pick = refl
row_right o.Roll = refl
row_right o.Depth = refl
row_right o.Pair = refl
row_right o.Part = refl
row_right o.Nth = refl
row_right o.Quad = refl
row_right o.Get = refl
row_right o.Typeq = refl
row_right o.Eq = refl
row_right o.Cmp = refl
row_right o.Alu = refl
row_right o.If = refl
row_right o.Jump = refl
row_right o.Msg = refl
row_right o.State = refl
row_right o.My = refl
row_right o.Actor = refl
row_right o.End = refl
row_right o.Dict = refl
row_right o.Deque = refl
row_right o.Sponsor = refl
row_right o.Assert = refl
row_right o.Debug = refl

-- ---- operands

-- a number of a choice stands at its place above the first one
place_natural : (from d : ℤ) (count : ℕ) → 0 < count → within from (from +ℤ pos (count - 1)) (from +ℤ d) ≡ true → (natural d < count) × (from +ℤ pos (natural d) ≡ from +ℤ d)
place_natural from (pos k) count some h = let parts = and_parts (int_le from (from +ℤ pos k)) _ h in (grind (arith, ints, parts.1), refl)
place_natural from (negsuc k) count some h = let parts = and_parts (int_le from (from +ℤ negsuc k)) _ h in absurd (grind (arith, ints, parts.0))

above : (from n : ℤ) → from +ℤ (n -ℤ from) ≡ n
above from n = grind (arith, ints)

choice_place : (from n : ℤ) (count : ℕ) → 0 < count → within from (from +ℤ pos (count - 1)) n ≡ true → (natural (n -ℤ from) < count) × (from +ℤ pos (natural (n -ℤ from)) ≡ n)
choice_place from n count some h =
    let place = place_natural from (n -ℤ from) count some (rw (above from n) h) in
    (place.0, place.1 ∙ above from n)

passes : (test : ℤ → Bool) (n : ℤ) → test n ≡ true → passing test (Some n) ≡ Some n
passes test n h = rw h refl

operand_again : (shape : Shape) (word : Operand) → right shape ≡ true → fits shape word ≡ true → is_word word ≡ true → operand_of shape (operand_parts shape word) ≡ Some word
unfolding operand_of operand_in
operand_again Value word r f w = value_again word w
operand_again Nothing (operand.Fix n) r f w = false_true f
operand_again Nothing (operand.Const k) r f w = ap (λ n. Some (operand.Const n)) (sym (eqb-true k 0 f))
operand_again Nothing (operand.Label name) r f w = false_true f
operand_again Nothing operand.Following r f w = false_true f
operand_again (Within low high) (operand.Fix n) r f w = rw (number_again n w) (ap (option_map operand.Fix) (passes (within low high) n f))
operand_again (Within low high) (operand.Const k) r f w = false_true f
operand_again (Within low high) (operand.Label name) r f w = false_true f
operand_again (Within low high) operand.Following r f w = false_true f
operand_again (Turn most) (operand.Fix n) r f w = rw (number_again n w) (ap (option_map operand.Fix) (passes (turns most) n f))
operand_again (Turn most) (operand.Const k) r f w = false_true f
operand_again (Turn most) (operand.Label name) r f w = false_true f
operand_again (Turn most) operand.Following r f w = false_true f
operand_again (Choice from words) (operand.Fix n) r f w =
    let two = and_parts (are_different (parts_of words) && list_all is_part (parts_of words)) _ r in
    let one = and_parts (are_different (parts_of words)) _ two.0 in
    let place = choice_place from n (length (parts_of words)) (ltb-true 0 (length (parts_of words)) two.1) f in
    rw (place_again words (natural (n -ℤ from)) one.0 place.0) (ap (λ m. Some (operand.Fix m)) place.1)
operand_again (Choice from words) (operand.Const k) r f w = false_true f
operand_again (Choice from words) (operand.Label name) r f w = false_true f
operand_again (Choice from words) operand.Following r f w = false_true f

one_part : (part : Bytes) → is_part part ≡ true → list_all is_part (part ∷ []) ≡ true
one_part part h = and_from (is_part part) _ h refl

operand_are_parts : (shape : Shape) (word : Operand) → right shape ≡ true → fits shape word ≡ true → is_word word ≡ true → list_all is_part (operand_parts shape word) ≡ true
operand_are_parts Value word r f w = one_part (word_text word) (word_part word w)
operand_are_parts Nothing word r f w = refl
operand_are_parts (Within low high) word r f w = one_part (word_text word) (word_part word w)
operand_are_parts (Turn most) word r f w = one_part (word_text word) (word_part word w)
operand_are_parts (Choice from words) (operand.Fix n) r f w =
    let two = and_parts (are_different (parts_of words) && list_all is_part (parts_of words)) _ r in
    let one = and_parts (are_different (parts_of words)) _ two.0 in
    let place = choice_place from n (length (parts_of words)) (ltb-true 0 (length (parts_of words)) two.1) f in
    one_part (part_at words (natural (n -ℤ from))) (word_passes is_part words (natural (n -ℤ from)) one.1 place.0)
operand_are_parts (Choice from words) (operand.Const k) r f w = false_true f
operand_are_parts (Choice from words) (operand.Label name) r f w = false_true f
operand_are_parts (Choice from words) operand.Following r f w = false_true f

-- ---- lines

-- the parts of a line are parts, and say it
record Told (line : Line) : Type 0 where
  parts : list_all is_part (line_parts line) ≡ true
  says : line_in (line_parts line) ≡ line

two_parts : (word name : Bytes) → is_part word ≡ true → is_part name ≡ true → list_all is_part (word ∷ name ∷ []) ≡ true
two_parts word name h k = and_from (is_part word) _ h (one_part name k)

alone : (name : Name) → is_name name ≡ true → name_alone (name ∷ []) ≡ Some name
unfolding name_alone
alone name h = rw h refl

import_in : (parts : List Bytes) → line_in (codes ".import" ∷ parts) ≡ directive Import (name_alone parts)
unfolding line_in
import_in parts = refl

export_in : (parts : List Bytes) → line_in (codes ".export" ∷ parts) ≡ directive Export (name_alone parts)
unfolding line_in
export_in parts = refl

ref_in : (parts : List Bytes) → line_in (codes "ref" ∷ parts) ≡ Next (name_alone parts)
unfolding line_in label_in is_name item_line
ref_in parts = refl

pair_in : (parts : List Bytes) → line_in (codes "pair_t" ∷ parts) ≡ pair_line parts
unfolding line_in label_in is_name item_line
pair_in parts = refl

cell_in : (parts : List Bytes) → line_in (codes "cell" ∷ parts) ≡ cell_line parts
unfolding line_in label_in is_name item_line
cell_in parts = refl

import_told : (name : Name) → is_name name ≡ true → Told (Import name)
import_told name h = record { parts = two_parts (codes ".import") name refl (name_part name h); says = import_in (name ∷ []) ∙ ap (directive Import) (alone name h) }

export_told : (name : Name) → is_name name ≡ true → Told (Export name)
export_told name h = record { parts = two_parts (codes ".export") name refl (name_part name h); says = export_in (name ∷ []) ∙ ap (directive Export) (alone name h) }

next_told : (name : Name) → is_name name ≡ true → Told (Next (Some name))
next_told name h = record { parts = two_parts (codes "ref") name refl (name_part name h); says = ref_in (name ∷ []) ∙ ap Next (alone name h) }

instruction_told : (operation : Operation) (word : Operand) → fits (row_of operation).operand word ≡ true → Told (Instruction operation word)
instruction_told operation word h =
    let w = operand_word operation word h in
    record {
      parts = and_from (is_part (row_of operation).name) _ (name_is_part operation) (operand_are_parts (row_of operation).operand word (row_right operation) h w);
      says = named operation (operand_parts (row_of operation).operand word) ∙ ap (instruction_of operation) (operand_again (row_of operation).operand word (row_right operation) h w);
    }

pair_told : (x y : Operand) → is_word x ≡ true → is_word y ≡ true → pair_line (word_text x ∷ word_text y ∷ []) ≡ Cell (operand.Const 10) x y (operand.Const 0)
unfolding pair_line
pair_told x y hx hy = rw (value_again x hx, value_again y hy) refl

four_told : (t x y z : Operand) → is_word t ≡ true → is_word x ≡ true → is_word y ≡ true → is_word z ≡ true → cell_line (word_text t ∷ word_text x ∷ word_text y ∷ word_text z ∷ []) ≡ Cell t x y z
unfolding cell_line
four_told t x y z ht hx hy hz = rw (value_again t ht, value_again x hx, value_again y hy, value_again z hz) refl

constant_is : (n : ℕ) (w : Operand) → is_constant n w ≡ true → w ≡ operand.Const n
constant_is n (operand.Fix m) h = false_true h
constant_is n (operand.Const k) h = ap operand.Const (eqb-true k n h)
constant_is n (operand.Label name) h = false_true h
constant_is n operand.Following h = false_true h

cell_told : (t x y z : Operand) → is_word t ≡ true → is_word x ≡ true → is_word y ≡ true → is_word z ≡ true → Told (Cell t x y z)
cell_told t x y z ht hx hy hz = by_case (is_constant 10 t && is_constant 0 z) refl
  where
    by_case : (b : Bool) → (is_constant 10 t && is_constant 0 z) ≡ b → Told (Cell t x y z)
    by_case true e =
        let both = and_parts (is_constant 10 t) _ e in
        record {
          parts = rw e (and_from (is_part (codes "pair_t")) _ refl (two_parts (word_text x) (word_text y) (word_part x hx) (word_part y hy)));
          says = rw e (pair_in (word_text x ∷ word_text y ∷ []) ∙ pair_told x y hx hy ∙ rw (constant_is 10 t both.0, constant_is 0 z both.1) refl);
        }
    by_case false e = record {
      parts = rw e (and_from (is_part (codes "cell")) _ refl (and_from (is_part (word_text t)) _ (word_part t ht) (and_from (is_part (word_text x)) _ (word_part x hx) (two_parts (word_text y) (word_text z) (word_part y hy) (word_part z hz)))));
      says = rw e (cell_in (word_text t ∷ word_text x ∷ word_text y ∷ word_text z ∷ []) ∙ four_told t x y z ht hx hy hz);
    }

letter_no_dot : (b : ℕ) → is_letter b ≡ true → (b == 46) ≡ false
letter_no_dot b h = grind (arith, nat_tests)

label_size : (name : Name) → length (name ++ codes ":") - 1 ≡ length name
label_size name = omega (arith, length-append name (codes ":"))

label_last : (name : Name) → last_byte (name ++ codes ":") ≡ 58
label_last name = rw (label_size name) (get_or-append_seam name 58 [] 0)

label_before : (name : Name) → before_last_byte (name ++ codes ":") ≡ name
label_before name = rw (label_size name) (take-append_seam name (codes ":"))

label_again : (name : Name) → is_name name ≡ true → label_in (name ++ codes ":") ≡ Some name
unfolding label_in
label_again name h = rw (label_last name, label_before name) (rw h refl)

label_part : (name : Name) → is_part name ≡ true → is_part (name ++ codes ":") ≡ true
label_part [] h = false_true h
label_part (b ∷ bs) h =
    let parts = and_parts (is_part_byte b) _ h in
    and_from (is_part_byte b) _ parts.0 (list_all-append is_part_byte bs (codes ":") ∙ and_from (list_all is_part_byte bs) _ parts.1 refl)

first_letter : (b : ℕ) (bs : Bytes) → is_name (b ∷ bs) ≡ true → is_letter b ≡ true
unfolding is_name
first_letter b bs h = (and_parts (is_letter b) _ (and_parts (is_letter b && list_all is_name_byte bs) _ h).0).0

no_name : false ≡ is_name []
unfolding is_name
no_name = refl

label_told : (name : Name) → is_name name ≡ true → Told (Label name)
unfolding line_in
label_told [] h = absurd (let e : false ≡ true = no_name ∙ h in cc)
label_told (b ∷ bs) h = record {
  parts = one_part (b ∷ (bs ++ codes ":")) (label_part (b ∷ bs) (name_part (b ∷ bs) h));
  says = rw (letter_no_dot b (first_letter b bs h)) (ap (λ label. named_line (b ∷ (bs ++ codes ":")) label []) (label_again (b ∷ bs) h));
}

-- the lines of modules, and an empty one
abbrev pub is_told : Line → Bool
is_told Blank = true
is_told (Import name) = is_name name
is_told (Export name) = is_name name
is_told (Label name) = is_name name
is_told (Instruction operation word) = fits (row_of operation).operand word
is_told (Next None) = false
is_told (Next (Some name)) = is_name name
is_told (Cell t x y z) = is_word t && is_word x && is_word y && is_word z
is_told (Bad why) = false

blank_in : line_in [] ≡ Blank
unfolding line_in
blank_in = refl

told : (line : Line) → is_told line ≡ true → Told line
told Blank h = record { parts = refl; says = blank_in }
told (Import name) h = import_told name h
told (Export name) h = export_told name h
told (Label name) h = label_told name h
told (Instruction operation word) h = instruction_told operation word h
told (Next None) h = false_true h
told (Next (Some name)) h = next_told name h
told (Cell t x y z) h =
    let last = and_parts (is_word t && is_word x && is_word y) _ h in
    let third = and_parts (is_word t && is_word x) _ last.0 in
    let second = and_parts (is_word t) _ third.0 in
    cell_told t x y z second.0 second.1 third.1 last.1
told (Bad why) h = false_true h

pub text_bytes : (line : Line) → is_told line ≡ true → list_all is_line_byte (line_text line) ≡ true
unfolding line_text
text_bytes line h = line_bytes (line_parts line) (told line h).parts

-- a line that is written says the same
pub line_again : (line : Line) → is_told line ≡ true → line_of (line_text line) ≡ line
unfolding line_of line_text
line_again line h =
    let t = told line h in
    let bytes = line_bytes (line_parts line) t.parts in
    rw (line_is_ascii (join_with_byte 32 (line_parts line)) bytes, line_no_comments (join_with_byte 32 (line_parts line)) bytes, parts_joined (line_parts line) t.parts) t.says
