-- What a line says has its form: names are names, words are words, and operands are those of their operations.
use Rattle.std.proofs.Common.{◌≡◌, ℕ, suc, ◌+◌, ◌-◌, ◌<◌, Bool, true, false, List, [], ◌∷◌, length, map, Option, Some, None, refl, subst, arith, rules, pos, ℤ}
use Rattle.std.specs.Prelude.{◌&&◌, nat_lt, if◌then◌else◌, option_map, ◌+ℤ◌, int_le, ◌==◌}
use Rattle.std.specs.List.{list_all, position_from, before_first}
use Rattle.std.specs.Option.{option_or}
use Rattle.std.specs.Str.{bytes_eq}
use Rattle.std.proofs.lemmas.Bool.{and_parts, and_from}
use borrow.Author.Tests.{tests, ltb-true}
use Rattle.std.proofs.lemmas.Int.{ints}
use Rattle.cap_words.specs.Fixnums.{in_range}
use Rattle.instr_table.specs.Code.{within, turns, passing}
use Rattle.uasm_read.specs.declared.operand.Operand.{Operand}
use Rattle.uasm_read.specs.declared.operand.Operand.TheVariants as operand
use Rattle.uasm_read.specs.declared.operation.Operation.{Operation}
use Rattle.uasm_read.specs.declared.error.UasmCause.TheVariants as cause
use Rattle.uasm_read.specs.declared.line.Line.{Line}
use Rattle.uasm_read.specs.declared.line.Line.TheVariants.{Blank, Import, Export, Label, Instruction, Next, Cell, Bad}
use Rattle.uasm_read.specs.Texts.{Bytes, Name, is_ascii, is_semicolon, last_byte, before_last_byte, parts_of, is_name, is_decimal, decimal_value, fixnum_of, constant_names, place_of}
use Rattle.uasm_read.specs.Operations.{Shape, Value, Nothing, Within, Turn, Choice, row_of, operation_of, value_of, operand_in, is_alone, operand_of}
use Rattle.uasm_read.specs.Modules.{is_word, fits}
use Rattle.uasm_read.specs.Lines.{name_alone, directive, label_in, label_line, cell_of, pair_line, cell_line, instruction_of, instruction_line, item_line, named_line, line_in, line_of}

-- ---- what passes where there is something

abbrev pub all_in : {X : Type 0} → (X → Bool) → Option X → Bool
all_in p None = true
all_in p (Some x) = p x

all_in-map : {X Y : Type 0} (p : Y → Bool) (f : X → Y) (o : Option X) → all_in (λ x. p (f x)) o ≡ true → all_in p (option_map f o) ≡ true
all_in-map p f None h = refl
all_in-map p f (Some x) h = h

all_in-or : {X : Type 0} (p : X → Bool) (o other : Option X) → all_in p o ≡ true → all_in p other ≡ true → all_in p (option_or o other) ≡ true
all_in-or p None other h k = k
all_in-or p (Some x) other h k = h

all_in-if : {X : Type 0} (b : Bool) (p : X → Bool) (x : X) → (b ≡ true → p x ≡ true) → all_in p (if b then Some x else None) ≡ true
all_in-if true p x h = h refl
all_in-if false p x h = refl

all_in-either : {X : Type 0} (b : Bool) (p : X → Bool) (x : X) (o : Option X) → p x ≡ true → all_in p o ≡ true → all_in p (if b then Some x else o) ≡ true
all_in-either true p x o h k = h
all_in-either false p x o h k = k

all_in-more : {X : Type 0} (p q : X → Bool) (o : Option X) → ((x : X) → p x ≡ true → q x ≡ true) → all_in p o ≡ true → all_in q o ≡ true
all_in-more p q None more h = refl
all_in-more p q (Some x) more h = more x h

-- ---- operands

fixnum_in_range : (part : Bytes) → all_in in_range (fixnum_of part) ≡ true
unfolding fixnum_of
fixnum_in_range part = all_in-if (is_decimal part && in_range (decimal_value part)) in_range (decimal_value part) (λ e. (and_parts (is_decimal part) _ e).1)

position_below : (t : Bytes → Bool) (i : ℕ) (list : List Bytes) → all_in (λ k. nat_lt k (i + length list)) (position_from t i list) ≡ true
position_below t i [] = refl
position_below t i (x ∷ list) =
    let further : all_in (λ k. nat_lt k (i + length (x ∷ list))) (position_from t (i + 1) list) ≡ true =
    subst (λ n. all_in (λ k. nat_lt k n) (position_from t (i + 1) list) ≡ true) (let e : i + 1 + length list ≡ i + suc (length list) = omega arith in e) (position_below t (i + 1) list) in
    let here : nat_lt i (i + suc (length list)) ≡ true = search (rules, tests) in
    all_in-either (t x) (λ k. nat_lt k (i + length (x ∷ list))) i (position_from t (i + 1) list) here further

place_below : (part words : Bytes) → all_in (λ k. nat_lt k (length (parts_of words))) (place_of part words) ≡ true
unfolding place_of
place_below part words = subst (λ n. all_in (λ k. nat_lt k n) (position_from (bytes_eq part) 0 (parts_of words)) ≡ true) (let e : 0 + length (parts_of words) ≡ length (parts_of words) = omega arith in e) (position_below (bytes_eq part) 0 (parts_of words))

constants : length (parts_of constant_names) ≡ 16
unfolding parts_of
constants = refl

pub value_word : (part : Bytes) → all_in is_word (value_of part) ≡ true
unfolding value_of
value_word part =
    let below : all_in (λ k. nat_lt k 16) (place_of part constant_names) ≡ true = subst (λ n. all_in (λ k. nat_lt k n) (place_of part constant_names) ≡ true) constants (place_below part constant_names) in
    all_in-or is_word (option_map operand.Fix (fixnum_of part)) _ (all_in-map is_word operand.Fix (fixnum_of part) (fixnum_in_range part))
    (all_in-or is_word (option_map operand.Const (place_of part constant_names)) _ (all_in-map is_word operand.Const (place_of part constant_names) below)
    (all_in-if (is_name part) is_word (operand.Label part) (λ e. e)))

passes : (test : ℤ → Bool) (o : Option ℤ) → all_in test (passing test o) ≡ true
passes test None = refl
passes test (Some n) = all_in-if (test n) test n (λ e. e)

-- a number in front of a count of numbers from the first one on lies among them
chosen : (from : ℤ) (count k : ℕ) → nat_lt k count ≡ true → within from (from +ℤ pos (count - 1)) (from +ℤ pos k) ≡ true
chosen from count k below = let less : k < count = ltb-true k count below in and_from (int_le from (from +ℤ pos k)) _ (grind (arith, ints)) (grind (arith, ints))

in_shape : (shape : Shape) (part : Bytes) → all_in (fits shape) (operand_in shape part) ≡ true
unfolding operand_in
in_shape Value part = value_word part
in_shape Nothing part = refl
in_shape (Within low high) part = all_in-map (fits (Within low high)) operand.Fix (passing (within low high) (fixnum_of part)) (passes (within low high) (fixnum_of part))
in_shape (Turn most) part = all_in-map (fits (Turn most)) operand.Fix (passing (turns most) (fixnum_of part)) (passes (turns most) (fixnum_of part))
in_shape (Choice from words) part =
    all_in-map (fits (Choice from words)) (λ k. operand.Fix (from +ℤ pos k)) (place_of part words)
    (all_in-more (λ k. nat_lt k (length (parts_of words))) (λ k. fits (Choice from words) (operand.Fix (from +ℤ pos k))) (place_of part words) (λ k. chosen from (length (parts_of words)) k) (place_below part words))

alone_fits : (shape : Shape) → all_in (fits shape) (if is_alone shape then Some (operand.Const 0) else None) ≡ true
alone_fits Value = refl
alone_fits Nothing = refl
alone_fits (Within low high) = refl
alone_fits (Turn most) = refl
alone_fits (Choice from words) = refl

operand_fits : (shape : Shape) (parts : List Bytes) → all_in (fits shape) (operand_of shape parts) ≡ true
unfolding operand_of
operand_fits shape [] = alone_fits shape
operand_fits shape (part ∷ []) = in_shape shape part
operand_fits shape (part ∷ other ∷ parts) = refl

-- ---- lines

abbrev pub is_formed : Line → Bool
is_formed Blank = true
is_formed (Import name) = is_name name
is_formed (Export name) = true
is_formed (Label name) = is_name name
is_formed (Instruction operation word) = fits (row_of operation).operand word
is_formed (Next name) = all_in is_name name
is_formed (Cell t x y z) = is_word t && is_word x && is_word y && is_word z
is_formed (Bad why) = true

either_formed : (b : Bool) (line other : Line) → is_formed line ≡ true → is_formed other ≡ true → is_formed (if b then line else other) ≡ true
either_formed true line other h k = h
either_formed false line other h k = k

alone_named : (parts : List Bytes) → all_in is_name (name_alone parts) ≡ true
unfolding name_alone
alone_named [] = refl
alone_named (part ∷ []) = all_in-if (is_name part) is_name part (λ e. e)
alone_named (part ∷ other ∷ parts) = refl

import_formed : (name : Option Name) → all_in is_name name ≡ true → is_formed (directive Import name) ≡ true
import_formed None h = refl
import_formed (Some name) h = h

export_formed : (name : Option Name) → is_formed (directive Export name) ≡ true
export_formed None = refl
export_formed (Some name) = refl

cell_of_formed : (t x y z : Option Operand) → all_in is_word t ≡ true → all_in is_word x ≡ true → all_in is_word y ≡ true → all_in is_word z ≡ true → is_formed (cell_of t x y z) ≡ true
cell_of_formed None x y z ht hx hy hz = refl
cell_of_formed (Some t) None y z ht hx hy hz = refl
cell_of_formed (Some t) (Some x) None z ht hx hy hz = refl
cell_of_formed (Some t) (Some x) (Some y) None ht hx hy hz = refl
cell_of_formed (Some t) (Some x) (Some y) (Some z) ht hx hy hz = and_from (is_word t && is_word x && is_word y) _ (and_from (is_word t && is_word x) _ (and_from (is_word t) _ ht hx) hy) hz

pair_formed : (parts : List Bytes) → is_formed (pair_line parts) ≡ true
unfolding pair_line
pair_formed [] = refl
pair_formed (x ∷ []) = refl
pair_formed (x ∷ y ∷ []) = cell_of_formed (Some (operand.Const 10)) (value_of x) (value_of y) (Some (operand.Const 0)) refl (value_word x) (value_word y) refl
pair_formed (x ∷ y ∷ z ∷ parts) = refl

cell_formed : (parts : List Bytes) → is_formed (cell_line parts) ≡ true
unfolding cell_line
cell_formed [] = refl
cell_formed (t ∷ []) = refl
cell_formed (t ∷ x ∷ []) = refl
cell_formed (t ∷ x ∷ y ∷ []) = refl
cell_formed (t ∷ x ∷ y ∷ z ∷ []) = cell_of_formed (value_of t) (value_of x) (value_of y) (value_of z) (value_word t) (value_word x) (value_word y) (value_word z)
cell_formed (t ∷ x ∷ y ∷ z ∷ w ∷ parts) = refl

instruction_of_formed : (operation : Operation) (word : Option Operand) → all_in (fits (row_of operation).operand) word ≡ true → is_formed (instruction_of operation word) ≡ true
instruction_of_formed operation None h = refl
instruction_of_formed operation (Some word) h = h

instruction_formed : (operation : Option Operation) (parts : List Bytes) → is_formed (instruction_line operation parts) ≡ true
instruction_formed None parts = refl
instruction_formed (Some operation) parts = instruction_of_formed operation _ (operand_fits (row_of operation).operand parts)

item_formed : (name : Name) (parts : List Bytes) → is_formed (item_line name parts) ≡ true
unfolding item_line
item_formed name parts =
    either_formed (bytes_eq name _) (Next (name_alone parts)) _ (alone_named parts)
    (either_formed (bytes_eq name _) (pair_line parts) _ (pair_formed parts)
    (either_formed (bytes_eq name _) (cell_line parts) _ (cell_formed parts) (instruction_formed (operation_of name) parts)))

label_named : (part : Bytes) → all_in is_name (label_in part) ≡ true
unfolding label_in
label_named part = all_in-if (last_byte part == 58 && is_name (before_last_byte part)) is_name (before_last_byte part) (λ e. (and_parts (last_byte part == 58) _ e).1)

label_formed : (name : Name) (parts : List Bytes) → is_name name ≡ true → is_formed (label_line name parts) ≡ true
label_formed name [] h = h
label_formed name (part ∷ parts) h = refl

named_formed : (part : Bytes) (label : Option Name) (parts : List Bytes) → all_in is_name label ≡ true → is_formed (named_line part label parts) ≡ true
named_formed part (Some label) parts h = label_formed label parts h
named_formed part None parts h = either_formed (is_name part) (item_line part parts) (Bad cause.BadLine) (item_formed part parts) refl

in_formed : (parts : List Bytes) → is_formed (line_in parts) ≡ true
unfolding line_in
in_formed [] = refl
in_formed (part ∷ parts) =
    either_formed (bytes_eq part _) (directive Import (name_alone parts)) _ (import_formed (name_alone parts) (alone_named parts))
    (either_formed (bytes_eq part _) (directive Export (name_alone parts)) _ (export_formed (name_alone parts)) (named_formed part (label_in part) parts (label_named part)))

pub line_formed : (line : Bytes) → is_formed (line_of line) ≡ true
unfolding line_of
line_formed line = either_formed (list_all is_ascii line) (line_in (parts_of (before_first is_semicolon line))) (Bad cause.BadLine) (in_formed _) refl

pub lines_formed : (texts : List Bytes) → list_all is_formed (map line_of texts) ≡ true
lines_formed [] = refl
lines_formed (text ∷ texts) = and_from (is_formed (line_of text)) _ (line_formed text) (lines_formed texts)
