-- Names, numbers and constants are read again as they are written.
use Rattle.std.proofs.Common.{◌≡◌, ℕ, suc, ◌+◌, ◌-◌, ◌*◌, ◌%◌, ◌<◌, ◌≤◌, ◌^◌, ◌==◌, ℤ, pos, negsuc, Bool, true, false, List, [], ◌∷◌, ◌++◌, length, Some, None, refl, sym, ap, ◌∙◌, subst, arith, length-append}
use Rattle.std.specs.Prelude.{◌&&◌, not, nat_le, nat_lt, neg_ℤ}
use Rattle.std.specs.List.{list_all}
use Rattle.std.specs.Str.{bytes_eq}
use Rattle.std.specs.Char.{is_ascii_digit}
use Rattle.std.specs.Fmt.{decimal, signed_decimal}
use Rattle.std.proofs.lemmas.Bool.{and_parts, and_from, cond-false}
use Rattle.std.proofs.lemmas.Bool.Decides.{nat_tests}
use Rattle.std.proofs.lemmas.Fmt.{decimal_by_steps, length-decimal-le}
use Rattle.std.proofs.lemmas.List.Folds.{list_all-append}
use Rattle.std.proofs.lemmas.Slice.Eq.{bytes_eq-Decides}
use borrow.Author.Tests.{ltb-true}
use Rattle.cap_words.specs.Fixnums.{in_range}
use Rattle.uasm_read.specs.declared.operand.Operand.{Operand}
use Rattle.uasm_read.specs.declared.operand.Operand.TheVariants as operand
use Rattle.uasm_read.specs.Texts.{Bytes, Name, is_letter, is_name_byte, is_name, digits_of, is_decimal, value_from, decimal_value, fixnum_of, constant_names, parts_of, place_of}
use Rattle.uasm_read.specs.Operations.{value_of}
use Rattle.uasm_read.specs.Modules.{is_word, are_different}
use Rattle.uasm_read.specs.Writes.{part_at, word_text}
use Rattle.uasm_read.proofs.WrittenItems.{false_true, is_false}
use Rattle.uasm_read.proofs.WrittenParts.{is_part_byte, is_part, place_again, not_found, word_passes}

-- ---- names

letter_byte : (b : ℕ) → is_letter b ≡ true → is_part_byte b ≡ true
letter_byte b h = grind (arith, nat_tests)

name_byte : (b : ℕ) → is_name_byte b ≡ true → is_part_byte b ≡ true
name_byte b h = grind (arith, nat_tests)

name_bytes : (bs : Bytes) → list_all is_name_byte bs ≡ true → list_all is_part_byte bs ≡ true
name_bytes [] h = refl
name_bytes (b ∷ bs) h = let parts = and_parts (is_name_byte b) _ h in and_from (is_part_byte b) _ (name_byte b parts.0) (name_bytes bs parts.1)

pub name_part : (name : Name) → is_name name ≡ true → is_part name ≡ true
unfolding is_name
name_part [] h = false_true h
name_part (b ∷ bs) h =
    let parts = and_parts (is_letter b) _ (and_parts (is_letter b && list_all is_name_byte bs) _ h).0 in
    and_from (is_part_byte b) _ (letter_byte b parts.0) (name_bytes bs parts.1)

letter_no_minus : (b : ℕ) → is_letter b ≡ true → (b == 45) ≡ false
letter_no_minus b h = grind (arith, nat_tests)

letter_no_digit : (b : ℕ) → is_letter b ≡ true → is_ascii_digit b ≡ false
letter_no_digit b h = grind (arith, nat_tests)

no_middle : (a c : Bool) → (a && false && c) ≡ false
no_middle true c = refl
no_middle false c = refl

name_no_decimal : (name : Name) → is_name name ≡ true → is_decimal name ≡ false
unfolding is_name
name_no_decimal [] h = false_true h
name_no_decimal (b ∷ bs) h =
    let letter = (and_parts (is_letter b) _ (and_parts (is_letter b && list_all is_name_byte bs) _ h).0).0 in
    rw (letter_no_minus b letter) (rw (letter_no_digit b letter) (no_middle (nat_lt 0 (length (b ∷ bs))) (nat_le (length (b ∷ bs)) 128)))

-- ---- decimals

-- digits that say n
record Says (n : ℕ) (ds : List ℕ) : Type 0 where
  some : 0 < length ds
  digits : list_all is_ascii_digit ds ≡ true
  value : value_from 0 ds ≡ n

value_from-append : (n : ℕ) (ds : List ℕ) (d : ℕ) → value_from n (ds ++ d ∷ []) ≡ 10 * value_from n ds + (d - 48)
value_from-append n [] d = refl
value_from-append n (e ∷ ds) d = value_from-append (10 * n + (e - 48)) ds d

digit : (n : ℕ) → n < 10 → is_ascii_digit (48 + n) ≡ true
digit n h = grind (arith, nat_tests)

decimal_says : (n : ℕ) → n < 2 ^ 64 → Says n (decimal n)
decimal_says = decimal_by_steps Says
    (λ n low. record { some = omega arith; digits = and_from (is_ascii_digit (48 + n)) true (digit n low) refl; value = omega arith })
    (λ n ds high says. record {
      some = omega (arith, length-append ds ((48 + n % 10) ∷ []));
      digits =
          list_all-append is_ascii_digit ds ((48 + n % 10) ∷ [])
          ∙ and_from (list_all is_ascii_digit ds) (list_all is_ascii_digit ((48 + n % 10) ∷ [])) says.digits
          (and_from (is_ascii_digit (48 + n % 10)) true (digit (n % 10) (omega arith)) refl);
      value = (let e = value_from-append 0 ds (48 + n % 10) in let v = says.value in omega arith);
    })

digit_byte : (b : ℕ) → is_ascii_digit b ≡ true → is_part_byte b ≡ true
digit_byte b h = grind (arith, nat_tests)

digit_bytes : (ds : List ℕ) → list_all is_ascii_digit ds ≡ true → list_all is_part_byte ds ≡ true
digit_bytes [] h = refl
digit_bytes (d ∷ ds) h = let both = and_parts (is_ascii_digit d) _ h in and_from (is_part_byte d) _ (digit_byte d both.0) (digit_bytes ds both.1)

no_minus : (b : ℕ) → is_ascii_digit b ≡ true → (b == 45) ≡ false
no_minus b h = grind (arith, nat_tests)

some_digits : (m : ℕ) → 0 < m → nat_lt 0 m ≡ true
some_digits m h = grind (arith, nat_tests)

few : (m : ℕ) → m ≤ 128 → nat_le m 128 ≡ true
few m h = grind (arith, nat_tests)

-- a part that is this number
record Tells (part : Bytes) (n : ℤ) : Type 0 where
  is_one : is_part part ≡ true
  decimal : is_decimal part ≡ true
  value : decimal_value part ≡ n

unsigned : (n : ℕ) (ds : List ℕ) → Says n ds → length ds ≤ 128 → Tells ds (pos n)
unsigned n [] says short = (let some = says.some in absurd (omega arith))
unsigned n (d ∷ ds) says short =
    let both = and_parts (is_ascii_digit d) (list_all is_ascii_digit ds) says.digits in
    let same : digits_of (d ∷ ds) ≡ d ∷ ds = cond-false (d == 45) ds (d ∷ ds) (no_minus d both.0) in
    record {
      is_one = digit_bytes (d ∷ ds) says.digits;
      decimal = subst (λ us. (nat_lt 0 (length us) && list_all is_ascii_digit us && nat_le (length (d ∷ ds)) 128) ≡ true) (sym same)
          (and_from (nat_lt 0 (length (d ∷ ds)) && list_all is_ascii_digit (d ∷ ds)) _ (and_from (nat_lt 0 (length (d ∷ ds))) _ (some_digits (length (d ∷ ds)) says.some) says.digits) (few (length (d ∷ ds)) short));
      value =
          cond-false (d == 45) (neg_ℤ (pos (value_from 0 (digits_of (d ∷ ds))))) (pos (value_from 0 (digits_of (d ∷ ds)))) (no_minus d both.0)
          ∙ ap (λ us. pos (value_from 0 us)) same ∙ ap pos says.value;
    }

signed : (n : ℕ) (ds : List ℕ) → Says (suc n) ds → length ds < 128 → Tells (45 ∷ ds) (negsuc n)
signed n ds says short = record {
  is_one = digit_bytes ds says.digits;
  decimal = and_from (nat_lt 0 (length ds) && list_all is_ascii_digit ds) _ (and_from (nat_lt 0 (length ds)) _ (some_digits (length ds) says.some) says.digits) (few (length (45 ∷ ds)) (omega arith));
  value = ap (λ m. neg_ℤ (pos m)) says.value;
}

unsigned_low : (n : ℕ) → in_range (pos n) ≡ true → n < 1073741824
unsigned_low n h = grind (arith, nat_tests)

signed_low : (n : ℕ) → in_range (negsuc n) ≡ true → n < 1073741824
signed_low n h = grind (arith, nat_tests)

decimal_tells : (n : ℤ) → in_range n ≡ true → Tells (signed_decimal n) n
decimal_tells (pos n) h =
    let low = unsigned_low n h in
    let len = length-decimal-le 20 n (omega arith) (omega arith) (omega arith) in
    unsigned n (decimal n) (decimal_says n (omega arith)) (omega arith)
decimal_tells (negsuc n) h =
    let low = signed_low n h in
    let len = length-decimal-le 20 (suc n) (omega arith) (omega arith) (omega arith) in
    signed n (decimal (suc n)) (decimal_says (suc n) (omega arith)) (omega arith)

pub number_again : (n : ℤ) → in_range n ≡ true → fixnum_of (signed_decimal n) ≡ Some n
unfolding fixnum_of
number_again n h = let t = decimal_tells n h in rw (t.decimal, t.value) (rw h refl)

-- ---- words

constants : (length (parts_of constant_names) ≡ 16) × (list_all is_part (parts_of constant_names) ≡ true) × (list_all (λ p. not (is_decimal p)) (parts_of constant_names) ≡ true)
    × (list_all (λ p. not (is_name p)) (parts_of constant_names) ≡ true) × (are_different (parts_of constant_names) ≡ true)
unfolding parts_of is_name
constants = (refl, refl, refl, refl, refl)

constant_low : (k : ℕ) → nat_lt k 16 ≡ true → k < length (parts_of constant_names)
constant_low k h = subst (λ n. k < n) (sym constants.0) (ltb-true k 16 h)

no_number : (part : Bytes) → is_decimal part ≡ false → fixnum_of part ≡ None
unfolding fixnum_of
no_number part h = rw h refl

-- a name is none of these words, which are no names
none_same : (name : Name) → is_name name ≡ true → (list : List Bytes) → list_all (λ p. not (is_name p)) list ≡ true → list_all (λ p. not (bytes_eq name p)) list ≡ true
none_same name n [] h = refl
none_same name n (p ∷ list) h = let parts = and_parts (not (is_name p)) _ h in and_from (not (bytes_eq name p)) _ (by_case (bytes_eq name p) refl (is_false _ parts.0)) (none_same name n list parts.1)
  where
    by_case : (v : Bool) → bytes_eq name p ≡ v → is_name p ≡ false → not v ≡ true
    by_case true e f = absurd (let same : name ≡ p = (bytes_eq-Decides name p).0 e in let t : true ≡ false = sym n ∙ ap is_name same ∙ f in cc)
    by_case false e f = refl

no_constant : (name : Name) → is_name name ≡ true → place_of name constant_names ≡ None
unfolding place_of
no_constant name h = not_found (bytes_eq name) 0 (parts_of constant_names) (none_same name h (parts_of constant_names) constants.3)

pub word_part : (w : Operand) → is_word w ≡ true → is_part (word_text w) ≡ true
word_part (operand.Fix n) h = (decimal_tells n h).is_one
word_part (operand.Const k) h = word_passes is_part constant_names k constants.1 (constant_low k h)
word_part (operand.Label name) h = name_part name h
word_part operand.Following h = false_true h

pub value_again : (w : Operand) → is_word w ≡ true → value_of (word_text w) ≡ Some w
unfolding value_of
value_again (operand.Fix n) h = rw (number_again n h) refl
value_again (operand.Const k) h =
    let low = constant_low k h in
    rw (no_number (part_at constant_names k) (is_false _ (word_passes (λ p. not (is_decimal p)) constant_names k constants.2 low)), place_again constant_names k constants.4 low) refl
value_again (operand.Label name) h = rw (no_number name (name_no_decimal name h), no_constant name h) (rw h refl)
value_again operand.Following h = false_true h
