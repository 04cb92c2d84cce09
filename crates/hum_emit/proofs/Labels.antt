-- A letter and a number are a name, which has both again.
use Rattle.std.proofs.Common.{◌≡◌, ℕ, suc, ◌+◌, ◌%◌, ◌<◌, ◌≤◌, ◌^◌, true, List, [], ◌∷◌, length, refl, ◌∙◌, arith}
use Rattle.std.specs.Prelude.{◌&&◌, nat_le}
use Rattle.std.specs.List.{list_all}
use Rattle.std.specs.Fmt.{decimal}
use Rattle.std.proofs.lemmas.Bool.{and_parts, and_from}
use Rattle.std.proofs.lemmas.Bool.Decides.{nat_tests}
use Rattle.std.proofs.lemmas.Fmt.{decimal_by_steps, length-decimal-le}
use Rattle.std.proofs.lemmas.List.Folds.{list_all-append}
use Rattle.uasm_read.specs.Texts.{is_letter, is_name_byte, is_name}
use Rattle.cap_words.specs.Text as words

digit_byte : (n : ℕ) → n < 10 → is_name_byte (48 + n) ≡ true
digit_byte n h = grind (arith, nat_tests)

decimal_bytes : (n : ℕ) → n < 2 ^ 64 → list_all is_name_byte (decimal n) ≡ true
decimal_bytes = decimal_by_steps (λ n ds. list_all is_name_byte ds ≡ true)
    (λ n low. and_from (is_name_byte (48 + n)) true (digit_byte n low) refl)
    (λ n ds high all.
    list_all-append is_name_byte ds ((48 + n % 10) ∷ [])
    ∙ and_from (list_all is_name_byte ds) (list_all is_name_byte ((48 + n % 10) ∷ [])) all
    (and_from (is_name_byte (48 + n % 10)) true (digit_byte (n % 10) (omega arith)) refl))

few : (m : ℕ) → m ≤ 128 → nat_le m 128 ≡ true
few m h = grind (arith, nat_tests)

-- a letter and a number are a name of assembly
pub label_is_name : (letter n : ℕ) → is_letter letter ≡ true → n < 2 ^ 32 → is_name (letter ∷ decimal n) ≡ true
unfolding is_name
label_is_name letter n h low =
    let len = length-decimal-le 20 n (omega arith) (omega arith) (omega arith) in
    and_from (is_letter letter && list_all is_name_byte (decimal n)) _ (and_from (is_letter letter) _ h (decimal_bytes n (omega arith)))
    (few (length (letter ∷ decimal n)) (omega arith))

byte_visible : (b : ℕ) → is_name_byte b ≡ true → words.is_visible b ≡ true
byte_visible b h = grind (arith, nat_tests)

all_visible : (bs : List ℕ) → list_all is_name_byte bs ≡ true → list_all words.is_visible bs ≡ true
all_visible [] h = refl
all_visible (b ∷ bs) h =
    let parts = and_parts (is_name_byte b) (list_all is_name_byte bs) h in
    and_from (words.is_visible b) _ (byte_visible b parts.0) (all_visible bs parts.1)

letter_visible : (b : ℕ) → 97 ≤ b → b ≤ 122 → words.is_visible b ≡ true
letter_visible b low high = grind (arith, nat_tests)

some_bytes : (m : ℕ) → nat_le 1 (suc m) ≡ true
some_bytes m = grind (arith, nat_tests)

-- they are a name of the machine's words
pub label_is_visible : (letter n : ℕ) → 97 ≤ letter → letter ≤ 122 → n < 2 ^ 32 → words.is_name (letter ∷ decimal n) ≡ true
label_is_visible letter n low high small =
    let len = length-decimal-le 20 n (omega arith) (omega arith) (omega arith) in
    and_from (nat_le 1 (length (letter ∷ decimal n)) && nat_le (length (letter ∷ decimal n)) 128) _
    (and_from (nat_le 1 (length (letter ∷ decimal n))) _ (some_bytes (length (decimal n))) (few (length (letter ∷ decimal n)) (omega arith)))
    (and_from (words.is_visible letter) _ (letter_visible letter low high) (all_visible (decimal n) (decimal_bytes n (omega arith))))
