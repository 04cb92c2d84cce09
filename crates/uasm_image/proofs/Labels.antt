-- The labels of cells are names, which have their numbers again.
use Rattle.std.proofs.Common.{◌≡◌, ℕ, suc, ◌+◌, ◌%◌, ◌<◌, ◌≤◌, ◌^◌, Bool, true, false, List, [], ◌∷◌, length, refl, ap, ◌∙◌, arith, nat_eq}
use Rattle.std.specs.Prelude.{◌&&◌, ◌||◌, nat_le}
use Rattle.std.specs.List.{list_all}
use Rattle.std.specs.Str.{bytes_eq}
use Rattle.std.specs.Fmt.{decimal}
use Rattle.std.proofs.lemmas.Bool.{and_parts, and_from}
use Rattle.std.proofs.lemmas.Bool.Decides.{nat_tests, same_from_decides, Decides-eqb, Decides-like}
use Rattle.std.proofs.lemmas.Fmt.{decimal_by_steps, decimal_injective, length-decimal-le}
use Rattle.std.proofs.lemmas.List.Folds.{list_all-append}
use Rattle.std.proofs.lemmas.Slice.Eq.{bytes_eq-Decides}
use Rattle.uasm_read.specs.Texts.{is_letter, is_name_byte, is_name}
use Rattle.cap_words.specs.Text as words
use Rattle.uasm_image.specs.Listed.{cell_label}

-- ---- names

digit_byte : (n : ℕ) → n < 10 → is_name_byte (48 + n) ≡ true
digit_byte n h = grind (arith, nat_tests)

decimal_bytes : (n : ℕ) → n < 2 ^ 64 → list_all is_name_byte (decimal n) ≡ true
decimal_bytes = decimal_by_steps (λ n ds. list_all is_name_byte ds ≡ true)
    (λ n low. and_from (is_name_byte (48 + n)) true (digit_byte n low) refl)
    (λ n ds high all.
    list_all-append is_name_byte ds ((48 + n % 10) ∷ [])
    ∙ and_from (list_all is_name_byte ds) (list_all is_name_byte ((48 + n % 10) ∷ [])) all
    (and_from (is_name_byte (48 + n % 10)) true (digit_byte (n % 10) (omega arith)) refl))

few : (m : ℕ) → m ≤ 128 → nat_le m 128 ≡ true
few m h = grind (arith, nat_tests)

-- a label is a name of assembly
pub label_is_name : (n : ℕ) → n < 2 ^ 32 → is_name (cell_label n) ≡ true
unfolding is_name
label_is_name n low =
    let len = length-decimal-le 20 n (omega arith) (omega arith) (omega arith) in
    and_from (is_letter 99 && list_all is_name_byte (decimal n)) _ (and_from (is_letter 99) _ refl (decimal_bytes n (omega arith)))
    (few (length (cell_label n)) (omega arith))

byte_visible : (b : ℕ) → is_name_byte b ≡ true → words.is_visible b ≡ true
byte_visible b h = grind (arith, nat_tests)

all_visible : (bs : List ℕ) → list_all is_name_byte bs ≡ true → list_all words.is_visible bs ≡ true
all_visible [] h = refl
all_visible (b ∷ bs) h =
    let parts = and_parts (is_name_byte b) (list_all is_name_byte bs) h in
    and_from (words.is_visible b) _ (byte_visible b parts.0) (all_visible bs parts.1)

some_bytes : (m : ℕ) → nat_le 1 (suc m) ≡ true
some_bytes m = grind (arith, nat_tests)

-- it is a name of the machine's words
pub label_is_visible : (n : ℕ) → n < 2 ^ 32 → words.is_name (99 ∷ decimal n) ≡ true
label_is_visible n small =
    let len = length-decimal-le 20 n (omega arith) (omega arith) (omega arith) in
    and_from (nat_le 1 (length (cell_label n)) && nat_le (length (cell_label n)) 128) _
    (and_from (nat_le 1 (length (cell_label n))) _ (some_bytes (length (decimal n))) (few (length (cell_label n)) (omega arith)))
    (and_from (words.is_visible 99) _ refl (all_visible (decimal n) (decimal_bytes n (omega arith))))

-- ---- labels are the same where their numbers are

tail_of : List ℕ → List ℕ
tail_of [] = []
tail_of (b ∷ bs) = bs

pub same_label : (m n : ℕ) → m < 2 ^ 32 → n < 2 ^ 32 → bytes_eq (cell_label m) (cell_label n) ≡ nat_eq m n
unfolding tail_of
same_label m n low lower = same_from_decides (bytes_eq (cell_label m) (cell_label n)) (nat_eq m n)
    (Decides-like (bytes_eq (cell_label m) (cell_label n))
    (λ e. decimal_injective m n (omega arith) (omega arith) (ap (λ bs. tail_of bs) e)) (λ e. ap (λ i. cell_label i) e)
    (bytes_eq-Decides (cell_label m) (cell_label n)))
    (Decides-eqb m n)

pub or_false : (b : Bool) → (b || false) ≡ b
or_false true = refl
or_false false = refl
