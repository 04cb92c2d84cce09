-- The digits of a number in range are a run that says it.
use Rattle.std.proofs.Common.{◌≡◌, ℕ, suc, ◌+◌, ◌-◌, ◌*◌, ◌%◌, ◌<◌, ◌≤◌, ◌^◌, ℤ, pos, negsuc, true, false, List, [], ◌∷◌, ◌++◌, length, refl, sym, ap, ◌∙◌, subst, arith, length-append}
use Rattle.std.specs.Prelude.{nat_lt, ◌&&◌, ◌||◌, ◌==◌, neg_ℤ}
use Rattle.std.specs.List.{list_all}
use Rattle.std.specs.Char.{is_ascii_digit}
use Rattle.std.specs.Fmt.{decimal, signed_decimal}
use Rattle.std.proofs.lemmas.Bool.{and_parts, and_from, cond-false}
use Rattle.std.proofs.lemmas.Bool.Decides.{nat_tests}
use Rattle.std.proofs.lemmas.Fmt.{decimal_by_steps, length-decimal-le}
use Rattle.std.proofs.lemmas.List.Folds.{list_all-append}
use Rattle.hum_syntax.specs.Forms.{is_run_byte, is_number, digits_of, value_from, number_of, is_in_range}

-- digits that say n
record Says (n : ℕ) (ds : List ℕ) : Type 0 where
  some : 0 < length ds
  digits : list_all is_ascii_digit ds ≡ true
  value : value_from 0 ds ≡ n

value_from-append : (n : ℕ) (ds : List ℕ) (d : ℕ) → value_from n (ds ++ d ∷ []) ≡ 10 * value_from n ds + (d - 48)
value_from-append n [] d = refl
value_from-append n (e ∷ ds) d = value_from-append (10 * n + (e - 48)) ds d

digit : (n : ℕ) → n < 10 → is_ascii_digit (48 + n) ≡ true
digit n h = grind (arith, nat_tests)

decimal_says : (n : ℕ) → n < 2 ^ 64 → Says n (decimal n)
decimal_says = decimal_by_steps Says
    (λ n low. record { some = omega arith; digits = and_from (is_ascii_digit (48 + n)) true (digit n low) refl; value = omega arith })
    (λ n ds high says. record {
      some = omega (arith, length-append ds ((48 + n % 10) ∷ []));
      digits =
          list_all-append is_ascii_digit ds ((48 + n % 10) ∷ [])
          ∙ and_from (list_all is_ascii_digit ds) (list_all is_ascii_digit ((48 + n % 10) ∷ [])) says.digits
          (and_from (is_ascii_digit (48 + n % 10)) true (digit (n % 10) (omega arith)) refl);
      value = (let e = value_from-append 0 ds (48 + n % 10) in let v = says.value in omega arith);
    })

digit_run_byte : (b : ℕ) → is_ascii_digit b ≡ true → is_run_byte b ≡ true
digit_run_byte b h = grind (arith, nat_tests)

digits_run : (ds : List ℕ) → list_all is_ascii_digit ds ≡ true → list_all is_run_byte ds ≡ true
digits_run [] h = refl
digits_run (d ∷ ds) h =
    let both = and_parts (is_ascii_digit d) (list_all is_ascii_digit ds) h in
    and_from (is_run_byte d) (list_all is_run_byte ds) (digit_run_byte d both.0) (digits_run ds both.1)

no_sign : (b : ℕ) → is_ascii_digit b ≡ true → (b == 43 || b == 45) ≡ false
no_sign b h = grind (arith, nat_tests)

no_minus : (b : ℕ) → is_ascii_digit b ≡ true → (b == 45) ≡ false
no_minus b h = grind (arith, nat_tests)

-- a run with this number
pub record IsNumberRun (us : List ℕ) (z : ℤ) : Type 0 where
  pub some : 0 < length us
  pub each : list_all is_run_byte us ≡ true
  pub short : length us ≤ 128
  pub number : is_number us ≡ true
  pub value : number_of us ≡ z

unsigned_run : (n : ℕ) (ds : List ℕ) → Says n ds → length ds ≤ 128 → IsNumberRun ds (pos n)
unsigned_run n [] says short = (let some = says.some in absurd (omega arith))
unsigned_run n (d ∷ ds) says short =
    let both = and_parts (is_ascii_digit d) (list_all is_ascii_digit ds) says.digits in
    let same : digits_of (d ∷ ds) ≡ d ∷ ds = cond-false (d == 43 || d == 45) ds (d ∷ ds) (no_sign d both.0) in
    record {
      some = says.some;
      each = digits_run (d ∷ ds) says.digits;
      short = short;
      number = subst (λ us. (nat_lt 0 (length us) && list_all is_ascii_digit us) ≡ true) (sym same)
          (and_from (nat_lt 0 (length (d ∷ ds))) (list_all is_ascii_digit (d ∷ ds)) (some_digits (length ds)) says.digits);
      value =
          cond-false (d == 45) (neg_ℤ (pos (value_from 0 (digits_of (d ∷ ds))))) (pos (value_from 0 (digits_of (d ∷ ds)))) (no_minus d both.0)
          ∙ ap (λ us. pos (value_from 0 us)) same ∙ ap pos says.value;
    }
  where
    some_digits : (m : ℕ) → nat_lt 0 (suc m) ≡ true
    some_digits m = grind (arith, nat_tests)

signed_run : (n : ℕ) (ds : List ℕ) → Says (suc n) ds → length ds < 128 → IsNumberRun (45 ∷ ds) (negsuc n)
signed_run n ds says short = record {
  some = omega arith;
  each = and_from (is_run_byte 45) (list_all is_run_byte ds) refl (digits_run ds says.digits);
  short = omega arith;
  number = and_from (nat_lt 0 (length ds)) (list_all is_ascii_digit ds) (some_digits (length ds) says.some) says.digits;
  value = ap (λ m. neg_ℤ (pos m)) says.value;
}
  where
    some_digits : (m : ℕ) → 0 < m → nat_lt 0 m ≡ true
    some_digits m h = grind (arith, nat_tests)

unsigned_low : (n : ℕ) → is_in_range (pos n) ≡ true → n < 1073741824
unsigned_low n h = grind (arith, nat_tests)

signed_low : (n : ℕ) → is_in_range (negsuc n) ≡ true → n < 1073741824
signed_low n h = grind (arith, nat_tests)

pub decimal_run : (z : ℤ) → is_in_range z ≡ true → IsNumberRun (signed_decimal z) z
decimal_run (pos n) h =
    let low = unsigned_low n h in
    let len = length-decimal-le 20 n (omega arith) (omega arith) (omega arith) in
    unsigned_run n (decimal n) (decimal_says n (omega arith)) (omega arith)
decimal_run (negsuc n) h =
    let low = signed_low n h in
    let len = length-decimal-le 20 (suc n) (omega arith) (omega arith) (omega arith) in
    signed_run n (decimal (suc n)) (decimal_says (suc n) (omega arith)) (omega arith)
