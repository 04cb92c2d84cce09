-- The numbers of a formed tree are fixnums, and its runs are those of the machine.
use Rattle.std.proofs.Common.{◌≡◌, refl, ap, ◌∙◌, ℕ, Bool, true, false, List, [], ◌∷◌, length, arith, ⊎_elim}
use Rattle.std.specs.Prelude.{◌&&◌, ◌||◌, not, ◌==◌, nat_eq, nat_le, nat_lt, ◌^◌, ℤ, pos, negsuc, int_le, codes}
use Rattle.std.specs.List.{list_all, list_any}
use Rattle.std.proofs.lemmas.Bool.{and_parts, and_from}
use Rattle.std.proofs.lemmas.Bool.Decides.{nat_tests}
use Rattle.cap_words.specs.Fixnums.{in_range}
use Rattle.cap_words.specs.Text.{is_run, is_run_byte, is_visible, is_delimiter}
use Rattle.hum_syntax.specs.Forms as forms
use Rattle.hum_syntax.specs.Forms.{is_in_range, is_point, is_text}
use lib.Utf8.{scalar, scalar_cases}
use Rattle.hum_emit.specs.Shapes.{TextFits}

pub range_fits : (z : ℤ) → is_in_range z ≡ true → in_range z ≡ true
range_fits (pos n) h = let parts = and_parts (int_le (negsuc 1073741823) (pos n)) (int_le (pos n) (pos 1073741823)) h in grind (arith, nat_tests, parts.1)
range_fits (negsuc n) h = let parts = and_parts (int_le (negsuc 1073741823) (negsuc n)) (int_le (negsuc n) (pos 1073741823)) h in grind (arith, nat_tests, parts.0)

each_fits : (test : ℕ → Bool) → ((c : ℕ) → test c ≡ true → nat_lt c (2 ^ 30) ≡ true) → (cs : List ℕ) → list_all test cs ≡ true → TextFits cs
each_fits test go [] h = refl
each_fits test go (c ∷ cs) h = let parts = and_parts _ _ h in and_from _ _ (go c parts.0) (each_fits test go cs parts.1)

byte_fits : (b : ℕ) → is_run_byte b ≡ true → nat_lt b (2 ^ 30) ≡ true
byte_fits b h =
    let parts = and_parts (nat_le 33 b) (nat_le b 126) (and_parts (is_visible b) (not (is_delimiter b)) h).0 in
    grind (arith, nat_tests, parts.1)

pub run_fits : (run : List ℕ) → is_run run ≡ true → TextFits run
run_fits run h = each_fits is_run_byte byte_fits run (and_parts _ _ h).1

-- ---- the runs of the language and those of the machine

same_any : (b : ℕ) (ds : List ℕ) → list_any (nat_eq b) ds ≡ list_any (λ d. nat_eq d b) ds
same_any b [] = refl
same_any b (d ∷ ds) = ap (λ t. t || list_any (nat_eq b) ds) (turned b d) ∙ ap (λ t. nat_eq d b || t) (same_any b ds)
  where
    turned : (m n : ℕ) → nat_eq m n ≡ nat_eq n m
    turned m n = grind (arith, nat_tests)

same_byte : (b : ℕ) → forms.is_run_byte b ≡ is_run_byte b
same_byte b = ap (λ t. nat_le 33 b && nat_le b 126 && not t) (same_any b (codes "()[],.=:\"$\\#"))

same_bytes : (bs : List ℕ) → list_all forms.is_run_byte bs ≡ list_all is_run_byte bs
same_bytes [] = refl
same_bytes (b ∷ bs) = ap (λ t. t && list_all forms.is_run_byte bs) (same_byte b) ∙ ap (λ t. is_run_byte b && t) (same_bytes bs)

-- they are the same
pub same_run : (run : List ℕ) → forms.is_run run ≡ is_run run
same_run run = ap (λ t. nat_lt 0 (length run) && nat_le (length run) 128 && t) (same_bytes run)

either : {P : Type 0} (a b : Bool) → (a || b) ≡ true → (a ≡ true → P) → (b ≡ true → P) → P
either true b h f g = f refl
either false b h f g = g h

point_fits : (c : ℕ) → is_point c ≡ true → nat_lt c (2 ^ 30) ≡ true
point_fits c h =
    either (c == 9 || c == 10) (nat_le 32 c && not (c == 127) && scalar c) h
    (λ k. either (c == 9) (c == 10) k (λ e. grind (arith, nat_tests)) (λ e. grind (arith, nat_tests)))
    (λ k. ⊎_elim (λ e. grind (arith, nat_tests)) (λ e. grind (arith, nat_tests, e.1)) (scalar_cases c (and_parts (nat_le 32 c && not (c == 127)) (scalar c) k).1))

pub text_fits : (points : List ℕ) → is_text points ≡ true → TextFits points
text_fits points h = each_fits is_point point_fits points h
