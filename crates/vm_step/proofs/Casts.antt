-- Numbers in range pass a call of 32 bits, and are those of words.
use Rattle.std.proofs.Common.{◌≡◌, ℤ, pos, ◌+ℤ◌, ◌-ℤ◌, ◌*ℤ◌, Some, Bool, true, false, if◌then◌else◌, refl, ap, sym, ◌∙◌, w32, of_z}
use Rattle.std.specs.Prelude.{bit_and, bit_or, bit_xor}
use Rattle.std.specs.Ordering.{int_eq}
use Rattle.std.proofs.lemmas.Bool.Decides.{Decides-int_eq}
use Rattle.cap_words.specs.Fixnums.{wrap}
use Rattle.cap_words.specs.Words.{W, Fix, Rom, Ram, Cap, number_of}
use Rattle.cap_words.proofs.Ranges.{in_range-cast}
use Rattle.instr_table.specs.Arithmetic.{on_numbers, bitwise, calculated}

pub ruleset casts = (in_range-cast)

pub is-fix : (w : W) (n : ℤ) → Some n ≡ number_of w → w ≡ Fix n
is-fix (Fix a) n h = cc
is-fix (Rom a) n h = cc
is-fix (Ram a) n h = cc
is-fix (Cap a) n h = cc

-- the result of two words that are numbers
pub numbers-are : (f : ℤ → ℤ → W) (v w : W) (n m : ℤ) → Some n ≡ number_of v → Some m ≡ number_of w → f n m ≡ on_numbers f v w
numbers-are f v w n m h k = let a = is-fix v n h in let b = is-fix w m k in rw (a, b)

-- ---- numbers that differ

either_way : (b : Bool) → (b ≡ true → ⊥) → b ≡ false
either_way true f = absurd (f refl)
either_way false f = refl

pub int-differs : (k j : ℤ) → (of_z w32 k ≡ of_z w32 j → ⊥) → int_eq k j ≡ false
int-differs k j f = either_way (int_eq k j) (λ e. f (ap (of_z w32) ((Decides-int_eq k j).0 e)))

-- the last calculation is a product
pub product-last : (k n m : ℤ) → int_eq k (pos 1) ≡ false → int_eq k (pos 2) ≡ false → int_eq k (pos 3) ≡ false → int_eq k (pos 4) ≡ false → int_eq k (pos 5) ≡ false → wrap (n *ℤ m) ≡ calculated k n m
product-last k n m a b c d e =
    sym (ap (λ (x : Bool). if x then bitwise bit_and n m else if int_eq k (pos 2) then bitwise bit_or n m else if int_eq k (pos 3) then bitwise bit_xor n m else if int_eq k (pos 4) then wrap (n +ℤ m) else if int_eq k (pos 5) then wrap (n -ℤ m) else wrap (n *ℤ m)) a
    ∙ ap (λ (x : Bool). if x then bitwise bit_or n m else if int_eq k (pos 3) then bitwise bit_xor n m else if int_eq k (pos 4) then wrap (n +ℤ m) else if int_eq k (pos 5) then wrap (n -ℤ m) else wrap (n *ℤ m)) b
    ∙ ap (λ (x : Bool). if x then bitwise bit_xor n m else if int_eq k (pos 4) then wrap (n +ℤ m) else if int_eq k (pos 5) then wrap (n -ℤ m) else wrap (n *ℤ m)) c
    ∙ ap (λ (x : Bool). if x then wrap (n +ℤ m) else if int_eq k (pos 5) then wrap (n -ℤ m) else wrap (n *ℤ m)) d
    ∙ ap (λ (x : Bool). if x then wrap (n -ℤ m) else wrap (n *ℤ m)) e)
