-- Comparison and arithmetic on words.
use Rattle.std.specs.Prelude.{ℕ, ◌-◌, ◌^◌, nat_lt, if◌then◌else◌, ℤ, pos, negsuc, ◌+ℤ◌, ◌-ℤ◌, ◌*ℤ◌, int_lt, int_le, bit_and, bit_or, bit_xor, Bool, false, not}
use Rattle.std.specs.Ordering.{int_eq}
use Rattle.cap_words.specs.Words.{W, Fix, Rom, Ram, Cap, same_word, undef, truth}
use Rattle.cap_words.specs.Fixnums.{wrap}

-- `#f`, `#?`, `#nil` and 0
abbrev pub falsy : W → Bool
falsy (Fix n) = int_eq n (pos 0)
falsy (Rom n) = nat_lt n 3
falsy (Ram n) = false
falsy (Cap n) = false

-- ge, gt, lt or le, by its number from 1 on
abbrev pub order : ℤ → ℤ → ℤ → Bool
order k n m =
    if int_eq k (pos 1) then int_le m n else
    if int_eq k (pos 2) then int_lt m n else
    if int_eq k (pos 3) then int_lt n m else int_le n m

-- a result of two fixnums, `#?` where one word is none
abbrev pub on_numbers : (ℤ → ℤ → W) → W → W → W
on_numbers f (Fix n) (Fix m) = f n m
on_numbers f v w = undef

-- `cmp`, by the number of the comparison
abbrev pub compared : ℤ → W → W → W
compared k v w =
    if int_eq k (pos 0) then truth (same_word v w) else
    if int_eq k (pos 5) then truth (not (same_word v w)) else
    on_numbers (λ n m. truth (order k n m)) v w

-- the 31 bits of a number, in two's complement
abbrev pub low_bits : ℤ → ℕ
low_bits (pos n) = n
low_bits (negsuc n) = 2 ^ 31 - 1 - n

-- the number that has these 31 bits
abbrev pub of_low_bits : ℕ → ℤ
of_low_bits b = if nat_lt b (2 ^ 30) then pos b else negsuc (2 ^ 31 - 1 - b)

-- a calculation on the bits of two numbers
abbrev pub bitwise : (ℕ → ℕ → ℕ) → ℤ → ℤ → ℤ
bitwise f n m = of_low_bits (f (low_bits n) (low_bits m))

-- and, or, xor, add, sub or mul, by its number from 1 on
abbrev pub calculated : ℤ → ℤ → ℤ → ℤ
calculated k n m =
    if int_eq k (pos 1) then bitwise bit_and n m else
    if int_eq k (pos 2) then bitwise bit_or n m else
    if int_eq k (pos 3) then bitwise bit_xor n m else
    if int_eq k (pos 4) then wrap (n +ℤ m) else
    if int_eq k (pos 5) then wrap (n -ℤ m) else wrap (n *ℤ m)

-- `alu` on two words
abbrev pub alu : ℤ → W → W → W
alu k v w = on_numbers (λ n m. Fix (calculated k n m)) v w

-- `alu not`
abbrev pub complement : W → W
complement (Fix n) = Fix (negsuc 0 -ℤ n)
complement (Rom n) = undef
complement (Ram n) = undef
complement (Cap n) = undef
