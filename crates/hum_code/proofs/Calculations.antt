-- What the instructions make of two numbers is what the built-in functions give.
use Rattle.std.proofs.Common.{◌≡◌, refl, ap, ℤ, pos, int_lt, int_le, not, Bool, true, false, arith}
use Rattle.std.proofs.lemmas.Int.{ints}
use Rattle.cap_words.specs.Words.{Fix, truth}
use Rattle.instr_table.specs.Arithmetic.{compared}

-- at most is not above
pub at_most : (a b : ℤ) → int_le a b ≡ not (int_lt b a)
at_most a b = by (int_lt b a) refl (int_le a b) refl
  where
    by : (above : Bool) → int_lt b a ≡ above → (below : Bool) → int_le a b ≡ below → below ≡ not above
    by true e true h = absurd (omega (arith, ints))
    by true e false h = refl
    by false e true h = refl
    by false e false h = absurd (omega (arith, ints))

pub less_equal_words : (a b : ℤ) → compared (pos 4) (Fix a) (Fix b) ≡ truth (not (int_lt b a))
less_equal_words a b = ap truth (at_most a b)

pub greater_equal_words : (a b : ℤ) → compared (pos 1) (Fix a) (Fix b) ≡ truth (not (int_lt a b))
greater_equal_words a b = ap truth (at_most b a)
