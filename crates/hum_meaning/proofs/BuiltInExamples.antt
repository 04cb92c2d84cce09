-- Worked calls of the built-in functions: what each gives, and how it fails.
use Rattle.std.proofs.Common.{◌≡◌, refl, negsuc, true, false, List, [], ◌∷◌, map, replicate}
use Prim.Native.String.{String}
use Rattle.std.specs.Fmt.{digits}
use Rattle.hum_meaning.specs.Same.{same}
use Rattle.hum_meaning.specs.BuiltIns.{built_in}
use Rattle.hum_meaning.specs.Meaning.{level}
use Rattle.hum_meaning.specs.Piece.{piece}
use Rattle.hum_meaning.specs.Deliver.{deliver}
use Rattle.hum_meaning.proofs.Plain.{Expr, undefined, nil, truth, int, symbol, var, call, tuple_of, block, send, num, pair, triple, exprs, call_both, println, say}
use Rattle.hum_meaning.proofs.Runs.{Ran, program, writes, fails}

-- SEND f(e) TO println
abbrev called : String → Expr → Ran
called f e = program (send (call (var f) e) println ∷ [])

-- SEND (f(a, b), f(c, d) ..) TO println
abbrev called_on : List (Expr × Expr) → String → Ran
called_on pairs f = program (send (tuple_of (exprs (map (λ p. call_both f p.0 p.1) pairs))) println ∷ [])

-- ---- numbers

abbrev below_same_above : List (Expr × Expr)
below_same_above = (num 1, num 2) ∷ (num 2, num 2) ∷ (num 2, num 1) ∷ []

comparisons : called_on below_same_above "compare" ≡ writes 20 "(-1, 0, 1)\n"
unfolding level same built_in deliver piece digits
comparisons = refl

less : called_on below_same_above "less" ≡ writes 20 "(TRUE, FALSE, FALSE)\n"
unfolding level same built_in deliver piece digits
less = refl

less_equal : called_on below_same_above "less_equal" ≡ writes 20 "(TRUE, TRUE, FALSE)\n"
unfolding level same built_in deliver piece digits
less_equal = refl

greater : called_on below_same_above "greater" ≡ writes 20 "(FALSE, FALSE, TRUE)\n"
unfolding level same built_in deliver piece digits
greater = refl

greater_equal : called_on below_same_above "greater_equal" ≡ writes 20 "(FALSE, TRUE, TRUE)\n"
unfolding level same built_in deliver piece digits
greater_equal = refl

differences : called_on below_same_above "sub" ≡ writes 20 "(-1, 0, 1)\n"
unfolding level same built_in deliver piece digits
differences = refl

abbrev least : Expr
least = int (negsuc 1073741823)

abbrev greatest : Expr
greatest = num 1073741823

-- not by the sign of a difference, which is reduced into the range
the_ends_of_the_range : called_on ((least, greatest) ∷ (greatest, least) ∷ []) "compare" ≡ writes 15 "(-1, 1)\n"
unfolding level same built_in deliver piece digits
the_ends_of_the_range = refl

differences_of_the_ends : called_on ((least, greatest) ∷ (greatest, least) ∷ (least, num 1) ∷ []) "sub" ≡ writes 20 "(1, -1, 1073741823)\n"
unfolding level same built_in deliver piece digits
differences_of_the_ends = refl

-- ---- truth values

abbrev all_truths : List (Expr × Expr)
all_truths = (truth true, truth true) ∷ (truth true, truth false) ∷ (truth false, truth true) ∷ (truth false, truth false) ∷ []

conjunctions : called_on all_truths "and" ≡ writes 25 "(TRUE, FALSE, FALSE, FALSE)\n"
unfolding level same built_in deliver piece digits
conjunctions = refl

disjunctions : called_on all_truths "or" ≡ writes 25 "(TRUE, TRUE, TRUE, FALSE)\n"
unfolding level same built_in deliver piece digits
disjunctions = refl

-- SEND (not(TRUE), not(FALSE)) TO println
negations : program (send (pair (call (var "not") (truth true)) (call (var "not") (truth false))) println ∷ []) ≡ writes 11 "(FALSE, TRUE)\n"
unfolding level same built_in deliver piece digits
negations = refl

-- ---- failures

abbrev of_numbers : List String
of_numbers = "add" ∷ "sub" ∷ "mul" ∷ "compare" ∷ "less" ∷ "less_equal" ∷ "greater" ∷ "greater_equal" ∷ []

abbrev of_truths : List String
of_truths = "and" ∷ "or" ∷ []

-- SEND f(1, NIL) TO println
the_second_is_no_number : map (λ f. called f (pair (num 1) nil)) of_numbers ≡ replicate 8 (fails 8 4)
unfolding level same built_in deliver piece digits
the_second_is_no_number = refl

-- SEND f(TRUE, 1) TO println
the_first_is_no_number : map (λ f. called f (pair (truth true) (num 1))) of_numbers ≡ replicate 8 (fails 8 4)
unfolding level same built_in deliver piece digits
the_first_is_no_number = refl

-- SEND f(1, 2, 3) TO println, whose second part is a pair
three_numbers : map (λ f. called f (triple (num 1) (num 2) (num 3))) of_numbers ≡ replicate 8 (fails 9 4)
unfolding level same built_in deliver piece digits
three_numbers = refl

-- SEND f(TRUE, 1) TO println
the_second_is_no_truth_value : map (λ f. called f (pair (truth true) (num 1))) of_truths ≡ replicate 2 (fails 8 5)
unfolding level same built_in deliver piece digits
the_second_is_no_truth_value = refl

-- SEND f(FALSE, 1) TO println
also_behind_false : map (λ f. called f (pair (truth false) (num 1))) of_truths ≡ replicate 2 (fails 8 5)
unfolding level same built_in deliver piece digits
also_behind_false = refl

-- SEND f(NIL, TRUE) TO println
the_first_is_no_truth_value : map (λ f. called f (pair nil (truth true))) of_truths ≡ replicate 2 (fails 8 5)
unfolding level same built_in deliver piece digits
the_first_is_no_truth_value = refl

-- SEND not(0) TO println
not_of_a_number : called "not" (num 0) ≡ fails 6 5
unfolding level same built_in deliver piece digits
not_of_a_number = refl

-- SEND not(TRUE, FALSE) TO println
not_of_a_pair : called "not" (pair (truth true) (truth false)) ≡ fails 8 5
unfolding level same built_in deliver piece digits
not_of_a_pair = refl

-- SEND f(1) TO println
no_pair : map (λ f. called f (num 1)) ("equal" ∷ of_truths) ≡ replicate 3 (fails 6 1)
unfolding level same built_in deliver piece digits
no_pair = refl

-- SEND f() TO println
no_pair_of_numbers : map (λ f. called f nil) of_numbers ≡ replicate 8 (fails 6 1)
unfolding level same built_in deliver piece digits
no_pair_of_numbers = refl

-- ---- comparison

-- constants and symbols by what they are, actors where they are the same one; blocks and built-in functions equal nothing
abbrev of_each_kind : List (Expr × Expr)
of_each_kind =
    (undefined, undefined) ∷ (nil, nil) ∷ (nil, undefined) ∷ (num 1, truth true) ∷ (truth false, truth false) ∷ (symbol "a", symbol "a")
    ∷ (symbol "a", symbol "b") ∷ (println, println) ∷ (println, say) ∷ (block [], block []) ∷ (var "add", var "add") ∷ []

equal_values : called_on of_each_kind "equal" ≡ writes 60 "(TRUE, TRUE, FALSE, FALSE, TRUE, TRUE, FALSE, TRUE, FALSE, FALSE, FALSE)\n"
unfolding level same built_in deliver piece digits
equal_values = refl

-- ((a, b), (c, d))
abbrev square : (a b c d : Expr) → Expr
square a b c d = pair (pair a b) (pair c d)

-- a step for the whole pairs, for their heads and for their tails
to_the_end : called "equal" (pair (square (num 1) (num 2) (num 3) (num 4)) (square (num 1) (num 2) (num 3) (num 4))) ≡ writes 24 "TRUE\n"
unfolding level same built_in deliver piece digits
to_the_end = refl

a_difference_at_the_end : called "equal" (pair (square (num 1) (num 2) (num 3) (num 4)) (square (num 1) (num 2) (num 3) (num 5))) ≡ writes 24 "FALSE\n"
unfolding level same built_in deliver piece digits
a_difference_at_the_end = refl

-- the tails are not taken apart
a_difference_in_the_heads : called "equal" (pair (square (num 1) (num 2) (num 3) (num 4)) (square (num 1) (num 5) (num 3) (num 4))) ≡ writes 23 "FALSE\n"
unfolding level same built_in deliver piece digits
a_difference_in_the_heads = refl

-- SEND equal((9, 3, 4), ((1, 2), 3, 4)) TO println
a_head_that_is_no_pair : called "equal" (pair (triple (num 9) (num 3) (num 4)) (triple (pair (num 1) (num 2)) (num 3) (num 4))) ≡ writes 18 "FALSE\n"
unfolding level same built_in deliver piece digits
a_head_that_is_no_pair = refl

-- SEND equal((1, add), (1, add)) TO println
a_function_in_a_pair : called "equal" (pair (pair (num 1) (var "add")) (pair (num 1) (var "add"))) ≡ writes 14 "FALSE\n"
unfolding level same built_in deliver piece digits
a_function_in_a_pair = refl
