-- Worked bounds.
use Rattle.std.proofs.Common.{◌≡◌, refl, ℕ, pos, List, [], ◌∷◌, Option, Some, None, arith}
use Rattle.hum_meaning.specs.Value.{Nil, Number, Value, Plain}
use Rattle.hum_meaning.specs.Named.{Named}
use Rattle.hum_meaning.specs.Same.{same}
use Rattle.hum_meaning.specs.BuiltIns.{built_in}
use Rattle.hum_meaning.specs.Meaning.{level}
use Rattle.hum_meaning.specs.Piece.{piece}
use Rattle.std.specs.Fmt.{digits}
use Rattle.hum_meaning.specs.Deliver.{Message, Configuration, deliver}
use Rattle.hum_meaning.specs.Language.{Language}
use Rattle.hum_meaning.specs.Written.{named_language}
use Rattle.hum_meaning.specs.After.{opening_of}
use Rattle.hum_core.specs.Bound.{Cost, Event, bound, Fit}
use Rattle.hum_meaning.proofs.Plain.{plain, Stmt, any, block, num, symbol, send, throw, println}

abbrev language : Language (Named plain)
language = named_language plain

abbrev begins : List Stmt → Configuration (Named plain)
begins file = opening_of plain (any, block file)

abbrev message : (target : ℕ) → Value (Named plain) → Message (Named plain)
message target v = record { number = 0; target = target; value = v }

-- the first message of a file
abbrev opening : List Stmt → Event (Named plain)
opening file = (begins file, message 0 (Plain Nil))

abbrev so_much : (cycles memory events : ℕ) → Option Cost
so_much cycles memory events = Some (record { cycles = cycles; memory = memory; events = events })

-- ---- the first message

-- two steps decide it: the pattern, and the block
empty_file : bound language (opening []) 2 ≡ so_much 192 192 0
unfolding level same built_in deliver piece digits
empty_file = refl

undecided : bound language (opening []) 1 ≡ None
unfolding level same built_in deliver piece digits
undecided = refl

-- SEND 42 TO println
one_message : bound language (opening (send (num 42) println ∷ [])) 5 ≡ so_much 384 384 1
unfolding level same built_in deliver piece digits
one_message = refl

more_steps_than_it_takes : bound language (opening (send (num 42) println ∷ [])) 9 ≡ so_much 640 640 1
unfolding level same built_in deliver piece digits
more_steps_than_it_takes = refl

-- a failed delivery counts the message that it gathered, and that is not sent
-- SEND 1 TO println
-- THROW #no
a_failure : bound language (opening (send (num 1) println ∷ throw (symbol "no") ∷ [])) 7 ≡ so_much 512 512 1
unfolding level same built_in deliver piece digits
a_failure = refl

-- ---- devices take no step

printed : bound language (begins [], message 1 (Plain (Number (pos 42)))) 0 ≡ so_much 64 64 0
unfolding level same built_in deliver piece digits
printed = refl

-- `say` refuses a number
refused : bound language (begins [], message 2 (Plain (Number (pos 42)))) 0 ≡ so_much 64 64 0
unfolding level same built_in deliver piece digits
refused = refl

-- ---- sums

abbrev both : List Cost
both = record { cycles = 192; memory = 192; events = 0 } ∷ record { cycles = 384; memory = 384; events = 1 } ∷ []

fits : Fit (λ c. c.cycles) both 576
fits = omega arith

does_not_fit : Fit (λ c. c.cycles) both 575 → ⊥
does_not_fit h = omega (arith, h)

fits_in_events : Fit (λ c. c.events) both 1
fits_in_events = omega arith
