-- Worked events: in which order their parts are evaluated, which failure comes first, and what is left of their effects.
use Rattle.std.proofs.Common.{◌≡◌, refl, ℕ, pos, List, [], ◌∷◌, ◌++◌}
use Rattle.std.specs.Fmt.{digits}
use Rattle.hum_meaning.specs.Value.{Nil, Number, Actor, Plain, Device, Answers}
use Rattle.hum_meaning.specs.Named.{Named}
use Rattle.hum_meaning.specs.Same.{same}
use Rattle.hum_meaning.specs.BuiltIns.{built_in}
use Rattle.hum_meaning.specs.Meaning.{level}
use Rattle.hum_meaning.specs.Piece.{piece}
use Rattle.hum_meaning.specs.Deliver.{Delivery, Committed, Failed, Open, deliver}
use Rattle.hum_meaning.specs.After.{Commits}
use Rattle.hum_meaning.proofs.Plain.{plain, Expr, Stmt, nil, myself, var, abs, block, call, new, cases, any, nil_pat, bind, int_pat, value, let_, send, create, become, throw, perform, arm, num, pair, triple, pair_pat, define, set, call_both, println, say}
use Rattle.hum_meaning.proofs.Runs.{Config, language, begins, program, rests, fails}

-- ---- failures

-- add(1, NIL), which fails with 4 in its fifth step
abbrev no_sum : Expr
no_sum = call_both "add" (num 1) nil

-- (1)(2), which fails with 2 in its third step
abbrev no_call : Expr
no_call = call (num 1) (num 2)

-- (1)(2)
no_function : program (perform no_call ∷ []) ≡ fails 6 2
unfolding level same built_in deliver piece digits
no_function = refl

-- add(1, NIL)
no_number : program (perform no_sum ∷ []) ≡ fails 8 4
unfolding level same built_in deliver piece digits
no_number = refl

-- (\1.2)(3)
no_matching_argument : program (perform (call (abs (int_pat (pos 1)) (num 2)) (num 3)) ∷ []) ≡ fails 7 1
unfolding level same built_in deliver piece digits
no_matching_argument = refl

-- LET (a, b) = 1
no_pair : program (let_ (pair_pat (bind "a") (bind "b")) (num 1) ∷ []) ≡ fails 5 1
unfolding level same built_in deliver piece digits
no_pair = refl

-- ---- which failure comes first

-- (1)(add(1, NIL)): the argument before the call
argument_before_call : program (perform (call (num 1) no_sum) ∷ []) ≡ fails 10 4
unfolding level same built_in deliver piece digits
argument_before_call = refl

-- (add(1, NIL))((1)(2)): the callee before the argument
callee_before_argument : program (perform (call no_sum no_call) ∷ []) ≡ fails 9 4
unfolding level same built_in deliver piece digits
callee_before_argument = refl

-- (add(1, NIL), (1)(2))
from_left_to_right : program (perform (pair no_sum no_call) ∷ []) ≡ fails 9 4
unfolding level same built_in deliver piece digits
from_left_to_right = refl

-- LET $(1)(2) = add(1, NIL): the expression before the pattern
expression_before_pattern : program (let_ (value no_call) no_sum ∷ []) ≡ fails 8 4
unfolding level same built_in deliver piece digits
expression_before_pattern = refl

-- SEND add(1, NIL) TO (1)(2)
message_before_target : program (send no_sum no_call ∷ []) ≡ fails 8 4
unfolding level same built_in deliver piece digits
message_before_target = refl

-- SEND add(1, NIL) TO 5
message_before_no_actor : program (send no_sum (num 5) ∷ []) ≡ fails 8 4
unfolding level same built_in deliver piece digits
message_before_no_actor = refl

-- BECOME println BECOME say
a_second_become : program (become println ∷ become say ∷ []) ≡ fails 6 6
unfolding level same built_in deliver piece digits
a_second_become = refl

-- BECOME println BECOME add(1, NIL)
behaviour_before_second_become : program (become println ∷ become no_sum ∷ []) ≡ fails 10 4
unfolding level same built_in deliver piece digits
behaviour_before_second_become = refl

-- THROW 1
a_throw : program (throw (num 1) ∷ []) ≡ fails 4 7
unfolding level same built_in deliver piece digits
a_throw = refl

-- THROW add(1, NIL)
reason_before_throw : program (throw no_sum ∷ []) ≡ fails 8 4
unfolding level same built_in deliver piece digits
reason_before_throw = refl

-- BECOME println [ BECOME say ]
become_in_a_block : program (become println ∷ perform (block (become say ∷ [])) ∷ []) ≡ fails 8 6
unfolding level same built_in deliver piece digits
become_in_a_block = refl

-- [ [ BECOME println ] ] BECOME say
become_behind_a_block : program (perform (block (perform (block (become println ∷ [])) ∷ [])) ∷ become say ∷ []) ≡ fails 10 6
unfolding level same built_in deliver piece digits
become_behind_a_block = refl

-- ---- what a delivery makes of the configuration

-- the first delivery of a file within s steps
abbrev first_delivery : List Stmt → (s : ℕ) → Delivery (Named plain)
first_delivery file s = deliver language (begins file) (record { number = 0; target = 0; value = Plain Nil }) s

-- the first message is gone, and nothing else has changed
abbrev but_the_message : List Stmt → Config
but_the_message file = record (begins file) { pending = [] }

-- CREATE a WITH say
-- BECOME println
-- SEND 1 TO a
-- SEND 2 TO SELF
abbrev effects_of_each_kind : List Stmt
effects_of_each_kind = create "a" say ∷ become println ∷ send (num 1) (var "a") ∷ send (num 2) myself ∷ []

all_at_once : first_delivery effects_of_each_kind 12 ≡ Committed (record {
  behaviours = Answers (Plain (Actor 1)) ∷ Device 0 ∷ Device 1 ∷ Answers (Plain (Actor 2)) ∷ [];
  pending = record { number = 1; target = 3; value = Plain (Number (pos 1)) } ∷ record { number = 2; target = 0; value = Plain (Number (pos 2)) } ∷ [];
  next_number = 3;
  output = [];
})
unfolding level same built_in deliver piece digits
all_at_once = refl

not_before : first_delivery effects_of_each_kind 11 ≡ Open
unfolding level same built_in deliver piece digits
not_before = refl

-- the same, and then THROW 1: two messages were gathered
abbrev effects_and_a_throw : List Stmt
effects_and_a_throw = effects_of_each_kind ++ throw (num 1) ∷ []

nothing_of_a_failure : first_delivery effects_and_a_throw 14 ≡ Failed 7 2 (but_the_message effects_and_a_throw)
unfolding level same built_in deliver piece digits
nothing_of_a_failure = refl

-- SEND 1 TO println
-- SEND 2 TO 5
abbrev a_send_to_no_actor : List Stmt
a_send_to_no_actor = send (num 1) println ∷ send (num 2) (num 5) ∷ []

sends_before_the_failure : first_delivery a_send_to_no_actor 8 ≡ Failed 3 1 (but_the_message a_send_to_no_actor)
unfolding level same built_in deliver piece digits
sends_before_the_failure = refl

-- CASE 1 OF
-- $NEW say : 2
-- _ : [ SEND 3 TO NEW println ]
-- END
abbrev a_missed_arm : List Stmt
a_missed_arm =
    perform (cases (num 1) (arm (value (new say)) (num 2) ∷ arm any (block (send (num 3) (new println) ∷ [])) ∷ [])) ∷ []

-- the actor that was created for the first arm is there, and the other one comes behind it
an_effect_of_a_missed_arm : first_delivery a_missed_arm 14 ≡ Committed (record {
  behaviours = (begins a_missed_arm).behaviours ++ Answers (Plain (Actor 2)) ∷ Answers (Plain (Actor 1)) ∷ [];
  pending = record { number = 1; target = 4; value = Plain (Number (pos 3)) } ∷ [];
  next_number = 2;
  output = [];
})
unfolding level same built_in deliver piece digits
an_effect_of_a_missed_arm = refl

-- ---- `SELF`

-- LET me = SELF
-- LET who() = SELF
-- CREATE a WITH \c.[ SEND (equal(SELF, me), equal(SELF, c), equal(who(), c)) TO println ]
-- SEND a TO a
abbrev selves : List Stmt
selves =
    set "me" myself
    ∷ define "who" nil_pat myself
    ∷ create "a" (abs (bind "c") (block (
    send (triple (call_both "equal" myself (var "me")) (call_both "equal" myself (var "c")) (call_both "equal" (call (var "who") nil) (var "c"))) println ∷ [])))
    ∷ send (var "a") (var "a") ∷ []

self_in_a_function_of_another : program selves ≡ rests "(FALSE, TRUE, TRUE)\n" ((0, 11, Commits) ∷ (1, 24, Commits) ∷ (2, 0, Commits) ∷ [])
unfolding level same built_in deliver piece digits
self_in_a_function_of_another = refl

-- LET me = SELF
-- CREATE a WITH \b.b
-- SEND [ SEND equal(SELF, me) TO println ] TO a
abbrev a_block_is_sent : List Stmt
a_block_is_sent =
    set "me" myself
    ∷ create "a" (abs (bind "b") (var "b"))
    ∷ send (block (send (call_both "equal" myself (var "me")) println ∷ [])) (var "a") ∷ []

self_in_a_block_of_another : program a_block_is_sent ≡ rests "FALSE\n" ((0, 10, Commits) ∷ (1, 9, Commits) ∷ (2, 0, Commits) ∷ [])
unfolding level same built_in deliver piece digits
self_in_a_block_of_another = refl
