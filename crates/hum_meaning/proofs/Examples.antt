-- Worked programs: what they write, and each event with the steps that it takes and its end.
use Rattle.std.proofs.Common.{◌≡◌, refl, ℕ, pos, negsuc, true, false, List, [], ◌∷◌, map, replicate, None}
use Rattle.std.specs.Fmt.{digits}
use Rattle.std.proofs.Math.Utf8.{encode}
use Rattle.hum_meaning.specs.Value.{Nil, Plain}
use Rattle.hum_meaning.specs.Named.{Named}
use Rattle.hum_meaning.specs.Same.{same}
use Rattle.hum_meaning.specs.BuiltIns.{built_in}
use Rattle.hum_meaning.specs.Meaning.{level}
use Rattle.hum_meaning.specs.Piece.{piece}
use Rattle.hum_meaning.specs.Deliver.{deliver}
use Rattle.hum_meaning.specs.After.{Commits, FailsWith, RunsOut, Follows}
use Rattle.hum_meaning.proofs.Plain.{plain, Expr, Stmt, undefined, nil, myself, truth, int, symbol, text, var, abs, block, call, new, cases, if_of, if_else_of, any, bind, int_pat, symbol_pat, value, let_, send, create, become, throw, perform, arm, num, pair, triple, pair_pat, triple_pat, define, set, exprs, tuple_of, stmts, branches, when, call_both, println, say}
use Rattle.hum_meaning.proofs.Runs.{Ran, language, begins, run, program, rests, writes, fails}

-- ---- first programs

empty_file : program [] ≡ rests "" ((0, 2, Commits) ∷ [])
unfolding level same built_in deliver piece digits
empty_file = refl

-- SEND 42 TO println
a_number : program (send (num 42) println ∷ []) ≡ rests "42\n" ((0, 5, Commits) ∷ (1, 0, Commits) ∷ [])
unfolding level same built_in deliver piece digits
a_number = refl

-- SEND 42 TO println
-- SEND "hello" TO say
hello : program (send (num 42) println ∷ send (text "hello") say ∷ []) ≡ rests "42\nhello\n" ((0, 8, Commits) ∷ (1, 0, Commits) ∷ (2, 0, Commits) ∷ [])
unfolding level same built_in deliver piece digits encode
hello = refl

-- CREATE greeter WITH \name.[ SEND (#hello, name) TO println ]
-- SEND #world TO greeter
abbrev greeting : List Stmt
greeting =
    create "greeter" (abs (bind "name") (block (send (pair (symbol "hello") (var "name")) println ∷ [])))
    ∷ send (symbol "world") (var "greeter") ∷ []

an_actor : program greeting ≡ rests "(#hello, #world)\n" ((0, 7, Commits) ∷ (1, 7, Commits) ∷ (2, 0, Commits) ∷ [])
unfolding level same built_in deliver piece digits
an_actor = refl

-- LET counter(n) = \step.[
--   SEND add(n, step) TO println
--   BECOME counter(add(n, step)) ]
-- CREATE c WITH counter(0)
-- SEND 1 TO c
-- SEND 10 TO c
abbrev counting : List Stmt
counting =
    define "counter" (bind "n") (abs (bind "step") (block (
    send (call_both "add" (var "n") (var "step")) println
    ∷ become (call (var "counter") (call_both "add" (var "n") (var "step"))) ∷ [])))
    ∷ create "c" (call (var "counter") (num 0))
    ∷ send (num 1) (var "c")
    ∷ send (num 10) (var "c") ∷ []

state : program counting ≡ rests "1\n11\n" ((0, 15, Commits) ∷ (1, 19, Commits) ∷ (2, 19, Commits) ∷ (3, 0, Commits) ∷ (4, 0, Commits) ∷ [])
unfolding level same built_in deliver piece digits
state = refl

-- CREATE square WITH \(n, cust).[ SEND mul(n, n) TO cust ]
-- SEND (7, println) TO square
-- SEND (7, NEW (\x.[ SEND (#square, x) TO println ])) TO square
abbrev squares : List Stmt
squares =
    create "square" (abs (pair_pat (bind "n") (bind "cust")) (block (send (call_both "mul" (var "n") (var "n")) (var "cust") ∷ [])))
    ∷ send (pair (num 7) println) (var "square")
    ∷ send (pair (num 7) (new (abs (bind "x") (block (send (pair (symbol "square") (var "x")) println ∷ []))))) (var "square") ∷ []

a_customer : program squares ≡ rests "49\n(#square, 49)\n" (
    (0, 15, Commits) ∷ (1, 11, Commits) ∷ (2, 11, Commits) ∷ (3, 0, Commits) ∷ (4, 7, Commits) ∷ (5, 0, Commits) ∷ [])
unfolding level same built_in deliver piece digits
a_customer = refl

-- LET answer(n) = \cust.[ SEND n TO cust ]
-- LET start(x, y, cust) = \_.[
--   SEND SELF TO x
--   SEND SELF TO y
--   BECOME \a.[ BECOME \b.[ SEND add(a, b) TO cust ] ] ]
-- CREATE x WITH answer(3)
-- CREATE y WITH answer(4)
-- CREATE j WITH start(x, y, println)
-- SEND NIL TO j
abbrev joined : List Stmt
joined =
    define "answer" (bind "n") (abs (bind "cust") (block (send (var "n") (var "cust") ∷ [])))
    ∷ define "start" (triple_pat (bind "x") (bind "y") (bind "cust")) (abs any (block (
    send myself (var "x")
    ∷ send myself (var "y")
    ∷ become (abs (bind "a") (block (become (abs (bind "b") (block (send (call_both "add" (var "a") (var "b")) (var "cust") ∷ []))) ∷ []))) ∷ [])))
    ∷ create "x" (call (var "answer") (num 3))
    ∷ create "y" (call (var "answer") (num 4))
    ∷ create "j" (call (var "start") (triple (var "x") (var "y") println))
    ∷ send nil (var "j") ∷ []

fork_and_join : program joined ≡ rests "7\n" (
    (0, 32, Commits) ∷ (1, 10, Commits) ∷ (2, 5, Commits) ∷ (3, 5, Commits) ∷ (4, 4, Commits) ∷ (5, 9, Commits) ∷ (6, 0, Commits) ∷ [])
unfolding level same built_in deliver piece digits
fork_and_join = refl

-- LET link(next) = \n.[
--   CASE n OF
--   0 : [ SEND #done TO println ]
--   _ : [ SEND sub(n, 1) TO next ]
--   END ]
-- CREATE first WITH \next.[ BECOME link(next) ]
-- CREATE a WITH link(first)
-- CREATE b WITH link(a)
-- SEND b TO first
-- SEND 5 TO first
abbrev ring : List Stmt
ring =
    define "link" (bind "next") (abs (bind "n") (block (perform (cases (var "n") (
    arm (int_pat (pos 0)) (block (send (symbol "done") println ∷ []))
    ∷ arm any (block (send (call_both "sub" (var "n") (num 1)) (var "next") ∷ [])) ∷ [])) ∷ [])))
    ∷ create "first" (abs (bind "next") (block (become (call (var "link") (var "next")) ∷ [])))
    ∷ create "a" (call (var "link") (var "first"))
    ∷ create "b" (call (var "link") (var "a"))
    ∷ send (var "b") (var "first")
    ∷ send (num 5) (var "first") ∷ []

a_ring : program ring ≡ rests "#done\n" (
    (0, 23, Commits) ∷ (1, 8, Commits) ∷ (2, 15, Commits) ∷ (3, 15, Commits) ∷ (4, 15, Commits) ∷ (5, 15, Commits) ∷ (6, 15, Commits)
    ∷ (7, 10, Commits) ∷ (8, 0, Commits) ∷ [])
unfolding level same built_in deliver piece digits
a_ring = refl

-- LET label(tag, out) = \m.[ SEND (tag, m) TO out ]
-- CREATE a WITH label(#a, println)
-- CREATE b WITH label(#b, a)
-- SEND 7 TO b
abbrev labels : List Stmt
labels =
    define "label" (pair_pat (bind "tag") (bind "out")) (abs (bind "m") (block (send (pair (var "tag") (var "m")) (var "out") ∷ [])))
    ∷ create "a" (call_both "label" (symbol "a") println)
    ∷ create "b" (call_both "label" (symbol "b") (var "a"))
    ∷ send (num 7) (var "b") ∷ []

two_labels : program labels ≡ rests "(#a, #b, 7)\n" ((0, 26, Commits) ∷ (1, 7, Commits) ∷ (2, 7, Commits) ∷ (3, 0, Commits) ∷ [])
unfolding level same built_in deliver piece digits
two_labels = refl

-- after two events the third message is pending
two_events : run 2 400 (begins labels) [] ≡ record { output = []; finished = (0, 26, Commits) ∷ (1, 7, Commits) ∷ []; pending = 1 }
unfolding level same built_in deliver piece digits
two_events = refl

-- ---- numbers

-- SEND add(1073741823, 1) TO println
the_greatest_and_one : program (send (call_both "add" (num 1073741823) (num 1)) println ∷ []) ≡ rests "-1073741824\n" ((0, 9, Commits) ∷ (1, 0, Commits) ∷ [])
unfolding level same built_in deliver piece digits
the_greatest_and_one = refl

-- SEND mul(65536, 65536) TO println
a_product : program (send (call_both "mul" (num 65536) (num 65536)) println ∷ []) ≡ rests "0\n" ((0, 9, Commits) ∷ (1, 0, Commits) ∷ [])
unfolding level same built_in deliver piece digits
a_product = refl

-- LET fact(n) = CASE n OF 0 : 1 _ : mul(n, fact(sub(n, 1))) END
-- SEND fact(13) TO println
abbrev fact : List Stmt
fact =
    define "fact" (bind "n") (cases (var "n") (arm (int_pat (pos 0)) (num 1)
    ∷ arm any (call_both "mul" (var "n") (call (var "fact") (call_both "sub" (var "n") (num 1)))) ∷ []))
    ∷ send (call (var "fact") (num 13)) println ∷ []

a_factorial : program fact ≡ rests "-215430144\n" ((0, 221, Commits) ∷ (1, 0, Commits) ∷ [])
unfolding level same built_in deliver piece digits
a_factorial = refl

-- ---- failures

-- SEND 1 TO println
-- THROW #no
sends_nothing : program (send (num 1) println ∷ throw (symbol "no") ∷ []) ≡ rests "" ((0, 7, FailsWith 7) ∷ [])
unfolding level same built_in deliver piece digits
sends_nothing = refl

-- LET twice(out) = \m.[
--   CASE m OF
--   #bad : [ BECOME quiet BECOME quiet ]
--   _ : [ SEND m TO out ]
--   END ]
-- LET quiet = \_.[ ]
-- CREATE t WITH twice(println)
-- SEND #bad TO t
-- SEND 5 TO t
abbrev twice : List Stmt
twice =
    define "twice" (bind "out") (abs (bind "m") (block (perform (cases (var "m") (
    arm (symbol_pat "bad") (block (become (var "quiet") ∷ become (var "quiet") ∷ []))
    ∷ arm any (block (send (var "m") (var "out") ∷ [])) ∷ [])) ∷ [])))
    ∷ define "quiet" any (block [])
    ∷ create "t" (call (var "twice") println)
    ∷ send (symbol "bad") (var "t")
    ∷ send (num 5) (var "t") ∷ []

a_second_become : program twice ≡ rests "5\n" ((0, 16, Commits) ∷ (1, 11, FailsWith 6) ∷ (2, 11, Commits) ∷ (3, 0, Commits) ∷ [])
unfolding level same built_in deliver piece digits
a_second_become = refl

-- CASE 3 OF 1 : [ ] END
no_arm_matches : program (perform (cases (num 3) (arm (int_pat (pos 1)) (block []) ∷ [])) ∷ []) ≡ rests "" ((0, 6, FailsWith 1) ∷ [])
unfolding level same built_in deliver piece digits
no_arm_matches = refl

-- SEND 1 TO 5
no_actor : program (send (num 1) (num 5) ∷ []) ≡ rests "" ((0, 5, FailsWith 3) ∷ [])
unfolding level same built_in deliver piece digits
no_actor = refl

-- IF 1 [ ]
no_truth_value : program (perform (if_of (branches (when (num 1) [] ∷ []))) ∷ []) ≡ rests "" ((0, 5, FailsWith 5) ∷ [])
unfolding level same built_in deliver piece digits
no_truth_value = refl

-- ---- choices

-- IF less(1, 2) [ SEND 1 TO println ] ELSE [ SEND 2 TO println ]
a_branch : program (perform (if_else_of (branches (when (call_both "less" (num 1) (num 2)) (send (num 1) println ∷ []) ∷ [])) (stmts (send (num 2) println ∷ []))) ∷ [])
    ≡ rests "1\n" ((0, 12, Commits) ∷ (1, 0, Commits) ∷ [])
unfolding level same built_in deliver piece digits
a_branch = refl

-- IF FALSE [ THROW 1 ]
no_branch_and_no_else : program (perform (if_of (branches (when (truth false) (throw (num 1) ∷ []) ∷ []))) ∷ []) ≡ rests "" ((0, 5, Commits) ∷ [])
unfolding level same built_in deliver piece digits
no_branch_and_no_else = refl

-- IF less(2, 1) [ SEND 1 TO println ] ELIF less(1, 2) [ SEND 2 TO println ] ELSE [ SEND 3 TO println ]
a_later_branch : program (perform (if_else_of (branches (
    when (call_both "less" (num 2) (num 1)) (send (num 1) println ∷ [])
    ∷ when (call_both "less" (num 1) (num 2)) (send (num 2) println ∷ []) ∷ []))
    (stmts (send (num 3) println ∷ []))) ∷ [])
    ≡ writes 17 "2\n"
unfolding level same built_in deliver piece digits
a_later_branch = refl

-- IF FALSE [ SEND 1 TO println ] ELIF FALSE [ SEND 2 TO println ] ELSE [ SEND 3 TO println ]
no_branch : program (perform (if_else_of (branches (
    when (truth false) (send (num 1) println ∷ []) ∷ when (truth false) (send (num 2) println ∷ []) ∷ []))
    (stmts (send (num 3) println ∷ []))) ∷ [])
    ≡ writes 9 "3\n"
unfolding level same built_in deliver piece digits
no_branch = refl

-- the conditions behind one that is TRUE are not evaluated
-- IF TRUE [ ] ELIF (1)(2) [ ]
the_first_that_is_true : program (perform (if_of (branches (when (truth true) [] ∷ when (call (num 1) (num 2)) [] ∷ []))) ∷ [])
    ≡ rests "" ((0, 5, Commits) ∷ [])
unfolding level same built_in deliver piece digits
the_first_that_is_true = refl

-- IF FALSE [ ] ELIF 5 [ ]
no_truth_value_behind : program (perform (if_of (branches (when (truth false) [] ∷ when (num 5) [] ∷ []))) ∷ []) ≡ fails 6 5
unfolding level same built_in deliver piece digits
no_truth_value_behind = refl

-- what IF gives is a block, which is not executed where it is sent
-- SEND IF TRUE [ THROW 1 ] TO println
a_branch_as_a_message : program (send (if_of (branches (when (truth true) (throw (num 1) ∷ []) ∷ []))) println ∷ []) ≡ writes 6 "[]\n"
unfolding level same built_in deliver piece digits
a_branch_as_a_message = refl

-- 5
no_block : program (perform (num 5) ∷ []) ≡ rests "" ((0, 4, Commits) ∷ [])
unfolding level same built_in deliver piece digits
no_block = refl

-- a pattern is tried from left to right, up to the first part that does not match
-- SEND CASE (1, 2) OF (2, $(1)(0)) : #a _ : #b END TO println
the_first_part : program (send (cases (pair (num 1) (num 2)) (arm (pair_pat (int_pat (pos 2)) (value (call (num 1) (num 0)))) (symbol "a") ∷ arm any (symbol "b") ∷ [])) println ∷ [])
    ≡ rests "#b\n" ((0, 12, Commits) ∷ (1, 0, Commits) ∷ [])
unfolding level same built_in deliver piece digits
the_first_part = refl

-- a tuple's last pattern takes all of the rest
-- SEND CASE (1, 2, 3) OF (a, b) : (b, a) END TO println
the_rest : program (send (cases (triple (num 1) (num 2) (num 3)) (arm (pair_pat (bind "a") (bind "b")) (pair (var "b") (var "a")) ∷ [])) println ∷ [])
    ≡ writes 15 "((2, 3), 1)\n"
unfolding level same built_in deliver piece digits
the_rest = refl

-- LET (a, b) = (1, 2)
-- SEND (b, a) TO println
two_values : program (let_ (pair_pat (bind "a") (bind "b")) (pair (num 1) (num 2)) ∷ send (pair (var "b") (var "a")) println ∷ []) ≡ writes 14 "(2, 1)\n"
unfolding level same built_in deliver piece digits
two_values = refl

-- LET x = 1
-- LET ($x, b) = (1, 2)
-- SEND b TO println
an_equal_value : program (set "x" (num 1)
    ∷ let_ (pair_pat (value (var "x")) (bind "b")) (pair (num 1) (num 2))
    ∷ send (var "b") println ∷ [])
    ≡ writes 16 "2\n"
unfolding level same built_in deliver piece digits
an_equal_value = refl

-- LET x = 1
-- LET ($x, b) = (3, 2)
-- SEND b TO println
no_equal_value : program (set "x" (num 1)
    ∷ let_ (pair_pat (value (var "x")) (bind "b")) (pair (num 3) (num 2))
    ∷ send (var "b") println ∷ [])
    ≡ fails 12 1
unfolding level same built_in deliver piece digits
no_equal_value = refl

-- ---- comparison

-- LET t(a, b) = CASE a OF $b : #yes _ : #no END
-- SEND t((1, 2), (1, 2)) TO println
-- SEND t(t, t) TO println
abbrev compared : List Stmt
compared =
    define "t" (pair_pat (bind "a") (bind "b")) (cases (var "a") (arm (value (var "b")) (symbol "yes") ∷ arm any (symbol "no") ∷ []))
    ∷ send (call_both "t" (pair (num 1) (num 2)) (pair (num 1) (num 2))) println
    ∷ send (call_both "t" (var "t") (var "t")) println ∷ []

pairs_and_functions : program compared ≡ rests "#yes\n#no\n" ((0, 39, Commits) ∷ (1, 0, Commits) ∷ (2, 0, Commits) ∷ [])
unfolding level same built_in deliver piece digits
pairs_and_functions = refl

-- LET e(a) = equal(a, a)
-- SEND e(e) TO println
not_equal_to_itself : program (define "e" (bind "a") (call_both "equal" (var "a") (var "a")) ∷ send (call (var "e") (var "e")) println ∷ [])
    ≡ rests "FALSE\n" ((0, 14, Commits) ∷ (1, 0, Commits) ∷ [])
unfolding level same built_in deliver piece digits
not_equal_to_itself = refl

-- ---- scope

-- LET x = 1
-- [ LET x = 2 ]
-- SEND x TO println
hidden : program (set "x" (num 1) ∷ perform (block (set "x" (num 2) ∷ [])) ∷ send (var "x") println ∷ []) ≡ rests "1\n" ((0, 13, Commits) ∷ (1, 0, Commits) ∷ [])
unfolding level same built_in deliver piece digits
hidden = refl

-- LET x = 1
-- CASE (2, 1) OF (x, $x) : [ SEND x TO println ] END
outside_the_pattern : program (set "x" (num 1)
    ∷ perform (cases (pair (num 2) (num 1)) (arm (pair_pat (bind "x") (value (var "x"))) (block (send (var "x") println ∷ [])) ∷ [])) ∷ [])
    ≡ rests "2\n" ((0, 18, Commits) ∷ (1, 0, Commits) ∷ [])
unfolding level same built_in deliver piece digits
outside_the_pattern = refl

-- LET x = 1
-- [ LET (x, $x) = (2, 1)
--   SEND x TO println ]
outside_the_definition : program (set "x" (num 1)
    ∷ perform (block (let_ (pair_pat (bind "x") (value (var "x"))) (pair (num 2) (num 1)) ∷ send (var "x") println ∷ [])) ∷ [])
    ≡ writes 18 "2\n"
unfolding level same built_in deliver piece digits
outside_the_definition = refl

-- LET f(x) = g(x)
-- SEND f(1) TO println
-- LET g(x) = add(x, 1)
a_group : program (define "f" (bind "x") (call (var "g") (var "x"))
    ∷ send (call (var "f") (num 1)) println
    ∷ define "g" (bind "x") (call_both "add" (var "x") (num 1)) ∷ [])
    ≡ rests "2\n" ((0, 19, Commits) ∷ (1, 0, Commits) ∷ [])
unfolding level same built_in deliver piece digits
a_group = refl

-- LET g(x) = 1
-- [ LET f(x) = g(x)
--   LET y = 2
--   LET g(x) = 3
--   SEND f(0) TO println ]
the_end_of_a_stretch : program (define "g" (bind "x") (num 1)
    ∷ perform (block (define "f" (bind "x") (call (var "g") (var "x")) ∷ set "y" (num 2) ∷ define "g" (bind "x") (num 3) ∷ send (call (var "f") (num 0)) println ∷ [])) ∷ [])
    ≡ rests "1\n" ((0, 21, Commits) ∷ (1, 0, Commits) ∷ [])
unfolding level same built_in deliver piece digits
the_end_of_a_stretch = refl

-- ---- devices

-- SEND ((1, 2), -3, NIL, TRUE, FALSE, ?, #a, println, (\x.x), [ ], add) TO println
abbrev one_of_each : List Expr
one_of_each =
    pair (num 1) (num 2) ∷ int (negsuc 2) ∷ nil ∷ truth true ∷ truth false ∷ undefined ∷ symbol "a" ∷ println ∷ abs (bind "x") (var "x") ∷ block [] ∷ var "add" ∷ []

texts : program (send (tuple_of (exprs one_of_each)) println ∷ [])
    ≡ rests "((1, 2), -3, NIL, TRUE, FALSE, ?, #a, @, \\, [], \\)\n" ((0, 18, Commits) ∷ (1, 0, Commits) ∷ [])
unfolding level same built_in deliver piece digits
texts = refl

-- SEND (a, b ..) TO say
abbrev said_list : List Expr → Ran
said_list items = program (send (tuple_of (exprs items)) say ∷ [])

-- a file that sends a device one message, which it refuses
abbrev refused : (steps : ℕ) → Ran
refused steps = rests "" ((0, steps, Commits) ∷ (1, 0, FailsWith 8) ∷ [])

-- SEND "hi" TO say
-- SEND "" TO say
said : program (send (text "hi") say ∷ send (text "") say ∷ []) ≡ rests "hi\n\n" ((0, 8, Commits) ∷ (1, 0, Commits) ∷ (2, 0, Commits) ∷ [])
unfolding level same built_in deliver piece digits encode
said = refl

-- SEND "hi" TO println
a_list : program (send (text "hi") println ∷ []) ≡ rests "(104, 105, NIL)\n" ((0, 5, Commits) ∷ (1, 0, Commits) ∷ [])
unfolding level same built_in deliver piece digits
a_list = refl

-- SEND 5 TO say
no_list : program (send (num 5) say ∷ []) ≡ rests "" ((0, 5, Commits) ∷ (1, 0, FailsWith 8) ∷ [])
unfolding level same built_in deliver piece digits encode
no_list = refl

-- SEND (233, 8364, 128512, NIL) TO say
beyond_ascii : said_list (num 233 ∷ num 8364 ∷ num 128512 ∷ nil ∷ []) ≡ record {
  output = 195 ∷ 169 ∷ 226 ∷ 130 ∷ 172 ∷ 240 ∷ 159 ∷ 152 ∷ 128 ∷ 10 ∷ [];
  finished = (0, 9, Commits) ∷ (1, 0, Commits) ∷ [];
  pending = 0;
}
unfolding level same built_in deliver piece digits encode
beyond_ascii = refl

-- the scalar values next to the surrogates, and the last one of all
-- SEND (55295, 57344, 1114111, NIL) TO say
the_last_scalar_values : said_list (num 55295 ∷ num 57344 ∷ num 1114111 ∷ nil ∷ []) ≡ record {
  output = 237 ∷ 159 ∷ 191 ∷ 238 ∷ 128 ∷ 128 ∷ 244 ∷ 143 ∷ 191 ∷ 191 ∷ 10 ∷ [];
  finished = (0, 9, Commits) ∷ (1, 0, Commits) ∷ [];
  pending = 0;
}
unfolding level same built_in deliver piece digits encode
the_last_scalar_values = refl

-- the first and the last surrogate, a number behind the last scalar value, and a number below them all: each of them alone
no_scalar_values : map (λ e. said_list (e ∷ nil ∷ [])) (num 55296 ∷ num 57343 ∷ num 1114112 ∷ int (negsuc 0) ∷ []) ≡ replicate 4 (refused 7)
unfolding level same built_in deliver piece digits encode
no_scalar_values = refl

-- SEND (104, #a, NIL) TO say
no_number_in_it : said_list (num 104 ∷ symbol "a" ∷ nil ∷ []) ≡ refused 8
unfolding level same built_in deliver piece digits encode
no_number_in_it = refl

-- SEND (104, 105) TO say
no_end : said_list (num 104 ∷ num 105 ∷ []) ≡ refused 7
unfolding level same built_in deliver piece digits encode
no_end = refl

-- only `println` and `say` are devices
no_third_device : piece {L = Named plain} 2 (Plain Nil) ≡ None
unfolding piece
no_third_device = refl

-- LET d(n, x) = CASE n OF 0 : x _ : d(sub(n, 1), (x, x)) END
-- SEND d(20, 1) TO println
abbrev doubled : List Stmt
doubled =
    define "d" (pair_pat (bind "n") (bind "x")) (cases (var "n") (arm (int_pat (pos 0)) (var "x")
    ∷ arm any (call_both "d" (call_both "sub" (var "n") (num 1)) (pair (var "x") (var "x"))) ∷ []))
    ∷ send (call_both "d" (num 20) (num 1)) println ∷ []

too_many_leaves : program doubled ≡ rests "" ((0, 377, Commits) ∷ (1, 0, FailsWith 8) ∷ [])
unfolding level same built_in deliver piece digits
too_many_leaves = refl

-- ---- what no steps decide

-- LET f(x) = f(x)
-- f(0)
abbrev endless : List Stmt
endless = define "f" (bind "x") (call (var "f") (var "x")) ∷ perform (call (var "f") (num 0)) ∷ []

undecided : program endless ≡ record { output = []; finished = []; pending = 1 }
unfolding level same built_in deliver piece digits
undecided = refl

-- where the event ran out, its message is gone
ran_out : Follows language (begins endless) (record { message = 0; ending = RunsOut } ∷ []) (record (begins endless) { pending = [] })
ran_out = (_, record { message = _; pending = refl; leads = refl }, refl)
