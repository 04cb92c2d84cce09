-- The routines of the fixed code, in the words of the templates. In a comment `S` is a stack that is not looked into, with the top on the
-- right. A routine that a program's code comes to by `calls` has the number to go back to on its stack: `back` takes it from there.
use Rattle.std.specs.Prelude.{ℕ, ℤ, pos, negsuc, List, [], ◌∷◌, None, Some}
use Rattle.hum_emit.specs.declared.instruction.Field.TheVariants.{Number, Constant, Place}
use Rattle.hum_emit.specs.Emitted.{Emitted, Piece, ◌▷◌, put, one, choose, calls, jump, push, dup, drop, pick, roll, pair, part, nth, quad, typeq, eq, nil, pair_type, function_type, block_type}

-- ---- how pieces go on

-- no instruction: it goes on at that number
abbrev pub goes : ℕ → Piece
goes i = λ k s. (s, i)

-- goes to that number where the value on top is true, and else on with what comes next
abbrev pub unless : (hit : ℕ) → Piece
unless hit = λ k s. put (record { operation = 15; field = Place hit; next = Some k }) s

-- a piece, and another one whose number it gets to go there; both go on with what comes next
abbrev pub or_else : (ℕ → Piece) → Piece → Piece
or_else first other = λ k s. let made = other k s in first made.1 k made.0

-- the first piece where the value on top is true, and else the second one
abbrev pub either : (first second : Piece) → Piece
either first second = or_else (λ other. choose other ▷ first) second

-- A piece that goes back to its own beginning, whose number it gets. How many instructions a piece has does not depend on the numbers in
-- them, so where it begins is found by making it with any number.
abbrev pub looped : (ℕ → Piece) → Piece
looped body = λ k s. body (body 0 k s).1 k s

-- pieces one after the other, which all go on with the same, and the numbers of their first instructions
abbrev pub each : List Piece → (k : ℕ) → Emitted → Emitted × List ℕ
each [] k s = (s, [])
each (piece ∷ more) k s =
    let made = piece k s in
    let others = each more k made.0 in
    (others.0, made.1 ∷ others.1)

-- ---- instructions of the fixed code alone

-- ends an event: it commits where the number is 1, and fails with the number on top where it is -1
abbrev pub ends : ℤ → Piece
ends n = λ k s. put (record { operation = 21; field = Number n; next = None }) s

-- the two values on top are compared: 0 for the same word, 1 for ≥, 2 for >, 3 for <, 4 for ≤
abbrev pub cmp : ℕ → Piece
cmp n = one 13 (Number (pos n))

-- a sum for 4, a difference for 5, and a product for 6
abbrev pub alu : ℕ → Piece
alu n = one 14 (Number (pos n))

-- the event's message
abbrev pub message : Piece
message = one 17 (Number (pos 0))

-- the behaviour of the event's actor
abbrev pub my_state : Piece
my_state = one 19 (Number (pos 2))

abbrev pub fixnum_type : ℕ
fixnum_type = 5

abbrev pub false_word : Piece
false_word = push (Constant 2)

abbrev pub true_word : Piece
true_word = push (Constant 3)

-- ---- calling, executing and applying

-- goes back: from `S return value` to `S value` at return
abbrev pub back : Piece
back = roll (pos 2) ▷ jump

-- fails with that code, where it goes on with what ends the event
abbrev pub fails_with : (code : ℕ) → Piece
fails_with code = push (Number (pos code))

-- calls a function, which fails with code 2 where the value is none: from `S function argument return` to the function's code, with
-- `S return argument env`
abbrev pub call_code : (fail : ℕ → ℕ) → Piece
call_code fail =
    roll (negsuc 2) ▷ roll (pos 2) ▷ dup 1 ▷ typeq function_type ▷ choose (fail 2) ▷ quad (negsuc 2) ▷ drop 1 ▷ jump

-- executes a value: from `S value return` to a block's code, with `S return env`, or to return with `S` where it is no block
abbrev pub exec_code : Piece
exec_code = roll (pos 2) ▷ dup 1 ▷ typeq block_type ▷ either (quad (negsuc 2) ▷ drop 1) (drop 1) ▷ jump

-- applies a behaviour: the actor's is called with the message, and the value executed; it goes on with the event's end
abbrev pub apply_code : (call exec : ℕ) → Piece
apply_code call exec = my_state ▷ message ▷ calls call ▷ calls exec

-- ---- comparison: `S return todo a b` at `head`, where `todo` is a list of pairs that were taken apart, whose tails are still to be
-- compared; all go on with `back`

-- a and b are pairs or differ; pairs are put on the list, and their heads come first
abbrev pub pairs_code : (head differ : ℕ) → Piece
pairs_code head differ =
    pick 2 ▷ typeq pair_type ▷ choose differ ▷ pair 2 ▷ dup 1 ▷ nth (pos 2) ▷ nth (pos 1) ▷ pick 2 ▷ nth (pos 1) ▷ nth (pos 1) ▷ goes head

-- a and b were the same: from `S return todo` to the tails of the newest pair, and to true where there is none
abbrev pub more_code : (head : ℕ) → Piece
more_code head =
    dup 1 ▷ either (part 2 ▷ nth (negsuc 0) ▷ roll (pos 2) ▷ nth (negsuc 0) ▷ roll (pos 2) ▷ goes head) (drop 1 ▷ true_word)

-- b is no pair: functions and blocks differ from all, and others where they are not the same word
abbrev pub leaves_code : (head differ deny : ℕ) → Piece
leaves_code head differ deny =
    dup 1 ▷ typeq function_type ▷ unless differ ▷ dup 1 ▷ typeq block_type ▷ unless differ ▷ cmp 0 ▷ choose deny ▷ more_code head

abbrev pub compare_turn : (differ deny head : ℕ) → Piece
compare_turn differ deny head = dup 1 ▷ typeq pair_type ▷ either (pairs_code head differ) (leaves_code head differ deny)

-- the loop, behind what answers false
abbrev pub compare_loop : Piece
compare_loop = λ k s.
    let deny = (drop 1 ▷ false_word) k s in
    let differ = drop 2 deny.1 deny.0 in
    looped (compare_turn differ.1 deny.1) k differ.0

-- from `S return a b`
abbrev pub compare_code : Piece
compare_code = push (Constant nil) ▷ roll (negsuc 2) ▷ compare_loop

-- ---- built-in functions: from `S return argument number`, where they go on with `back`

module _ (fail : ℕ → ℕ) where
  -- the parts of a pair: to `S return x y`
  abbrev pub two_of_them : Piece
  two_of_them = drop 1 ▷ dup 1 ▷ typeq pair_type ▷ choose (fail 1) ▷ part 1 ▷ roll (pos 2)

  -- two numbers are on top
  abbrev pub numbers : Piece
  numbers = dup 1 ▷ typeq fixnum_type ▷ choose (fail 4) ▷ pick 2 ▷ typeq fixnum_type ▷ choose (fail 4)

  -- the n-th item is a truth value
  abbrev pub truth : ℕ → Piece
  truth n =
      or_else (λ other. pick n ▷ eq (Constant 3) ▷ choose other) (pick n ▷ eq (Constant 2) ▷ choose (fail 5))

  -- one operation on two numbers
  abbrev pub calculates : Piece → Piece
  calculates operation = two_of_them ▷ numbers ▷ operation

  -- -1 where the first number is less, 1 where it is greater, and else 0
  abbrev pub orders : Piece
  orders =
      two_of_them ▷ numbers ▷ dup 2 ▷ cmp 3
      ▷ either (drop 2 ▷ push (Number (negsuc 0))) (cmp 2 ▷ either (push (Number (pos 1))) (push (Number (pos 0))))

  -- both are tested; where the second is true the first is the answer
  abbrev pub both : Piece
  both = two_of_them ▷ truth 2 ▷ truth 1 ▷ or_else choose (drop 1 ▷ false_word)

  -- both are tested; where the second is false the first is the answer
  abbrev pub any : Piece
  any = two_of_them ▷ truth 2 ▷ truth 1 ▷ or_else unless (drop 1 ▷ true_word)

  abbrev pub negates : Piece
  negates = drop 1 ▷ truth 1 ▷ eq (Constant 2)

  -- the built-in functions in the order of their numbers, where values are compared at that number
  abbrev pub built_in_codes : (compare : ℕ) → List Piece
  built_in_codes compare =
      calculates (alu 4)
      ∷ calculates (alu 5)
      ∷ calculates (alu 6)
      ∷ orders
      ∷ calculates (cmp 3)
      ∷ calculates (cmp 4)
      ∷ calculates (cmp 2)
      ∷ calculates (cmp 1)
      ∷ (two_of_them ▷ goes compare)
      ∷ both
      ∷ any
      ∷ negates
      ∷ []
