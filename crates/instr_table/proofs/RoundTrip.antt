-- The quad that spells an operation spells it.
use Rattle.std.proofs.Common.{◌≡◌, ℤ, pos, negsuc, Bool, true, false, IsTrue, Option, Some, None, option_map, if◌then◌else◌, refl, arith}
use Rattle.std.proofs.lemmas.Bool.Decides.{nat_tests}
use Rattle.cap_words.specs.Words.{W}
use Rattle.instr_table.specs.declared.op.Op.{Op}
use Rattle.instr_table.specs.declared.op.Op.TheVariants.{Push, Dup, Drop, Pick, Roll, Depth, Pair, Part, Nth, QuadMake, QuadTake, Get, Typeq, Eq, Cmp, AluNot, Alu, If, Jump, Msg, State, My, ActorSend, ActorPost, ActorCreate, ActorAssign, ActorBecome, End, DictTest, DictPut, DictDel, DequeNew, DequeTest, DequePut, DequeTake, SponsorNew, SponsorGrant, SponsorReclaim, SponsorStart, SponsorStop, Assert, Debug}
use Rattle.instr_table.specs.Code.{operation, numbered, within, turns, either, quad_operation, alu_operation, dict_operation, deque_operation, sponsor_operation}
use Rattle.instr_table.specs.Spelling.{is_op, spelled}

passes : (test : ℤ → Bool) (op : ℤ → Op) (n : ℤ) → IsTrue (test n) → numbered test op (Some n) ≡ Some (op n)
passes test op n h = pass (test n) h
  where
    pass : (b : Bool) → IsTrue b → option_map op (if b then Some n else None) ≡ Some (op n)
    pass true k = refl
    pass false k = cc

first_passes : (test : ℤ → Bool) (op : ℤ → Op) (n : ℤ) (rest : Option Op) → IsTrue (test n) → (if test n then Some (op n) else rest) ≡ Some (op n)
first_passes test op n rest h = pass (test n) h
  where
    pass : (b : Bool) → IsTrue b → (if b then Some (op n) else rest) ≡ Some (op n)
    pass true k = refl
    pass false k = cc

quad_make : (n : ℤ) → IsTrue (within (pos 1) (pos 4) n) → quad_operation (Some n) ≡ Some (QuadMake n)
quad_make n h = first_passes (within (pos 1) (pos 4)) QuadMake n _ h

dict_test : (n : ℤ) → IsTrue (within (pos 0) (pos 1) n) → dict_operation (Some n) ≡ Some (DictTest n)
dict_test n h = first_passes (within (pos 0) (pos 1)) DictTest n _ h

quad_take : (n : ℤ) → IsTrue (within (negsuc 3) (negsuc 0) n) → quad_operation (Some n) ≡ Some (QuadTake n)
quad_take (pos k) h = cc
quad_take (negsuc k) h = first_passes (within (negsuc 3) (negsuc 0)) QuadTake (negsuc k) None h

alu_of : (n : ℤ) → IsTrue (within (pos 1) (pos 6) n) → alu_operation (Some n) ≡ Some (Alu n)
alu_of (pos k) h = grind (arith, nat_tests)
alu_of (negsuc k) h = cc

dict_put : (n : ℤ) → IsTrue (within (pos 2) (pos 3) n) → dict_operation (Some n) ≡ Some (DictPut n)
dict_put (pos k) h = grind (arith, nat_tests)
dict_put (negsuc k) h = cc

grant : (n : ℤ) → IsTrue (within (pos 1) (pos 3) n) → sponsor_operation (Some n) ≡ Some (SponsorGrant n)
grant (pos k) h = grind (arith, nat_tests)
grant (negsuc k) h = cc

deque_test : (n : ℤ) → IsTrue (either (pos 1) (pos 6) n) → deque_operation (Some n) ≡ Some (DequeTest n)
deque_test (pos k) h = grind (arith, nat_tests)
deque_test (negsuc k) h = cc

deque_put : (n : ℤ) → IsTrue (either (pos 2) (pos 4) n) → deque_operation (Some n) ≡ Some (DequePut n)
deque_put (pos k) h = grind (arith, nat_tests)
deque_put (negsuc k) h = cc

deque_take : (n : ℤ) → IsTrue (either (pos 3) (pos 5) n) → deque_operation (Some n) ≡ Some (DequeTake n)
deque_take (pos k) h = grind (arith, nat_tests)
deque_take (negsuc k) h = cc

-- an operation whose number is one of its row is decoded from the quad that spells it
pub round_trip : (op : Op) (next : W) → IsTrue (is_op op) → operation (spelled op next) ≡ Some op
round_trip (Push v) next h = refl
round_trip (Dup n) next h = passes (within (pos 0) (pos 15)) Dup n h
round_trip (Drop n) next h = passes (within (pos 0) (pos 4095)) Drop n h
round_trip (Pick n) next h = passes (within (pos 1) (pos 4095)) Pick n h
round_trip (Roll n) next h = passes (turns 15) Roll n h
round_trip Depth next h = refl
round_trip (Pair n) next h = passes (within (pos 1) (pos 15)) Pair n h
round_trip (Part n) next h = passes (within (pos 1) (pos 15)) Part n h
round_trip (Nth n) next h = passes (within (negsuc 4094) (pos 4095)) Nth n h
round_trip (QuadMake n) next h = quad_make n h
round_trip (QuadTake n) next h = quad_take n h
round_trip (Get n) next h = passes (within (pos 0) (pos 3)) Get n h
round_trip (Typeq v) next h = refl
round_trip (Eq v) next h = refl
round_trip (Cmp n) next h = passes (within (pos 0) (pos 5)) Cmp n h
round_trip AluNot next h = refl
round_trip (Alu n) next h = alu_of n h
round_trip (If v) next h = refl
round_trip Jump next h = refl
round_trip (Msg n) next h = passes (within (negsuc 4094) (pos 4095)) Msg n h
round_trip (State n) next h = passes (within (negsuc 4094) (pos 4095)) State n h
round_trip (My n) next h = passes (within (pos 0) (pos 2)) My n h
round_trip ActorSend next h = refl
round_trip ActorPost next h = refl
round_trip ActorCreate next h = refl
round_trip ActorAssign next h = refl
round_trip ActorBecome next h = refl
round_trip (End n) next h = passes (within (negsuc 0) (pos 1)) End n h
round_trip (DictTest n) next h = dict_test n h
round_trip (DictPut n) next h = dict_put n h
round_trip DictDel next h = refl
round_trip DequeNew next h = refl
round_trip (DequeTest n) next h = deque_test n h
round_trip (DequePut n) next h = deque_put n h
round_trip (DequeTake n) next h = deque_take n h
round_trip SponsorNew next h = refl
round_trip (SponsorGrant n) next h = grant n h
round_trip SponsorReclaim next h = refl
round_trip SponsorStart next h = refl
round_trip SponsorStop next h = refl
round_trip (Assert v) next h = refl
round_trip Debug next h = refl
