-- Which quads spell which operations.
use Rattle.std.specs.Prelude.{ℕ, nat_eq, nat_le, if◌then◌else◌, ℤ, pos, negsuc, int_le, unsigned_abs, Bool, ◌&&◌, ◌||◌, Option, Some, None, option_map}
use Rattle.std.specs.Ordering.{int_eq}
use Rattle.cap_words.specs.declared.word.Quad.{Quad}
use Rattle.cap_words.specs.Words.{W, same_word, number_of, undef, instr_t}
use Rattle.cap_words.specs.Seen.{Seen, cell_seen}
use Rattle.instr_table.specs.declared.op.Op.{Op}
use Rattle.instr_table.specs.declared.op.Op.TheVariants.{Push, Dup, Drop, Pick, Roll, Depth, Pair, Part, Nth, QuadMake, QuadTake, Get, Typeq, Eq, Cmp, AluNot, Alu, If, Jump, Msg, State, My, ActorSend, ActorPost, ActorCreate, ActorAssign, ActorBecome, End, DictTest, DictPut, DictDel, DequeNew, DequeTest, DequePut, DequeTake, SponsorNew, SponsorGrant, SponsorReclaim, SponsorStart, SponsorStop, Assert, Debug}

-- the number lies from low to high
abbrev pub within : ℤ → ℤ → ℤ → Bool
within low high n = int_le low n && int_le n high

-- the number is not 0, and of that size at most
abbrev pub turns : ℕ → ℤ → Bool
turns most n = nat_le 1 (unsigned_abs n) && nat_le (unsigned_abs n) most

-- the number of an operand, where it passes a test
abbrev pub passing : (ℤ → Bool) → Option ℤ → Option ℤ
passing test None = None
passing test (Some n) = if test n then Some n else None

-- the operation whose operand is a number that passes a test
abbrev pub numbered : (ℤ → Bool) → (ℤ → Op) → Option ℤ → Option Op
numbered test op n = option_map op (passing test n)

-- the operation that has no operand
abbrev pub bare : Op → W → Option Op
bare op v = if same_word v undef then Some op else None

-- 1 to 4 make a cell, -4 to -1 take one apart
abbrev pub quad_operation : Option ℤ → Option Op
quad_operation None = None
quad_operation (Some n) =
    if within (pos 1) (pos 4) n then Some (QuadMake n) else
    if within (negsuc 3) (negsuc 0) n then Some (QuadTake n) else None

-- 0 is `not`, 1 to 6 take two numbers
abbrev pub alu_operation : Option ℤ → Option Op
alu_operation None = None
alu_operation (Some n) =
    if int_eq n (pos 0) then Some AluNot else
    if within (pos 1) (pos 6) n then Some (Alu n) else None

-- send, post, create, assign, become
abbrev pub actor_operation : Option ℤ → Option Op
actor_operation None = None
actor_operation (Some n) =
    if int_eq n (pos 0) then Some ActorSend else
    if int_eq n (pos 1) then Some ActorPost else
    if int_eq n (pos 2) then Some ActorCreate else
    if int_eq n (pos 3) then Some ActorAssign else
    if int_eq n (pos 4) then Some ActorBecome else None

-- 0 and 1 ask, 2 and 3 put, 4 removes
abbrev pub dict_operation : Option ℤ → Option Op
dict_operation None = None
dict_operation (Some n) =
    if within (pos 0) (pos 1) n then Some (DictTest n) else
    if within (pos 2) (pos 3) n then Some (DictPut n) else
    if int_eq n (pos 4) then Some DictDel else None

-- the number is one of two
abbrev pub either : ℤ → ℤ → ℤ → Bool
either a b n = int_eq n a || int_eq n b

-- new, and then what is asked, put and taken
abbrev pub deque_operation : Option ℤ → Option Op
deque_operation None = None
deque_operation (Some n) =
    if int_eq n (pos 0) then Some DequeNew else
    if either (pos 1) (pos 6) n then Some (DequeTest n) else
    if either (pos 2) (pos 4) n then Some (DequePut n) else
    if either (pos 3) (pos 5) n then Some (DequeTake n) else None

-- new, three kinds of grants, reclaim, start, stop
abbrev pub sponsor_operation : Option ℤ → Option Op
sponsor_operation None = None
sponsor_operation (Some n) =
    if int_eq n (pos 0) then Some SponsorNew else
    if within (pos 1) (pos 3) n then Some (SponsorGrant n) else
    if int_eq n (pos 4) then Some SponsorReclaim else
    if int_eq n (pos 5) then Some SponsorStart else
    if int_eq n (pos 6) then Some SponsorStop else None

-- the operation of that number with that operand
abbrev pub named : ℕ → W → Option Op
named k v =
    if nat_eq k 0 then Some (Push v) else
    if nat_eq k 1 then numbered (within (pos 0) (pos 15)) Dup (number_of v) else
    if nat_eq k 2 then numbered (within (pos 0) (pos 4095)) Drop (number_of v) else
    if nat_eq k 3 then numbered (within (pos 1) (pos 4095)) Pick (number_of v) else
    if nat_eq k 4 then numbered (turns 15) Roll (number_of v) else
    if nat_eq k 5 then bare Depth v else
    if nat_eq k 6 then numbered (within (pos 1) (pos 15)) Pair (number_of v) else
    if nat_eq k 7 then numbered (within (pos 1) (pos 15)) Part (number_of v) else
    if nat_eq k 8 then numbered (within (negsuc 4094) (pos 4095)) Nth (number_of v) else
    if nat_eq k 9 then quad_operation (number_of v) else
    if nat_eq k 10 then numbered (within (pos 0) (pos 3)) Get (number_of v) else
    if nat_eq k 11 then Some (Typeq v) else
    if nat_eq k 12 then Some (Eq v) else
    if nat_eq k 13 then numbered (within (pos 0) (pos 5)) Cmp (number_of v) else
    if nat_eq k 14 then alu_operation (number_of v) else
    if nat_eq k 15 then Some (If v) else
    if nat_eq k 16 then bare Jump v else
    if nat_eq k 17 then numbered (within (negsuc 4094) (pos 4095)) Msg (number_of v) else
    if nat_eq k 18 then numbered (within (negsuc 4094) (pos 4095)) State (number_of v) else
    if nat_eq k 19 then numbered (within (pos 0) (pos 2)) My (number_of v) else
    if nat_eq k 20 then actor_operation (number_of v) else
    if nat_eq k 21 then numbered (within (negsuc 0) (pos 1)) End (number_of v) else
    if nat_eq k 22 then dict_operation (number_of v) else
    if nat_eq k 23 then deque_operation (number_of v) else
    if nat_eq k 24 then sponsor_operation (number_of v) else
    if nat_eq k 25 then Some (Assert v) else
    if nat_eq k 26 then bare Debug v else None

-- operations have numbers from 0 on
abbrev pub by_number : Option ℤ → W → Option Op
by_number None v = None
by_number (Some (pos k)) v = named k v
by_number (Some (negsuc k)) v = None

-- the operation that a quad spells, or none; the word of the next one is not looked at
abbrev pub operation : Quad → Option Op
operation q = if same_word q.t instr_t then by_number (number_of q.x) q.y else None

-- the operation of a cell, and the word of the next one
abbrev pub with_next : Option Op → W → Option (Op × W)
with_next None k = None
with_next (Some op) k = Some (op, k)

-- a code word that names no cell has no operation
abbrev pub fetched_in : Option Quad → Option (Op × W)
fetched_in None = None
fetched_in (Some q) = with_next (operation q) q.z

-- what stands at a code word: an operation and the word of the next one, or none
abbrev pub fetched : Seen → W → Option (Op × W)
fetched s w = fetched_in (cell_seen s w)
