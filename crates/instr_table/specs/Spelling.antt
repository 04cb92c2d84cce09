-- The quad that spells an operation, the numbers that an operation may have, and what the table says that it costs.
use Rattle.std.specs.Prelude.{ℕ, ◌+◌, pos, negsuc, unsigned_abs, Bool, true, if◌then◌else◌, Option, Some, None}
use Rattle.std.specs.Ordering.{int_eq}
use Rattle.cap_words.specs.declared.word.Quad.{Quad}
use Rattle.cap_words.specs.Words.{W, Fix, undef, instr_t}
use Rattle.instr_table.specs.declared.charge.Charge.{Charge}
use Rattle.instr_table.specs.declared.op.Op.{Op}
use Rattle.instr_table.specs.declared.op.Op.TheVariants.{Push, Dup, Drop, Pick, Roll, Depth, Pair, Part, Nth, QuadMake, QuadTake, Get, Typeq, Eq, Cmp, AluNot, Alu, If, Jump, Msg, State, My, ActorSend, ActorPost, ActorCreate, ActorAssign, ActorBecome, End, DictTest, DictPut, DictDel, DequeNew, DequeTest, DequePut, DequeTake, SponsorNew, SponsorGrant, SponsorReclaim, SponsorStart, SponsorStop, Assert, Debug}
use Rattle.instr_table.specs.Code.{within, turns, either}

-- the number of an operation is one of its row
abbrev pub is_op : Op → Bool
is_op (Push v) = true
is_op (Dup n) = within (pos 0) (pos 15) n
is_op (Drop n) = within (pos 0) (pos 4095) n
is_op (Pick n) = within (pos 1) (pos 4095) n
is_op (Roll n) = turns 15 n
is_op Depth = true
is_op (Pair n) = within (pos 1) (pos 15) n
is_op (Part n) = within (pos 1) (pos 15) n
is_op (Nth n) = within (negsuc 4094) (pos 4095) n
is_op (QuadMake n) = within (pos 1) (pos 4) n
is_op (QuadTake n) = within (negsuc 3) (negsuc 0) n
is_op (Get n) = within (pos 0) (pos 3) n
is_op (Typeq v) = true
is_op (Eq v) = true
is_op (Cmp n) = within (pos 0) (pos 5) n
is_op AluNot = true
is_op (Alu n) = within (pos 1) (pos 6) n
is_op (If v) = true
is_op Jump = true
is_op (Msg n) = within (negsuc 4094) (pos 4095) n
is_op (State n) = within (negsuc 4094) (pos 4095) n
is_op (My n) = within (pos 0) (pos 2) n
is_op ActorSend = true
is_op ActorPost = true
is_op ActorCreate = true
is_op ActorAssign = true
is_op ActorBecome = true
is_op (End n) = within (negsuc 0) (pos 1) n
is_op (DictTest n) = within (pos 0) (pos 1) n
is_op (DictPut n) = within (pos 2) (pos 3) n
is_op DictDel = true
is_op DequeNew = true
is_op (DequeTest n) = either (pos 1) (pos 6) n
is_op (DequePut n) = either (pos 2) (pos 4) n
is_op (DequeTake n) = either (pos 3) (pos 5) n
is_op SponsorNew = true
is_op (SponsorGrant n) = within (pos 1) (pos 3) n
is_op SponsorReclaim = true
is_op SponsorStart = true
is_op SponsorStop = true
is_op (Assert v) = true
is_op Debug = true

-- an operation's number and operand
abbrev pub spelling : Op → ℕ × W
spelling (Push v) = (0, v)
spelling (Dup n) = (1, Fix n)
spelling (Drop n) = (2, Fix n)
spelling (Pick n) = (3, Fix n)
spelling (Roll n) = (4, Fix n)
spelling Depth = (5, undef)
spelling (Pair n) = (6, Fix n)
spelling (Part n) = (7, Fix n)
spelling (Nth n) = (8, Fix n)
spelling (QuadMake n) = (9, Fix n)
spelling (QuadTake n) = (9, Fix n)
spelling (Get n) = (10, Fix n)
spelling (Typeq v) = (11, v)
spelling (Eq v) = (12, v)
spelling (Cmp n) = (13, Fix n)
spelling AluNot = (14, Fix (pos 0))
spelling (Alu n) = (14, Fix n)
spelling (If v) = (15, v)
spelling Jump = (16, undef)
spelling (Msg n) = (17, Fix n)
spelling (State n) = (18, Fix n)
spelling (My n) = (19, Fix n)
spelling ActorSend = (20, Fix (pos 0))
spelling ActorPost = (20, Fix (pos 1))
spelling ActorCreate = (20, Fix (pos 2))
spelling ActorAssign = (20, Fix (pos 3))
spelling ActorBecome = (20, Fix (pos 4))
spelling (End n) = (21, Fix n)
spelling (DictTest n) = (22, Fix n)
spelling (DictPut n) = (22, Fix n)
spelling DictDel = (22, Fix (pos 4))
spelling DequeNew = (23, Fix (pos 0))
spelling (DequeTest n) = (23, Fix n)
spelling (DequePut n) = (23, Fix n)
spelling (DequeTake n) = (23, Fix n)
spelling SponsorNew = (24, Fix (pos 0))
spelling (SponsorGrant n) = (24, Fix n)
spelling SponsorReclaim = (24, Fix (pos 4))
spelling SponsorStart = (24, Fix (pos 5))
spelling SponsorStop = (24, Fix (pos 6))
spelling (Assert v) = (25, v)
spelling Debug = (26, undef)

-- the quad that spells an operation, with the word of the next one
abbrev pub spelled : Op → W → Quad
spelled op next = record { t = instr_t; x = Fix (pos (spelling op).0); y = (spelling op).1; z = next }

-- a charge of so many quads and events
abbrev pub costs : ℕ → ℕ → Option Charge
costs quads events = Some (record { quads = quads; events = events })

-- the table's column of charges; none where the charge depends on the state
abbrev pub charge_of : Op → Option Charge
charge_of (Push v) = costs 1 0
charge_of (Dup n) = costs (unsigned_abs n) 0
charge_of (Drop n) = costs 0 0
charge_of (Pick n) = costs 1 0
charge_of (Roll n) = costs (unsigned_abs n) 0
charge_of Depth = costs 1 0
charge_of (Pair n) = costs (unsigned_abs n + 1) 0
charge_of (Part n) = costs (unsigned_abs n + 1) 0
charge_of (Nth n) = costs 1 0
charge_of (QuadMake n) = costs 2 0
charge_of (QuadTake n) = costs (unsigned_abs n) 0
charge_of (Get n) = costs 1 0
charge_of (Typeq v) = costs 1 0
charge_of (Eq v) = costs 1 0
charge_of (Cmp n) = costs 1 0
charge_of AluNot = costs 1 0
charge_of (Alu n) = costs 1 0
charge_of (If v) = costs 0 0
charge_of Jump = costs 0 0
charge_of (Msg n) = costs 1 0
charge_of (State n) = costs 1 0
charge_of (My n) = costs 1 0
charge_of ActorSend = costs 1 1
charge_of ActorPost = costs 1 1
charge_of ActorCreate = costs 2 0
charge_of ActorAssign = costs 0 0
charge_of ActorBecome = costs 0 0
charge_of (End n) = costs 0 0
charge_of (DictTest n) = costs 1 0
charge_of (DictPut n) = if int_eq n (pos 3) then None else costs 2 0
charge_of DictDel = None
charge_of DequeNew = costs 2 0
charge_of (DequeTest n) = costs 1 0
charge_of (DequePut n) = costs 3 0
charge_of (DequeTake n) = None
charge_of SponsorNew = None
charge_of (SponsorGrant n) = costs 0 0
charge_of SponsorReclaim = costs 0 0
charge_of SponsorStart = costs 1 1
charge_of SponsorStop = costs 0 0
charge_of (Assert v) = costs 0 0
charge_of Debug = costs 0 0
