-- Worked rows of the table: what each gives on small stores, stacks and sheets.
use Rattle.std.proofs.Common.{◌≡◌, ℕ, pos, negsuc, List, [], ◌∷◌, ◌++◌, None, refl}
use Rattle.cap_words.specs.declared.word.Quad.{Quad}
use Rattle.cap_words.specs.Words.{W, Fix, Rom, Ram, Cap, undef, nil, type_t, fixnum_t, actor_t, sponsor_t, instr_t, pair_t, func_t}
use Rattle.cap_words.specs.Seen.{Seen, Slot, OpenSlot, ActorSlot, EventSlot, SponsorSlot, SpentSlot}
use Rattle.instr_table.specs.declared.op.Op.{Op}
use Rattle.instr_table.specs.declared.op.Op.TheVariants.{Dup, Pick, Roll, Depth, Pair, Part, Nth, QuadMake, QuadTake, Get, Typeq, Cmp, AluNot, Alu, If, Jump, End, Assert}
use Rattle.instr_table.specs.Types.{look_up}
use Rattle.instr_table.specs.Lists.{pair_quad}
use Rattle.instr_table.specs.Event.{Own, no_effects, Nothing}
use Rattle.instr_table.specs.Sheet.{Account, Running, holding}
use Rattle.instr_table.specs.Outcome.{Outcome, Goes, Faults, Commits, Row, charge, bad_instruction, assertion_failed, was_stopped}
use Rattle.instr_table.specs.Row.{row, row_at}

abbrev quad : W → W → W → W → Quad
quad t x y z = record { t = t; x = x; y = y; z = z }

-- ---- a store of one own type, an instruction, a pair, an actor, a device and a sponsor

abbrev rom : List Quad
rom = quad type_t (Fix (pos 2)) undef undef ∷ quad instr_t (Fix (pos 26)) undef (Rom 17) ∷ quad actor_t (Fix (pos 0)) undef undef ∷ []

abbrev slots : List Slot
slots =
    SponsorSlot ∷ SpentSlot ∷ ActorSlot (Fix (pos 0)) undef undef ∷ OpenSlot (pair_quad (Fix (pos 7)) nil) ∷
    OpenSlot (pair_quad (Fix (pos 8)) (Ram 3)) ∷ ActorSlot (Rom 17) (Ram 4) (Fix (pos 0)) ∷ EventSlot (Cap 0) (Cap 5) nil ∷ []

abbrev store : Seen
store = record { rom = rom; slots = slots }

abbrev own : Own
own = record { sponsor = Cap 0; actor = Cap 5; code = Rom 17; state = Ram 4; message = nil }

abbrev root : ℕ → Account
root n = record { sponsor = Cap 0; memory = holding n; events = holding n; cycles = holding n; standing = Running None }

abbrev sheet : List Account
sheet = root 10 ∷ []

-- the row of an operation on a stack with the top first
abbrev on : Op → List W → Row
on op vs = row own op store sheet no_effects vs (Rom 16)

-- what is pushed
abbrev pushed_in : Outcome → List W
pushed_in (Goes g) = g.pushed
pushed_in (Faults w) = []
pushed_in Commits = []

abbrev pushes : Op → List W → List W
pushes op vs = pushed_in (on op vs).outcome

abbrev goes_in : Outcome → W
goes_in (Goes g) = g.goes_to
goes_in (Faults w) = undef
goes_in Commits = undef

abbrev n : ℕ → W
n k = Fix (pos k)

-- ---- arithmetic

adds_wrapped : pushes (Alu (pos 4)) (n 1 ∷ n 1073741823 ∷ []) ≡ Fix (negsuc 1073741823) ∷ []
adds_wrapped = refl

multiplies_wrapped : pushes (Alu (pos 6)) (n 65536 ∷ n 65536 ∷ []) ≡ n 0 ∷ []
multiplies_wrapped = refl

subtracts_in_order : pushes (Alu (pos 5)) (n 2 ∷ n 5 ∷ []) ≡ n 3 ∷ []
subtracts_in_order = refl

adds_no_constants : pushes (Alu (pos 4)) (n 1 ∷ nil ∷ []) ≡ undef ∷ []
adds_no_constants = refl

complements : pushes AluNot (n 5 ∷ []) ++ pushes AluNot (nil ∷ []) ≡ Fix (negsuc 5) ∷ undef ∷ []
complements = refl

ands : pushes (Alu (pos 1)) (n 6 ∷ Fix (negsuc 2) ∷ []) ≡ n 4 ∷ []
ands = refl

ors : pushes (Alu (pos 2)) (n 6 ∷ Fix (negsuc 7) ∷ []) ≡ Fix (negsuc 1) ∷ []
ors = refl

xors : pushes (Alu (pos 3)) (n 6 ∷ Fix (negsuc 0) ∷ []) ≡ Fix (negsuc 6) ∷ []
xors = refl

compares_in_order : pushes (Cmp (pos 1)) (n 2 ∷ n 5 ∷ []) ++ pushes (Cmp (pos 2)) (n 5 ∷ n 5 ∷ []) ++ pushes (Cmp (pos 3)) (n 2 ∷ Fix (negsuc 0) ∷ []) ++ pushes (Cmp (pos 4)) (n 2 ∷ n 2 ∷ []) ≡ Rom 3 ∷ Rom 2 ∷ Rom 3 ∷ Rom 3 ∷ []
compares_in_order = refl

compares_any_words : pushes (Cmp (pos 0)) (nil ∷ nil ∷ []) ++ pushes (Cmp (pos 5)) (nil ∷ n 1 ∷ []) ++ pushes (Cmp (pos 1)) (nil ∷ n 1 ∷ []) ≡ Rom 3 ∷ Rom 3 ∷ undef ∷ []
compares_any_words = refl

-- ---- stacks

duplicates : pushes (Dup (pos 2)) (n 1 ∷ n 2 ∷ n 3 ∷ []) ≡ n 2 ∷ n 1 ∷ []
duplicates = refl

-- missing items are not made below
duplicates_missing : pushes (Dup (pos 3)) (n 1 ∷ []) ≡ undef ∷ undef ∷ n 1 ∷ []
duplicates_missing = refl

picks : pushes (Pick (pos 2)) (n 1 ∷ n 2 ∷ []) ++ pushes (Pick (pos 3)) (n 1 ∷ n 2 ∷ []) ≡ n 2 ∷ undef ∷ []
picks = refl

rolls_up : (on (Roll (pos 3)) (n 1 ∷ n 2 ∷ n 3 ∷ n 4 ∷ [])).outcome ≡ Goes (record { pops = 3; made = []; pushed = n 2 ∷ n 1 ∷ n 3 ∷ []; goes_to = Rom 16; effect = Nothing })
rolls_up = refl

rolls_down : pushes (Roll (negsuc 2)) (n 1 ∷ n 2 ∷ n 3 ∷ []) ≡ n 1 ∷ n 3 ∷ n 2 ∷ []
rolls_down = refl

rolls_in_place : pushes (Roll (pos 1)) (n 1 ∷ n 2 ∷ []) ++ pushes (Roll (negsuc 0)) (n 1 ∷ n 2 ∷ []) ≡ n 1 ∷ n 1 ∷ []
rolls_in_place = refl

rolls_missing : pushes (Roll (pos 3)) (n 1 ∷ []) ++ pushes (Roll (negsuc 2)) (n 1 ∷ []) ≡ undef ∷ n 1 ∷ undef ∷ n 1 ∷ undef ∷ undef ∷ []
rolls_missing = refl

counts : pushes Depth (n 1 ∷ n 2 ∷ []) ≡ n 2 ∷ []
counts = refl

-- ---- cells

pairs : (on (Pair (pos 2)) (n 1 ∷ n 2 ∷ nil ∷ [])) ≡ record { charge = charge 3 0; outcome = Goes (record { pops = 3; made = OpenSlot (pair_quad (n 2) nil) ∷ OpenSlot (pair_quad (n 1) (Ram 7)) ∷ []; pushed = Ram 8 ∷ []; goes_to = Rom 16; effect = Nothing }) }
pairs = refl

parts : pushes (Part (pos 3)) (Ram 4 ∷ []) ≡ undef ∷ undef ∷ n 7 ∷ n 8 ∷ []
parts = refl

picks_out : pushes (Nth (pos 2)) (Ram 4 ∷ []) ++ pushes (Nth (pos 3)) (Ram 4 ∷ []) ++ pushes (Nth (negsuc 0)) (Ram 4 ∷ []) ++ pushes (Nth (negsuc 2)) (Ram 4 ∷ []) ++ pushes (Nth (pos 0)) (Ram 4 ∷ []) ≡ n 7 ∷ undef ∷ Ram 3 ∷ undef ∷ Ram 4 ∷ []
picks_out = refl

makes_a_function : (on (QuadMake (pos 3)) (func_t ∷ n 1 ∷ n 2 ∷ n 3 ∷ [])) ≡ record { charge = charge 2 0; outcome = Goes (record { pops = 3; made = OpenSlot (quad func_t (n 1) (n 2) undef) ∷ []; pushed = Ram 7 ∷ []; goes_to = Rom 16; effect = Nothing }) }
makes_a_function = refl

-- the number of fields is not compared, and missing ones are `#?`
makes_an_instance : (on (QuadMake (pos 4)) (Rom 16 ∷ n 1 ∷ [])).outcome ≡ Goes (record { pops = 4; made = OpenSlot (quad (Rom 16) (n 1) undef undef) ∷ []; pushed = Ram 7 ∷ []; goes_to = Rom 16; effect = Nothing })
makes_an_instance = refl

-- a pair, an actor's type and an instruction's cell make nothing, at two quads
makes_nothing : (on (QuadMake (pos 2)) (actor_t ∷ n 5 ∷ [])) ≡ record { charge = charge 2 0; outcome = Goes (record { pops = 2; made = []; pushed = undef ∷ []; goes_to = Rom 16; effect = Nothing }) }
makes_nothing = refl

makes_no_pairs : pushes (QuadMake (pos 3)) (pair_t ∷ n 5 ∷ nil ∷ []) ++ pushes (QuadMake (pos 1)) (Rom 17 ∷ []) ≡ undef ∷ undef ∷ []
makes_no_pairs = refl

takes_apart : pushes (QuadTake (negsuc 2)) (Ram 4 ∷ []) ++ pushes (QuadTake (negsuc 1)) (Cap 5 ∷ []) ≡ Ram 3 ∷ n 8 ∷ pair_t ∷ undef ∷ undef ∷ []
takes_apart = refl

-- nothing is got out of a fixnum or an opaque word
gets : pushes (Get (pos 1)) (Ram 3 ∷ []) ++ pushes (Get (pos 0)) (n 5 ∷ []) ++ pushes (Get (pos 1)) (Cap 5 ∷ []) ++ pushes (Get (pos 0)) (Rom 4 ∷ []) ≡ n 7 ∷ undef ∷ undef ∷ undef ∷ []
gets = refl

-- ---- types

is_of : List W → List W → List W
is_of [] ws = []
is_of (t ∷ ts) [] = []
is_of (t ∷ ts) (w ∷ ws) = pushes (Typeq t) (w ∷ []) ++ is_of ts ws

typed : is_of (fixnum_t ∷ type_t ∷ type_t ∷ actor_t ∷ sponsor_t ∷ pair_t ∷ instr_t ∷ actor_t ∷ []) (n 5 ∷ pair_t ∷ Rom 16 ∷ Cap 5 ∷ Cap 0 ∷ Ram 4 ∷ Rom 17 ∷ Rom 18 ∷ []) ≡ Rom 3 ∷ Rom 3 ∷ Rom 3 ∷ Rom 3 ∷ Rom 3 ∷ Rom 3 ∷ Rom 3 ∷ Rom 3 ∷ []
unfolding is_of look_up
typed = refl

not_typed : is_of (undef ∷ type_t ∷ sponsor_t ∷ actor_t ∷ pair_t ∷ []) (undef ∷ Rom 3 ∷ Cap 5 ∷ Cap 6 ∷ Ram 9 ∷ []) ≡ Rom 2 ∷ Rom 2 ∷ Rom 2 ∷ Rom 2 ∷ Rom 2 ∷ []
unfolding is_of look_up
not_typed = refl

-- ---- where to go on

branches : goes_in (on (If (Rom 40)) (Fix (negsuc 0) ∷ [])).outcome ≡ Rom 40
branches = refl

falls_through : goes_in (on (If (Rom 40)) (n 0 ∷ [])).outcome ≡ Rom 16
falls_through = refl

falls_through_on_nothing : goes_in (on (If (Rom 40)) []).outcome ≡ Rom 16
falls_through_on_nothing = refl

jumps : goes_in (on Jump (Rom 30 ∷ [])).outcome ≡ Rom 30
jumps = refl

ends : (on (End (negsuc 0)) (n 9 ∷ [])).outcome ≡ Faults (n 9)
ends = refl

stops : (on (End (pos 0)) []).outcome ≡ Faults was_stopped
stops = refl

asserts : (on (Assert (n 5)) (n 4 ∷ [])).outcome ≡ Faults assertion_failed
asserts = refl

bad : (row_at own None store sheet no_effects []) ≡ record { charge = charge 0 0; outcome = Faults bad_instruction }
bad = refl
