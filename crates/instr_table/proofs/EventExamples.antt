-- Worked rows on actors and sponsors, and the first instructions of a module that starts a sponsor.
use Rattle.std.proofs.Common.{◌≡◌, ℕ, pos, negsuc, List, [], ◌∷◌, ◌++◌, Some, None, refl}
use Rattle.cap_words.specs.declared.word.Quad.{Quad}
use Rattle.cap_words.specs.Words.{W, Fix, Rom, Ram, Cap, undef, nil, instr_t}
use Rattle.cap_words.specs.Seen.{Seen, Slot, OpenSlot, ActorSlot, UnbornSlot, EventSlot, SponsorSlot, SpentSlot}
use Rattle.instr_table.specs.declared.charge.Charge.{Charge}
use Rattle.instr_table.specs.declared.charge.Quota.TheVariants.{Memory, Events, Cycles}
use Rattle.instr_table.specs.declared.op.Op.{Op}
use Rattle.instr_table.specs.declared.op.Op.TheVariants.{ActorSend, ActorPost, ActorCreate, ActorAssign, ActorBecome, SponsorGrant, SponsorStart}
use Rattle.instr_table.specs.Types.{look_up}
use Rattle.instr_table.specs.Lists.{pair_quad}
use Rattle.instr_table.specs.Event.{Own, Effects, no_effects, with_effect, Sends, Creates, Assigns, Becomes, Grants, Reclaims, Starts, Stops}
use Rattle.instr_table.specs.Sheet.{Account, Stopped, Running, holding, held, spend, transfer, short, sheet_after, prepared}
use Rattle.instr_table.specs.Outcome.{Outcome, Goes, Faults, Commits, Row, charge, not_actor, second_become, not_fresh, not_sponsor, short_of, is_running}
use Rattle.instr_table.specs.Row.{row}
use Rattle.instr_table.specs.Lane.{Lane, begun, values, after_going, lane_row, gone}

abbrev n : ℕ → W
n k = Fix (pos k)

-- what boot takes: the root sponsor, two devices, the list of both, the first actor and its message; and then another sponsor, and an
-- actor that is not committed
abbrev boot : List Slot
boot =
    SponsorSlot ∷ SpentSlot ∷ ActorSlot (n 0) undef undef ∷ ActorSlot (n 1) undef undef ∷ OpenSlot (pair_quad (Cap 3) nil) ∷
    OpenSlot (pair_quad (Cap 2) (Ram 4)) ∷ ActorSlot (Rom 16) (Ram 5) (n 0) ∷ EventSlot (Cap 0) (Cap 6) nil ∷ []

abbrev store : Seen
store = record { rom = []; slots = boot ++ SponsorSlot ∷ SpentSlot ∷ UnbornSlot ∷ [] }

abbrev own : Own
own = record { sponsor = Cap 0; actor = Cap 6; code = Rom 16; state = Ram 5; message = nil }

abbrev root : ℕ → Account
root k = record { sponsor = Cap 0; memory = holding k; events = holding k; cycles = holding k; standing = Running None }

abbrev child : Account
child = record { sponsor = Cap 8; memory = holding 0; events = holding 0; cycles = holding 0; standing = Stopped }

abbrev sheet : List Account
sheet = root 10 ∷ child ∷ []

abbrev effects : Effects
effects = record { created = record { actor = Cap 10; state = n 1; code = Rom 20 } ∷ []; sent = []; next = Some (record { state = nil; code = Rom 21 }) }

abbrev on : Op → List W → Row
on op vs = row own op store sheet effects vs (Rom 17)

-- ---- actors

sends : on ActorSend (Cap 2 ∷ n 7 ∷ []) ≡ record { charge = charge 1 1; outcome = Goes (record { pops = 2; made = EventSlot (Cap 0) (Cap 2) (n 7) ∷ []; pushed = []; goes_to = Rom 17; effect = Sends (record { event = Cap 11; sponsor = Cap 0; target = Cap 2; content = n 7 }) }) }
unfolding look_up
sends = refl

-- a message to a word that is no actor is charged, with its event
sends_to_no_actor : on ActorSend (Cap 0 ∷ n 7 ∷ []) ≡ record { charge = charge 1 1; outcome = Faults not_actor }
unfolding look_up
sends_to_no_actor = refl

-- the sponsor is on top, and is looked at first
posts_in_order : ((on ActorPost (n 1 ∷ n 2 ∷ [])).outcome ≡ Faults not_sponsor) × ((on ActorPost (Cap 8 ∷ n 2 ∷ [])).outcome ≡ Faults not_actor)
unfolding look_up
posts_in_order = (refl, refl)

posts : (on ActorPost (Cap 8 ∷ Cap 10 ∷ [])).outcome ≡ Goes (record { pops = 3; made = EventSlot (Cap 8) (Cap 10) undef ∷ []; pushed = []; goes_to = Rom 17; effect = Sends (record { event = Cap 11; sponsor = Cap 8; target = Cap 10; content = undef }) })
unfolding look_up
posts = refl

-- an actor with the code 0 is no device
creates : on ActorCreate (n 0 ∷ nil ∷ []) ≡ record { charge = charge 2 0; outcome = Goes (record { pops = 2; made = UnbornSlot ∷ []; pushed = Cap 11 ∷ []; goes_to = Rom 17; effect = Creates (record { actor = Cap 11; state = nil; code = n 0 }) }) }
creates = refl

assigns : ((on ActorAssign (Cap 10 ∷ Rom 22 ∷ n 5 ∷ [])).outcome ≡ Goes (record { pops = 3; made = []; pushed = []; goes_to = Rom 17; effect = Assigns (record { actor = Cap 10; state = n 5; code = Rom 22 }) })) × ((on ActorAssign (Cap 6 ∷ [])).outcome ≡ Faults not_fresh)
assigns = (refl, refl)

assigned : (with_effect effects (Assigns (record { actor = Cap 10; state = n 5; code = Rom 22 }))).created ≡ record { actor = Cap 10; state = n 5; code = Rom 22 } ∷ []
assigned = refl

becomes_once : ((row own ActorBecome store sheet no_effects (Rom 22 ∷ n 5 ∷ []) (Rom 17)).outcome ≡ Goes (record { pops = 2; made = []; pushed = []; goes_to = Rom 17; effect = Becomes (record { state = n 5; code = Rom 22 }) })) × ((on ActorBecome (Rom 22 ∷ n 5 ∷ [])).outcome ≡ Faults second_become)
becomes_once = (refl, refl)

-- ---- sponsors

-- 4 of 10 are granted
abbrev granted : List Account
granted = sheet_after (spend sheet (Cap 0) (charge 0 0)) (Cap 0) (Grants (Cap 8) Memory 4)

grants : ((on (SponsorGrant (pos 1)) (n 4 ∷ Cap 8 ∷ [])).outcome ≡ Goes (record { pops = 1; made = []; pushed = []; goes_to = Rom 17; effect = Grants (Cap 8) Memory 4 })) × (held granted (Cap 0) Memory ≡ 6) × (held granted (Cap 8) Memory ≡ 4)
unfolding look_up
grants = (refl, refl, refl)

-- then 7 are too many, and a grant to itself changes nothing
grants_within : ((row own (SponsorGrant (pos 1)) store granted effects (n 7 ∷ Cap 8 ∷ []) undef).outcome ≡ Faults short_of) × (transfer granted (Cap 0) (Cap 0) Memory 6 ≡ granted)
grants_within = (refl, refl)

-- what is held is looked at after the instruction is paid; the amount is on top, and is looked at first
grants_in_order : ((on (SponsorGrant (pos 3)) (n 10 ∷ Cap 8 ∷ [])).outcome ≡ Faults short_of) × ((on (SponsorGrant (pos 2)) (Fix (negsuc 0) ∷ n 1 ∷ [])).outcome ≡ Faults short_of) × ((on (SponsorGrant (pos 2)) (n 10 ∷ n 1 ∷ [])).outcome ≡ Faults not_sponsor)
unfolding look_up
grants_in_order = (refl, refl, refl)

-- the controller is on top, and is looked at first; a running sponsor last
starts_in_order : ((on SponsorStart (n 1 ∷ n 2 ∷ [])).outcome ≡ Faults not_actor) × ((on SponsorStart (Cap 6 ∷ n 2 ∷ [])).outcome ≡ Faults not_sponsor) × ((on SponsorStart (Cap 6 ∷ Cap 0 ∷ [])).outcome ≡ Faults is_running)
unfolding look_up
starts_in_order = (refl, refl, refl)

starts : on SponsorStart (Cap 6 ∷ Cap 8 ∷ []) ≡ record { charge = charge 1 1; outcome = Goes (record { pops = 2; made = EventSlot (Cap 0) (Cap 6) undef ∷ []; pushed = []; goes_to = Rom 17; effect = Starts (Cap 8) (Cap 11) }) }
unfolding look_up
starts = refl

started_and_stopped : (prepared (sheet_after sheet (Cap 0) (Starts (Cap 8) (Cap 11))) (Cap 8) ≡ Some (Cap 11)) × (sheet_after (sheet_after sheet (Cap 0) (Starts (Cap 8) (Cap 11))) (Cap 0) (Stops (Cap 8)) ≡ sheet)
started_and_stopped = (refl, refl)

reclaims : sheet_after granted (Cap 0) (Reclaims (Cap 8)) ≡ record (root 10) { memory = record { received = 14; passed = 4; spent = 0; held = 10 }; cycles = record { received = 10; passed = 0; spent = 1; held = 9 } } ∷ record child { memory = record { received = 4; passed = 4; spent = 0; held = 0 } } ∷ []
reclaims = refl

-- the kinds are looked at in order: cycles, memory, events
short_in_order : (short child (charge 1 1) ≡ Some Cycles) × (short (record child { cycles = holding 1 }) (charge 1 1) ≡ Some Memory) × (short (record child { cycles = holding 1; memory = holding 1 }) (charge 1 1) ≡ Some Events) × (short (record child { cycles = holding 1 }) (charge 0 0) ≡ None)
short_in_order = (refl, refl, refl, refl)

-- ---- the first five instructions of a module that starts a sponsor

abbrev instr : ℕ → W → ℕ → Quad
instr k v next = record { t = instr_t; x = n k; y = v; z = Rom next }

abbrev spin : Seen
spin = record {
  rom = instr 24 (n 0) 17 ∷ instr 0 (n 1000) 18 ∷ instr 24 (n 1) 19 ∷ instr 0 (n 50) 20 ∷ instr 24 (n 3) 21 ∷ [];
  slots = boot;
}

record Point : Type 0 where
  store : Seen
  sheet : List Account
  lane : Lane

-- one instruction that goes on
abbrev goes_on : Point → Charge → Outcome → Point
goes_on p c (Goes g) = record { store = (after_going p.store p.lane.stack g).0; sheet = sheet_after (spend p.sheet (Cap 0) c) (Cap 0) g.effect; lane = gone p.store p.lane g }
goes_on p c (Faults w) = p
goes_on p c Commits = p

abbrev instruction : Point → Point
instruction p = goes_on p (lane_row p.store p.sheet p.lane).charge (lane_row p.store p.sheet p.lane).outcome

abbrev first_five : Point
unfolding look_up
first_five = instruction (instruction (instruction (instruction (instruction (record { store = spin; sheet = root 2000 ∷ []; lane = begun 0 own })))))

-- after them the new sponsor is the one item, and the root paid 5 cycles and 5 quads and passed on 1,000 quads and 50 cycles
started : (values first_five.lane.stack ≡ Cap 8 ∷ []) × (first_five.lane.code ≡ Rom 21) × (first_five.sheet ≡ record (root 2000) { memory = record { received = 2000; passed = 1000; spent = 5; held = 995 }; cycles = record { received = 2000; passed = 50; spent = 5; held = 1945 } } ∷ record child { memory = record { received = 1000; passed = 0; spent = 0; held = 1000 }; cycles = record { received = 50; passed = 0; spent = 0; held = 50 } } ∷ [])
unfolding look_up
started = (refl, refl, refl)
