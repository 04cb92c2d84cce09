-- Worked runs of small images.
use Rattle.std.proofs.Common.{◌≡◌, ℕ, suc, pos, negsuc, List, [], ◌∷◌, ◌++◌, replicate, Option, Some, None, slice_get, refl, ◌∙◌}
use Rattle.std.specs.Prelude.{map, codes}
use Rattle.std.specs.Fmt.{digits}
use Rattle.std.proofs.Math.Utf8.{encode}
use Rattle.cap_words.specs.declared.word.Quad.{Quad}
use Rattle.cap_words.specs.Words.{Fix, Rom, Ram, Cap, undef, nil, actor_t, symbol_t}
use Rattle.cap_words.specs.Seen.{Seen}
use Rattle.quad_memory.specs.Image.{RomImage}
use Rattle.vm_sponsor.specs.declared.amounts.Amounts.{Amounts}
use Rattle.instr_table.specs.declared.charge.Quota.TheVariants.{Cycles}
use Rattle.instr_table.specs.declared.op.Op.{Op}
use Rattle.instr_table.specs.declared.op.Op.TheVariants.{Push, Dup, Pick, Roll, Msg, State, My, QuadMake, Get, ActorSend, ActorPost, ActorCreate, ActorBecome, End, SponsorNew, SponsorGrant, SponsorStart, Debug}
use Rattle.instr_table.specs.Types.{look_up}
use Rattle.instr_table.specs.Lists.{pair_quad}
use Rattle.instr_table.specs.Spelling.{spelled}
use Rattle.instr_table.specs.Sheet.{Amount, Account, Running, Stopped, account}
use Rattle.instr_table.specs.Lane.{Lane, begun}
use Rattle.vm_turn.specs.declared.journal.Entry.{Entry}
use Rattle.vm_turn.specs.declared.journal.Outcome.TheVariants.{Committed, Failed, RanOut}
use Rattle.vm_turn.specs.declared.journal.Turn.{Turn as Answer}
use Rattle.vm_turn.specs.declared.journal.Turn.TheVariants.{Dispatched, Stepped, Finished, Rest, Spent}
use Rattle.vm_turn.specs.State.{State as Machine}
use Rattle.vm_turn.specs.Boot.{booted}
use Rattle.vm_turn.specs.Piece.{tree_to, numbers_to, piece}
use Rattle.vm_turn.specs.Turn.{entry, turn}
use Rattle.vm_turn.specs.Run.{after, run, answers, completed, picks}
use Rattle.vm_turn.specs.Authority.{EventOf, made_since, posted_next, handed_on}

-- an image that begins with its first cell
abbrev image : List Quad → RomImage
image cells = record { boot = Rom 16; cells = cells }

abbrev grant : ℕ → ℕ → ℕ → Amounts
grant memory events cycles = record { memory = memory; events = events; cycles = cycles }

abbrev zeros : ℕ → List ℕ
zeros n = replicate n 0

-- ---- one instruction

abbrev one : RomImage
one = image (spelled (End (pos 1)) undef ∷ [])

commits : answers (booted one (grant 10 10 10) 1) (zeros 3) ≡ Dispatched ∷ Finished (entry 0 Committed) ∷ Rest ∷ []
commits = refl

-- with no cycle the root runs out, and stays so
runs_out : answers (booted one (grant 10 10 0) 1) (zeros 3) ≡ Dispatched ∷ Spent (Cap 0) Cycles ∷ Spent (Cap 0) Cycles ∷ []
runs_out = refl

runs_out_once : (run one (grant 10 10 0) 1 (zeros 3)).journal ≡ entry 0 (RanOut Cycles) ∷ []
runs_out_once = refl

-- a boot word that names a pair
fails : answers (booted (image (pair_quad nil nil ∷ [])) (grant 10 10 10) 1) (zeros 3) ≡ Dispatched ∷ Finished (entry 0 (Failed (Fix (pos 16)))) ∷ Rest ∷ []
fails = refl

-- ---- devices

abbrev at_boot : Machine
at_boot = booted one (grant 10 10 10) 1

refuses_a_number : piece 1 at_boot.store (Fix (pos 5)) ≡ None
unfolding piece tree_to look_up
refuses_a_number = refl

prints_a_number : piece 0 at_boot.store (Fix (negsuc 41)) ≡ Some (45 ∷ 52 ∷ 50 ∷ 10 ∷ [])
unfolding piece tree_to look_up digits
prints_a_number = refl

prints_a_list : piece 0 at_boot.store (Ram 5) ≡ Some (codes "(@, @, NIL)" ++ 10 ∷ [])
unfolding piece tree_to look_up
prints_a_list = refl

-- a pair that is its own tail is no finite tree
refuses_a_loop : piece 0 (record { rom = pair_quad nil (Rom 16) ∷ []; slots = [] }) (Rom 16) ≡ None
unfolding piece tree_to look_up
refuses_a_loop = refl

abbrev letters : Seen
letters = record { rom = pair_quad (Fix (pos 104)) (Rom 17) ∷ pair_quad (Fix (pos 228)) nil ∷ record { t = symbol_t; x = Rom 16; y = undef; z = undef } ∷ record { t = symbol_t; x = Rom 20; y = undef; z = undef } ∷ pair_quad (Fix (pos 104)) nil ∷ record { t = symbol_t; x = Rom 22; y = undef; z = undef } ∷ pair_quad (Fix (pos 40)) nil ∷ []; slots = [] }

says_in_utf8 : piece 1 letters (Rom 16) ≡ Some (104 ∷ 195 ∷ 164 ∷ 10 ∷ [])
unfolding piece tree_to look_up encode
says_in_utf8 = refl

-- a name has visible bytes alone
prints_symbols : piece 0 letters (Rom 18) ≡ Some (codes "^" ++ 10 ∷ [])
unfolding piece tree_to look_up numbers_to
prints_symbols = refl

prints_a_symbol : piece 0 letters (Rom 19) ≡ Some (codes "#h" ++ 10 ∷ [])
unfolding piece tree_to look_up numbers_to
prints_a_symbol = refl

-- nor a delimiter
prints_no_delimiter : piece 0 letters (Rom 21) ≡ Some (codes "^" ++ 10 ∷ [])
unfolding piece tree_to look_up numbers_to
prints_no_delimiter = refl

-- ---- what is told of a run: the output, the journal, and what the root has spent

record Told : Type 0 where
  output : List ℕ
  journal : List Entry
  memory : ℕ
  events : ℕ
  cycles : ℕ

abbrev told_by : Account → Machine → Told
told_by a s = record { output = s.output; journal = s.journal; memory = a.memory.spent; events = a.events.spent; cycles = a.cycles.spent }

abbrev told : Machine → Told
told s = told_by (account s.sheet (Cap 0)) s

abbrev tells : List ℕ → List Entry → ℕ → ℕ → ℕ → Told
tells output journal memory events cycles = record { output = output; journal = journal; memory = memory; events = events; cycles = cycles }

-- instructions from the first cell on, each naming the one after it
abbrev listing_from : ℕ → List Op → List Quad
listing_from k [] = []
listing_from k (op ∷ ops) = spelled op (Rom (suc k)) ∷ listing_from (suc k) ops

abbrev listing : List Op → RomImage
listing ops = image (listing_from 16 ops)

abbrev p : ℕ → Op
p k = Push (Fix (pos k))

-- ---- words cannot be made out of numbers

abbrev looks_inside : Machine
looks_inside = run (listing (p 5 ∷ Get (pos 0) ∷ State (pos 1) ∷ ActorSend ∷ End (pos 1) ∷ [])) (grant 100 10 100) 1 (zeros 8)

writes_no_word : told looks_inside ≡ tells (codes "?" ++ 10 ∷ []) (entry 0 Committed ∷ entry 1 Committed ∷ []) 4 1 5
unfolding piece tree_to look_up
writes_no_word = refl

abbrev makes_an_actor : Machine
makes_an_actor = run (listing (p 5 ∷ Push actor_t ∷ QuadMake (pos 2) ∷ State (pos 1) ∷ ActorSend ∷ End (pos 1) ∷ [])) (grant 100 10 100) 1 (zeros 9)

writes_no_actor : told makes_an_actor ≡ tells (codes "?" ++ 10 ∷ []) (entry 0 Committed ∷ entry 1 Committed ∷ []) 6 1 6
unfolding piece tree_to look_up
writes_no_actor = refl

-- a created actor whose code is a device's number is no device
abbrev creates : RomImage
creates = listing (p 7 ∷ Push nil ∷ p 0 ∷ ActorCreate ∷ ActorSend ∷ End (pos 1) ∷ [])

abbrev poses_as_a_device : Machine
poses_as_a_device = run creates (grant 100 10 100) 1 (zeros 10)

writes_nothing : told poses_as_a_device ≡ tells [] (entry 0 Committed ∷ entry 1 (Failed (Fix (pos 16))) ∷ []) 6 1 7
unfolding piece tree_to look_up
writes_nothing = refl

-- ---- what was gathered is dropped

abbrev runs_out_before_the_end : Machine
runs_out_before_the_end = run (listing (Push nil ∷ Push (Rom 16) ∷ ActorCreate ∷ End (pos 1) ∷ [])) (grant 100 10 3) 1 (zeros 7)

creates_no_actor : told runs_out_before_the_end ≡ tells [] (entry 0 (RanOut Cycles) ∷ []) 4 0 3
unfolding look_up
creates_no_actor = refl

keeps_the_roll : runs_out_before_the_end.roll ≡ Cap 6 ∷ Cap 2 ∷ Cap 3 ∷ []
unfolding look_up
keeps_the_roll = refl

abbrev aborts : Machine
aborts = run (listing (p 1 ∷ My (pos 0) ∷ ActorSend ∷ p 9 ∷ End (negsuc 0) ∷ [])) (grant 100 10 100) 1 (zeros 8)

fails_with_nine : told aborts ≡ tells [] (entry 0 (Failed (Fix (pos 9))) ∷ []) 4 1 5
unfolding look_up
fails_with_nine = refl

sends_no_message : aborts.messages ≡ []
unfolding look_up
sends_no_message = refl

-- ---- longer runs

-- what follows an answer, once that is looked at
abbrev once_told : Answer → (Unit {0} → Machine) → Machine
once_told Dispatched next = next tt
once_told Stepped next = next tt
once_told (Finished e) next = next tt
once_told Rest next = next tt
once_told (Spent sponsor kind) next = next tt

-- the state after turns with these picks, each of which is taken before the next one
unfoldable watched : Machine → List ℕ → Machine
watched s [] = s
watched s (p ∷ ps) = once_told (turn s p).1 (λ u. watched (turn s p).0 ps)

once_told-is : (a : Answer) (next : Unit {0} → Machine) → once_told a next ≡ next tt
once_told-is Dispatched next = refl
once_told-is Stepped next = refl
once_told-is (Finished e) next = refl
once_told-is Rest next = refl
once_told-is (Spent sponsor kind) next = refl

watched-is : (s : Machine) (ps : List ℕ) → watched s ps ≡ after s ps
unfolding watched
watched-is s [] = refl
watched-is s (p ∷ ps) = once_told-is (turn s p).1 (λ u. watched (turn s p).0 ps) ∙ watched-is (turn s p).0 ps

-- ---- a sponsor that runs out, and its controller

-- a sponsor gets so much memory and so many cycles; the event under it takes the last instructions, from cell 39 on
abbrev spin_with : ℕ → ℕ → List Quad → RomImage
spin_with memory cycles loop = image (
    spelled SponsorNew (Rom 17) ∷
    spelled (p memory) (Rom 18) ∷
    spelled (SponsorGrant (pos 1)) (Rom 19) ∷
    spelled (p cycles) (Rom 20) ∷
    spelled (SponsorGrant (pos 3)) (Rom 21) ∷
    spelled (Dup (pos 1)) (Rom 22) ∷
    spelled (My (pos 0)) (Rom 23) ∷
    spelled SponsorStart (Rom 24) ∷
    spelled (p 0) (Rom 25) ∷
    spelled (Roll (negsuc 1)) (Rom 26) ∷
    spelled (Push nil) (Rom 27) ∷
    spelled (Push (Rom 39)) (Rom 28) ∷
    spelled ActorCreate (Rom 29) ∷
    spelled (Roll (pos 2)) (Rom 30) ∷
    spelled ActorPost (Rom 31) ∷
    spelled (My (pos 2)) (Rom 32) ∷
    spelled (Push (Rom 35)) (Rom 33) ∷
    spelled ActorBecome (Rom 34) ∷
    spelled (End (pos 1)) undef ∷
    spelled (Msg (pos 0)) (Rom 36) ∷
    spelled (State (pos 1)) (Rom 37) ∷
    spelled ActorSend (Rom 38) ∷
    spelled (End (pos 1)) undef ∷
    loop)

abbrev spin : RomImage
spin = spin_with 1000 50 (spelled Debug (Rom 39) ∷ [])

abbrev spin_start : Machine
spin_start = booted spin (grant 1048576 65536 16777216) 1

abbrev spun : Machine
spun = watched spin_start (zeros 80)

spin-tells : told spun ≡ tells (codes "3" ++ 10 ∷ []) (entry 0 Committed ∷ entry 1 (RanOut Cycles) ∷ entry 2 Committed ∷ entry 3 Committed ∷ []) 23 3 23
unfolding piece tree_to look_up digits watched
spin-tells = refl

spin-leaves_no_message : spun.messages ≡ []
unfolding piece tree_to look_up watched
spin-leaves_no_message = refl

spin-turns : completed spin_start (zeros 80) ≡ 78
unfolding piece tree_to look_up
spin-turns = refl

abbrev amount : ℕ → ℕ → ℕ → ℕ → Amount
amount received passed spent held = record { received = received; passed = passed; spent = spent; held = held }

spin-amounts : spun.sheet ≡
    record { sponsor = Cap 0; memory = amount 1048576 1000 23 1047553; events = amount 65536 0 3 65533; cycles = amount 16777216 50 23 16777143; standing = Running None } ∷
    record { sponsor = Cap 8; memory = amount 1000 0 0 1000; events = amount 0 0 0 0; cycles = amount 50 0 50 0; standing = Stopped } ∷ []
unfolding piece tree_to look_up watched
spin-amounts = refl

-- a sponsor without memory, and one without events
abbrev pushes : Machine
pushes = watched (booted (spin_with 2 50 (spelled (p 1) (Rom 39) ∷ [])) (grant 1000 100 1000) 1) (zeros 40)

pushes-tells : pushes.output ≡ codes "1" ++ 10 ∷ []
unfolding piece tree_to look_up digits watched
pushes-tells = refl

abbrev sends : Machine
sends = watched (booted (spin_with 9 50 (spelled (p 1) (Rom 40) ∷ spelled (My (pos 0)) (Rom 41) ∷ spelled ActorSend undef ∷ [])) (grant 1000 100 1000) 1) (zeros 40)

sends-tells : sends.output ≡ codes "2" ++ 10 ∷ []
unfolding piece tree_to look_up digits watched
sends-tells = refl

-- a device that refuses
abbrev says_a_number : Machine
says_a_number = run (listing (p 5 ∷ State (pos 2) ∷ ActorSend ∷ End (pos 1) ∷ [])) (grant 100 10 100) 1 (zeros 8)

refuses_the_number : told says_a_number ≡ tells [] (entry 0 Committed ∷ entry 1 (Failed (Fix (pos 8))) ∷ []) 3 1 4
unfolding piece tree_to look_up
refuses_the_number = refl

-- ---- three lanes

-- two actors are created, and each gets a number that it hands on to `println`
abbrev two_workers : RomImage
two_workers = listing (
    State (pos 1) ∷ Push (Rom 29) ∷ ActorCreate ∷ p 7 ∷ Roll (pos 2) ∷ ActorSend ∷
    State (pos 1) ∷ Push (Rom 29) ∷ ActorCreate ∷ p 8 ∷ Roll (pos 2) ∷ ActorSend ∷
    End (pos 1) ∷ Msg (pos 0) ∷ My (pos 2) ∷ ActorSend ∷ End (pos 1) ∷ [])

abbrev numbers : List Lane → List ℕ
numbers ls = map (λ (l : Lane). l.number) ls

abbrev both : Machine
both = watched (booted two_workers (grant 100 10 100) 3) (zeros 16)

both_in_flight : numbers both.flight ≡ 1 ∷ 2 ∷ []
unfolding piece tree_to look_up watched
both_in_flight = refl

-- the picks 1, 3, 5 and 7 are of the second of two lanes
abbrev second_first : Machine
second_first = watched both (1 ∷ 3 ∷ 5 ∷ 7 ∷ zeros 7)

second_ends_first : map (λ (e : Entry). e.message) second_first.journal ≡ 0 ∷ 2 ∷ 3 ∷ 1 ∷ 4 ∷ []
unfolding piece tree_to look_up watched
second_ends_first = refl

second_writes_first : second_first.output ≡ codes "8" ++ 10 ∷ codes "7" ++ 10 ∷ []
unfolding piece tree_to look_up digits watched
second_writes_first = refl

both_create : second_first.roll ≡ Cap 6 ∷ Cap 2 ∷ Cap 3 ∷ Cap 10 ∷ Cap 18 ∷ []
unfolding piece tree_to look_up watched
both_create = refl

-- with one lane the second worker waits for the first
abbrev one_lane : Machine
one_lane = watched (booted two_workers (grant 100 10 100) 1) (zeros 16)

one_in_flight : numbers one_lane.flight ≡ 1 ∷ []
unfolding piece tree_to look_up watched
one_in_flight = refl

-- ---- a stopped sponsor

-- a message under a sponsor that was never started
abbrev under_a_stopped_one : Machine
under_a_stopped_one = run (listing (p 7 ∷ My (pos 0) ∷ SponsorNew ∷ ActorPost ∷ End (pos 1) ∷ [])) (grant 100 10 100) 1 (zeros 9)

its_message_waits : told under_a_stopped_one ≡ tells [] (entry 0 Committed ∷ []) 6 1 5
unfolding look_up
its_message_waits = refl

-- ---- a busy actor

-- the first actor sends two messages to itself and then one to `println`, and takes another code
abbrev two_to_itself : RomImage
two_to_itself = listing (
    p 1 ∷ My (pos 0) ∷ ActorSend ∷ p 2 ∷ My (pos 0) ∷ ActorSend ∷ p 3 ∷ State (pos 1) ∷ ActorSend ∷
    Push nil ∷ Push (Rom 29) ∷ ActorBecome ∷ End (pos 1) ∷ Debug ∷ End (pos 1) ∷ [])

abbrev waited : Machine
waited = watched (booted two_to_itself (grant 100 10 100) 3) (zeros 22)

-- the second message waits for its actor while the first is in flight
abbrev waiting : Machine
waiting = watched (booted two_to_itself (grant 100 10 100) 3) (zeros 16)

first_in_flight : numbers waiting.flight ≡ 1 ∷ []
unfolding piece tree_to look_up watched
first_in_flight = refl

-- and the third goes before it
later_goes_before : map (λ (e : Entry). e.message) waited.journal ≡ 0 ∷ 3 ∷ 1 ∷ 2 ∷ []
unfolding piece tree_to look_up watched
later_goes_before = refl

-- ---- picks

first_picks : picks 0 3 ≡ 15470 ∷ 18256 ∷ 53708 ∷ []
first_picks = refl

-- ---- an event in a run

abbrev lane_or : Option Lane → Lane
lane_or None = begun 0 (record { sponsor = undef; actor = undef; code = undef; state = undef; message = undef })
lane_or (Some l) = l

-- the first actor creates one and sends it a message; this is its event, dispatched in the first turn, after five instructions
abbrev first_lane : Lane
first_lane = lane_or (slice_get (after (turn (booted creates (grant 100 10 100) 1) 0).0 (zeros 5)).flight 0)

first_event : EventOf creates (grant 100 10 100) 1
unfolding look_up
first_event = record { before = []; message = record { number = 0; event = Cap 7 }; chosen = refl; pick = 0; begins = refl; since = zeros 5; place = 0; lane = first_lane; flies = refl; number_is = refl }

it_commits : (turn (after (turn (booted creates (grant 100 10 100) 1) 0).0 (zeros 5)) 0).1 ≡ Finished (entry 0 Committed)
unfolding look_up
it_commits = refl

it_made_an_actor : made_since (turn (booted creates (grant 100 10 100) 1) 0).0 0 (zeros 5) ≡ Cap 11 ∷ []
unfolding look_up
it_made_an_actor = refl

it_hands_on : handed_on (turn (after (turn (booted creates (grant 100 10 100) 1) 0).0 (zeros 5)) 0).0.store first_lane ≡ Ram 5 ∷ Rom 16 ∷ Cap 11 ∷ Rom 1 ∷ Fix (pos 0) ∷ Cap 11 ∷ Fix (pos 7) ∷ []
unfolding look_up
it_hands_on = refl

-- the first actor starts a sponsor, and posts its word to a new actor under it; the event of that message, which that sponsor pays for,
-- posts under it again
abbrev posts_twice : RomImage
posts_twice = listing (
    SponsorNew ∷ p 10 ∷ SponsorGrant (pos 1) ∷ p 10 ∷ SponsorGrant (pos 2) ∷ p 10 ∷ SponsorGrant (pos 3) ∷
    Dup (pos 1) ∷ My (pos 0) ∷ SponsorStart ∷ Push nil ∷ Push (Rom 32) ∷ ActorCreate ∷ Pick (pos 2) ∷ ActorPost ∷ End (pos 1) ∷
    p 7 ∷ My (pos 0) ∷ Msg (pos 0) ∷ ActorPost ∷ End (pos 1) ∷ [])

-- before its fourth instruction
abbrev before_its_post : Machine
before_its_post = watched (booted posts_twice (grant 100 50 100) 1) (zeros 21)

names_its_payer : map (λ (l : Lane). l.own.sponsor ∷ posted_next before_its_post l) before_its_post.flight ≡ (Cap 8 ∷ Cap 8 ∷ []) ∷ []
unfolding look_up watched
names_its_payer = refl

its_post_goes_on : (turn before_its_post 0).1 ≡ Stepped
unfolding look_up watched
its_post_goes_on = refl
