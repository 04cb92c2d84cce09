-- What a turn makes of the store, where the image stays and no code comes into RAM; and that the events in flight fit the lanes.
use Rattle.std.proofs.Common.{◌≡◌, ◌⊎◌, inl, inr, ℕ, zero, suc, ◌≤◌, ◌<◌, ◌%◌, Bool, true, false, List, [], ◌∷◌, length, Option, Some, None, refl, ap, sym, subst, ◌∙◌, arith, nat_lt, if◌then◌else◌, length-append}
use Rattle.std.specs.Prelude.{slice_get, remove}
use Rattle.std.proofs.lemmas.Bool.Decides.{nat_tests}
use Rattle.cap_words.specs.declared.word.Quad.{Quad}
use Rattle.cap_words.specs.Words.{W}
use Rattle.cap_words.specs.Seen.{Seen, open_in}
use Rattle.quad_memory.specs.Image.{RomImage}
use Rattle.instr_table.specs.declared.charge.Quota.{Quota}
use Rattle.instr_table.specs.Code.{fetched_in}
use Rattle.instr_table.specs.Event.{Effects, no_effects}
use Rattle.instr_table.specs.Sheet.{Account, prepared, stop}
use Rattle.instr_table.specs.Outcome.{Going, Goes}
use Rattle.instr_table.specs.Lane.{Lane, begun, lane_row, gone, after_going}
use Rattle.instr_table.specs.Making.{NoCodeInRam}
use Rattle.instr_table.proofs.Makings.{keeps-code_out}
use Rattle.vm_sponsor.specs.declared.amounts.Amounts.{Amounts}
use Rattle.vm_turn.specs.declared.journal.Outcome.{Outcome as End}
use Rattle.vm_turn.specs.declared.journal.Outcome.TheVariants.{Committed, Failed, RanOut}
use Rattle.vm_turn.specs.State.{Message, State}
use Rattle.vm_turn.specs.Actors.{sent_at}
use Rattle.vm_turn.specs.Turn.{first_to_go, dispatchable, own_of, finish, released, run_out, turn}
use Rattle.vm_turn.specs.Boot.{booted}
use Rattle.vm_turn.specs.Run.{after}
use Rattle.vm_turn.specs.Image.{ImagesStay, CodeStaysInImages, FlightsFitLanes}
use Rattle.vm_turn.proofs.Slots.{Alike, alike-refl, alike-then, alike-busy, alike-settled}
use Rattle.vm_turn.proofs.TurnCases.{paid_for, turn-by}
use Rattle.vm_turn.proofs.Sums.{length-removed, length-set}
use Rattle.vm_turn.proofs.Rights.{released-alike, released-flight}
use Rattle.vm_turn.proofs.Actors.{going-rom}

-- an instruction goes on, or no readable cell comes and the image stays
abbrev pub StoreFrom : State → State → Type 0
StoreFrom s t = Alike s.store t.store ⊎ ((l : Lane) × (g : Going) × ((lane_row s.store s.sheet l).outcome ≡ Goes g) × (t.store ≡ (after_going s.store l.stack g).0))

finish-alike : (s : State) (i : ℕ) (l : Lane) (sheet : List Account) (x : Effects) (end : End) → Alike s.store (finish s i l sheet x end).store
finish-alike s i l sheet x end = alike-settled s.store l.own.actor x

run_out-alike : (s : State) (i : ℕ) (l : Lane) (kind : Quota) → Alike s.store (run_out s i l kind).store
run_out-alike s i l kind =
    let t = finish s i l (stop s.sheet l.own.sponsor) no_effects (RanOut kind) in
    alike-then s.store t.store (run_out s i l kind).store (alike-settled s.store l.own.actor no_effects) (released-alike (prepared s.sheet l.own.sponsor) kind t)

pub turn-store : (s : State) (pick : ℕ) → StoreFrom s (turn s pick).0
turn-store s pick = turn-by s pick (λ t a. StoreFrom s t) (record {
  spent = λ kind out. inl (alike-refl s.store);
  rests = λ run waits none. inl (alike-refl s.store);
  begins = λ m d. inl (alike-busy s.store (sent_at s.store m.event).target m.number);
  writes = λ m device bytes d e. inl (alike-refl s.store);
  refuses = λ m device d e. inl (alike-refl s.store);
  goes = λ l g at paid is. inr (l, g, is, refl);
  fails = λ l w at paid is. inl (finish-alike s (pick % length s.flight) l (paid_for s l) no_effects (Failed w));
  commits = λ l at paid is. inl (finish-alike s (pick % length s.flight) l (paid_for s l) l.effects Committed);
  runs_out = λ l kind at lacks other. inl (run_out-alike s (pick % length s.flight) l kind);
  root_runs_out = λ l kind at lacks same run. inl (run_out-alike s (pick % length s.flight) l kind);
})

-- ---- the image

pub turn-rom : (s : State) (pick : ℕ) → (turn s pick).0.store.rom ≡ s.store.rom
turn-rom s pick = by (turn-store s pick)
  where
    by : StoreFrom s (turn s pick).0 → (turn s pick).0.store.rom ≡ s.store.rom
    by (inl a) = a.rom_is
    by (inr r) = ap (λ (x : Seen). x.rom) r.3 ∙ going-rom s.store r.0.stack r.1

pub after-rom : (s : State) (ps : List ℕ) → (after s ps).store.rom ≡ s.store.rom
after-rom s [] = refl
after-rom s (p ∷ ps) = after-rom (turn s p).0 ps ∙ turn-rom s p

pub run-rom : ImagesStay
run-rom image grant lanes picks = after-rom (booted image grant lanes) picks

-- ---- code

alike-code_out : (s t : Seen) → Alike s t → NoCodeInRam s → NoCodeInRam t
alike-code_out s t a out n = by (open_in (slice_get t.slots n)) refl
  where
    by : (o : Option Quad) → open_in (slice_get t.slots n) ≡ o → fetched_in o ≡ None
    by None e = refl
    by (Some q) e = sym (ap fetched_in (a.cells_of n q e)) ∙ out n

pub turn-code_out : (s : State) (pick : ℕ) → NoCodeInRam s.store → NoCodeInRam (turn s pick).0.store
turn-code_out s pick out = by (turn-store s pick)
  where
    by : StoreFrom s (turn s pick).0 → NoCodeInRam (turn s pick).0.store
    by (inl a) = alike-code_out s.store (turn s pick).0.store a out
    by (inr r) = subst NoCodeInRam (sym r.3) (keeps-code_out s.store s.sheet r.0 r.1 r.2 out)

pub after-code_out : (s : State) (ps : List ℕ) → NoCodeInRam s.store → NoCodeInRam (after s ps).store
after-code_out s [] out = out
after-code_out s (p ∷ ps) out = after-code_out (turn s p).0 ps (turn-code_out s p out)

-- no quad that boot takes spells an operation
pub boot-code_out : (image : RomImage) (grant : Amounts) (lanes : ℕ) → NoCodeInRam (booted image grant lanes).store
boot-code_out image grant lanes zero = refl
boot-code_out image grant lanes (suc zero) = refl
boot-code_out image grant lanes (suc (suc zero)) = refl
boot-code_out image grant lanes (suc (suc (suc zero))) = refl
boot-code_out image grant lanes (suc (suc (suc (suc zero)))) = refl
boot-code_out image grant lanes (suc (suc (suc (suc (suc zero))))) = refl
boot-code_out image grant lanes (suc (suc (suc (suc (suc (suc zero)))))) = refl
boot-code_out image grant lanes (suc (suc (suc (suc (suc (suc (suc zero))))))) = refl
boot-code_out image grant lanes (suc (suc (suc (suc (suc (suc (suc (suc n)))))))) = refl

pub run-code_out : CodeStaysInImages
run-code_out image grant lanes picks = after-code_out (booted image grant lanes) picks (boot-code_out image grant lanes)

-- ---- lanes

released-lanes : (o : Option W) (kind : Quota) (u : State) → (released o kind u).lanes ≡ u.lanes
released-lanes None kind u = refl
released-lanes (Some w) kind u = refl

run_out-lanes : (s : State) (i : ℕ) (l : Lane) (kind : Quota) → (run_out s i l kind).lanes ≡ s.lanes
run_out-lanes s i l kind = released-lanes (prepared s.sheet l.own.sponsor) kind (finish s i l (stop s.sheet l.own.sponsor) no_effects (RanOut kind))

pub turn-lanes : (s : State) (pick : ℕ) → (turn s pick).0.lanes ≡ s.lanes
turn-lanes s pick = turn-by s pick (λ t a. t.lanes ≡ s.lanes) (record {
  spent = λ kind out. refl;
  rests = λ run waits none. refl;
  begins = λ m d. refl;
  writes = λ m device bytes d e. refl;
  refuses = λ m device d e. refl;
  goes = λ l g at paid is. refl;
  fails = λ l w at paid is. refl;
  commits = λ l at paid is. refl;
  runs_out = λ l kind at lacks other. run_out-lanes s (pick % length s.flight) l kind;
  root_runs_out = λ l kind at lacks same run. run_out-lanes s (pick % length s.flight) l kind;
})

pub after-lanes : (s : State) (ps : List ℕ) → (after s ps).lanes ≡ s.lanes
after-lanes s [] = refl
after-lanes s (p ∷ ps) = after-lanes (turn s p).0 ps ∙ turn-lanes s p

-- a message is dispatched where a lane is free
pub free-lane : (s : State) (m : Message) → dispatchable s ≡ Some m → length s.flight < s.lanes
free-lane s m h = by (nat_lt (length s.flight) s.lanes) refl h
  where
    by : (b : Bool) → nat_lt (length s.flight) s.lanes ≡ b → (if b then first_to_go s.store s.sheet s.flight s.messages else None) ≡ Some m → length s.flight < s.lanes
    by true e g = let y : length s.flight < s.lanes = grind (arith, nat_tests, e) in y
    by false e g = cc

less-flight : (s : State) (i : ℕ) (l : Lane) → slice_get s.flight i ≡ Some l → length s.flight ≤ s.lanes → length (remove s.flight i) ≤ s.lanes
less-flight s i l at h = let k = length-removed s.flight i l at in omega (arith, k, h)

run_out-room : (s : State) (i : ℕ) (l : Lane) (kind : Quota) → slice_get s.flight i ≡ Some l → length s.flight ≤ s.lanes → length (run_out s i l kind).flight ≤ s.lanes
run_out-room s i l kind at h =
    subst (λ (ls : List Lane). length ls ≤ s.lanes) (sym (released-flight (prepared s.sheet l.own.sponsor) kind (finish s i l (stop s.sheet l.own.sponsor) no_effects (RanOut kind)))) (less-flight s i l at h)

turn-room : (s : State) (pick : ℕ) → length s.flight ≤ s.lanes → length (turn s pick).0.flight ≤ s.lanes
turn-room s pick h = turn-by s pick (λ t a. length t.flight ≤ s.lanes) (record {
  spent = λ kind out. h;
  rests = λ run waits none. h;
  begins = λ m d. let a = length-append s.flight (begun m.number (own_of s.store (sent_at s.store m.event)) ∷ []) in let f = free-lane s m d.first in omega (arith, a, f);
  writes = λ m device bytes d e. h;
  refuses = λ m device d e. h;
  goes = λ l g at paid is. let k = length-set s.flight (pick % length s.flight) (gone s.store l g) in omega (arith, k, h);
  fails = λ l w at paid is. less-flight s (pick % length s.flight) l at h;
  commits = λ l at paid is. less-flight s (pick % length s.flight) l at h;
  runs_out = λ l kind at lacks other. run_out-room s (pick % length s.flight) l kind at h;
  root_runs_out = λ l kind at lacks same run. run_out-room s (pick % length s.flight) l kind at h;
})

after-room : (s : State) (ps : List ℕ) → length s.flight ≤ s.lanes → length (after s ps).flight ≤ s.lanes
after-room s [] h = h
after-room s (p ∷ ps) h = let e = turn-lanes s p in let r = turn-room s p h in let k = after-room (turn s p).0 ps (omega (arith, e, r)) in omega (arith, e, k)

pub flights-fit : FlightsFitLanes
flights-fit image grant lanes picks = (after-lanes (booted image grant lanes) picks, after-room (booted image grant lanes) picks (omega arith))
