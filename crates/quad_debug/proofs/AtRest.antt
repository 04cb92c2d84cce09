-- Whether a machine is at rest, by its queue.
use Rattle.std.proofs.Common.{◌≡◌, ℕ, suc, ◌+◌, ◌<◌, nat_eq, List, [], ◌∷◌, length, Option, Some, None, Bool, true, false, if◌then◌else◌, ap, refl, sym, ◌∙◌, subst, inl, inr, arith}
use Rattle.std.specs.Prelude.{slice_get, option_map, is_none, ◌&&◌}
use Rattle.std.proofs.lemmas.Bool.Decides.{nat_tests}
use Rattle.cap_words.specs.Words.{W, Fix, Rom, Ram, Cap}
use Rattle.cap_words.specs.Store.{Store}
use Rattle.cap_words.specs.Seen.{SponsorSlot, seen}
use Rattle.cap_words.specs.Frame.{Among}
use Rattle.cap_words.specs.declared.word.Tag.TheVariants.{SponsorHeld}
use Rattle.cap_words.proofs.Erased.{slot-seen}
use Rattle.quad_memory.specs.declared.cells.SponsorCell.{SponsorCell}
use Rattle.quad_memory.specs.Memory.{Memory}
use Rattle.quad_memory.specs.Cells.{sponsor_at}
use Rattle.quad_memory.proofs.Typed.{sponsor-quads}
use Rattle.instr_table.specs.Lane.{Lane as Flying}
use Rattle.vm_sponsor.specs.declared.amounts.Amounts.{Amounts}
use Rattle.vm_sponsor.specs.Ledger.{Ledger}
use Rattle.vm_sponsor.specs.Totals.{sponsors}
use Rattle.vm_sponsor.specs.Sheets.{Belongs, sheet_of}
use Rattle.vm_sponsor.proofs.Rows.{sponsors-sheet_of}
use Rattle.vm_step.specs.Step.{sheet_in}
use Rattle.vm_turn.specs.State.{Message, State}
use Rattle.vm_turn.specs.Turn.{is_in_flight, first_to_go}
use Rattle.vm_turn.specs.Run.{run, picks}
use Rattle.vm_turn.specs.Sound.{Sound, Has, HasAll, numbers}
use Rattle.vm_turn.proofs.RunsSound.{run-sound}
use Rattle.event_queue.specs.Pending.{Pending}
use Rattle.event_queue.specs.Starts.{first_ready}
use Rattle.event_queue.specs.Waiting.{message_of, IsListed}
use Rattle.event_queue.proofs.FirstToGo.{first-ready_goes_first}
use Rattle.vm_machine.specs.Machine.{Machine, drawn_run}
use Rattle.vm_machine.specs.Messages.{kept_from, unfinished}
use Rattle.vm_machine.specs.View.{unwritten}
use Rattle.quad_debug.specs.Obeys.{is_empty, is_at_rest}
use Rattle.quad_debug.proofs.Waiting.{Tells, stands-for}

-- ---- every machine's state is sound

-- what was written has no part in it
pub unwritten-sound : (grant : Amounts) (s : State) → Sound grant s → Sound grant (unwritten s)
unwritten-sound grant s ok = record {
  conserved = ok.conserved;
  balanced = ok.balanced;
  quads = ok.quads;
  ended = ok.ended;
  paid_for = ok.paid_for;
  rising = ok.rising;
  apart = ok.apart;
  pending = ok.pending;
  listed = ok.listed;
  sponsors_apart = ok.sponsors_apart;
  sponsors_taken = ok.sponsors_taken;
  once = ok.once;
  events_taken = ok.events_taken;
}

pub sound-at : (m : Machine) (n : ℕ) → m.state ≡ drawn_run m.image m.grant m.state.lanes m.seed n → Sound m.grant m.state
sound-at m n run_is = subst (Sound m.grant) (sym run_is) (unwritten-sound m.grant (run m.image m.grant m.state.lanes (picks m.seed n)) (run-sound m.image m.grant m.state.lanes (picks m.seed n)))

-- ---- messages in flight have numbers that were given

kept-below : (keep : ℕ → Bool) (n k : ℕ) (ws : List W) → Has (kept_from keep n ws) k → k < n + length ws
kept-below keep n k [] h = absurd h
kept-below keep n k (w ∷ ws) h = by (keep n) h (kept-below keep (suc n) k ws)
  where
    by : (b : Bool) → Has (if b then record { number = n; event = w } ∷ kept_from keep (suc n) ws else kept_from keep (suc n) ws) k → (Has (kept_from keep (suc n) ws) k → k < suc n + length ws) → k < n + length (w ∷ ws)
    by true (inl e) later = omega (arith, e)
    by true (inr g) later = let r = later g in omega (arith, r)
    by false g later = let r = later g in omega (arith, r)

-- where no number that was given is in flight nothing is
pub none-flies : (grant : Amounts) (q : Pending) (s : State) → Sound grant s → Tells q s → ((k : ℕ) → k < length q.given → is_in_flight k s.flight ≡ false) → is_empty s.flight ≡ true
none-flies grant q s ok t none = by s.flight refl
  where
    by : (flight : List Flying) → s.flight ≡ flight → is_empty flight ≡ true
    by [] e = refl
    by (l ∷ ls) e =
        let all : HasAll s.messages (numbers (l ∷ ls)) = subst (λ (f : List Flying). HasAll s.messages (numbers f)) e ok.pending in
        let there : Has (unfinished q.given q.ready s.flight) l.number = subst (λ (ms : List Message). Has ms l.number) (sym t.messages) all.0 in
        let below = kept-below _ 0 l.number q.given there in
        let no : is_in_flight l.number (l ∷ ls) ≡ false = subst (λ (f : List Flying). is_in_flight l.number f ≡ false) e (none l.number (omega (arith, below))) in
        let same : nat_eq l.number l.number ≡ true = grind (arith, nat_tests) in
        let yes : is_in_flight l.number (l ∷ ls) ≡ true = rw same refl in
        absurd (contradict (sym yes ∙ no))
      where
        contradict : true ≡ false → ⊥
        contradict x = cc

-- where a number is in flight something is
pub some-flies : (k : ℕ) (flight : List Flying) → is_in_flight k flight ≡ true → is_empty flight ≡ false
some-flies k [] h = cc
some-flies k (l ∷ ls) h = refl

-- ---- sponsors

cell-slot : (s : Store) (w : W) (c : SponsorCell) → sponsor_at s w ≡ Some c → (n : ℕ) × (w ≡ Cap n) × (slice_get (seen s).slots n ≡ Some SponsorSlot)
cell-slot s (Fix n) c h = cc
cell-slot s (Rom n) c h = cc
cell-slot s (Ram n) c h = cc
cell-slot s (Cap n) c h =
    let q = sponsor-quads s (Cap n) c h in
    (n, refl, slot-seen s SponsorHeld (Cap n) q.0 q.2)

-- what a machine tells of its sheet and its quads
pub record Holds (quads : Memory) (sheet : Ledger) (s : State) : Type 0 where
  pub store : seen quads.store ≡ s.store
  pub sheet_is : sheet_in quads sheet ≡ s.sheet
  pub belongs : Belongs quads.store sheet

listed : (grant : Amounts) (quads : Memory) (sheet : Ledger) (s : State) → Sound grant s → Holds quads sheet s → IsListed quads.store sheet
listed grant quads sheet s ok h = λ w c there.
    let slot = cell-slot quads.store w c there in
    let seen_there : slice_get s.store.slots slot.0 ≡ Some SponsorSlot = ap (λ x. slice_get x.slots slot.0) (sym h.store) ∙ slot.2 in
    let among : Among (Cap slot.0) (sponsors (sheet_of quads.store sheet.rows)) = subst (λ x. Among (Cap slot.0) (sponsors x)) (sym h.sheet_is) (ok.listed slot.0 seen_there) in
    subst (λ (ws : List W). Among w ws) (sponsors-sheet_of quads.store sheet.rows) (subst (λ (v : W). Among v (sponsors (sheet_of quads.store sheet.rows))) (sym slot.1) among)

-- ---- rest

map-none : {A B : Type 0} (f : A → B) (o : Option A) → is_none (option_map f o) ≡ is_none o
map-none f None = refl
map-none f (Some x) = refl

-- the machine is at rest where nothing is in flight and no ready message can start
pub at-rest : (grant : Amounts) (quads : Memory) (sheet : Ledger) (q : Pending) (s : State) → Sound grant s → Holds quads sheet s → Tells q s
    → (is_empty s.flight && is_none (first_ready quads.store q.given q.ready)) ≡ is_at_rest s
at-rest grant quads sheet q s ok h t =
    let first = first-ready_goes_first quads.store sheet s.flight s.messages q h.belongs (listed grant quads sheet s ok h) (stands-for q s t) in
    let there : is_none (first_to_go s.store s.sheet s.flight s.messages) ≡ is_none (first_ready quads.store q.given q.ready) =
    (λ i. is_none (first_to_go (sym h.store i) (sym h.sheet_is i) s.flight s.messages)) ∙ ap is_none first ∙ map-none (message_of q.given) (first_ready quads.store q.given q.ready) in
    ap (λ (b : Bool). is_empty s.flight && b) (sym there)
