-- Each event in flight was dispatched in the run.
use Rattle.std.proofs.Common.{◌≡◌, ◌⊎◌, inl, inr, ℕ, ◌%◌, List, [], ◌∷◌, ◌++◌, length, Some, refl, sym, ap, subst, ◌∙◌, append-nil, append_assoc}
use Rattle.std.specs.Prelude.{slice_get, remove}
use Rattle.quad_memory.specs.Image.{RomImage}
use Rattle.instr_table.specs.declared.charge.Quota.{Quota}
use Rattle.instr_table.specs.Event.{no_effects}
use Rattle.instr_table.specs.Sheet.{prepared, stop}
use Rattle.instr_table.specs.Lane.{Lane, begun, gone}
use Rattle.vm_sponsor.specs.declared.amounts.Amounts.{Amounts}
use Rattle.vm_turn.specs.declared.journal.Outcome.TheVariants.{RanOut}
use Rattle.vm_turn.specs.declared.journal.Turn.{Turn as Answer}
use Rattle.vm_turn.specs.declared.journal.Turn.TheVariants.{Dispatched}
use Rattle.vm_turn.specs.State.{Message, State}
use Rattle.vm_turn.specs.Boot.{booted}
use Rattle.vm_turn.specs.Actors.{sent_at}
use Rattle.vm_turn.specs.Turn.{dispatchable, own_of, finish, turn}
use Rattle.vm_turn.specs.Run.{after, run}
use Rattle.vm_turn.specs.Authority.{EventOf, EventsHaveBegun}
use Rattle.vm_turn.proofs.TurnCases.{turn-by}
use Rattle.vm_turn.proofs.Rights.{at-removed, at-set, at-end, released-flight}
use Rattle.vm_turn.proofs.Runs.{after-append}

-- ---- a turn

module _ (s : State) (pick : ℕ) where
  -- an event of that number was in flight
  abbrev WasThere : ℕ → Type 0
  WasThere number = (q : ℕ) × (l : Lane) × (slice_get s.flight q ≡ Some l) × (l.number ≡ number)

  -- each event in flight after a turn was there before, or is the one that the turn dispatched
  abbrev IsFrom : State → Answer → Type 0
  IsFrom t a = (place : ℕ) (lane : Lane) → slice_get t.flight place ≡ Some lane → WasThere lane.number ⊎ ((m : Message) × (dispatchable s ≡ Some m) × (a ≡ Dispatched) × (lane.number ≡ m.number))

  there : (a : Answer) → IsFrom s a
  there a place lane at = inl (place, lane, at, refl)

  from-begin : (m : Message) → dispatchable s ≡ Some m → (place : ℕ) (lane : Lane) → (begun m.number (own_of s.store (sent_at s.store m.event)) ≡ lane) ⊎ (slice_get s.flight place ≡ Some lane) → WasThere lane.number ⊎ ((k : Message) × (dispatchable s ≡ Some k) × (Dispatched ≡ Dispatched) × (lane.number ≡ k.number))
  from-begin m is place lane (inl e) = inr (m, is, refl, ap (λ (x : Lane). x.number) (sym e))
  from-begin m is place lane (inr old) = inl (place, lane, old, refl)

  from-removed : (a : Answer) (i place : ℕ) (lane : Lane) → slice_get (remove s.flight i) place ≡ Some lane → WasThere lane.number ⊎ ((m : Message) × (dispatchable s ≡ Some m) × (a ≡ Dispatched) × (lane.number ≡ m.number))
  from-removed a i place lane at = let p = at-removed s.flight i place lane at in inl (p.0, lane, p.1, refl)

  from-set : (a : Answer) (i : ℕ) (l new : Lane) → slice_get s.flight i ≡ Some l → new.number ≡ l.number → (place : ℕ) (lane : Lane) → (new ≡ lane) ⊎ (slice_get s.flight place ≡ Some lane) → WasThere lane.number ⊎ ((m : Message) × (dispatchable s ≡ Some m) × (a ≡ Dispatched) × (lane.number ≡ m.number))
  from-set a i l new at same place lane (inl e) = inl (i, l, at, sym same ∙ ap (λ (x : Lane). x.number) e)
  from-set a i l new at same place lane (inr old) = inl (place, lane, old, refl)

  -- the state in which a prepared signal is released
  abbrev ended : Lane → Quota → State
  ended l kind = finish s (pick % length s.flight) l (stop s.sheet l.own.sponsor) no_effects (RanOut kind)

  turn-from : IsFrom (turn s pick).0 (turn s pick).1
  turn-from = turn-by s pick IsFrom (record {
    spent = λ kind out. there _;
    rests = λ run waits none. there _;
    begins = λ m d place lane at. from-begin m d.first place lane (at-end s.flight place (begun m.number (own_of s.store (sent_at s.store m.event))) lane at);
    writes = λ m device bytes d e. there _;
    refuses = λ m device d e. there _;
    goes = λ l g at paid is place lane h. from-set _ (pick % length s.flight) l (gone s.store l g) at refl place lane (at-set s.flight (pick % length s.flight) place (gone s.store l g) lane h);
    fails = λ l w at paid is place lane h. from-removed _ (pick % length s.flight) place lane h;
    commits = λ l at paid is place lane h. from-removed _ (pick % length s.flight) place lane h;
    runs_out = λ l kind at lacks other place lane h. from-removed _ (pick % length s.flight) place lane (subst (λ (ls : List Lane). slice_get ls place ≡ Some lane) (released-flight (prepared s.sheet l.own.sponsor) kind (ended l kind)) h);
    root_runs_out = λ l kind at lacks same run place lane h. from-removed _ (pick % length s.flight) place lane (subst (λ (ls : List Lane). slice_get ls place ≡ Some lane) (released-flight (prepared s.sheet l.own.sponsor) kind (ended l kind)) h);
  })

-- ---- a run

module _ (image : RomImage) (grant : Amounts) (lanes : ℕ) where
  -- an event of the run with these picks
  abbrev Event : List ℕ → ℕ → Lane → Type 0
  Event ps place lane = (e : EventOf image grant lanes) × (e.lane ≡ lane) × (e.place ≡ place) × (e.before ++ e.pick ∷ e.since ≡ ps)

  abbrev AllBegan : List ℕ → Type 0
  AllBegan ps = (place : ℕ) (lane : Lane) → slice_get (run image grant lanes ps).flight place ≡ Some lane → Event ps place lane

  run-more : (ps : List ℕ) (p : ℕ) → run image grant lanes (ps ++ p ∷ []) ≡ (turn (run image grant lanes ps) p).0
  run-more ps p = after-append (booted image grant lanes) ps (p ∷ [])

  module _ (ps : List ℕ) (p : ℕ) (h : AllBegan ps) (place : ℕ) (lane : Lane) (at : slice_get (turn (run image grant lanes ps) p).0.flight place ≡ Some lane) where
    -- the event goes on
    later : WasThere (run image grant lanes ps) p lane.number → Event (ps ++ p ∷ []) place lane
    later w =
        let b = h w.0 w.1 w.2 in
        let e = b.0 in
        let s = (turn (run image grant lanes e.before) e.pick).0 in
        let here : run image grant lanes ps ≡ after s e.since = ap (λ (qs : List ℕ). run image grant lanes qs) (sym b.3) ∙ after-append (booted image grant lanes) e.before (e.pick ∷ e.since) in
        let now : (turn (run image grant lanes ps) p).0 ≡ after s (e.since ++ p ∷ []) = ap (λ (t : State). (turn t p).0) here ∙ sym (after-append s e.since (p ∷ [])) in
        let number : lane.number ≡ e.message.number = sym w.3 ∙ (ap (λ (x : Lane). x.number) (sym b.1) ∙ e.number_is) in
        let all : e.before ++ e.pick ∷ (e.since ++ p ∷ []) ≡ ps ++ p ∷ [] = sym (append_assoc e.before (e.pick ∷ e.since) (p ∷ [])) ∙ ap (λ (qs : List ℕ). qs ++ p ∷ []) b.3 in (
          record {
            before = e.before;
            message = e.message;
            chosen = e.chosen;
            pick = e.pick;
            begins = e.begins;
            since = e.since ++ p ∷ [];
            place = place;
            lane = lane;
            flies = subst (λ (t : State). slice_get t.flight place ≡ Some lane) now at;
            number_is = number;
          },
          refl,
          refl,
          all,
        )

    -- it begins in this turn
    first : (m : Message) → dispatchable (run image grant lanes ps) ≡ Some m → (turn (run image grant lanes ps) p).1 ≡ Dispatched → lane.number ≡ m.number → Event (ps ++ p ∷ []) place lane
    first m chosen begins number = (record { before = ps; message = m; chosen = chosen; pick = p; begins = begins; since = []; place = place; lane = lane; flies = at; number_is = number }, refl, refl, refl)

    began-next : Event (ps ++ p ∷ []) place lane
    began-next = by (turn-from (run image grant lanes ps) p place lane at)
      where
        by : WasThere (run image grant lanes ps) p lane.number ⊎ ((m : Message) × (dispatchable (run image grant lanes ps) ≡ Some m) × ((turn (run image grant lanes ps) p).1 ≡ Dispatched) × (lane.number ≡ m.number)) → Event (ps ++ p ∷ []) place lane
        by (inl w) = later w
        by (inr n) = first n.0 n.1 n.2 n.3

  all-began : (done rest : List ℕ) → AllBegan done → AllBegan (done ++ rest)
  all-began done [] h = subst AllBegan (sym (append-nil done)) h
  all-began done (p ∷ rest) h =
      let next : AllBegan (done ++ p ∷ []) = λ place lane at. began-next done p h place lane (subst (λ (t : State). slice_get t.flight place ≡ Some lane) (run-more done p) at) in
      subst AllBegan (append_assoc done (p ∷ []) rest) (all-began (done ++ p ∷ []) rest next)

  none-began : AllBegan []
  none-began place lane at = cc

pub events-have_begun : EventsHaveBegun
events-have_begun image grant lanes picks place lane at = all-began image grant lanes [] picks (none-began image grant lanes) place lane at
