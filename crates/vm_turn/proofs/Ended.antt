-- After a turn that ends an event in flight its actor is idle.
use Rattle.std.proofs.Common.{◌≡◌, ℕ, ◌%◌, List, [], ◌∷◌, ◌++◌, length, Option, Some, None, refl, ap, sym, subst, ◌∙◌, arith, length-append}
use Rattle.std.specs.Prelude.{slice_get, remove, pos}
use Rattle.cap_words.specs.Words.{W, Fix}
use Rattle.cap_words.specs.Frame.{Among}
use Rattle.cap_words.proofs.Places.{get-seam}
use Rattle.instr_table.specs.declared.charge.Quota.{Quota}
use Rattle.instr_table.specs.Event.{Effects, no_effects}
use Rattle.instr_table.specs.Sheet.{Account, stop, prepared}
use Rattle.instr_table.specs.Lane.{Lane}
use Rattle.vm_sponsor.specs.declared.amounts.Amounts.{Amounts}
use Rattle.vm_effects.specs.Gathered.{made_words}
use Rattle.vm_turn.specs.declared.journal.Entry.{Entry}
use Rattle.vm_turn.specs.declared.journal.Outcome.{Outcome as End}
use Rattle.vm_turn.specs.declared.journal.Outcome.TheVariants.{Committed, Failed, RanOut}
use Rattle.vm_turn.specs.State.{State}
use Rattle.vm_turn.specs.Turn.{entry, finish, released, run_out, turn}
use Rattle.vm_turn.specs.Run.{run}
use Rattle.vm_turn.specs.Sound.{Sound, FlightSound}
use Rattle.vm_turn.specs.Roll.{NoEventOf, RollSound, IsResting, EndedActorsRest}
use Rattle.vm_turn.proofs.Sums.{some_is}
use Rattle.vm_turn.proofs.Numbers.{rest-other}
use Rattle.vm_turn.proofs.Bound.{dispatchable-chosen}
use Rattle.vm_turn.proofs.Places.{other-at, flight-numbers}
use Rattle.vm_turn.proofs.Rights.{at-removed, released-flight}
use Rattle.vm_turn.proofs.RunsSound.{run-sound}
use Rattle.vm_turn.proofs.Sponsors.{among-left}
use Rattle.vm_turn.proofs.TurnCases.{IsPicked, paid_for, turn-by}
use Rattle.vm_turn.proofs.FlightActors.{every-by, lane-has, flight-actors, run-flight}
use Rattle.vm_turn.proofs.Rolls.{turn-roll, run-roll}

-- ---- the last entry of a journal

not-longer : (es : List Entry) (e : Entry) → es ≡ es ++ e ∷ [] → ⊥
not-longer es e h =
    let a : length es ≡ length (es ++ e ∷ []) = ap (λ (xs : List Entry). length xs) h in
    let b = length-append es (e ∷ []) in
    omega (arith, a, b)

last-number : (es : List Entry) (n k : ℕ) (a b : End) → es ++ entry n a ∷ [] ≡ es ++ entry k b ∷ [] → n ≡ k
last-number es n k a b h =
    let same : Some (entry n a) ≡ Some (entry k b) = sym (get-seam es [] (entry n a)) ∙ (ap (λ (xs : List Entry). slice_get xs (length es)) h ∙ get-seam es [] (entry k b)) in
    ap (λ (e : Entry). e.message) (some_is same)

released-journal : (o : Option W) (kind : Quota) (u : State) → (released o kind u).journal ≡ u.journal
released-journal None kind u = refl
released-journal (Some w) kind u = refl

released-actors : (o : Option W) (kind : Quota) (u : State) → (released o kind u).roll ≡ u.roll
released-actors None kind u = refl
released-actors (Some w) kind u = refl

module _ {grant : Amounts} (s : State) (ok : Sound grant s) (flies : FlightSound s) (r : RollSound s) where
  -- no other event in flight has the actor of one
  none-left : (i : ℕ) (l : Lane) → slice_get s.flight i ≡ Some l → NoEventOf l.own.actor (remove s.flight i)
  none-left i l at = every-by (λ (k : Lane). k.own.actor ≡ l.own.actor → ⊥) (remove s.flight i) each
    where
      each : (j : ℕ) (k : Lane) → slice_get (remove s.flight i) j ≡ Some k → k.own.actor ≡ l.own.actor → ⊥
      each j k there e =
          let p = at-removed s.flight i j k there in
          let place = flight-actors s ok flies p.0 i k l p.1 at e in
          let same : k ≡ l = some_is (sym p.1 ∙ (ap (λ (q : ℕ). slice_get s.flight q) place ∙ at)) in
          other-at l.number (remove s.flight i) j k (rest-other s.flight i l at ok.apart) there (ap (λ (x : Lane). x.number) same)

  rests-in : (t : State) (i : ℕ) (l : Lane) → slice_get s.flight i ≡ Some l → t.flight ≡ remove s.flight i → ((w : W) → Among w s.roll → Among w t.roll) → RollSound t → IsResting t l.own.actor
  rests-in t i l at flight roll sound =
      let none = subst (λ (ls : List Lane). NoEventOf l.own.actor ls) (sym flight) (none-left i l at) in
      let on = r.named l.own.actor (l.own.code, l.own.state, Fix (pos l.number), (lane-has s ok flies i l at).busy) in
      (sound.idle l.own.actor (sound.committed l.own.actor (roll l.own.actor on)) none, none)

  finish-rests : (i : ℕ) (l : Lane) (sheet : List Account) (x : Effects) (end : End) → slice_get s.flight i ≡ Some l → RollSound (finish s i l sheet x end) → IsResting (finish s i l sheet x end) l.own.actor
  finish-rests i l sheet x end at sound = rests-in (finish s i l sheet x end) i l at refl (λ w a. among-left w s.roll (made_words x.created) a) sound

  run_out-rests : (t : State) (i : ℕ) (l : Lane) (kind : Quota) → slice_get s.flight i ≡ Some l → t.flight ≡ (run_out s i l kind).flight → t.roll ≡ (run_out s i l kind).roll → RollSound t → IsResting t l.own.actor
  run_out-rests t i l kind at flight roll sound =
      let u = finish s i l (stop s.sheet l.own.sponsor) no_effects (RanOut kind) in
      let o = prepared s.sheet l.own.sponsor in
      rests-in t i l at (flight ∙ released-flight o kind u) (λ w a. subst (λ (ws : List W). Among w ws) (sym (roll ∙ released-actors o kind u)) (among-left w s.roll [] a)) sound

  module _ (place : ℕ) (l : Lane) (at : slice_get s.flight place ≡ Some l) (end : End) (pick : ℕ) where
    abbrev i : ℕ
    i = pick % length s.flight

    -- the event with that number is the one that the pick chose
    its : (t : State) (k : Lane) → IsPicked s pick k → k.number ≡ l.number → IsResting t k.own.actor → IsResting t l.own.actor
    its t k there e rests =
        let p = flight-numbers s ok i place k l there at e in
        let same : k ≡ l = some_is (sym there ∙ (ap (λ (q : ℕ). slice_get s.flight q) p ∙ at)) in
        subst (λ (x : Lane). IsResting t x.own.actor) same rests

    run_out-journal : (k : Lane) (kind : Quota) → (run_out s i k kind).journal ≡ s.journal ++ entry k.number (RanOut kind) ∷ []
    run_out-journal k kind = released-journal (prepared s.sheet k.own.sponsor) kind (finish s i k (stop s.sheet k.own.sponsor) no_effects (RanOut kind))

    pub actor-rests : RollSound (turn s pick).0 → (turn s pick).0.journal ≡ s.journal ++ entry l.number end ∷ [] → IsResting (turn s pick).0 l.own.actor
    actor-rests = turn-by s pick (λ t a. RollSound t → t.journal ≡ s.journal ++ entry l.number end ∷ [] → IsResting t l.own.actor) (record {
      spent = λ kind out sound h. absurd (not-longer s.journal (entry l.number end) h);
      rests = λ run waits none sound h. absurd (not-longer s.journal (entry l.number end) h);
      begins = λ m d sound h. absurd (not-longer s.journal (entry l.number end) h);
      writes = λ m device bytes d e sound h. absurd (other-at m.number s.flight place l (dispatchable-chosen s m d.first).other at (sym (last-number s.journal m.number l.number _ end h)));
      refuses = λ m device d e sound h. absurd (other-at m.number s.flight place l (dispatchable-chosen s m d.first).other at (sym (last-number s.journal m.number l.number _ end h)));
      goes = λ k g there paid is sound h. absurd (not-longer s.journal (entry l.number end) h);
      fails = λ k w there paid is sound h. its (finish s i k (paid_for s k) no_effects (Failed w)) k there (last-number s.journal k.number l.number (Failed w) end h) (finish-rests i k (paid_for s k) no_effects (Failed w) there sound);
      commits = λ k there paid is sound h. its (finish s i k (paid_for s k) k.effects Committed) k there (last-number s.journal k.number l.number Committed end h) (finish-rests i k (paid_for s k) k.effects Committed there sound);
      runs_out = λ k kind there lacks other sound h. its (run_out s i k kind) k there (last-number s.journal k.number l.number (RanOut kind) end (sym (run_out-journal k kind) ∙ h)) (run_out-rests (run_out s i k kind) i k kind there refl refl sound);
      root_runs_out = λ k kind there lacks same run sound h.
          let t = record (run_out s i k kind) { out_of = Some kind } in
          its t k there (last-number s.journal k.number l.number (RanOut kind) end (sym (run_out-journal k kind) ∙ h)) (run_out-rests t i k kind there refl refl sound);
    })

pub ended-actors-rest : EndedActorsRest
ended-actors-rest image grant lanes picks pick place lane end at h =
    let s = run image grant lanes picks in
    let ok = run-sound image grant lanes picks in
    let flies = run-flight image grant lanes picks in
    let r = run-roll image grant lanes picks in
    actor-rests s ok flies r place lane at end pick (turn-roll s ok flies r pick) h
