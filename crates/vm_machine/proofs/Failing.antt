-- A machine after an event ended without effects.
use Rattle.std.proofs.Common.{◌≡◌, ℕ, ◌+◌, ◌<◌, ◌≤◌, List, [], ◌∷◌, ◌++◌, length, Option, Some, None, false, ap, ap₂, refl, sym, ◌∙◌, subst, arith, pos, vec_len}
use Rattle.std.specs.Prelude.{remove, slice_get, vec_capacity}
use Rattle.std.specs.Global.{Vec}
use Rattle.std.proofs.lemmas.List.{length-map}
use Rattle.std.proofs.lemmas.List.Sums.{sum_by-remove}
use Rattle.std.proofs.lemmas.Option.{slice_get_within}
use Rattle.cap_words.specs.Words.{W, Fix, undef}
use Rattle.cap_words.specs.Store.{used, cap_place}
use Rattle.cap_words.specs.Seen.{Seen, Slot, ActorSlot, seen, altered}
use Rattle.cap_words.specs.Frame.{Framed}
use Rattle.quad_memory.specs.Memory.{Memory}
use Rattle.instr_table.specs.Event.{no_effects}
use Rattle.instr_table.specs.Lane.{Lane as Flying}
use Rattle.instr_table.specs.Reach.{Every}
use Rattle.vm_sponsor.specs.Ledger.{names}
use Rattle.vm_turn.specs.declared.journal.Entry.{Entry}
use Rattle.vm_turn.specs.declared.journal.Outcome.{Outcome}
use Rattle.vm_turn.specs.Actors.{at_actor, remade, resting}
use Rattle.vm_turn.specs.Turn.{entry, finish, without}
use Rattle.vm_step.specs.declared.lane.Lane.{Lane}
use Rattle.vm_step.specs.Flight.{own_at, lane_of}
use Rattle.vm_step.specs.Step.{sheet_in}
use Rattle.vm_machine.specs.declared.parts.Parts.{Parts}
use Rattle.vm_machine.specs.Messages.{unfinished}
use Rattle.vm_machine.specs.Flight.{flight_of, Flies, Separate, Pairwise}
use Rattle.vm_machine.specs.View.{state_of}
use Rattle.vm_machine.specs.Whole.{Kept, cycles_spent, created_in}
use Rattle.vm_machine.proofs.Lists.{pairs-removed, pairs-at, map-removed, get-map}
use Rattle.vm_machine.proofs.Still.{separate-turned}
use Rattle.vm_machine.proofs.Left.{Stayed, stayed}
use Rattle.vm_machine.proofs.Keeping.{Quiet}
use Rattle.vm_machine.proofs.Ends.{Differs, unfinished-left, separate-differs}
use Rattle.vm_machine.proofs.Ended.{actor-changed, flies-at, others-flown}

-- fewer events in flight created no more actors
pub created-removed : (ls : List Flying) (i : ℕ) → i < length ls → created_in (remove ls i) ≤ created_in ls
created-removed [] i h = absurd (omega arith)
created-removed (l ∷ ls) i h = let r = sum_by-remove (λ (k : Flying). length k.effects.created) (l ∷ ls) i l h in omega (arith, r)

pub append-none : {A : Type 0} (xs : List A) → xs ++ [] ≡ xs
append-none [] = refl
append-none {A = A} (x ∷ xs) = ap (λ (ys : List A). x ∷ ys) (append-none xs)

module _ (p : Parts) (place : ℕ) (lane : Lane) (e : slice_get p.flight.items place ≡ Some lane) (k : Kept p) (after : Memory) (flight : Vec Lane) (journal : Vec Entry) (end : Outcome) (x y : W)
    (frame : Framed p.quads.store after.store ((own_at (seen p.quads.store) lane.event).actor ∷ []))
    (seen_is : seen after.store ≡ altered (seen p.quads.store) (cap_place (own_at (seen p.quads.store) lane.event).actor) (ActorSlot x y undef))
    (room : after.room ≡ p.quads.room)
    (items : flight.items ≡ remove p.flight.items place) (len : vec_len flight + 1 ≡ vec_len p.flight) (capacity : vec_capacity p.flight ≤ vec_capacity flight)
    (entries : journal.items ≡ p.journal.items ++ entry lane.number end ∷ []) (journal_len : vec_len journal ≡ vec_len p.journal + 1) (journal_capacity : vec_capacity p.journal ≤ vec_capacity journal) where
  abbrev s : Seen
  s = seen p.quads.store

  abbrev actor : W
  actor = (own_at s lane.event).actor

  abbrev failed : Parts
  failed = record p { quads = after; flight = flight; journal = journal; stuck = false }

  abbrev flies : Flies p.quads.store (names p.sheet.rows) p.queue.given p.queue.ready lane
  flies = flies-at p place lane e k

  rest : Stayed p.quads.store after.store (names p.sheet.rows) p.queue.given p.queue.ready (remove p.flight.items place)
  rest = stayed p.quads.store after.store (names p.sheet.rows) p.queue.given p.queue.ready (remove p.flight.items place) (others-flown p place lane e k after frame) (pairs-removed (Separate p.quads.store) p.flight.items place k.apart)

  changed-quiet : Quiet p.quads after p.sheet
  changed-quiet = (actor-changed p.quads after p.sheet actor flies.busy.0 flies.busy.1 (Fix (pos lane.number)) x y undef k.books frame flies.busy.2 seen_is room).quiet

  used-same : used after.store ≡ used p.quads.store
  used-same = (actor-changed p.quads after p.sheet actor flies.busy.0 flies.busy.1 (Fix (pos lane.number)) x y undef k.books frame flies.busy.2 seen_is room).used_is

  -- the events that are left
  pub left-flight : flight_of after.store flight.items ≡ remove (flight_of p.quads.store p.flight.items) place
  left-flight = ap (flight_of after.store) items ∙ rest.flight ∙ map-removed (lane_of p.quads.store) (lane_of p.quads.store) p.flight.items place same
    where
      same : Every (λ (l : Lane). lane_of p.quads.store l ≡ lane_of p.quads.store l) (remove p.flight.items place)
      same = all (remove p.flight.items place)
        where
          all : (ls : List Lane) → Every (λ (l : Lane). lane_of p.quads.store l ≡ lane_of p.quads.store l) ls
          all [] = tt
          all (l ∷ ls) = (refl, all ls)

  pub kept-failed : Kept failed
  kept-failed = record {
    books = changed-quiet.books;
    transfers = (let c : cycles_spent (sheet_in after p.sheet) ≡ cycles_spent (sheet_in p.quads p.sheet) = ap cycles_spent changed-quiet.sheet_is in omega (arith, c, k.transfers));
    flying = subst (λ (ls : List Lane). Every (Flies after.store (names p.sheet.rows) p.queue.given p.queue.ready) ls) (sym items) rest.flying;
    apart = subst (λ (ls : List Lane). Pairwise (Separate after.store) ls) (sym items) rest.apart;
    granted = k.granted;
    some_lanes = k.some_lanes;
    lanes_limit = k.lanes_limit;
    few = omega (arith, k.few, len);
    flight_room = omega (arith, k.flight_room, capacity);
    queue_room = k.queue_room;
    counts = omega (arith, k.counts, len, journal_len);
    given_room = k.given_room;
    ascending = k.ascending;
    journal_room = omega (arith, k.journal_room, journal_capacity);
    actors = (
        let within : place < length (flight_of p.quads.store p.flight.items) = (let w = slice_get_within p.flight.items place lane e in omega (arith, w, length-map p.flight.items (lane_of p.quads.store))) in
        let fewer = created-removed (flight_of p.quads.store p.flight.items) place within in
        let new : created_in (flight_of after.store flight.items) ≡ created_in (remove (flight_of p.quads.store p.flight.items) place) = ap created_in left-flight in
        omega (arith, fewer, new, used-same, k.actors));
    used_room = omega (arith, used-same, room, k.used_room);
    roll_room = omega (arith, room, k.roll_room);
    known = k.known;
  }

  -- the messages that are left
  pub left-messages : unfinished p.queue.given p.queue.ready (flight_of after.store flight.items) ≡ without lane.number (unfinished p.queue.given p.queue.ready (flight_of p.quads.store p.flight.items))
  left-messages =
      ap (unfinished p.queue.given p.queue.ready) left-flight
      ∙ unfinished-left p.queue.given p.queue.ready (flight_of p.quads.store p.flight.items) place (lane_of p.quads.store lane) (get-map (lane_of p.quads.store) p.flight.items place lane e) flies.taken
      (subst (λ (ls : List Flying). Every (Differs lane.number) ls) (ap (flight_of after.store) (sym items) ∙ left-flight)
      (subst (λ (ls : List Flying). Every (Differs lane.number) ls) (sym rest.flight)
      (separate-differs p.quads.store lane (remove p.flight.items place) (pairs-at (Separate p.quads.store) p.flight.items place lane (separate-turned p.quads.store) e k.apart))))

  -- so the state is the one without the event
  pub state-failed : x ≡ (flies-at p place lane e k).busy.0 → y ≡ (flies-at p place lane e k).busy.1 → state_of failed ≡ finish (state_of p) place (lane_of p.quads.store lane) (sheet_in p.quads p.sheet) no_effects end
  state-failed ex ey =
      let st : seen after.store ≡ at_actor s actor (resting None) = seen_is ∙ ap₂ (λ (a b : W). altered s (cap_place actor) (ActorSlot a b undef)) ex ey ∙ sym (ap (λ (o : Option Slot). remade o (resting None) actor s) flies.busy.2) in
      let ro = sym (append-none p.roll.items) in
      let me = left-messages ∙ sym (append-none (without lane.number (unfinished p.queue.given p.queue.ready (flight_of p.quads.store p.flight.items)))) in
      let nu : length p.queue.given ≡ length p.queue.given + 0 = omega arith in
      let fl = left-flight in
      let sh = changed-quiet.sheet_is in
      let jo = entries in
      λ j. record (state_of p) {
        store = st j;
        roll = ro j;
        messages = me j;
        next_number = nu j;
        flight = fl j;
        sheet = sh j;
        journal = jo j;
      }
