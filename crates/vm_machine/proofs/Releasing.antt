-- A machine after a prepared signal became a message.
use Rattle.std.proofs.Common.{◌≡◌, inl, inr, ℕ, zero, suc, ◌+◌, ◌<◌, nat_eq, List, [], ◌∷◌, ◌++◌, length, Option, Some, None, Bool, true, false, if◌then◌else◌, ap, refl, sym, ◌∙◌, subst, arith, length-append}
use Rattle.std.specs.Prelude.{slice_get, ◌||◌, option_map}
use Rattle.std.proofs.lemmas.Bool.Decides.{nat_tests}
use Rattle.cap_words.specs.declared.word.Quad.{Quad}
use Rattle.cap_words.specs.declared.word.Tag.TheVariants.{Actor, Event}
use Rattle.cap_words.specs.Words.{W, undef}
use Rattle.cap_words.specs.Store.{Store, opaque_cell, used, cap_place}
use Rattle.cap_words.specs.Seen.{Seen, Slot, EventSlot, seen, slot_seen, altered}
use Rattle.cap_words.specs.Frame.{Among, Framed}
use Rattle.cap_words.proofs.Stores.{opaque_twice}
use Rattle.cap_words.proofs.Erased.{slot-seen, actor-there}
use Rattle.std.proofs.lemmas.List.{length-set}
use Rattle.quad_memory.specs.Memory.{Memory}
use Rattle.quad_memory.specs.Cells.{event_at, event_in}
use Rattle.instr_table.specs.Types.{is_sponsor}
use Rattle.instr_table.specs.Lane.{Lane as Flying}
use Rattle.instr_table.specs.Reach.{Every}
use Rattle.vm_sponsor.specs.Ledger.{names}
use Rattle.vm_sponsor.proofs.Framed.{Aside}
use Rattle.vm_effects.specs.Links.{words_of}
use Rattle.vm_effects.proofs.Chains.{chained-among}
use Rattle.vm_effects.proofs.Records.{own-split, sent_words-read}
use Rattle.vm_turn.specs.Actors.{refilled, with_content}
use Rattle.vm_turn.specs.Turn.{is_in_flight}
use Rattle.vm_turn.specs.Sound.{message_words, sent_by}
use Rattle.vm_step.specs.declared.lane.Lane.{Lane}
use Rattle.vm_step.specs.Flight.{own_at, lane_of, lane_words}
use Rattle.event_queue.specs.Pending.{Pending, appended, numbers_from, IsAscending}
use Rattle.vm_machine.specs.declared.parts.Parts.{Parts}
use Rattle.vm_machine.specs.Messages.{is_among, is_unfinished, kept_from, unfinished}
use Rattle.vm_machine.specs.Flight.{flight_of, Flies}
use Rattle.vm_machine.specs.View.{state_of}
use Rattle.vm_machine.specs.Whole.{Kept, cycles_spent, created_in}
use Rattle.vm_machine.proofs.Lists.{every-more, every-at, get-map}
use Rattle.vm_machine.proofs.Messages.{unfinished-append, or-true}
use Rattle.vm_machine.proofs.Standing.{ascending-appended}
use Rattle.vm_machine.proofs.Still.{Flown}
use Rattle.vm_machine.proofs.Left.{Opaque, framed-flown, Stayed, stayed}
use Rattle.vm_machine.proofs.Keeping.{Quiet, quiet, sponsor-altered, used-same}
use Rattle.vm_machine.proofs.Ended.{slot-at}
use Rattle.vm_machine.proofs.Committing.{flies-given}

-- a fact of each element by its place
pub every-in : {A : Type 0} (P : A → Type 0) (xs : List A) → ((i : ℕ) (x : A) → slice_get xs i ≡ Some x → P x) → Every P xs
every-in P [] f = tt
every-in P (x ∷ xs) f = (f 0 x refl, every-in P xs (λ i y h. f (suc i) y h))

-- the event of a message that is kept is among the messages' events
kept-has : (keep : ℕ → Bool) (n : ℕ) (ws : List W) (i : ℕ) (w : W) → slice_get ws i ≡ Some w → keep (n + i) ≡ true → Among w (message_words (kept_from keep n ws))
kept-has keep n [] i w h k = cc
kept-has keep n (v ∷ ws) zero w h k =
    let same : v ≡ w = some h in
    let yes : keep n ≡ true = (let e : n + 0 ≡ n = omega arith in ap keep (sym e) ∙ k) in
    subst (λ (b : Bool). Among w (message_words (if b then record { number = n; event = v } ∷ kept_from keep (suc n) ws else kept_from keep (suc n) ws))) (sym yes) (inl (sym same))
  where
    some : {x y : W} → Some x ≡ Some y → x ≡ y
    some e = cc
kept-has keep n (v ∷ ws) (suc i) w h k = by (keep n) (kept-has keep (suc n) ws i w h (let e : suc n + i ≡ n + suc i = omega arith in ap keep e ∙ k))
  where
    by : (b : Bool) → Among w (message_words (kept_from keep (suc n) ws)) → Among w (message_words (if b then record { number = n; event = v } ∷ kept_from keep (suc n) ws else kept_from keep (suc n) ws))
    by true a = inr a
    by false a = a

in_flight-at : (ls : List Flying) (i : ℕ) (l : Flying) → slice_get ls i ≡ Some l → is_in_flight l.number ls ≡ true
in_flight-at [] i l h = cc
in_flight-at (k ∷ ls) zero l h = let e : nat_eq k.number l.number ≡ true = (let y : k.number ≡ l.number = number h in grind (arith, nat_tests)) in rw e refl
  where
    number_or : Option Flying → ℕ
    number_or None = 0
    number_or (Some x) = x.number

    number : Some k ≡ Some l → k.number ≡ l.number
    number e = ap number_or e
in_flight-at (k ∷ ls) (suc i) l h = by (nat_eq k.number l.number) (in_flight-at ls i l h)
  where
    by : (b : Bool) → is_in_flight l.number ls ≡ true → (if b then true else is_in_flight l.number ls) ≡ true
    by true r = refl
    by false r = r

-- an event in flight is among the events of the unfinished messages
pub flying-message : (s : Store) (sponsors given : List W) (ready : List ℕ) (ls : List Lane) (i : ℕ) (l : Lane) → slice_get ls i ≡ Some l → Flies s sponsors given ready l → Among l.event (message_words (unfinished given ready (flight_of s ls)))
flying-message s sponsors given ready ls i l h f =
    let at : is_in_flight l.number (flight_of s ls) ≡ true = in_flight-at (flight_of s ls) i (lane_of s l) (get-map (lane_of s) ls i l h) in
    kept-has (is_unfinished ready (flight_of s ls)) 0 given l.number l.event f.numbered
    (let e : 0 + l.number ≡ l.number = omega arith in ap (is_unfinished ready (flight_of s ls)) e ∙ ap (λ (b : Bool). is_among l.number ready || b) at ∙ or-true (is_among l.number ready))

-- what the lanes and the books are after an event's content changed
record Filled (p : Parts) (after : Memory) : Type 0 where
  lanes : Every (Flown p.quads.store after.store (names p.sheet.rows) p.queue.given p.queue.ready) p.flight.items
  books : Quiet p.quads after p.sheet
  used_is : used after.store ≡ used p.quads.store

module _ (p : Parts) (k : Kept p) (signal content : W) (after : Memory) (queue : Pending)
    (seen_is : seen after.store ≡ with_content (seen p.quads.store) signal content) (frame : Framed p.quads.store after.store (signal ∷ []))
    (absent : event_at p.quads.store signal ≡ None → after ≡ p.quads) (room : after.room ≡ p.quads.room)
    (queue_is : queue ≡ appended p.queue (signal ∷ [])) (fits : length p.queue.given < p.queue.room)
    (no_message : Among signal (message_words (state_of p).messages) → ⊥) (not_sent : Every (λ (l : Flying). Among signal (sent_by l) → ⊥) (state_of p).flight) where
  abbrev s : Store
  s = p.quads.store

  abbrev sponsors : List W
  sponsors = names p.sheet.rows

  abbrev filled : Parts
  filled = record p { quads = after; queue = queue; stuck = false }

  -- an event that is there
  there : (q : Quad) → opaque_cell s Event signal ≡ Some q → Filled p after
  there q at = record { lanes = every-in (Flown s after.store sponsors p.queue.given p.queue.ready) p.flight.items lane; books = quiet p.quads after p.sheet (signal ∷ []) k.books frame aside same sponsor room; used_is = same }
    where
      slot_is : slot_seen (seen s) signal ≡ Some (EventSlot q.t q.x q.y)
      slot_is = slot-seen s Event signal q at

      change : seen after.store ≡ altered (seen s) (cap_place signal) (EventSlot q.t q.x content)
      change = seen_is ∙ ap (λ (o : Option Slot). refilled o signal content (seen s)) slot_is

      same : used after.store ≡ used s
      same = used-same s after.store (ap (λ (x : Seen). length x.slots) change ∙ length-set (seen s).slots (cap_place signal) (EventSlot q.t q.x content))

      sponsor : (w : W) → is_sponsor (seen after.store) w ≡ is_sponsor (seen s) w
      sponsor w = ap (λ (x : Seen). is_sponsor x w) change ∙ sponsor-altered (seen s) (cap_place signal) (EventSlot q.t q.x q.y) (EventSlot q.t q.x content) (slot-at (seen s) signal (EventSlot q.t q.x q.y) slot_is).1 refl w

      aside : (v : W) → Among v (signal ∷ []) → Aside s v
      aside v (inl e) = record { tag = Event; words = q; there = ap (opaque_cell s Event) e ∙ at; not_held = λ z. cc; not_spent = λ z. cc }
      aside v (inr x) = absurd x

      opaque : Opaque s (signal ∷ [])
      opaque v (inl e) = (Event, q, ap (opaque_cell s Event) e ∙ at, λ z. cc)
      opaque v (inr x) = absurd x

      lane : (i : ℕ) (l : Lane) → slice_get p.flight.items i ≡ Some l → Flown s after.store sponsors p.queue.given p.queue.ready l
      lane i l h = framed-flown s after.store (signal ∷ []) sponsors p.queue.given p.queue.ready l frame opaque f event actor words
        where
          f : Flies s sponsors p.queue.given p.queue.ready l
          f = every-at (Flies s sponsors p.queue.given p.queue.ready) p.flight.items i l h k.flying

          event : Among l.event (signal ∷ []) → ⊥
          event (inl e) = no_message (subst (λ (w : W). Among w (message_words (state_of p).messages)) e (flying-message s sponsors p.queue.given p.queue.ready p.flight.items i l h f))
          event (inr x) = x

          actor : Among (own_at (seen s) l.event).actor (signal ∷ []) → ⊥
          actor (inl e) =
              let a = f.held.actor in
              let there = actor-there s (own_at (seen s) l.event).actor a.0 a.1 a.2 a.3 in
              let twice : Actor ≡ Event = opaque_twice s Actor Event (own_at (seen s) l.event).actor _ q there.1 (ap (opaque_cell s Event) e ∙ at) in
              cc
          actor (inr x) = x

          words : (v : W) → Among v (lane_words s l) → Among v (signal ∷ []) → ⊥
          words v a (inl e) = elim (own-split s l.effects v a) [
            | inl x ↦ every-at (λ (y : Flying). Among signal (sent_by y) → ⊥) (flight_of s p.flight.items) i (lane_of s l) (get-map (lane_of s) p.flight.items i l h) not_sent
                (subst (λ (ws : List W). Among signal ws) (sym (sent_words-read s (words_of (opaque_cell s Event) l.effects.sent))) (subst (λ (w : W). Among w (words_of (opaque_cell s Event) l.effects.sent)) e x))
            | inr x ↦
                let c = chained-among (opaque_cell s Actor) (words_of (opaque_cell s Actor) l.effects.created) v f.held.linked.created.listed.chained x in
                let twice : Actor ≡ Event = opaque_twice s Actor Event v c.0 q c.1 (ap (opaque_cell s Event) e ∙ at) in
                cc
          ]
          words v a (inr x) = x

  -- none there
  gone : after ≡ p.quads → Filled p after
  gone e = subst (λ (m : Memory). Filled p m) (sym e) (record {
    lanes = every-more (Flies s sponsors p.queue.given p.queue.ready) (Flown s s sponsors p.queue.given p.queue.ready) p.flight.items (λ l f. record { flying = refl; flies = f; words = refl }) k.flying;
    books = record { books = k.books; sheet_is = refl };
    used_is = refl;
  })

  filling : Filled p after
  filling = by (opaque_cell s Event signal) refl
    where
      by : (o : Option Quad) → opaque_cell s Event signal ≡ o → Filled p after
      by None h = gone (absent (ap (option_map event_in) h))
      by (Some q) h = there q h

  rest : Stayed s after.store sponsors p.queue.given p.queue.ready p.flight.items
  rest = stayed s after.store sponsors p.queue.given p.queue.ready p.flight.items filling.lanes k.apart

  pub kept-filled : Kept filled
  kept-filled = record {
    books = filling.books.books;
    transfers = (let c = ap cycles_spent filling.books.sheet_is in omega (arith, c, k.transfers));
    flying = subst (λ (q : Pending). Every (Flies after.store sponsors q.given q.ready) p.flight.items) (sym queue_is)
        (every-more (Flies after.store sponsors p.queue.given p.queue.ready) (Flies after.store sponsors (p.queue.given ++ signal ∷ []) (p.queue.ready ++ numbers_from (length p.queue.given) (signal ∷ []))) p.flight.items
        (λ l h. flies-given after.store sponsors p.queue.given p.queue.ready (signal ∷ []) l h) rest.flying);
    apart = rest.apart;
    granted = k.granted;
    some_lanes = k.some_lanes;
    lanes_limit = k.lanes_limit;
    few = k.few;
    flight_room = k.flight_room;
    queue_room = ap (λ (q : Pending). q.room) queue_is ∙ k.queue_room;
    counts = (
        let g : length queue.given ≡ length p.queue.given + 1 = ap (λ (q : Pending). length q.given) queue_is ∙ length-append p.queue.given (signal ∷ []) in
        let r : length queue.ready ≡ length p.queue.ready + 1 = ap (λ (q : Pending). length q.ready) queue_is ∙ length-append p.queue.ready (length p.queue.given ∷ []) in
        omega (arith, k.counts, g, r));
    given_room = (
        let g : length queue.given ≡ length p.queue.given + 1 = ap (λ (q : Pending). length q.given) queue_is ∙ length-append p.queue.given (signal ∷ []) in
        let r : queue.room ≡ p.queue.room = ap (λ (q : Pending). q.room) queue_is in
        omega (arith, fits, g, r));
    ascending = subst (λ (q : Pending). IsAscending 0 (length q.given) q.ready) (sym queue_is) (ascending-appended p.queue (signal ∷ []) k.ascending);
    journal_room = (let r : queue.room ≡ p.queue.room = ap (λ (q : Pending). q.room) queue_is in omega (arith, k.journal_room, r));
    actors = (let c = ap created_in rest.flight in omega (arith, k.actors, c, filling.used_is));
    used_room = omega (arith, k.used_room, filling.used_is, room);
    roll_room = omega (arith, k.roll_room, room);
    known = k.known;
  }

  pub state-filled : state_of filled ≡ record (state_of p) { store = with_content (seen p.quads.store) signal content; messages = (state_of p).messages ++ record { number = length p.queue.given; event = signal } ∷ []; next_number = suc (length p.queue.given) }
  state-filled =
      let st = seen_is in
      let fl = rest.flight in
      let sh = filling.books.sheet_is in
      let nu : length queue.given ≡ suc (length p.queue.given) = ap (λ (q : Pending). length q.given) queue_is ∙ length-append p.queue.given (signal ∷ []) ∙ omega arith in
      let me : unfinished queue.given queue.ready (flight_of after.store p.flight.items) ≡ (state_of p).messages ++ record { number = length p.queue.given; event = signal } ∷ [] =
      ap (λ (q : Pending). unfinished q.given q.ready (flight_of after.store p.flight.items)) queue_is
      ∙ unfinished-append p.queue.given p.queue.ready (flight_of after.store p.flight.items) (record { event = signal; sponsor = undef; target = undef; content = undef } ∷ [])
      ∙ ap (λ (ls : List Flying). unfinished p.queue.given p.queue.ready ls ++ record { number = length p.queue.given; event = signal } ∷ []) rest.flight in
      λ j. record (state_of p) { store = st j; flight = fl j; messages = me j; sheet = sh j; next_number = nu j }
