-- A machine after an event ended with its effects.
use Rattle.std.proofs.Common.{◌≡◌, inl, inr, ℕ, suc, ◌+◌, ◌≤◌, nat_eq, List, [], ◌∷◌, ◌++◌, length, get_or, Option, Some, None, Bool, true, false, if◌then◌else◌, ap, ap₂, refl, sym, ◌∙◌, subst, arith, pos, vec_len, length-append}
use Rattle.std.specs.Prelude.{map, remove, slice_get, vec_capacity, ◌||◌}
use Rattle.std.specs.Global.{Vec}
use Rattle.std.proofs.lemmas.List.{length-map}
use Rattle.std.proofs.lemmas.List.Sums.{sum_by-remove}
use Rattle.std.proofs.lemmas.Option.{slice_get_within, get_or_from_slice_get}
use Rattle.cap_words.specs.declared.word.Quad.{Quad}
use Rattle.cap_words.specs.declared.word.Tag.TheVariants.{Actor, Event}
use Rattle.cap_words.specs.Words.{W, Fix, Rom, Ram, Cap, undef}
use Rattle.cap_words.specs.Store.{Store, opaque_cell, used, cap_place}
use Rattle.cap_words.specs.Seen.{Seen, Slot, ActorSlot, UnbornSlot, seen, altered, erase_as, erase_actor}
use Rattle.cap_words.specs.Frame.{Among, Framed}
use Rattle.cap_words.proofs.Places.{get-left}
use Rattle.cap_words.proofs.Frames.{among-right}
use Rattle.cap_words.proofs.Stores.{opaque_twice}
use Rattle.cap_words.proofs.Erased.{slot-seen, event-there}
use Rattle.quad_memory.specs.Memory.{Memory}
use Rattle.instr_table.specs.Event.{Own, Made, Sent, Behaviour}
use Rattle.instr_table.specs.Types.{AnActor, opaque_in, is_sponsor}
use Rattle.instr_table.specs.Lane.{Lane as Flying}
use Rattle.instr_table.specs.Reach.{Every}
use Rattle.vm_sponsor.specs.Ledger.{Ledger, names}
use Rattle.vm_sponsor.proofs.Framed.{Aside}
use Rattle.vm_effects.specs.Links.{walk}
use Rattle.vm_effects.specs.Actors.{all_idle, idle_cell, actor_slot}
use Rattle.vm_effects.specs.Gathered.{effects_of, made_at, made_from, made_words, sent_words, AreMade}
use Rattle.vm_effects.proofs.Chains.{chained-among}
use Rattle.vm_effects.proofs.Records.{made_words-read}
use Rattle.vm_effects.proofs.Apart.{own-committed}
use Rattle.vm_turn.specs.declared.journal.Entry.{Entry}
use Rattle.vm_turn.specs.declared.journal.Outcome.TheVariants.{Committed}
use Rattle.vm_turn.specs.State.{Message}
use Rattle.vm_turn.specs.Actors.{at_actor, remade, resting, settled}
use Rattle.vm_turn.specs.Turn.{entry, finish, without, numbered_from}
use Rattle.vm_step.specs.declared.lane.Lane.{Lane}
use Rattle.vm_step.specs.Flight.{own_at, lane_of, lane_words}
use Rattle.vm_step.specs.Books.{Books}
use Rattle.vm_step.specs.Step.{sheet_in}
use Rattle.event_queue.specs.Pending.{Pending, appended, numbers_from, IsAscending}
use Rattle.vm_machine.specs.declared.parts.Parts.{Parts}
use Rattle.vm_machine.specs.Messages.{is_among, unfinished}
use Rattle.vm_machine.specs.Flight.{flight_of, Flies, Separate, Pairwise}
use Rattle.vm_machine.specs.View.{state_of}
use Rattle.vm_machine.specs.Whole.{Kept, cycles_spent, created_in}
use Rattle.vm_machine.proofs.Lists.{every-more, every-both, every-removed, pairs-removed, pairs-at, map-removed, get-map}
use Rattle.vm_machine.proofs.Messages.{among-append, numbers-below, or-false, unfinished-append}
use Rattle.vm_machine.proofs.Standing.{ascending-appended}
use Rattle.vm_machine.proofs.Still.{Flown, separate-turned}
use Rattle.vm_machine.proofs.Left.{Opaque, framed-flown, Stayed, stayed}
use Rattle.vm_machine.proofs.Keeping.{Quiet, quiet, used-same}
use Rattle.vm_machine.proofs.Idling.{IsActor, sponsor-idle, length-idle}
use Rattle.vm_machine.proofs.Ends.{Differs, unfinished-left, separate-differs}
use Rattle.vm_machine.proofs.Ended.{slot-at, ActorChanged, actor-changed, flies-at, others-flown}

-- more messages make no difference to a lane that flies
pub flies-given : (s : Store) (sponsors given : List W) (ready : List ℕ) (ws : List W) (k : Lane) → Flies s sponsors given ready k → Flies s sponsors (given ++ ws) (ready ++ numbers_from (length given) ws) k
flies-given s sponsors given ready ws k h =
    let within = slice_get_within given k.number k.event h.numbered in
    record {
      held = h.held;
      busy = h.busy;
      numbered = get-left given ws k.number within ∙ h.numbered;
      taken = among-append k.number ready (numbers_from (length given) ws) ∙ ap (λ (b : Bool). is_among k.number ready || b) (numbers-below (length given) k.number ws within) ∙ or-false (is_among k.number ready) ∙ h.taken;
    }

-- an actor's quad is seen as an actor
actor-shown : (q : Quad) → opaque_in (Some (erase_as Actor q)) ≡ Some AnActor
actor-shown q = by q.x q.y q.z
  where
    zero_mark : (b : Bool) (code state : W) → opaque_in (Some (if b then ActorSlot code state undef else UnbornSlot)) ≡ Some AnActor
    zero_mark true code state = refl
    zero_mark false code state = refl

    by : (code state mark : W) → opaque_in (Some (erase_actor code state mark)) ≡ Some AnActor
    by code state (Fix n) = refl
    by code state (Rom n) = zero_mark (nat_eq n 0) code state
    by code state (Ram n) = refl
    by code state (Cap n) = refl

-- the actors of a chain that became idle: each word names one
module _ (t u : Store) (count : ℕ) (first : W) (linked : AreMade t count first) (frame : Framed t u (made_words (made_from t count first))) (seen_is : seen u ≡ all_idle (seen t) (made_from t count first)) where
  abbrev idled : List W
  idled = made_words (made_from t count first)

  pub idled-there : (v : W) → Among v idled → (q : Quad) × (opaque_cell t Actor v ≡ Some q)
  idled-there v a = chained-among (opaque_cell t Actor) (walk (opaque_cell t Actor) count first) v linked.chained (subst (λ (ws : List W). Among v ws) (made_words-read t (walk (opaque_cell t Actor) count first)) a)

  idled-opaque : Opaque t idled
  idled-opaque v a = let q = idled-there v a in (Actor, q.0, q.1, λ x. cc)

  are_actors : (ws : List W) → ((v : W) → Among v ws → (q : Quad) × (opaque_cell t Actor v ≡ Some q)) → Every (IsActor (seen t)) (map (made_at t) ws)
  are_actors [] h = tt
  are_actors (w ∷ ws) h =
      let q = h w (inl refl) in
      let at = slot-at (seen t) w (erase_as Actor q.0) (slot-seen t Actor w q.0 q.1) in
      (record { slot = erase_as Actor q.0; there = at.1; actor = actor-shown q.0 }, are_actors ws (λ v a. h v (inr a)))

  pub idled-quiet : (before after : Memory) (sheet : Ledger) → before.store ≡ t → after.store ≡ u → Books before sheet → after.room ≡ before.room → Quiet before after sheet × (used after.store ≡ used before.store)
  idled-quiet before after sheet bt au b r =
      let actors = are_actors (walk (opaque_cell t Actor) count first) (λ v a. chained-among (opaque_cell t Actor) (walk (opaque_cell t Actor) count first) v linked.chained a) in
      let same : used u ≡ used t = used-same t u (ap (λ (x : Seen). length x.slots) seen_is ∙ length-idle (seen t) (made_from t count first)) in
      let n : used after.store ≡ used before.store = ap used au ∙ same ∙ sym (ap used bt) in
      let f : Framed before.store after.store idled = subst (λ (x : Store). Framed x after.store idled) (sym bt) (subst (λ (x : Store). Framed t x idled) (sym au) frame) in
      let o : (v : W) → Among v idled → Aside before.store v = subst (λ (x : Store). (v : W) → Among v idled → Aside x v) (sym bt) (λ v a. let q = idled-there v a in record { tag = Actor; words = q.0; there = q.1; not_held = λ z. cc; not_spent = λ z. cc }) in
      let i : (w : W) → is_sponsor (seen after.store) w ≡ is_sponsor (seen before.store) w =
      λ w. ap (λ (x : Store). is_sponsor (seen x) w) au ∙ ap (λ (x : Seen). is_sponsor x w) seen_is ∙ sponsor-idle (seen t) (made_from t count first) actors w ∙ ap (λ (x : Store). is_sponsor (seen x) w) (sym bt) in
      (quiet before after sheet idled b f o n i r, n)

-- one after the other
flown-then : (s t u : Store) (sponsors given : List W) (ready : List ℕ) (k : Lane) → Flown s t sponsors given ready k → Flown t u sponsors given ready k → Flown s u sponsors given ready k
flown-then s t u sponsors given ready k f g = record { flying = g.flying ∙ f.flying; flies = g.flies; words = g.words ∙ f.words }

length-numbers : (n : ℕ) (ws : List W) → length (numbers_from n ws) ≡ length ws
length-numbers n [] = refl
length-numbers n (w ∷ ws) = ap suc (length-numbers (suc n) ws)

-- the behaviour of an actor after its event
abbrev pub code_after : Option Behaviour → W → W
code_after None code = code
code_after (Some b) code = b.code

abbrev pub state_after : Option Behaviour → W → W
state_after None state = state
state_after (Some b) state = b.state

pub resting-slot : (next : Option Behaviour) (code state mark : W) (s : Seen) (w : W) → altered s (cap_place w) (actor_slot (idle_cell next (record { code = code; state = state; mark = mark }))) ≡ altered s (cap_place w) (ActorSlot (code_after next code) (state_after next state) undef)
resting-slot None code state mark s w = refl
resting-slot (Some b) code state mark s w = refl

-- the events that are left, and the one that ended, created as many actors as all
created-at : (ls : List Flying) (i : ℕ) (l : Flying) → slice_get ls i ≡ Some l → created_in (remove ls i) + length l.effects.created ≡ created_in ls
created-at ls i l at =
    let sum = sum_by-remove (λ (x : Flying). length x.effects.created) ls i l (slice_get_within ls i l at) in
    let same : get_or ls i l ≡ l = get_or_from_slice_get ls i l l at in
    ap (λ (x : Flying). created_in (remove ls i) + length x.effects.created) (sym same) ∙ sum

-- the roll has room for what an event created
pub created-room : (p : Parts) (place : ℕ) (lane : Lane) → slice_get p.flight.items place ≡ Some lane → Kept p → length p.roll.items + length (effects_of p.quads.store lane.effects).created ≤ vec_capacity p.roll
created-room p place lane e k =
    let c = created-at (flight_of p.quads.store p.flight.items) place (lane_of p.quads.store lane) (get-map (lane_of p.quads.store) p.flight.items place lane e) in
    omega (arith, c, k.actors, k.used_room, k.roll_room)

module _ (p : Parts) (place : ℕ) (lane : Lane) (e : slice_get p.flight.items place ≡ Some lane) (k : Kept p)
    (t u : Memory) (count : ℕ) (first : W) (flight : Vec Lane) (roll : Vec W) (queue : Pending) (journal : Vec Entry) (x y : W)
    (frame : Framed p.quads.store t.store ((own_at (seen p.quads.store) lane.event).actor ∷ []))
    (seen_is : seen t.store ≡ altered (seen p.quads.store) (cap_place (own_at (seen p.quads.store) lane.event).actor) (ActorSlot x y undef))
    (room : t.room ≡ p.quads.room)
    (made_is : made_from t.store count first ≡ (effects_of p.quads.store lane.effects).created) (linked : AreMade t.store count first)
    (idle_frame : Framed t.store u.store (made_words (made_from t.store count first))) (idle_seen : seen u.store ≡ all_idle (seen t.store) (made_from t.store count first)) (idle_room : u.room ≡ t.room)
    (queue_is : queue ≡ appended p.queue (sent_words (effects_of p.quads.store lane.effects).sent))
    (fits : length p.queue.given + length (effects_of p.quads.store lane.effects).sent ≤ p.queue.room)
    (entered : roll.items ≡ p.roll.items ++ made_words (made_from t.store count first)) (roll_capacity : vec_capacity p.roll ≤ vec_capacity roll)
    (items : flight.items ≡ remove p.flight.items place) (len : vec_len flight + 1 ≡ vec_len p.flight) (capacity : vec_capacity p.flight ≤ vec_capacity flight)
    (entries : journal.items ≡ p.journal.items ++ entry lane.number Committed ∷ []) (journal_len : vec_len journal ≡ vec_len p.journal + 1) (journal_capacity : vec_capacity p.journal ≤ vec_capacity journal) where
  abbrev s : Store
  s = p.quads.store

  abbrev own : Own
  own = own_at (seen s) lane.event

  abbrev sponsors : List W
  sponsors = names p.sheet.rows

  abbrev words : List W
  words = made_words (made_from t.store count first)

  abbrev events : List W
  events = sent_words (effects_of s lane.effects).sent

  abbrev committed : Parts
  committed = record p { quads = u; queue = queue; roll = roll; flight = flight; journal = journal; stuck = false }

  abbrev flies : Flies s sponsors p.queue.given p.queue.ready lane
  flies = flies-at p place lane e k

  abbrev rest : List Lane
  rest = remove p.flight.items place

  -- the actors that became idle are the lane's own
  idled-own : (v : W) → Among v words → Among v (lane_words s lane)
  idled-own v a = among-right v events (made_words (effects_of s lane.effects).created) (subst (λ (ms : List Made). Among v (made_words ms)) made_is a)

  abbrev Both : Lane → Type 0
  Both l = Separate s lane l × Flies s sponsors p.queue.given p.queue.ready l

  other : (l : Lane) → Both l → Flown s t.store sponsors p.queue.given p.queue.ready l → Flown s u.store sponsors p.queue.given p.queue.ready l
  other l b f = flown-then s t.store u.store sponsors p.queue.given p.queue.ready l f
      (framed-flown t.store u.store words sponsors p.queue.given p.queue.ready l idle_frame (idled-opaque t.store u.store count first linked idle_frame idle_seen) f.flies event actor own_apart)
    where
      event : Among l.event words → ⊥
      event a =
          let q = idled-there t.store u.store count first linked idle_frame idle_seen l.event a in
          let h = f.flies.held.event in
          let ev = event-there t.store l.event h.0 h.1 h.2 h.3 in
          let twice : Event ≡ Actor = opaque_twice t.store Event Actor l.event _ q.0 ev.1 q.1 in
          cc

      actor : Among (own_at (seen t.store) l.event).actor words → ⊥
      actor a =
          let same : (own_at (seen t.store) l.event).actor ≡ (own_at (seen s) l.event).actor = ap (λ (z : Flying). z.own.actor) f.flying in
          let h = b.1.held.actor in
          own-committed s lane.effects flies.held.linked (own_at (seen s) l.event).actor h.0 h.1 h.2 h.3 (subst (λ (w : W). Among w (lane_words s lane)) same (idled-own (own_at (seen t.store) l.event).actor a))

      own_apart : (v : W) → Among v (lane_words t.store l) → Among v words → ⊥
      own_apart v a c = b.0.words v (idled-own v c) (subst (λ (ws : List W). Among v ws) f.words a)

  others : Every (Flown s u.store sponsors p.queue.given p.queue.ready) rest
  others = every-both Both (Flown s t.store sponsors p.queue.given p.queue.ready) (Flown s u.store sponsors p.queue.given p.queue.ready) rest (λ l b f. other l b f)
      (every-both (Separate s lane) (Flies s sponsors p.queue.given p.queue.ready) Both rest (λ l a b. (a, b))
      (pairs-at (Separate s) p.flight.items place lane (separate-turned s) e k.apart)
      (every-removed (Flies s sponsors p.queue.given p.queue.ready) p.flight.items place k.flying))
      (others-flown p place lane e k t frame)

  left : Stayed s u.store sponsors p.queue.given p.queue.ready rest
  left = stayed s u.store sponsors p.queue.given p.queue.ready rest others (pairs-removed (Separate s) p.flight.items place k.apart)

  left-flight : flight_of u.store flight.items ≡ remove (flight_of s p.flight.items) place
  left-flight = ap (flight_of u.store) items ∙ left.flight ∙ map-removed (lane_of s) (lane_of s) p.flight.items place (all rest)
    where
      all : (ls : List Lane) → Every (λ (l : Lane). lane_of s l ≡ lane_of s l) ls
      all [] = tt
      all (l ∷ ls) = (refl, all ls)

  first-change : ActorChanged p.quads t p.sheet
  first-change = actor-changed p.quads t p.sheet own.actor flies.busy.0 flies.busy.1 (Fix (pos lane.number)) x y undef k.books frame flies.busy.2 seen_is room

  second-change : Quiet t u p.sheet × (used u.store ≡ used t.store)
  second-change = idled-quiet t.store u.store count first linked idle_frame idle_seen t u p.sheet refl refl first-change.quiet.books idle_room

  same-sheet : sheet_in u p.sheet ≡ sheet_in p.quads p.sheet
  same-sheet = second-change.0.sheet_is ∙ first-change.quiet.sheet_is

  same-used : used u.store ≡ used s
  same-used = second-change.1 ∙ first-change.used_is

  length-words : length words ≡ length (effects_of s lane.effects).created
  length-words = length-map (made_from t.store count first) (λ (m : Made). m.actor) ∙ ap (λ (ms : List Made). length ms) made_is

  length-events : length events ≡ length (effects_of s lane.effects).sent
  length-events = length-map (effects_of s lane.effects).sent (λ (m : Sent). m.event)

  created-left : created_in (flight_of u.store flight.items) + length (effects_of s lane.effects).created ≡ created_in (flight_of s p.flight.items)
  created-left =
      ap (λ (ls : List Flying). created_in ls + length (effects_of s lane.effects).created) left-flight
      ∙ created-at (flight_of s p.flight.items) place (lane_of s lane) (get-map (lane_of s) p.flight.items place lane e)

  pub kept-committed : Kept committed
  kept-committed = record {
    books = second-change.0.books;
    transfers = (let c : cycles_spent (sheet_in u p.sheet) ≡ cycles_spent (sheet_in p.quads p.sheet) = ap cycles_spent same-sheet in omega (arith, c, k.transfers));
    flying = subst (λ (q : Pending). Every (Flies u.store sponsors q.given q.ready) flight.items) (sym queue_is)
        (subst (λ (ls : List Lane). Every (Flies u.store sponsors (p.queue.given ++ events) (p.queue.ready ++ numbers_from (length p.queue.given) events)) ls) (sym items)
        (every-more (Flies u.store sponsors p.queue.given p.queue.ready) (Flies u.store sponsors (p.queue.given ++ events) (p.queue.ready ++ numbers_from (length p.queue.given) events)) rest
        (λ l h. flies-given u.store sponsors p.queue.given p.queue.ready events l h) left.flying));
    apart = subst (λ (ls : List Lane). Pairwise (Separate u.store) ls) (sym items) left.apart;
    granted = k.granted;
    some_lanes = k.some_lanes;
    lanes_limit = k.lanes_limit;
    few = omega (arith, k.few, len);
    flight_room = omega (arith, k.flight_room, capacity);
    queue_room = ap (λ (q : Pending). q.room) queue_is ∙ k.queue_room;
    counts = (
        let g : length queue.given ≡ length p.queue.given + length events = ap (λ (q : Pending). length q.given) queue_is ∙ length-append p.queue.given events in
        let r : length queue.ready ≡ length p.queue.ready + length events = ap (λ (q : Pending). length q.ready) queue_is ∙ length-append p.queue.ready (numbers_from (length p.queue.given) events) ∙ ap (λ (n : ℕ). length p.queue.ready + n) (length-numbers (length p.queue.given) events) in
        omega (arith, k.counts, len, journal_len, g, r));
    given_room = (
        let g : length queue.given ≡ length p.queue.given + length events = ap (λ (q : Pending). length q.given) queue_is ∙ length-append p.queue.given events in
        let r : queue.room ≡ p.queue.room = ap (λ (q : Pending). q.room) queue_is in
        omega (arith, fits, length-events, g, r));
    ascending = subst (λ (q : Pending). IsAscending 0 (length q.given) q.ready) (sym queue_is) (ascending-appended p.queue events k.ascending);
    journal_room = (let r : queue.room ≡ p.queue.room = ap (λ (q : Pending). q.room) queue_is in omega (arith, k.journal_room, journal_capacity, r));
    actors = (
        let n : length roll.items ≡ length p.roll.items + length words = ap (λ (l : List W). length l) entered ∙ length-append p.roll.items words in
        omega (arith, n, length-words, created-left, same-used, k.actors));
    used_room = omega (arith, same-used, idle_room, room, k.used_room);
    roll_room = omega (arith, idle_room, room, k.roll_room, roll_capacity);
    known = k.known;
  }

  -- the state is the one after the event's effects
  pub state-committed : (next : Option Behaviour) → ActorSlot x y undef ≡ resting next (flies-at p place lane e k).busy.0 (flies-at p place lane e k).busy.1 → next ≡ (effects_of p.quads.store lane.effects).next
      → state_of committed ≡ finish (state_of p) place (lane_of p.quads.store lane) (sheet_in p.quads p.sheet) (effects_of p.quads.store lane.effects) Committed
  state-committed next slot_is next_is =
      let at : seen t.store ≡ at_actor (seen s) own.actor (resting (effects_of s lane.effects).next) =
      seen_is ∙ ap (altered (seen s) (cap_place own.actor)) slot_is
      ∙ sym (ap (λ (o : Option Slot). remade o (resting next) own.actor (seen s)) flies.busy.2)
      ∙ ap (λ (o : Option Behaviour). at_actor (seen s) own.actor (resting o)) next_is in
      let st : seen u.store ≡ settled (seen s) own.actor (effects_of s lane.effects) = idle_seen ∙ ap₂ all_idle at made_is in
      let ro : roll.items ≡ p.roll.items ++ map (λ (m : Made). m.actor) (effects_of s lane.effects).created = entered ∙ ap (λ (ms : List Made). p.roll.items ++ made_words ms) made_is in
      let fl = left-flight in
      let sh = same-sheet in
      let jo = entries in
      let nu : length queue.given ≡ length p.queue.given + length (effects_of s lane.effects).sent = ap (λ (q : Pending). length q.given) queue_is ∙ length-append p.queue.given events ∙ ap (λ (n : ℕ). length p.queue.given + n) length-events in
      let me : unfinished queue.given queue.ready (flight_of u.store flight.items) ≡ without lane.number (unfinished p.queue.given p.queue.ready (flight_of s p.flight.items)) ++ numbered_from (length p.queue.given) (effects_of s lane.effects).sent =
      ap (λ (q : Pending). unfinished q.given q.ready (flight_of u.store flight.items)) queue_is
      ∙ unfinished-append p.queue.given p.queue.ready (flight_of u.store flight.items) (effects_of s lane.effects).sent
      ∙ ap (λ (ms : List Message). ms ++ numbered_from (length p.queue.given) (effects_of s lane.effects).sent) messages in
      λ j. record (state_of p) {
        store = st j;
        roll = ro j;
        messages = me j;
        next_number = nu j;
        flight = fl j;
        sheet = sh j;
        journal = jo j;
      }
    where
      messages : unfinished p.queue.given p.queue.ready (flight_of u.store flight.items) ≡ without lane.number (unfinished p.queue.given p.queue.ready (flight_of s p.flight.items))
      messages =
          ap (unfinished p.queue.given p.queue.ready) left-flight
          ∙ unfinished-left p.queue.given p.queue.ready (flight_of s p.flight.items) place (lane_of s lane) (get-map (lane_of s) p.flight.items place lane e) flies.taken
          (subst (λ (ls : List Flying). Every (Differs lane.number) ls) (sym (ap (flight_of u.store) items ∙ left.flight) ∙ left-flight)
          (separate-differs s lane rest (pairs-at (Separate s) p.flight.items place lane (separate-turned s) e k.apart)))
