-- A machine after an event began.
use Rattle.std.proofs.Common.{◌≡◌, inl, inr, ℕ, zero, suc, ◌+◌, ◌<◌, ◌≤◌, nat_eq, List, [], ◌∷◌, ◌++◌, length, get_or, Option, Some, None, Bool, true, false, if◌then◌else◌, ap, ap₂, refl, sym, ◌∙◌, subst, arith, ℤ, pos, vec_len}
use Rattle.std.specs.Prelude.{slice_get, option_map, ◌&&◌, vec_capacity, IsTrue}
use Rattle.std.specs.Global.{Vec}
use Rattle.std.specs.List.{Contains}
use Rattle.std.proofs.lemmas.Bool.Decides.{nat_tests}
use Rattle.std.proofs.lemmas.List.{map-append}
use Rattle.std.proofs.lemmas.List.Sums.{sum_by-append}
use Rattle.std.proofs.lemmas.Option.{slice_get_within}
use Rattle.cap_words.specs.Words.{W, Fix, undef, nil}
use Rattle.cap_words.specs.Store.{Store, cap_place}
use Rattle.cap_words.specs.Seen.{Seen, Slot, OpenSlot, ActorSlot, UnbornSlot, EventSlot, SponsorSlot, SpentSlot, seen, slot_seen, altered}
use Rattle.cap_words.specs.Frame.{Among, Framed}
use Rattle.cap_words.proofs.Same.{word_same}
use Rattle.cap_words.proofs.Places.{get-set_same}
use Rattle.cap_words.specs.declared.word.Tag.TheVariants.{Actor}
use Rattle.cap_words.specs.Store.{changed, cell_as}
use Rattle.cap_words.specs.Seen.{erase_actor}
use Rattle.cap_words.proofs.Stores.{named}
use Rattle.cap_words.proofs.Frames.{framed-changed}
use Rattle.cap_words.proofs.Erased.{seen-changed, actor-there}
use Rattle.quad_memory.specs.declared.cells.ActorCell.{ActorCell}
use Rattle.quad_memory.specs.declared.cells.EventCell.{EventCell}
use Rattle.quad_memory.specs.declared.cells.SponsorCell.{SponsorCell}
use Rattle.quad_memory.specs.Memory.{Memory, with_store}
use Rattle.quad_memory.specs.Cells.{sponsor_at, event_at, actor_at, actor_in, actor_words}
use Rattle.instr_table.specs.Event.{Own, Behaviour, Effects, no_effects}
use Rattle.instr_table.specs.Lane.{Lane as Flying, begun}
use Rattle.instr_table.specs.Reach.{Every}
use Rattle.vm_sponsor.specs.Grant.{is_grant}
use Rattle.vm_sponsor.specs.Ledger.{names}
use Rattle.vm_effects.specs.Gathered.{effects_of, own_words, IsLinked}
use Rattle.vm_effects.proofs.Records.{slot-framed}
use Rattle.vm_turn.specs.Actors.{sent_in, sent_at, is_idle_in, is_idle, behaviour_in, behaviour_at, at_actor, remade, busy}
use Rattle.vm_turn.specs.Turn.{begin, own_of}
use Rattle.event_queue.specs.Pending.{Pending, IsAscending, without}
use Rattle.event_queue.specs.Starts.{can_start, runs_by}
use Rattle.vm_step.specs.declared.lane.Lane.{Lane}
use Rattle.vm_step.specs.Flight.{own_at, lane_of}
use Rattle.vm_step.proofs.Known.{event-seen}
use Rattle.vm_machine.specs.declared.parts.Parts.{Parts}
use Rattle.vm_machine.specs.Messages.{is_among, unfinished}
use Rattle.vm_machine.specs.Flight.{flight_of, Flies, Separate, Pairwise}
use Rattle.vm_machine.specs.View.{state_of}
use Rattle.vm_machine.specs.Whole.{Kept, cycles_spent, created_in}
use Rattle.vm_machine.proofs.Lists.{every-more, every-both, every-end, pairs-end}
use Rattle.vm_machine.proofs.Messages.{unfinished-begun, without-among, without-gone}
use Rattle.vm_machine.proofs.Standing.{ascending-without}
use Rattle.vm_machine.proofs.Still.{Flown, separate-turned}
use Rattle.vm_machine.proofs.Left.{actor-flown, event-other, Stayed, stayed}
use Rattle.vm_machine.proofs.Ended.{slot-at, ActorChanged, actor-changed}
use Rattle.vm_machine.proofs.Searching.{cell-sponsor}

-- ---- what can start is there

pub idle-slot : (o : Option Slot) → is_idle_in o ≡ true → (code : W) × (state : W) × (o ≡ Some (ActorSlot code state undef))
idle-slot None h = cc
idle-slot (Some (OpenSlot q)) h = cc
idle-slot (Some (ActorSlot code state mark)) h = (code, state, ap (λ (w : W). Some (ActorSlot code state w)) (word_same mark undef h))
idle-slot (Some UnbornSlot) h = cc
idle-slot (Some (EventSlot a b m)) h = cc
idle-slot (Some SponsorSlot) h = cc
idle-slot (Some SpentSlot) h = cc

idle-event : (s : Seen) (w : W) (o : Option Slot) → is_idle s (sent_in w o).target ≡ true → (a : W) × (b : W) × (m : W) × (o ≡ Some (EventSlot a b m))
idle-event s w None h = cc
idle-event s w (Some (OpenSlot q)) h = cc
idle-event s w (Some (ActorSlot code state mark)) h = cc
idle-event s w (Some UnbornSlot) h = cc
idle-event s w (Some (EventSlot a b m)) h = (a, b, m, refl)
idle-event s w (Some SponsorSlot) h = cc
idle-event s w (Some SpentSlot) h = cc

both-true : (a b : Bool) → (a && b) ≡ true → (a ≡ true) × (b ≡ true)
both-true true true h = (refl, refl)
both-true true false h = cc
both-true false b h = cc

running-cell : (o : Option SponsorCell) → runs_by o ≡ true → (c : SponsorCell) × (o ≡ Some c)
running-cell None h = cc
running-cell (Some c) h = (c, refl)

pub record Startable (s : Store) (w : W) : Type 0 where
  pub sponsor : W
  pub target : W
  pub content : W
  pub event : slot_seen (seen s) w ≡ Some (EventSlot sponsor target content)
  pub code : W
  pub state : W
  pub actor : slot_seen (seen s) target ≡ Some (ActorSlot code state undef)
  pub cell : SponsorCell
  pub runs : sponsor_at s sponsor ≡ Some cell

pub startable : (s : Store) (w : W) → can_start s w ≡ true → Startable s w
startable s w h =
    let b = both-true (is_idle (seen s) (sent_at (seen s) w).target) (runs_by (sponsor_at s (sent_at (seen s) w).sponsor)) h in
    let e = idle-event (seen s) w (slot_seen (seen s) w) b.0 in
    let target : (sent_at (seen s) w).target ≡ e.1 = ap (λ (o : Option Slot). (sent_in w o).target) e.3 in
    let sponsor : (sent_at (seen s) w).sponsor ≡ e.0 = ap (λ (o : Option Slot). (sent_in w o).sponsor) e.3 in
    let a = idle-slot (slot_seen (seen s) e.1) (ap (λ (v : W). is_idle (seen s) v) (sym target) ∙ b.0) in
    let r = running-cell (sponsor_at s e.0) (ap (λ (v : W). runs_by (sponsor_at s v)) (sym sponsor) ∙ b.1) in
    record { sponsor = e.0; target = e.1; content = e.2; event = e.3; code = a.0; state = a.1; actor = a.2; cell = r.0; runs = r.1 }

abbrev target_in : Option Slot → W
target_in (Some (EventSlot a b m)) = b
target_in o = undef

pub startable-target : (s : Store) (w : W) (cell : EventCell) (can : Startable s w) → event_at s w ≡ Some cell → cell.target ≡ can.target
startable-target s w cell can h = ap target_in (sym (event-seen s w cell h) ∙ can.event)

-- an actor's cell that is given a mark
pub actor-marked : (m n : Memory) (w code state : W) (cell : ActorCell) (mark : W) (z : ℤ) → slot_seen (seen m.store) w ≡ Some (ActorSlot code state undef) → actor_at m.store w ≡ Some cell → mark ≡ Fix z
    → n ≡ with_store m (changed m.store (cap_place w) (cell_as Actor (actor_words (record cell { mark = mark }))))
    → (seen n.store ≡ altered (seen m.store) (cap_place w) (ActorSlot code state (Fix z))) × Framed m.store n.store (w ∷ []) × (n.room ≡ m.room) × (cell.code ≡ code)
actor-marked m n w code state cell mark z there at is e =
    let q = actor-there m.store w code state undef there in
    let same : cell ≡ record { code = code; state = state; mark = undef } = some (sym at ∙ ap (option_map actor_in) q.1) in (
      ap (λ (x : Memory). seen x.store) e ∙ seen-changed m.store (cap_place w) (cell_as Actor (actor_words (record cell { mark = mark })))
          ∙ ap (λ (x : W). altered (seen m.store) (cap_place w) (erase_actor cell.code cell.state x)) is
          ∙ ap (λ (x : ActorCell). altered (seen m.store) (cap_place w) (ActorSlot x.code x.state (Fix z))) same,
      subst (λ (x : Memory). Framed m.store x.store (w ∷ [])) (sym e) (framed-changed m.store (cap_place w) (cell_as Actor (actor_words (record cell { mark = mark }))) (w ∷ []) (inl (sym (named m.store Actor w _ q.1).place_is))),
      ap (λ (x : Memory). x.room) e,
      ap (λ (x : ActorCell). x.code) same,
    )
  where
    some : {x y : ActorCell} → Some x ≡ Some y → x ≡ y
    some h = cc

-- a grant has few events
pub few-events : (memory events cycles : ℕ) → IsTrue (is_grant memory events cycles) → events ≤ 4194304
few-events memory events cycles h = grind (arith, nat_tests)

-- ---- ready numbers

pub contains-among : (ns : List ℕ) (n : ℕ) → Contains ns n → is_among n ns ≡ true
contains-among [] n c = absurd (let h = c.1 in omega (arith, h))
contains-among (m ∷ ms) n c = by (λ x. contains-among ms n x) c.0 c.1 c.2
  where
    found : (b : Bool) → nat_eq m n ≡ b → (b ≡ false → is_among n ms ≡ true) → (if b then true else is_among n ms) ≡ true
    found true e f = refl
    found false e f = f refl

    by : (Contains ms n → is_among n ms ≡ true) → (i : ℕ) → i < length (m ∷ ms) → get_or (m ∷ ms) i n ≡ n → (if nat_eq m n then true else is_among n ms) ≡ true
    by later zero h e = let x : nat_eq m n ≡ true = grind (arith, nat_tests) in rw x refl
    by later (suc i) h e = found (nat_eq m n) refl (λ x. later (i, omega (arith, h), e))

pub length-without : (low high : ℕ) (ns : List ℕ) (n : ℕ) → IsAscending low high ns → is_among n ns ≡ true → length (without n ns) + 1 ≡ length ns
length-without low high [] n a h = cc
length-without low high (m ∷ ms) n a h = by (nat_eq m n) refl h (λ g. length-without (suc m) high ms n a.2 g)
  where
    low-without : (lower : ℕ) (ks : List ℕ) → n < lower → IsAscending lower high ks → without n ks ≡ ks
    low-without lower [] u b = refl
    low-without lower (k ∷ ks) u b =
        let x : nat_eq k n ≡ false = (let l = b.0 in grind (arith, nat_tests, u, l)) in
        rw x (ap (λ (l : List ℕ). k ∷ l) (low-without (suc k) ks (let l = b.0 in omega (arith, u, l)) b.2))

    by : (b : Bool) → nat_eq m n ≡ b → (if b then true else is_among n ms) ≡ true → (is_among n ms ≡ true → length (without n ms) + 1 ≡ length ms) → length (if b then without n ms else m ∷ without n ms) + 1 ≡ length (m ∷ ms)
    by true e g later =
        let x : m ≡ n = grind (arith, nat_tests) in
        let k = ap (λ (l : List ℕ). length l) (low-without (suc m) ms (omega (arith, x)) a.2) in
        omega (arith, k)
    by false e g later = let k = later g in omega (arith, k)

module _ (p : Parts) (k : Kept p) (number : ℕ) (event : W) (free : length p.flight.items < p.lanes) (ready : Contains p.queue.ready number) (given : slice_get p.queue.given number ≡ Some event) (can : Startable p.quads.store event)
    (after : Memory) (queue : Pending) (flight : Vec Lane) (effects : _)
    (none : (s : Store) → effects_of s effects ≡ no_effects) (linked : (s : Store) → IsLinked s effects)
    (frame : Framed p.quads.store after.store (can.target ∷ [])) (seen_is : seen after.store ≡ altered (seen p.quads.store) (cap_place can.target) (ActorSlot can.code can.state (Fix (pos number)))) (room : after.room ≡ p.quads.room)
    (queue_is : queue ≡ record p.queue { ready = without number p.queue.ready })
    (items : flight.items ≡ p.flight.items ++ record { number = number; event = event; code = can.code; stack = nil; depth = 0; effects = effects } ∷ []) (len : vec_len flight ≡ vec_len p.flight + 1) (capacity : vec_capacity p.flight ≤ vec_capacity flight) where
  abbrev s : Store
  s = p.quads.store

  abbrev t : Store
  t = after.store

  abbrev sponsors : List W
  sponsors = names p.sheet.rows

  abbrev lane : Lane
  lane = record { number = number; event = event; code = can.code; stack = nil; depth = 0; effects = effects }

  abbrev begun_parts : Parts
  begun_parts = record p { quads = after; queue = queue; flight = flight }

  among : is_among number p.queue.ready ≡ true
  among = contains-among p.queue.ready number ready

  busied : ActorChanged p.quads after p.sheet
  busied = actor-changed p.quads after p.sheet can.target can.code can.state undef can.code can.state (Fix (pos number)) k.books frame can.actor seen_is room

  -- the lanes that were in flight
  others : Every (Flown s t sponsors p.queue.given p.queue.ready) p.flight.items
  others = every-more (Flies s sponsors p.queue.given p.queue.ready) (Flown s t sponsors p.queue.given p.queue.ready) p.flight.items
      (λ l h. actor-flown s t can.target sponsors p.queue.given p.queue.ready l can.code can.state undef frame can.actor h (λ e. cc)) k.flying

  rest : Stayed s t sponsors p.queue.given p.queue.ready p.flight.items
  rest = stayed s t sponsors p.queue.given p.queue.ready p.flight.items others k.apart

  other_number : (l : Lane) → Flies s sponsors p.queue.given p.queue.ready l → l.number ≡ number → ⊥
  other_number l h e = let x : true ≡ false = sym among ∙ ap (λ (n : ℕ). is_among n p.queue.ready) (sym e) ∙ h.taken in cc

  fewer_ready : (l : Lane) → Flies s sponsors p.queue.given p.queue.ready l → Flies t sponsors p.queue.given p.queue.ready l → Flies t sponsors p.queue.given (without number p.queue.ready) l
  fewer_ready l b h = record { held = h.held; busy = h.busy; numbered = h.numbered; taken = without-among number l.number p.queue.ready (other_number l b) ∙ h.taken }

  -- the new lane
  event_is : slot_seen (seen t) event ≡ Some (EventSlot can.sponsor can.target can.content)
  event_is = slot-framed s t (can.target ∷ []) event (EventSlot can.sponsor can.target can.content) frame apart can.event
    where
      apart : Among event (can.target ∷ []) → ⊥
      apart (inl e) = event-other s event can.sponsor can.target can.content can.code can.state undef can.event (ap (slot_seen (seen s)) e ∙ can.actor)
      apart (inr x) = x

  actor_is : slot_seen (seen t) can.target ≡ Some (ActorSlot can.code can.state (Fix (pos number)))
  actor_is =
      let at = slot-at (seen s) can.target (ActorSlot can.code can.state undef) can.actor in
      ap (λ (x : Seen). slot_seen x can.target) seen_is
      ∙ ap (λ (w : W). slot_seen (altered (seen s) (cap_place can.target) (ActorSlot can.code can.state (Fix (pos number)))) w) at.0
      ∙ get-set_same (seen s).slots (cap_place can.target) (ActorSlot can.code can.state (Fix (pos number))) (slice_get_within (seen s).slots (cap_place can.target) (ActorSlot can.code can.state undef) at.1)

  abbrev own : Own
  own = record { sponsor = can.sponsor; actor = can.target; code = can.code; state = can.state; message = can.content }

  own_new : own_at (seen t) event ≡ own
  own_new =
      let m : sent_at (seen t) event ≡ record { event = event; sponsor = can.sponsor; target = can.target; content = can.content } = ap (sent_in event) event_is in
      let b : behaviour_at (seen t) can.target ≡ record { state = can.state; code = can.code } = ap behaviour_in actor_is in
      ap (own_of (seen t)) m ∙ ap (λ (x : Behaviour). record { sponsor = can.sponsor; actor = can.target; code = x.code; state = x.state; message = can.content }) b

  own_old : own_of (seen s) (sent_at (seen s) event) ≡ own
  own_old =
      let m : sent_at (seen s) event ≡ record { event = event; sponsor = can.sponsor; target = can.target; content = can.content } = ap (sent_in event) can.event in
      let b : behaviour_at (seen s) can.target ≡ record { state = can.state; code = can.code } = ap behaviour_in can.actor in
      ap (own_of (seen s)) m ∙ ap (λ (x : Behaviour). record { sponsor = can.sponsor; actor = can.target; code = x.code; state = x.state; message = can.content }) b

  flies : Flies t sponsors p.queue.given (without number p.queue.ready) lane
  flies = record {
    held = record {
      stacked = refl;
      shallow = omega arith;
      linked = linked t;
      event = (can.sponsor, can.target, can.content, event_is);
      sponsor = subst (λ (o : Own). Among o.sponsor sponsors) (sym own_new) (k.books.listed can.sponsor (cell-sponsor s can.sponsor can.cell can.runs));
      actor = (can.code, can.state, Fix (pos number), ap (λ (o : Own). slot_seen (seen t) o.actor) own_new ∙ actor_is);
    };
    busy = (can.code, can.state, ap (λ (o : Own). slot_seen (seen t) o.actor) own_new ∙ actor_is);
    numbered = given;
    taken = without-gone number p.queue.ready;
  }

  new_apart : (l : Lane) → Flies s sponsors p.queue.given p.queue.ready l → Separate t lane l
  new_apart l h = record {
    numbers = λ e. other_number l h (sym e);
    words = λ v a b. subst (λ (x : Effects). Among v (own_words x)) (none t) a;
  }

  flight_is : flight_of t flight.items ≡ flight_of s p.flight.items ++ begun number own ∷ []
  flight_is =
      let l : lane_of t lane ≡ begun number own = (let o = own_new in let x = none t in λ j. record { number = number; own = o j; code = can.code; stack = []; effects = x j }) in
      ap (flight_of t) items ∙ map-append (lane_of t) p.flight.items (lane ∷ []) ∙ ap₂ (λ (ls : List Flying) (f : Flying). ls ++ f ∷ []) rest.flight l

  pub kept-begun : Kept begun_parts
  kept-begun = record {
    books = busied.quiet.books;
    transfers = (let c = ap cycles_spent busied.quiet.sheet_is in omega (arith, c, k.transfers));
    flying = subst (λ (q : Pending). Every (Flies t sponsors q.given q.ready) flight.items) (sym queue_is)
        (subst (λ (ls : List Lane). Every (Flies t sponsors p.queue.given (without number p.queue.ready)) ls) (sym items)
        (every-end (Flies t sponsors p.queue.given (without number p.queue.ready)) p.flight.items lane
        (every-both (Flies s sponsors p.queue.given p.queue.ready) (Flies t sponsors p.queue.given p.queue.ready) (Flies t sponsors p.queue.given (without number p.queue.ready)) p.flight.items (λ l b h. fewer_ready l b h) k.flying rest.flying) flies));
    apart = subst (λ (ls : List Lane). Pairwise (Separate t) ls) (sym items)
        (pairs-end (Separate t) p.flight.items lane (separate-turned t) rest.apart (every-more (Flies s sponsors p.queue.given p.queue.ready) (Separate t lane) p.flight.items (λ l h. new_apart l h) k.flying));
    granted = k.granted;
    some_lanes = k.some_lanes;
    lanes_limit = k.lanes_limit;
    few = omega (arith, free, len);
    flight_room = omega (arith, k.flight_room, capacity);
    queue_room = ap (λ (q : Pending). q.room) queue_is ∙ k.queue_room;
    counts = (
        let g : length queue.given ≡ length p.queue.given = ap (λ (q : Pending). length q.given) queue_is in
        let r : length queue.ready + 1 ≡ length p.queue.ready = ap (λ (q : Pending). length q.ready + 1) queue_is ∙ length-without 0 (length p.queue.given) p.queue.ready number k.ascending among in
        omega (arith, k.counts, len, g, r));
    given_room = (let g : length queue.given ≡ length p.queue.given = ap (λ (q : Pending). length q.given) queue_is in let r : queue.room ≡ p.queue.room = ap (λ (q : Pending). q.room) queue_is in omega (arith, k.given_room, g, r));
    ascending = subst (λ (q : Pending). IsAscending 0 (length q.given) q.ready) (sym queue_is) (ascending-without number 0 (length p.queue.given) p.queue.ready k.ascending);
    journal_room = (let r : queue.room ≡ p.queue.room = ap (λ (q : Pending). q.room) queue_is in omega (arith, k.journal_room, r));
    actors = (
        let c = ap created_in flight_is in
        let a = sum_by-append (λ (l : Flying). length l.effects.created) (flight_of s p.flight.items) (begun number own ∷ []) in
        omega (arith, c, a, k.actors, busied.used_is));
    used_room = omega (arith, k.used_room, busied.used_is, room);
    roll_room = omega (arith, k.roll_room, room);
    known = k.known;
  }

  pub state-begun : state_of begun_parts ≡ begin (state_of p) number (sent_at (seen p.quads.store) event)
  state-begun =
      let target : (sent_at (seen s) event).target ≡ can.target = ap (λ (o : Option Slot). (sent_in event o).target) can.event in
      let st : seen t ≡ at_actor (seen s) (sent_at (seen s) event).target (busy number) =
      seen_is ∙ sym (ap (λ (o : Option Slot). remade o (busy number) can.target (seen s)) can.actor) ∙ ap (λ (w : W). at_actor (seen s) w (busy number)) (sym target) in
      let fl : flight_of t flight.items ≡ flight_of s p.flight.items ++ begun number (own_of (seen s) (sent_at (seen s) event)) ∷ [] = flight_is ∙ ap (λ (o : Own). flight_of s p.flight.items ++ begun number o ∷ []) (sym own_old) in
      let me : unfinished queue.given queue.ready (flight_of t flight.items) ≡ unfinished p.queue.given p.queue.ready (flight_of s p.flight.items) =
      ap (λ (q : Pending). unfinished q.given q.ready (flight_of t flight.items)) queue_is
      ∙ ap (λ (ls : List Flying). unfinished p.queue.given (without number p.queue.ready) ls) flight_is
      ∙ unfinished-begun p.queue.given p.queue.ready (flight_of s p.flight.items) (begun number own) among in
      let nu : length queue.given ≡ length p.queue.given = ap (λ (q : Pending). length q.given) queue_is in
      let sh = busied.quiet.sheet_is in
      λ j. record (state_of p) { store = st j; flight = fl j; messages = me j; next_number = nu j; sheet = sh j }
