-- A machine after a message was delivered to a device.
use Rattle.std.proofs.Common.{◌≡◌, ℕ, ◌+◌, ◌≤◌, List, [], ◌∷◌, ◌++◌, length, Option, Some, None, Ok, Bool, true, false, ap, refl, sym, ◌∙◌, subst, arith, vec_len}
use Rattle.std.specs.Prelude.{vec_capacity}
use Rattle.std.specs.Global.{Vec}
use Rattle.std.specs.List.{Contains}
use Rattle.hum_outside.specs.Outside.{appended}
use Rattle.cap_words.specs.Words.{W}
use Rattle.cap_words.specs.Store.{Store}
use Rattle.cap_words.specs.Seen.{seen}
use Rattle.quad_memory.specs.declared.cells.EventCell.{EventCell}
use Rattle.quad_memory.specs.Cells.{event_at}
use Rattle.instr_table.specs.Event.{Sent}
use Rattle.instr_table.specs.Reach.{Every}
use Rattle.vm_sponsor.specs.Ledger.{names}
use Rattle.vm_devices.specs.declared.delivery.Done.{Done}
use Rattle.vm_devices.specs.declared.delivery.Done.TheVariants.{Committed, Refused}
use Rattle.vm_devices.specs.Delivery.{Delivers}
use Rattle.vm_turn.specs.declared.journal.Entry.{Entry}
use Rattle.vm_turn.specs.declared.journal.Outcome.{Outcome as End}
use Rattle.vm_turn.specs.declared.journal.Turn.{Turn as Answer}
use Rattle.vm_turn.specs.declared.journal.Turn.TheVariants.{Dispatched, Finished}
use Rattle.vm_turn.specs.State.{State}
use Rattle.vm_turn.specs.Actors.{sent_in, sent_at}
use Rattle.vm_turn.specs.Piece.{piece}
use Rattle.vm_turn.specs.Turn.{is_in_flight, entry, delivered, deliver, dispatch, device_of, begin}
use Rattle.event_queue.specs.Pending.{Pending, IsAscending, without}
use Rattle.vm_step.specs.declared.lane.Lane.{Lane}
use Rattle.vm_step.proofs.Known.{event-seen}
use Rattle.vm_machine.specs.declared.parts.Parts.{Parts}
use Rattle.vm_machine.specs.Messages.{is_among, unfinished}
use Rattle.vm_machine.specs.Flight.{flight_of, Flies}
use Rattle.vm_machine.specs.View.{state_of, unwritten}
use Rattle.vm_machine.specs.Whole.{Kept}
use Rattle.vm_machine.specs.Deliveries.{end_by}
use Rattle.vm_machine.specs.Turns.{Takes}
use Rattle.vm_machine.proofs.Lists.{every-more}
use Rattle.vm_machine.proofs.Messages.{unfinished-ended, without-among}
use Rattle.vm_machine.proofs.Standing.{ascending-without}
use Rattle.vm_machine.proofs.Searching.{flying-taken}
use Rattle.vm_machine.proofs.Beginning.{contains-among, length-without}
use Rattle.vm_machine.proofs.Failing.{append-none}

-- nothing appended
appended-none : (told : Option (List ℕ)) → appended told [] ≡ told
appended-none None = refl
appended-none (Some bytes) = ap (λ (bs : List ℕ). Some bs) (append-none bytes)

module _ (p : Parts) (k : Kept p) (number : ℕ) (ready : Contains p.queue.ready number) (queue : Pending) (journal : Vec Entry) (end : End)
    (queue_is : queue ≡ record p.queue { ready = without number p.queue.ready })
    (entries : journal.items ≡ p.journal.items ++ entry number end ∷ []) (journal_len : vec_len journal ≡ vec_len p.journal + 1) (journal_capacity : vec_capacity p.journal ≤ vec_capacity journal) where
  abbrev told : Parts
  told = record p { queue = queue; journal = journal }

  among : is_among number p.queue.ready ≡ true
  among = contains-among p.queue.ready number ready

  not_flying : is_in_flight number (flight_of p.quads.store p.flight.items) ≡ false
  not_flying = by (is_in_flight number (flight_of p.quads.store p.flight.items)) refl
    where
      by : (b : Bool) → is_in_flight number (flight_of p.quads.store p.flight.items) ≡ b → is_in_flight number (flight_of p.quads.store p.flight.items) ≡ false
      by true h = let x : true ≡ false = sym among ∙ flying-taken p.quads.store (names p.sheet.rows) p.queue.given p.queue.ready p.flight.items number k.flying h in cc
      by false h = h

  fewer_ready : (l : Lane) → Flies p.quads.store (names p.sheet.rows) p.queue.given p.queue.ready l → Flies p.quads.store (names p.sheet.rows) p.queue.given (without number p.queue.ready) l
  fewer_ready l h = record { held = h.held; busy = h.busy; numbered = h.numbered; taken = without-among number l.number p.queue.ready other ∙ h.taken }
    where
      other : l.number ≡ number → ⊥
      other e = let x : true ≡ false = sym among ∙ ap (λ (n : ℕ). is_among n p.queue.ready) (sym e) ∙ h.taken in cc

  pub kept-told : Kept told
  kept-told = record {
    books = k.books;
    transfers = k.transfers;
    flying = subst (λ (q : Pending). Every (Flies p.quads.store (names p.sheet.rows) q.given q.ready) p.flight.items) (sym queue_is)
        (every-more (Flies p.quads.store (names p.sheet.rows) p.queue.given p.queue.ready) (Flies p.quads.store (names p.sheet.rows) p.queue.given (without number p.queue.ready)) p.flight.items (λ l h. fewer_ready l h) k.flying);
    apart = k.apart;
    granted = k.granted;
    some_lanes = k.some_lanes;
    lanes_limit = k.lanes_limit;
    few = k.few;
    flight_room = k.flight_room;
    queue_room = ap (λ (q : Pending). q.room) queue_is ∙ k.queue_room;
    counts = (
        let g : length queue.given ≡ length p.queue.given = ap (λ (q : Pending). length q.given) queue_is in
        let r : length queue.ready + 1 ≡ length p.queue.ready = ap (λ (q : Pending). length q.ready + 1) queue_is ∙ length-without 0 (length p.queue.given) p.queue.ready number k.ascending among in
        omega (arith, k.counts, journal_len, g, r));
    given_room = (let g : length queue.given ≡ length p.queue.given = ap (λ (q : Pending). length q.given) queue_is in let r : queue.room ≡ p.queue.room = ap (λ (q : Pending). q.room) queue_is in omega (arith, k.given_room, g, r));
    ascending = subst (λ (q : Pending). IsAscending 0 (length q.given) q.ready) (sym queue_is) (ascending-without number 0 (length p.queue.given) p.queue.ready k.ascending);
    journal_room = (let r : queue.room ≡ p.queue.room = ap (λ (q : Pending). q.room) queue_is in omega (arith, k.journal_room, journal_capacity, r));
    actors = k.actors;
    used_room = k.used_room;
    roll_room = k.roll_room;
    known = k.known;
  }

  state-told : (bytes : List ℕ) → state_of told ≡ unwritten (delivered (state_of p) number end bytes)
  state-told bytes =
      let me = ap (λ (q : Pending). unfinished q.given q.ready (flight_of p.quads.store p.flight.items)) queue_is ∙ unfinished-ended p.queue.given p.queue.ready (flight_of p.quads.store p.flight.items) number not_flying in
      let nu : length queue.given ≡ length p.queue.given = ap (λ (q : Pending). length q.given) queue_is in
      let jo = entries in
      λ j. record (state_of p) { messages = me j; next_number = nu j; journal = jo j; output = [] }

  pub takes-told : (o : Option (List ℕ)) (done : Done) (before after : Option (List ℕ)) → Delivers o (Ok done) before after → end ≡ end_by done
      → Takes (deliver (state_of p) number o) (Ok (Finished (entry number end))) (state_of p) (state_of told) before after
  takes-told None Committed before after h e = absurd h
  takes-told None Refused before after h e =
      (state-told [] ∙ ap (λ (x : End). unwritten (delivered (state_of p) number x [])) e, ap (λ (x : End). Finished (entry number x)) e, h ∙ sym (appended-none before))
  takes-told (Some bytes) Committed before after h e =
      (state-told bytes ∙ ap (λ (x : End). unwritten (delivered (state_of p) number x bytes)) e, ap (λ (x : End). Finished (entry number x)) e, h)
  takes-told (Some bytes) Refused before after h e = absurd h

-- ---- dispatch

-- the message of an event, by its cell
cell-sent : (s : Store) (w : W) (cell : EventCell) → event_at s w ≡ Some cell → sent_at (seen s) w ≡ record { event = w; sponsor = cell.sponsor; target = cell.target; content = cell.message }
cell-sent s w cell h = ap (sent_in w) (event-seen s w cell h)

abbrev dispatched : Parts → ℕ → W → State × Answer
dispatched p number w = dispatch (state_of p) number (sent_at (seen p.quads.store) w) (device_of (sent_at (seen p.quads.store) w).target)

pub dispatched-device : (p : Parts) (number : ℕ) (event word : W) (cell : EventCell) (device : ℕ) → event ≡ word → event_at p.quads.store event ≡ Some cell → device_of cell.target ≡ Some device
    → dispatched p number word ≡ deliver (state_of p) number (piece device (seen p.quads.store) cell.message)
dispatched-device p number event word cell device e at is =
    ap (dispatched p number) (sym e)
    ∙ ap (λ (m : Sent). dispatch (state_of p) number m (device_of m.target)) (cell-sent p.quads.store event cell at)
    ∙ ap (dispatch (state_of p) number (record { event = event; sponsor = cell.sponsor; target = cell.target; content = cell.message })) is

pub dispatched-begins : (p : Parts) (number : ℕ) (event word : W) (cell : EventCell) → event ≡ word → event_at p.quads.store event ≡ Some cell → device_of cell.target ≡ None
    → dispatched p number word ≡ (begin (state_of p) number (sent_at (seen p.quads.store) event), Dispatched)
dispatched-begins p number event word cell e at is =
    ap (dispatched p number) (sym e)
    ∙ ap (λ (m : Sent). dispatch (state_of p) number m (device_of m.target)) (cell-sent p.quads.store event cell at)
    ∙ ap (dispatch (state_of p) number (record { event = event; sponsor = cell.sponsor; target = cell.target; content = cell.message })) is
    ∙ ap (λ (m : Sent). (begin (state_of p) number m, Dispatched)) (sym (cell-sent p.quads.store event cell at))

-- an event that began wrote nothing
pub takes-begun : (s t : State) (x : State × Answer) (number : ℕ) (m : Sent) (before : Option (List ℕ)) → s.output ≡ [] → x ≡ (begin s number m, Dispatched) → t ≡ begin s number m → t.output ≡ [] → Takes x (Ok Dispatched) s t before before
takes-begun s t x number m before out e is quiet =
    subst (λ (y : State × Answer). Takes y (Ok Dispatched) s t before before) (sym e)
    (is ∙ unwritten-same (begin s number m) (sym (ap (λ (y : State). y.output) is) ∙ quiet), refl, sym (appended-none before) ∙ ap (appended before) (sym out))
  where
    unwritten-same : (y : State) → y.output ≡ [] → y ≡ unwritten y
    unwritten-same y h = λ j. record y { output = h j }
