-- The search for the message that goes next.
use Rattle.std.proofs.Common.{◌≡◌, ℕ, ◌<◌, ◌≤◌, nat_eq, nat_lt, List, [], ◌∷◌, length, Option, Some, None, Bool, true, false, if◌then◌else◌, ap, refl, sym, ◌∙◌, subst, arith}
use Rattle.std.specs.Prelude.{option_map, is_none}
use Rattle.std.proofs.lemmas.Bool.Decides.{nat_tests}
use Rattle.std.proofs.lemmas.List.{length-map}
use Rattle.cap_words.specs.Words.{W, Fix, Rom, Ram, Cap}
use Rattle.cap_words.specs.Store.{Store}
use Rattle.cap_words.specs.Seen.{Slot, seen}
use Rattle.cap_words.proofs.Erased.{slot-seen}
use Rattle.cap_words.specs.declared.word.Tag.TheVariants.{SponsorHeld}
use Rattle.quad_memory.specs.declared.cells.SponsorCell.{SponsorCell}
use Rattle.quad_memory.specs.Cells.{sponsor_at}
use Rattle.quad_memory.proofs.Typed.{sponsor-quads}
use Rattle.instr_table.specs.Types.{opaque_in, look_up, shows_sponsor, is_sponsor}
use Rattle.instr_table.specs.Reach.{Every}
use Rattle.vm_sponsor.specs.Ledger.{names}
use Rattle.vm_turn.specs.State.{State}
use Rattle.vm_turn.specs.Turn.{is_in_flight, first_to_go, dispatchable}
use Rattle.vm_step.specs.declared.lane.Lane.{Lane}
use Rattle.vm_step.specs.Flight.{lane_of}
use Rattle.event_queue.specs.Starts.{first_ready}
use Rattle.event_queue.specs.Waiting.{message_of}
use Rattle.event_queue.proofs.FirstToGo.{first-ready_goes_first}
use Rattle.vm_machine.specs.declared.parts.Parts.{Parts}
use Rattle.vm_machine.specs.Messages.{is_among}
use Rattle.vm_machine.specs.Flight.{flight_of, Flies}
use Rattle.vm_machine.specs.View.{state_of}
use Rattle.vm_machine.specs.Whole.{Kept, Waits}
use Rattle.vm_machine.proofs.Standing.{stands}

-- what is kept says nothing of a search
pub kept-stuck : (p : Parts) (b : Bool) → Kept p → Kept (record p { stuck = b })
kept-stuck p b k = record {
  books = k.books;
  transfers = k.transfers;
  flying = k.flying;
  apart = k.apart;
  granted = k.granted;
  some_lanes = k.some_lanes;
  lanes_limit = k.lanes_limit;
  few = k.few;
  flight_room = k.flight_room;
  queue_room = k.queue_room;
  counts = k.counts;
  given_room = k.given_room;
  ascending = k.ascending;
  journal_room = k.journal_room;
  actors = k.actors;
  used_room = k.used_room;
  roll_room = k.roll_room;
  known = k.known;
}

-- each sponsor in the store has a row
pub cell-sponsor : (s : Store) (w : W) (c : SponsorCell) → sponsor_at s w ≡ Some c → is_sponsor (seen s) w ≡ true
unfolding look_up
cell-sponsor s (Fix n) c h = cc
cell-sponsor s (Rom n) c h = cc
cell-sponsor s (Ram n) c h = cc
cell-sponsor s (Cap n) c h =
    let q = sponsor-quads s (Cap n) c h in
    ap (λ (o : Option Slot). shows_sponsor (opaque_in o)) (slot-seen s SponsorHeld (Cap n) q.0 q.2)

-- a number in flight is not ready
pub flying-taken : (s : Store) (sponsors given : List W) (ready : List ℕ) (ls : List Lane) (k : ℕ) → Every (Flies s sponsors given ready) ls → is_in_flight k (flight_of s ls) ≡ true → is_among k ready ≡ false
flying-taken s sponsors given ready [] k h e = cc
flying-taken s sponsors given ready (l ∷ ls) k h e = by (nat_eq l.number k) refl (λ f. flying-taken s sponsors given ready ls k h.1 f) e
  where
    by : (b : Bool) → nat_eq l.number k ≡ b → (is_in_flight k (flight_of s ls) ≡ true → is_among k ready ≡ false) → (if b then true else is_in_flight k (flight_of s ls)) ≡ true → is_among k ready ≡ false
    by true e later f = let x : l.number ≡ k = grind (arith, nat_tests) in subst (λ (n : ℕ). is_among n ready ≡ false) x h.0.taken
    by false e later f = later f

-- the first ready message is the first that can go
pub first-found : (p : Parts) → Kept p → first_to_go (state_of p).store (state_of p).sheet (state_of p).flight (state_of p).messages ≡ option_map (message_of p.queue.given) (first_ready p.quads.store p.queue.given p.queue.ready)
first-found p k =
    first-ready_goes_first p.quads.store p.sheet (state_of p).flight (state_of p).messages p.queue k.books.belongs
    (λ w c h. k.books.listed w (cell-sponsor p.quads.store w c h))
    (stands p.queue (state_of p).flight k.ascending (λ n h. flying-taken p.quads.store (names p.sheet.rows) p.queue.given p.queue.ready p.flight.items n k.flying h))

-- so the machine's next message is the written turn's, where a lane is free
pub found-next : (p : Parts) (o : Option ℕ) → Kept p → o ≡ first_ready p.quads.store p.queue.given p.queue.ready → length p.flight.items < p.lanes → option_map (message_of p.queue.given) o ≡ dispatchable (state_of p)
found-next p o k e free =
    let n : length (state_of p).flight ≡ length p.flight.items = length-map p.flight.items (lane_of p.quads.store) in
    let yes : nat_lt (length (state_of p).flight) p.lanes ≡ true = grind (arith, nat_tests, n, free) in
    ap (option_map (message_of p.queue.given)) e
    ∙ sym (first-found p k)
    ∙ ap (λ (b : Bool). if b then first_to_go (state_of p).store (state_of p).sheet (state_of p).flight (state_of p).messages else None) (sym yes)

-- no message is dispatched where no lane is free, or none can go
pub none-next : (p : Parts) → p.lanes ≤ length p.flight.items → None ≡ dispatchable (state_of p)
none-next p full =
    let n : length (state_of p).flight ≡ length p.flight.items = length-map p.flight.items (lane_of p.quads.store) in
    let no : nat_lt (length (state_of p).flight) p.lanes ≡ false = grind (arith, nat_tests, n, full) in
    ap (λ (b : Bool). if b then first_to_go (state_of p).store (state_of p).sheet (state_of p).flight (state_of p).messages else None) (sym no)

pub waits-next : (s : State) → Waits s → None ≡ dispatchable s
waits-next s w = by (nat_lt (length s.flight) s.lanes)
  where
    by : (b : Bool) → None ≡ (if b then first_to_go s.store s.sheet s.flight s.messages else None)
    by true = sym w
    by false = refl

-- where the search found none, none can go
pub found-none : (p : Parts) (o : Option ℕ) → Kept p → o ≡ first_ready p.quads.store p.queue.given p.queue.ready → is_none o ≡ true → Waits (state_of p)
found-none p o k e none = first-found p k ∙ ap (option_map (message_of p.queue.given)) (sym e ∙ by o none)
  where
    by : (x : Option ℕ) → is_none x ≡ true → x ≡ None
    by None h = refl
    by (Some n) h = cc
