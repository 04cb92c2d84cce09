-- A machine after one of its sponsors was stopped.
use Rattle.std.proofs.Common.{◌≡◌, inl, inr, ℕ, ◌+◌, List, length, false, ap, refl, sym, ◌∙◌, subst, arith}
use Rattle.std.proofs.lemmas.List.{length-map}
use Rattle.cap_words.specs.declared.word.Tag.TheVariants.{SponsorHeld, SponsorSpent}
use Rattle.cap_words.specs.Words.{W, Cap}
use Rattle.cap_words.specs.Store.{Store, used, cap_place}
use Rattle.cap_words.specs.Seen.{Seen, seen, cell_seen, slot_seen}
use Rattle.cap_words.specs.Frame.{Among, Framed}
use Rattle.quad_memory.specs.Memory.{Memory}
use Rattle.quad_memory.proofs.Typed.{Sponsor, sponsor, sponsor-quads}
use Rattle.instr_table.specs.Sheet.{Account, stop, stands_as, Stopped}
use Rattle.instr_table.specs.Types.{is_sponsor}
use Rattle.instr_table.specs.Reach.{Every}
use Rattle.vm_sponsor.specs.Ledger.{Ledger, names}
use Rattle.vm_sponsor.specs.Sheets.{IsThere, quads_of}
use Rattle.vm_sponsor.specs.Keeps.{Keeps}
use Rattle.vm_sponsor.proofs.Plain.{sum-at_account}
use Rattle.vm_effects.proofs.Records.{effects-framed}
use Rattle.vm_effects.proofs.Apart.{own-other}
use Rattle.vm_step.specs.declared.lane.Lane.{Lane}
use Rattle.vm_step.specs.Flight.{own_at, lane_words}
use Rattle.vm_step.specs.Books.{held_quads}
use Rattle.vm_step.specs.Step.{sheet_in}
use Rattle.vm_machine.specs.declared.parts.Parts.{Parts}
use Rattle.vm_machine.specs.Messages.{unfinished}
use Rattle.vm_machine.specs.Flight.{Flies}
use Rattle.vm_machine.specs.View.{state_of}
use Rattle.vm_machine.specs.Whole.{Kept, cycles_spent, created_in}
use Rattle.vm_machine.proofs.Lists.{every-more}
use Rattle.vm_machine.proofs.Still.{Flown, still}
use Rattle.vm_machine.proofs.Left.{Stayed, stayed}

-- where one sponsor's quads alone changed, a lane stays
sponsor-flown : (s t : Store) (who : W) (sponsors given : List W) (ready : List ℕ) (k : Lane) → IsThere s who → Framed s t (quads_of who) → seen t ≡ seen s → Flies s sponsors given ready k → Flown s t sponsors given ready k
sponsor-flown s t who sponsors given ready k there f same h =
    let x = effects-framed s t (quads_of who) k.effects h.held.linked f own_apart in
    still s t sponsors given ready k (record {
      cells = λ w q y. ap (λ (z : Seen). cell_seen z w) same ∙ y;
      event = ap (λ (z : Seen). slot_seen z k.event) same;
      actor = ap (λ (z : Seen). slot_seen z (own_at (seen s) k.event).actor) same;
      effects = x.0;
      linked = x.1;
      grows = f.grows;
    }) h
  where
    own_apart : (v : W) → Among v (lane_words s k) → Among v (quads_of who) → ⊥
    own_apart v a (inl e) =
        let q = sponsor-quads s who there.0 there.1 in
        own-other s k.effects h.held.linked SponsorHeld who q.0 q.2 (λ z. cc) (λ z. cc) (subst (λ (w : W). Among w (lane_words s k)) e a)
    own_apart v a (inr (inl e)) =
        let q : Sponsor s who = sponsor s who there.0 there.1 in
        own-other s k.effects h.held.linked SponsorSpent (Cap (cap_place who + 1)) q.spent q.spent_is (λ z. cc) (λ z. cc) (subst (λ (w : W). Among w (lane_words s k)) e a)
    own_apart v a (inr (inr x)) = x

-- a stopped sponsor holds what it held
stopped-held : (sheet : List Account) (who : W) → held_quads (stop sheet who) ≡ held_quads sheet
stopped-held sheet who = sum-at_account (λ (a : Account). a.memory.held) who (stands_as Stopped) sheet refl

stopped-spent : (sheet : List Account) (who : W) → cycles_spent (stop sheet who) ≡ cycles_spent sheet
stopped-spent sheet who = sum-at_account (λ (a : Account). a.cycles.spent) who (stands_as Stopped) sheet refl

module _ (p : Parts) (k : Kept p) (who : W) (named : Among who (names p.sheet.rows)) (after : Memory) (sheet : Ledger) (keeps : Keeps p.quads after p.sheet sheet (quads_of who)) (rows : sheet ≡ p.sheet)
    (sheet_is : sheet_in after sheet ≡ stop (sheet_in p.quads p.sheet) who) where
  abbrev stopped : Parts
  stopped = record p { quads = after; sheet = sheet; stuck = false }

  abbrev sponsors : List W
  sponsors = names p.sheet.rows

  same-used : used after.store ≡ used p.quads.store
  same-used = omega (arith, ap (λ (x : Seen). length x.slots) keeps.unseen, length-slots after.store, length-slots p.quads.store)
    where
      length-slots : (s : Store) → length (seen s).slots ≡ used s
      length-slots s = length-map s.ram _

  rest : Stayed p.quads.store after.store sponsors p.queue.given p.queue.ready p.flight.items
  rest = stayed p.quads.store after.store sponsors p.queue.given p.queue.ready p.flight.items
      (every-more (Flies p.quads.store sponsors p.queue.given p.queue.ready) (Flown p.quads.store after.store sponsors p.queue.given p.queue.ready) p.flight.items
      (λ l h. sponsor-flown p.quads.store after.store who sponsors p.queue.given p.queue.ready l (k.books.belongs.there who named) keeps.frame keeps.unseen h) k.flying) k.apart

  pub kept-stopped : Kept stopped
  kept-stopped = record {
    books = record {
      belongs = keeps.belongs;
      listed = λ w h. subst (λ (ws : List W). Among w ws) (sym keeps.same_names) (k.books.listed w (ap (λ (x : Seen). is_sponsor x w) (sym keeps.unseen) ∙ h));
      rows_room = keeps.same_rows_room ∙ k.books.rows_room;
      covered = (let h = ap held_quads sheet_is ∙ stopped-held (sheet_in p.quads p.sheet) who in omega (arith, k.books.covered, same-used, keeps.same_room, h));
    };
    transfers = (let h = ap cycles_spent sheet_is ∙ stopped-spent (sheet_in p.quads p.sheet) who in let t = ap (λ (l : Ledger). l.transfers) rows in omega (arith, k.transfers, h, t));
    flying = subst (λ (l : Ledger). Every (Flies after.store (names l.rows) p.queue.given p.queue.ready) p.flight.items) (sym rows) rest.flying;
    apart = rest.apart;
    granted = k.granted;
    some_lanes = k.some_lanes;
    lanes_limit = k.lanes_limit;
    few = k.few;
    flight_room = k.flight_room;
    queue_room = k.queue_room;
    counts = k.counts;
    given_room = k.given_room;
    ascending = k.ascending;
    journal_room = k.journal_room;
    actors = (let c = ap created_in rest.flight in omega (arith, k.actors, c, same-used));
    used_room = omega (arith, k.used_room, same-used, keeps.same_room);
    roll_room = omega (arith, k.roll_room, keeps.same_room);
    known = k.known;
  }

  pub state-stopped : state_of stopped ≡ record (state_of p) { sheet = stop (sheet_in p.quads p.sheet) who }
  state-stopped =
      let st = keeps.unseen in
      let fl = rest.flight in
      let me = ap (unfinished p.queue.given p.queue.ready) rest.flight in
      let sh = sheet_is in
      λ j. record (state_of p) { store = st j; flight = fl j; messages = me j; sheet = sh j }
