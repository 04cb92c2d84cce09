-- A machine after one instruction of an event in flight.
use Rattle.std.proofs.Common.{◌≡◌, ℕ, suc, ◌+◌, ◌*◌, ◌^◌, ◌<◌, ◌≤◌, List, [], ◌∷◌, length, Option, Some, None, Bool, true, false, if◌then◌else◌, ap, ap₂, refl, sym, ◌∙◌, subst, arith, vec_len, length-append}
use Rattle.std.specs.Prelude.{slice_get, slice_set, vec_capacity, IsTrue}
use Rattle.std.specs.Global.{Vec}
use Rattle.std.proofs.lemmas.Bool.Decides.{nat_tests}
use Rattle.std.proofs.lemmas.List.{length-map, length-set}
use Rattle.cap_words.specs.Words.{W, Cap, same_word}
use Rattle.cap_words.specs.Store.{Store, used}
use Rattle.cap_words.specs.Seen.{Seen, Slot, seen, erase, cell_seen, slot_seen}
use Rattle.cap_words.specs.Frame.{Among}
use Rattle.cap_words.proofs.Places.{set-same}
use Rattle.quad_memory.specs.Memory.{Memory}
use Rattle.instr_table.specs.declared.charge.Charge.{Charge}
use Rattle.instr_table.specs.declared.charge.Quota.{Quota}
use Rattle.instr_table.specs.declared.charge.Quota.TheVariants.{Cycles}
use Rattle.instr_table.specs.Code.{fetched}
use Rattle.instr_table.specs.Event.{Made, Effects, Effect, Nothing, Sends, Creates, Assigns, Becomes, Sponsors, Grants, Reclaims, Starts, Stops, with_effect, reassigned}
use Rattle.instr_table.specs.Lists.{item}
use Rattle.instr_table.specs.Making.{MakesNamed, MadeWith}
use Rattle.instr_table.specs.Outcome.{Going, Outcome, Goes, Faults, Commits, Row}
use Rattle.instr_table.specs.Sheet.{Account, account, short, spend, sheet_after, paid}
use Rattle.instr_table.specs.Lane.{gone, lane_row, values, Lane as Flying}
use Rattle.instr_table.specs.Reach.{Every}
use Rattle.instr_table.proofs.Makings.{row_at-makes}
use Rattle.vm_sponsor.specs.Grant.{is_grant}
use Rattle.vm_sponsor.specs.Ledger.{Ledger, names}
use Rattle.vm_sponsor.specs.Totals.{sponsors}
use Rattle.vm_sponsor.proofs.Plain.{sponsors-at_account}
use Rattle.vm_effects.proofs.Records.{effects-kept}
use Rattle.vm_turn.specs.Turn.{go_on}
use Rattle.vm_turn.proofs.Sums.{sum-set}
use Rattle.vm_turn.proofs.Slots.{length-going}
use Rattle.vm_turn.proofs.Sheets.{spend-moves, effect-moves, payer-there, Allowed}
use Rattle.vm_turn.proofs.Sponsors.{allowed}
use Rattle.vm_turn.proofs.Grants.{HeldBy, row_at-holds}
use Rattle.vm_step.specs.declared.lane.Lane.{Lane}
use Rattle.vm_step.specs.declared.lane.StepEnd.{StepEnd}
use Rattle.vm_step.specs.Flight.{own_at, stack_of, lane_of, Aside}
use Rattle.vm_step.specs.Step.{GoesOn, ActsBy, StepsBy, Steps, Stays, sheet_in, payer}
use Rattle.vm_machine.specs.declared.parts.Parts.{Parts}
use Rattle.vm_machine.specs.Messages.{unfinished}
use Rattle.vm_machine.specs.Flight.{flight_of, Flies, Separate, Pairwise}
use Rattle.vm_machine.specs.View.{state_of}
use Rattle.vm_machine.specs.Whole.{Kept, Whole, cycles_spent, created_in}
use Rattle.vm_machine.specs.Steps.{PaidTo, StepsAs, StepsTo}
use Rattle.vm_machine.proofs.Exhausting.{spent-under}
use Rattle.vm_machine.proofs.Lists.{every-more, get-map}
use Rattle.vm_machine.proofs.Still.{Flown, still}
use Rattle.vm_machine.proofs.Left.{Stayed, stayed}
use Rattle.vm_machine.proofs.Keeping.{used-same}
use Rattle.vm_machine.proofs.Going.{flies-more, Went, went, unfinished-set}

-- ---- a payment changes no lane

aside-flown : (s t : Store) (sponsors given : List W) (ready : List ℕ) (k : Lane) → Aside s t [] → seen t ≡ seen s → used s ≤ used t → Flies s sponsors given ready k → Flown s t sponsors given ready k
aside-flown s t sponsors given ready k f same u h =
    let x = effects-kept s t k.effects h.held.linked u (λ v q m y. f.events v q (λ b. b) y) (λ v q m y. f.actors v q (λ b. b) y) in
    still s t sponsors given ready k (record {
      cells = λ w q y. ap (λ (z : Seen). cell_seen z w) same ∙ y;
      event = ap (λ (z : Seen). slot_seen z k.event) same;
      actor = ap (λ (z : Seen). slot_seen z (own_at (seen s) k.event).actor) same;
      effects = x.0;
      linked = x.1;
      grows = u;
    }) h

-- ---- what an instruction that goes on creates

length-reassigned : (m : Made) (ms : List Made) → length (reassigned m ms) ≡ length ms
length-reassigned m [] = refl
length-reassigned m (n ∷ ms) = by (same_word n.actor m.actor) (length-reassigned m ms)
  where
    by : (b : Bool) → length (reassigned m ms) ≡ length ms → length (if b then m ∷ ms else n ∷ reassigned m ms) ≡ suc (length ms)
    by true r = refl
    by false r = ap suc r

created-more : (payer controller : W) (s : Seen) (made : List Slot) (e : Effects) (x : Effect) → MadeWith payer controller s made x → length (with_effect e x).created ≤ length e.created + length made
created-more payer controller s made e Nothing h = omega arith
created-more payer controller s made e (Sends m) h = omega arith
created-more payer controller s made e (Creates m) h = let n : length made ≡ 1 = ap (λ (l : List Slot). length l) h.1 in omega (arith, n, length-append e.created (m ∷ []))
created-more payer controller s made e (Assigns m) h = omega (arith, length-reassigned m e.created)
created-more payer controller s made e (Becomes b) h = omega arith
created-more payer controller s made e (Sponsors w) h = omega arith
created-more payer controller s made e (Grants w kind n) h = omega arith
created-more payer controller s made e (Reclaims w) h = omega arith
created-more payer controller s made e (Starts w z) h = omega arith
created-more payer controller s made e (Stops w) h = omega arith

module _ (p : Parts) (whole : Whole p) (place : ℕ) (lane m : Lane) (at : slice_get p.flight.items place ≡ Some lane) (after : Memory) (sheet : Ledger) (flight : Vec Lane) (stuck : Bool)
    (items : flight.items ≡ slice_set p.flight.items place m) (len : vec_len flight ≡ vec_len p.flight) (capacity : vec_capacity p.flight ≤ vec_capacity flight)
    (stays : Stays p.quads after p.sheet sheet) where
  abbrev k : Kept p
  k = whole.kept

  abbrev s : Store
  s = p.quads.store

  abbrev t : Store
  t = after.store

  abbrev instructed : Parts
  instructed = record p { quads = after; sheet = sheet; flight = flight; stuck = stuck }

  abbrev l : Flying
  l = lane_of s lane

  abbrev rows : List Account
  rows = sheet_in p.quads p.sheet

  lanes_len : length (slice_set p.flight.items place m) ≡ length p.flight.items
  lanes_len = length-set p.flight.items place m

  -- what stays of all that is kept
  keeping : Every (Flies t (names sheet.rows) p.queue.given p.queue.ready) flight.items → Pairwise (Separate t) flight.items → length p.roll.items + created_in (flight_of t flight.items) ≤ used t
      → sheet.transfers ≤ 3 * cycles_spent (sheet_in after sheet) → used t ≤ after.room → Kept instructed
  keeping flying apart actors transfers fits = record {
    books = stays.books;
    transfers = transfers;
    flying = flying;
    apart = apart;
    granted = k.granted;
    some_lanes = k.some_lanes;
    lanes_limit = k.lanes_limit;
    few = omega (arith, k.few, len);
    flight_room = omega (arith, k.flight_room, capacity);
    queue_room = k.queue_room;
    counts = omega (arith, k.counts, len);
    given_room = k.given_room;
    ascending = k.ascending;
    journal_room = k.journal_room;
    actors = actors;
    used_room = fits;
    roll_room = omega (arith, k.roll_room, stays.room_is);
    known = k.known;
  }

  -- the quads that are taken fit, since those that sponsors hold do
  fitting : used t ≤ after.room
  fitting = omega (arith, stays.books.covered)

  -- ---- where only a sponsor changed

  module _ (same : m ≡ lane) (f : Aside s t []) (seen_is : seen t ≡ seen s) where
    whole_items : flight.items ≡ p.flight.items
    whole_items = items ∙ ap (slice_set p.flight.items place) same ∙ set-same p.flight.items place lane at

    quads_same : used t ≡ used s
    quads_same = used-same s t (ap (λ (x : Seen). length x.slots) seen_is)

    lanes_stay : Stayed s t (names p.sheet.rows) p.queue.given p.queue.ready p.flight.items
    lanes_stay = stayed s t (names p.sheet.rows) p.queue.given p.queue.ready p.flight.items
        (every-more (Flies s (names p.sheet.rows) p.queue.given p.queue.ready) (Flown s t (names p.sheet.rows) p.queue.given p.queue.ready) p.flight.items
        (λ x h. aside-flown s t (names p.sheet.rows) p.queue.given p.queue.ready x f seen_is (omega (arith, quads_same)) h) k.flying) k.apart

    flight_stays : flight_of t flight.items ≡ flight_of s p.flight.items
    flight_stays = ap (flight_of t) whole_items ∙ lanes_stay.flight

    quiet_kept : sheet.transfers ≤ 3 * cycles_spent (sheet_in after sheet) → Kept instructed
    quiet_kept transfers = keeping
        (subst (λ (ls : List Lane). Every (Flies t (names sheet.rows) p.queue.given p.queue.ready) ls) (sym whole_items)
        (every-more (Flies t (names p.sheet.rows) p.queue.given p.queue.ready) (Flies t (names sheet.rows) p.queue.given p.queue.ready) p.flight.items
        (λ x h. flies-more t (names p.sheet.rows) (names sheet.rows) p.queue.given p.queue.ready x stays.sponsors h) lanes_stay.flying))
        (subst (λ (ls : List Lane). Pairwise (Separate t) ls) (sym whole_items) lanes_stay.apart)
        (let c = ap created_in flight_stays in omega (arith, c, k.actors, quads_same))
        transfers fitting

    quiet_state : state_of instructed ≡ record (state_of p) { sheet = sheet_in after sheet }
    quiet_state =
        let st = seen_is in
        let fl = flight_stays in
        let me = ap (unfinished p.queue.given p.queue.ready) flight_stays in
        λ j. record (state_of p) { store = st j; flight = fl j; messages = me j; sheet = sheet_in after sheet }

  -- ---- payments

  paid-more : (c : Charge) → short (account rows l.own.sponsor) c ≡ None → sheet_in after sheet ≡ spend rows l.own.sponsor c → sheet.transfers ≤ 3 * cycles_spent (sheet_in after sheet)
  paid-more c enough is =
      let spent = (spend-moves rows l.own.sponsor c enough).spent Cycles in
      let n : cycles_spent (sheet_in after sheet) ≡ cycles_spent (spend rows l.own.sponsor c) = ap cycles_spent is in
      omega (arith, spent, n, k.transfers, stays.transfers)

  -- ---- an event that goes on

  module _ (c : Charge) (g : Going) (enough : short (account rows l.own.sponsor) c ≡ None) (charge_is : (lane_row (seen s) rows l).charge ≡ c) (outcome_is : (lane_row (seen s) rows l).outcome ≡ Goes g) (goes : GoesOn p.quads after p.sheet sheet lane m c g) where
    lanes_go : Went s t (names sheet.rows) p.queue.given p.queue.ready p.flight.items place m
    lanes_go = went p.quads after p.sheet sheet lane m c g rows goes stays outcome_is p.queue.given p.queue.ready p.flight.items place at k.flying k.apart

    held_by : HeldBy (seen s) (spend rows l.own.sponsor c) l.own.sponsor (Goes g)
    held_by = subst (HeldBy (seen s) (spend rows l.own.sponsor c) l.own.sponsor) outcome_is
        (subst (λ (x : Charge). HeldBy (seen s) (spend rows l.own.sponsor x) l.own.sponsor (lane_row (seen s) rows l).outcome) charge_is
        (row_at-holds l.own (fetched (seen s) l.code) (seen s) rows l.effects (values l.stack)))

    effect_allowed : Allowed (spend rows l.own.sponsor c) l.own.sponsor g.effect
    effect_allowed =
        let same : sponsors (spend rows l.own.sponsor c) ≡ sponsors rows = sponsors-at_account l.own.sponsor (paid c) rows (λ a. refl) in
        allowed (seen s) (spend rows l.own.sponsor c) l.own.sponsor g.effect
        (λ n h. subst (λ (ws : List W). Among (Cap n) ws) (sym same) (whole.sound.listed n h))
        (subst (λ (ws : List W). Among l.own.sponsor ws) (sym same) (payer-there rows l.own.sponsor c enough)) held_by

    gone-more : sheet.transfers ≤ 3 * cycles_spent (sheet_in after sheet)
    gone-more =
        let spent = (spend-moves rows l.own.sponsor c enough).spent Cycles in
        let moved = (effect-moves (spend rows l.own.sponsor c) l.own.sponsor g.effect effect_allowed).spent Cycles in
        let n : cycles_spent (sheet_in after sheet) ≡ cycles_spent (sheet_after (spend rows l.own.sponsor c) l.own.sponsor g.effect) = ap cycles_spent goes.sheet_is in
        omega (arith, spent, moved, n, k.transfers, stays.transfers)

    flight_goes : flight_of t flight.items ≡ slice_set (flight_of s p.flight.items) place (gone (seen s) l g)
    flight_goes = ap (flight_of t) items ∙ lanes_go.flight ∙ ap (slice_set (flight_of s p.flight.items) place) goes.lane_is

    made : MadeWith l.own.sponsor (item (values l.stack) 1) (seen s) g.made g.effect
    made = subst (MakesNamed l.own.sponsor (item (values l.stack) 1) (seen s)) outcome_is (row_at-makes l.own (fetched (seen s) l.code) (seen s) rows l.effects (values l.stack))

    actors-more : length p.roll.items + created_in (flight_of t flight.items) ≤ used t
    actors-more =
        let c1 = created-more l.own.sponsor (item (values l.stack) 1) (seen s) g.made l.effects g.effect made in
        let c2 = sum-set (λ (x : Flying). length x.effects.created) (flight_of s p.flight.items) place l (gone (seen s) l g) (get-map (lane_of s) p.flight.items place lane at) in
        let c3 = ap created_in flight_goes in
        let n : length (seen t).slots ≡ length (seen s).slots + (length g.made + length g.pushed) = ap (λ (x : Seen). length x.slots) goes.seen_is ∙ length-going (seen s) (stack_of s lane) g in
        omega (arith, c1, c2, c3, n, length-map t.ram erase, length-map s.ram erase, k.actors)

    going_kept : Kept instructed
    going_kept = keeping
        (subst (λ (ls : List Lane). Every (Flies t (names sheet.rows) p.queue.given p.queue.ready) ls) (sym items) lanes_go.flying)
        (subst (λ (ls : List Lane). Pairwise (Separate t) ls) (sym items) lanes_go.apart)
        actors-more gone-more fitting

    going_state : state_of instructed ≡ go_on (state_of p) place l (spend rows l.own.sponsor c) g
    going_state =
        let st = goes.seen_is in
        let fl = flight_goes in
        let me = ap (unfinished p.queue.given p.queue.ready) flight_goes ∙ unfinished-set p.queue.given p.queue.ready (flight_of s p.flight.items) place l (gone (seen s) l g) (get-map (lane_of s) p.flight.items place lane at) refl in
        let sh = goes.sheet_is in
        λ j. record (state_of p) { store = st j; flight = fl j; messages = me j; sheet = sh j }

  -- ---- all together

  by_outcome : (r : Row) (o : Outcome) (end : StepEnd) → lane_row (seen s) rows l ≡ r → r.outcome ≡ o → short (account rows l.own.sponsor) r.charge ≡ None → ActsBy p.quads after p.sheet sheet lane m r.charge o end
      → Kept instructed × PaidTo o end (state_of p) (state_of instructed) place l (spend rows l.own.sponsor r.charge)
  by_outcome r (Goes g) end row_is is enough h =
      let charge_is = ap (λ (x : Row). x.charge) row_is in
      let outcome_is = ap (λ (x : Row). x.outcome) row_is ∙ is in
      (going_kept r.charge g enough charge_is outcome_is h.1, (h.0, going_state r.charge g enough charge_is outcome_is h.1))
  by_outcome r (Faults w) end row_is is enough h =
      (quiet_kept h.1.lane_is h.1.aside h.1.seen_is (paid-more r.charge enough h.1.sheet_is), (h.0, quiet_state h.1.lane_is h.1.aside h.1.seen_is ∙ ap (λ (x : List Account). record (state_of p) { sheet = x }) h.1.sheet_is))
  by_outcome r Commits end row_is is enough h =
      (quiet_kept h.1.lane_is h.1.aside h.1.seen_is (paid-more r.charge enough h.1.sheet_is), (h.0, quiet_state h.1.lane_is h.1.aside h.1.seen_is ∙ ap (λ (x : List Account). record (state_of p) { sheet = x }) h.1.sheet_is))

  by_short : (o : Option Quota) (r : Row) (end : StepEnd) → lane_row (seen s) rows l ≡ r → short (account rows l.own.sponsor) r.charge ≡ o → StepsBy p.quads after p.sheet sheet lane m o r end
      → Kept instructed × StepsAs o r end (state_of p) (state_of instructed) place l
  by_short None r end row_is enough h = by_outcome r r.outcome end row_is refl enough h
  by_short (Some kind) r end row_is enough h =
      let same_store : t ≡ s = ap (λ (x : Memory). x.store) h.1 in
      let f : Aside s t [] = subst (λ (x : Store). Aside s x []) (sym same_store) (record { events = λ v q n y. y; actors = λ v q n y. y }) in
      let sheet_is : sheet_in after sheet ≡ rows = ap₂ (λ (x : Memory) (y : Ledger). sheet_in x y) h.1 h.2 in
      let transfers : sheet.transfers ≤ 3 * cycles_spent (sheet_in after sheet) = (let n = ap cycles_spent sheet_is in let u = ap (λ (x : Ledger). x.transfers) h.2 in omega (arith, n, u, k.transfers)) in
      (quiet_kept h.3 f (ap seen same_store) transfers, (h.0, quiet_state h.3 f (ap seen same_store) ∙ ap (λ (x : List Account). record (state_of p) { sheet = x }) sheet_is))

  pub instructed-is : (end : StepEnd) → Steps p.quads after p.sheet sheet lane m end → Kept instructed × StepsTo (state_of p) (state_of instructed) place l end
  instructed-is end h = by_short (short (account rows l.own.sponsor) (lane_row (seen s) rows l).charge) (lane_row (seen s) rows l) end refl refl h

  pub instructed-at : (end : StepEnd) → Steps p.quads after p.sheet sheet lane m end → (x : Flying) → slice_get (state_of p).flight place ≡ Some x → StepsTo (state_of p) (state_of instructed) place x end
  instructed-at end h x e = subst (λ (y : Flying). StepsTo (state_of p) (state_of instructed) place y end) (some (sym (get-map (lane_of s) p.flight.items place lane at) ∙ e)) (instructed-is end h).1
    where
      some : {y z : Flying} → Some y ≡ Some z → y ≡ z
      some g = cc

-- a cycle is spent for each three transfers, and a grant has few cycles
pub few-cycles : (memory events cycles : ℕ) → IsTrue (is_grant memory events cycles) → cycles ≤ 1073741823
few-cycles memory events cycles h = grind (arith, nat_tests)

pub few-transfers : (p : Parts) → Whole p → p.sheet.transfers < 2 ^ 32
few-transfers p w =
    let few = few-cycles p.grant.memory p.grant.events p.grant.cycles w.kept.granted in
    let spent = spent-under Cycles (sheet_in p.quads p.sheet) in
    let granted = w.sound.conserved Cycles in
    omega (arith, few, spent, granted, w.kept.transfers)
