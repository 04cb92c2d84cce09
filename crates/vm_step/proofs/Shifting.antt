-- What an operation on sponsors does before the items move.
use Rattle.std.proofs.Common.{◌≡◌, ℕ, ◌+◌, ◌≤◌, List, [], ◌∷◌, ◌++◌, true, Option, Some, None, suc, zero, refl, ap, ap₂, sym, ◌∙◌, subst, arith, drop, length, inl, inr, ◌⊎◌}
use Rattle.std.specs.Prelude.{map, slice_get, option_map}
use Rattle.std.proofs.lemmas.List.{length-map}
use Rattle.cap_words.specs.declared.word.Quad.{Quad}
use Rattle.cap_words.specs.declared.word.Tag.TheVariants.{Actor, Event}
use Rattle.cap_words.specs.Words.{W, Fix, Rom, Ram, Cap}
use Rattle.cap_words.specs.Store.{Store, Cell, used, taken}
use Rattle.cap_words.specs.Seen.{Seen, Slot, SponsorSlot, SpentSlot, seen, grown, slot_seen, cell_seen, erase}
use Rattle.cap_words.specs.Frame.{Among, Framed}
use Rattle.cap_words.proofs.Frames.{opaque-framed, among-split, among-left, among-right, framed-taken}
use Rattle.cap_words.proofs.Erased.{seen-taken}
use Rattle.quad_memory.specs.Memory.{Memory, with_store}
use Rattle.instr_table.specs.Types.{Readable, look_up, opaque_in, shows_sponsor, is_sponsor}
use Rattle.instr_table.specs.Reach.{Every}
use Rattle.instr_table.specs.Lists.{next_quad}
use Rattle.instr_table.specs.Event.{Own, Effects, Effect, Nothing, Sponsors, with_effect}
use Rattle.instr_table.specs.Sheet.{Account, sheet_after, with_sponsor}
use Rattle.instr_table.specs.Outcome.{Going, charge, goes, does}
use Rattle.instr_table.specs.Lane.{Item, push_all, after_going}
use Rattle.vm_dict.proofs.Taking.{next-used}
use Rattle.vm_effects.specs.Gathered.{effects_of, IsLinked, own_words}
use Rattle.vm_effects.proofs.Apart.{used-grown}
use Rattle.vm_effects.proofs.Records.{effects-framed}
use Rattle.vm_sponsor.specs.Ledger.{Ledger, names}
use Rattle.vm_sponsor.specs.Sheets.{IsThere, Belongs, quads_of}
use Rattle.vm_sponsor.specs.Keeps.{Keeps}
use Rattle.vm_sponsor.proofs.Framed.{Aside as IsAside, sheet-framed, belongs-framed}
use Rattle.vm_step.specs.declared.lane.Lane.{Lane}
use Rattle.vm_step.specs.declared.lane.StepEnd.{StepEnd}
use Rattle.vm_step.specs.Stack.{items_from, IsStack}
use Rattle.vm_step.specs.Flight.{own_at, stack_of, Held, Aside}
use Rattle.vm_step.specs.Books.{Books, held_quads}
use Rattle.vm_step.specs.Step.{sheet_in, payer, Stays}
use Rattle.vm_step.specs.Reads.{IsInFlight}
use Rattle.vm_step.specs.Moves.{Turns, restacking}
use Rattle.vm_step.specs.Paid.{Paid, GoesBy, Acts}
use Rattle.vm_step.proofs.Stacks.{items-grown, stack-grown}
use Rattle.vm_step.proofs.Moving.{grown-nil}
use Rattle.vm_step.proofs.Flying.{IsNoSponsor, sponsor-grown, slot-grown, own-kept, flight-kept, own-aside, sponsor-other}
use Rattle.vm_step.proofs.Balances.{held-new}
use Rattle.vm_step.proofs.Going.{in-flight, turns-act}

-- quads are taken and sponsors are changed, as the effect says; the lane's words stand, and so many quads are left that were paid for
pub record Shifts (a b : Memory) (old new : Ledger) (l : Lane) (made : List Slot) (e : Effect) (left : ℕ) : Type 0 where
  pub seen_is : seen b.store ≡ grown (seen a.store) made
  pub effects_are : effects_of b.store l.effects ≡ effects_of a.store l.effects
  pub linked : IsLinked b.store l.effects
  pub aside : Aside a.store b.store []
  pub sheet_is : sheet_in b new ≡ sheet_after (sheet_in a old) (payer a l) e
  pub same_record : (x : Effects) → with_effect x e ≡ x
  pub books : Books b new
  pub free : used b.store + left + held_quads (sheet_in b new) ≤ b.room
  pub sponsors : (w : W) → Among w (names old.rows) → Among w (names new.rows)
  pub transfers : new.transfers ≤ old.transfers + 3
  pub room_is : b.room ≡ a.room

module _ (a b : Memory) (old new : Ledger) (l : Lane) (made : List Slot) (e : Effect) (left : ℕ) (h : Held a.store (names old.rows) l) (p : Shifts a b old new l made e left) where
  slot_stays : (w : W) (slot : Slot) → slot_seen (seen a.store) w ≡ Some slot → slot_seen (seen b.store) w ≡ Some slot
  slot_stays w slot k = subst (λ (s : Seen). slot_seen s w ≡ Some slot) (sym p.seen_is) (slot-grown (seen a.store) made w slot k)

  flies : IsInFlight (seen a.store) l.event
  flies = in-flight a.store (names old.rows) l h

  own_is : own_at (seen b.store) l.event ≡ own_at (seen a.store) l.event
  own_is = own-kept (seen a.store) (seen b.store) l.event flies slot_stays

  stack_is : stack_of b.store l ≡ stack_of a.store l
  stack_is = ap (λ (s : Seen). items_from s l.depth l.stack) p.seen_is ∙ items-grown (seen a.store) made l.depth l.stack h.stacked

  still_flies : IsInFlight (seen b.store) l.event
  still_flies = flight-kept (seen a.store) (seen b.store) l.event flies slot_stays

  pub shifts-paid : Paid b new l left
  shifts-paid = record {
    books = p.books;
    held = record {
      stacked = subst (λ (s : Seen). IsStack s l.depth l.stack) (sym p.seen_is) (stack-grown (seen a.store) made l.depth l.stack h.stacked);
      shallow = let u = used-grown a.store b.store made p.seen_is in let d = h.shallow in omega (arith, u, d);
      linked = p.linked;
      event = still_flies.sent;
      sponsor = p.sponsors (own_at (seen b.store) l.event).sponsor (subst (λ (o : Own). Among o.sponsor (names old.rows)) (sym own_is) h.sponsor);
      actor = still_flies.actor;
    };
    free = p.free;
  }

  module _ (c : Memory) (m : Lane) (pops : ℕ) (pushed : List W) (next : W) where
    goes_by : GoesBy b c new new l m (restacking pops pushed next) → GoesBy a c old new l m (record { pops = pops; made = made; pushed = pushed; goes_to = next; effect = e })
    goes_by k =
        let g = restacking pops pushed next in
        let g' : Going = record { pops = pops; made = made; pushed = pushed; goes_to = next; effect = e } in
        let both : after_going (seen b.store) (stack_of b.store l) g ≡ after_going (seen a.store) (stack_of a.store l) g' =
        ap₂ (λ (s : Seen) (is : List Item). push_all (s, drop pops is) pushed) (grown-nil (seen b.store) ∙ p.seen_is) stack_is in
        record {
          seen_is = k.seen_is ∙ ap (λ (x : Seen × List Item). x.0) both;
          lane_is = k.lane_is ∙ (λ i. record { number = l.number; own = own_is i; code = next; stack = (both i).1; effects = (p.effects_are ∙ sym (p.same_record (effects_of a.store l.effects))) i });
          sheet_is = k.sheet_is ∙ p.sheet_is;
          event_is = k.event_is;
          held = k.held;
          aside = record {
            events = λ v q n o. k.aside.events v q (λ i. n (subst (λ (x : Effects). Among v (own_words x)) p.effects_are i)) (p.aside.events v q (λ x. x) o);
            actors = λ v q n o. k.aside.actors v q (λ i. n (subst (λ (x : Effects). Among v (own_words x)) p.effects_are i)) (p.aside.actors v q (λ x. x) o);
          };
        }

    -- and then items are taken off the stack and others pushed
    pub shifts-act : (end : StepEnd) → length pushed ≤ left → Turns b c l m (goes pops pushed next).outcome end
        → Acts a c old new l m (does pops made pushed next e).outcome end × Stays a c old new
    shifts-act end few t =
        let x = turns-act b c new l m (charge left 0) next next (goes pops pushed next).outcome end shifts-paid (omega arith, omega arith) tt t in
        let s = x.1 in (
          (x.0.0, goes_by x.0.1),
          record {
            books = s.books;
            room_is = s.room_is ∙ p.room_is;
            sponsors = λ w i. s.sponsors w (p.sponsors w i);
            transfers = p.transfers;
          },
        )

-- ---- how they arise

-- each of these words is one of a sponsor's quads
abbrev pub OfSponsors : Store → List W → Type 0
OfSponsors s ws = (v : W) → Among v ws → (who : W) × IsThere s who × Among v (quads_of who)

pub of-one : (s : Store) (who : W) → IsThere s who → OfSponsors s (quads_of who)
of-one s who j = λ v a. (who, j, a)

pub of-two : (s : Store) (from to : W) → IsThere s from → IsThere s to → OfSponsors s (quads_of from ++ quads_of to)
of-two s from to j k = λ v a. elim (among-split v (quads_of from) (quads_of to) a) [ inl b ↦ (from, j, b) | inr b ↦ (to, k, b) ]

-- by a call on sponsors that are there
pub keeps-shifts : (a b : Memory) (old new : Ledger) (l : Lane) (ws : List W) (e : Effect) (left : ℕ) → Paid a old l left → OfSponsors a.store ws → Keeps a b old new ws → sheet_in b new ≡ sheet_after (sheet_in a old) (payer a l) e
    → ((x : Effects) → with_effect x e ≡ x) → held_quads (sheet_after (sheet_in a old) (payer a l) e) ≡ held_quads (sheet_in a old) → new.transfers ≤ old.transfers + 3 → Shifts a b old new l [] e left
keeps-shifts a b old new l ws e left h of keeps sheet same held transfers =
    let effects = effects-framed a.store b.store ws l.effects h.held.linked keeps.frame (λ w i j.
    let k = of w j in
    let o : IsAside a.store w = own-aside a.store l.effects h.held.linked w i in
    sponsor-other a.store k.0 w o.tag o.words k.1 k.2 o.there o.not_held o.not_spent) in
    let used_is : used b.store ≡ used a.store = sym (next-used b.store) ∙ ap next_quad keeps.unseen ∙ next-used a.store in
    let total : held_quads (sheet_in b new) ≡ held_quads (sheet_in a old) = ap held_quads sheet ∙ held in
    let room = keeps.same_room in
    let free = h.free in
    let names_are = keeps.same_names in
    record {
      seen_is = keeps.unseen ∙ sym (grown-nil (seen a.store));
      effects_are = effects.0;
      linked = effects.1;
      aside = record {
        events = λ v q n o. opaque-framed a.store b.store ws Event v q keeps.frame (λ i. let k = of v i in sponsor-other a.store k.0 v Event q k.1 k.2 o (λ x. cc) (λ x. cc)) o;
        actors = λ v q n o. opaque-framed a.store b.store ws Actor v q keeps.frame (λ i. let k = of v i in sponsor-other a.store k.0 v Actor q k.1 k.2 o (λ x. cc) (λ x. cc)) o;
      };
      sheet_is = sheet;
      same_record = same;
      books = record {
        belongs = keeps.belongs;
        listed = λ w k. subst (λ (vs : List W). Among w vs) (sym names_are) (h.books.listed w (subst (λ (s : Seen). is_sponsor s w ≡ true) keeps.unseen k));
        rows_room = keeps.same_rows_room ∙ h.books.rows_room;
        covered = omega (arith, used_is, total, room, free);
      };
      free = omega (arith, used_is, total, room, free);
      sponsors = λ w i. subst (λ (vs : List W). Among w vs) (sym names_are) i;
      transfers = transfers;
      room_is = room;
    }

-- by taking quads that are no sponsors'
pub takes-shifts : (a b : Memory) (old : Ledger) (l : Lane) (cells : List Cell) (left : ℕ) → Paid a old l (length cells + left) → Every IsNoSponsor (map erase cells) → b ≡ with_store a (taken a.store cells) → Shifts a b old old l (map erase cells) Nothing left
takes-shifts a b old l cells left h none e =
    let t = taken a.store cells in
    let store_is : b.store ≡ t = ap (λ (x : Memory). x.store) e in
    let grew : seen b.store ≡ grown (seen a.store) (map erase cells) = ap seen store_is ∙ seen-taken a.store cells in
    let frame : Framed a.store b.store [] = subst (λ (x : Store). Framed a.store x []) (sym store_is) (framed-taken a.store cells []) in
    let effects = effects-framed a.store b.store [] l.effects h.held.linked frame (λ w i j. j) in
    let sheet : sheet_in b old ≡ sheet_in a old = sheet-framed a.store b.store [] old h.books.belongs frame (λ v i. absurd i) in
    let total = ap held_quads sheet in
    let more = used-grown a.store b.store (map erase cells) grew in
    let count = length-map cells erase in
    let free = h.free in
    let room : b.room ≡ a.room = ap (λ (x : Memory). x.room) e in
    record {
      seen_is = grew;
      effects_are = effects.0;
      linked = effects.1;
      aside = record { events = λ v q n o. opaque-framed a.store b.store [] Event v q frame (λ i. i) o; actors = λ v q n o. opaque-framed a.store b.store [] Actor v q frame (λ i. i) o };
      sheet_is = sheet;
      same_record = λ x. refl;
      books = record {
        belongs = belongs-framed a.store b.store [] old h.books.belongs frame (λ v i. absurd i);
        listed = λ w k. h.books.listed w (sponsor-grown (seen a.store) (map erase cells) w none (subst (λ (s : Seen). is_sponsor s w ≡ true) grew k));
        rows_room = h.books.rows_room;
        covered = omega (arith, more, count, total, room, free);
      };
      free = omega (arith, more, count, total, room, free);
      sponsors = λ w i. i;
      transfers = omega arith;
      room_is = room;
    }

-- one after the other, where the second takes no quads
pub shifts-then : (a b c : Memory) (old new : Ledger) (l : Lane) (made : List Slot) (e : Effect) (n left : ℕ) → Held a.store (names old.rows) l → Shifts a b old old l made Nothing n → Shifts b c old new l [] e left → Shifts a c old new l made e left
shifts-then a b c old new l made e n left h p q = record {
  seen_is = q.seen_is ∙ grown-nil (seen b.store) ∙ p.seen_is;
  effects_are = q.effects_are ∙ p.effects_are;
  linked = q.linked;
  aside = record { events = λ v x o k. q.aside.events v x o (p.aside.events v x o k); actors = λ v x o k. q.aside.actors v x o (p.aside.actors v x o k) };
  sheet_is = q.sheet_is ∙ ap₂ (λ (rows : List Account) (w : W). sheet_after rows w e) p.sheet_is (ap (λ (o : Own). o.sponsor) (own_is a b old old l made Nothing n h p));
  same_record = q.same_record;
  books = q.books;
  free = q.free;
  sponsors = λ w i. q.sponsors w (p.sponsors w i);
  transfers = q.transfers;
  room_is = q.room_is ∙ p.room_is;
}

-- by making a sponsor
place_of_new : (xs : List Slot) (n : ℕ) → shows_sponsor (opaque_in (slice_get (xs ++ SponsorSlot ∷ SpentSlot ∷ []) n)) ≡ true → (shows_sponsor (opaque_in (slice_get xs n)) ≡ true) ⊎ (n ≡ length xs)
place_of_new [] zero h = inr refl
place_of_new [] (suc zero) h = cc
place_of_new [] (suc (suc n)) h = cc
place_of_new (x ∷ xs) zero h = inl h
place_of_new (x ∷ xs) (suc n) h = elim (place_of_new xs n h) [ inl k ↦ inl k | inr k ↦ inr (ap suc k) ]

unread : (o : Option Quad) → shows_sponsor (option_map Readable o) ≡ true → ⊥
unread None h = cc
unread (Some q) h = cc

new_sponsor : (s : Seen) (w : W) → is_sponsor (grown s (SponsorSlot ∷ SpentSlot ∷ [])) w ≡ true → (is_sponsor s w ≡ true) ⊎ (w ≡ Cap (next_quad s))
unfolding look_up
new_sponsor s (Fix n) h = inl h
new_sponsor s (Rom n) h = inl h
new_sponsor s (Ram n) h = absurd (unread (cell_seen (grown s (SponsorSlot ∷ SpentSlot ∷ [])) (Ram n)) h)
new_sponsor s (Cap n) h = elim (place_of_new s.slots n h) [ inl k ↦ inl k | inr k ↦ inr (ap Cap k) ]

pub make-shifts : (a b : Memory) (old new : Ledger) (l : Lane) (w : W) → Paid a old l 3 → w ≡ Cap (used a.store) → sheet_in b new ≡ with_sponsor (sheet_in a old) w → names new.rows ≡ names old.rows ++ w ∷ [] → Belongs b.store new
    → seen b.store ≡ grown (seen a.store) (SponsorSlot ∷ SpentSlot ∷ []) → Framed a.store b.store [] → new.transfers ≡ old.transfers → new.room ≡ old.room → b.room ≡ a.room
    → Shifts a b old new l (SponsorSlot ∷ SpentSlot ∷ []) (Sponsors (Cap (next_quad (seen a.store)))) 1
make-shifts a b old new l w h word sheet all belongs grew frame transfers rows room =
    let named : w ≡ Cap (next_quad (seen a.store)) = word ∙ ap Cap (sym (next-used a.store)) in
    let effects = effects-framed a.store b.store [] l.effects h.held.linked frame (λ v i j. j) in
    let more = used-grown a.store b.store (SponsorSlot ∷ SpentSlot ∷ []) grew in
    let total : held_quads (sheet_in b new) ≡ held_quads (sheet_in a old) = ap held_quads sheet ∙ held-new (sheet_in a old) w in
    let free = h.free in
    record {
      seen_is = grew;
      effects_are = effects.0;
      linked = effects.1;
      aside = record { events = λ v q n o. opaque-framed a.store b.store [] Event v q frame (λ i. i) o; actors = λ v q n o. opaque-framed a.store b.store [] Actor v q frame (λ i. i) o };
      sheet_is = sheet ∙ ap (with_sponsor (sheet_in a old)) named;
      same_record = λ x. refl;
      books = record {
        belongs = belongs;
        listed = λ v k. subst (λ (vs : List W). Among v vs) (sym all) (elim (new_sponsor (seen a.store) v (subst (λ (s : Seen). is_sponsor s v ≡ true) grew k)) [
          | inl x ↦ among-left v (names old.rows) (w ∷ []) (h.books.listed v x)
          | inr x ↦ among-right v (names old.rows) (w ∷ []) (inl (x ∙ sym named))
        ]);
        rows_room = rows ∙ h.books.rows_room;
        covered = omega (arith, more, total, room, free);
      };
      free = omega (arith, more, total, room, free);
      sponsors = λ v i. subst (λ (vs : List W). Among v vs) (sym all) (among-left v (names old.rows) (w ∷ []) i);
      transfers = omega (arith, transfers);
      room_is = room;
    }
