-- What an instruction that goes on leaves of all lanes.
use Rattle.std.proofs.Common.{◌≡◌, ℕ, zero, suc, List, [], ◌∷◌, Option, Some, None, Bool, true, nat_eq, if◌then◌else◌, ap, refl, sym, ◌∙◌, subst, inl, inr, ◌⊎◌, arith, pos}
use Rattle.std.specs.Prelude.{remove, slice_get, slice_set, ◌||◌}
use Rattle.std.proofs.lemmas.List.{length-map}
use Rattle.cap_words.specs.Words.{W, Fix, Cap}
use Rattle.cap_words.specs.Store.{Store, used}
use Rattle.cap_words.specs.Seen.{Seen, Slot, ActorSlot, EventSlot, seen, erase, cell_seen, slot_seen, grown}
use Rattle.cap_words.specs.Frame.{Among}
use Rattle.quad_memory.specs.Memory.{Memory}
use Rattle.instr_table.specs.declared.charge.Charge.{Charge}
use Rattle.instr_table.specs.Code.{fetched}
use Rattle.instr_table.specs.Event.{Own, Effects, Effect, Nothing, Sends, Creates, Assigns, Becomes, Sponsors, Grants, Reclaims, Starts, Stops, with_effect}
use Rattle.instr_table.specs.Lists.{next_quad, item}
use Rattle.instr_table.specs.Making.{MakesNamed, MadeWith}
use Rattle.instr_table.specs.Outcome.{Going, Goes}
use Rattle.instr_table.specs.Sheet.{Account}
use Rattle.instr_table.specs.Lane.{lane_row, values, Lane as Flying}
use Rattle.instr_table.specs.Reach.{Every}
use Rattle.instr_table.proofs.Makings.{row_at-makes}
use Rattle.vm_sponsor.specs.Ledger.{Ledger, names}
use Rattle.vm_effects.specs.Gathered.{effects_of, own_words}
use Rattle.vm_effects.proofs.Records.{effects-kept, own-sent, own-created}
use Rattle.vm_effects.proofs.Apart.{own-free, own_words-sends, own_words-creates, own_words-assigns, used-grown}
use Rattle.vm_turn.specs.Turn.{is_in_flight}
use Rattle.vm_step.specs.declared.lane.Lane.{Lane}
use Rattle.vm_step.specs.Flight.{own_at, stack_of, lane_of, lane_words, Aside}
use Rattle.vm_step.specs.Step.{GoesOn, Stays}
use Rattle.vm_machine.specs.Messages.{is_among, is_unfinished, unfinished}
use Rattle.vm_machine.specs.Flight.{flight_of, Flies, Separate, Pairwise}
use Rattle.vm_machine.proofs.Lists.{every-more, every-both, every-at, every-removed, every-set, pairs-more, pairs-removed, pairs-at, pairs-set, map-set}
use Rattle.vm_machine.proofs.Messages.{kept-same}
use Rattle.vm_machine.proofs.Still.{Still, Flown, still, separate-turned, separate-still}
use Rattle.vm_machine.proofs.Growth.{cell-grown, slot-grown, going-grown}

-- more sponsors make no difference to a lane that flies
pub flies-more : (s : Store) (sponsors more given : List W) (ready : List ℕ) (l : Lane) → ((w : W) → Among w sponsors → Among w more) → Flies s sponsors given ready l → Flies s more given ready l
flies-more s sponsors more given ready l f h = record {
  held = record {
    stacked = h.held.stacked;
    shallow = h.held.shallow;
    linked = h.held.linked;
    event = h.held.event;
    sponsor = f (own_at (seen s) l.event).sponsor h.held.sponsor;
    actor = h.held.actor;
  };
  busy = h.busy;
  numbered = h.numbered;
  taken = h.taken;
}

-- a store that has grown, and in which the events and actors under these words alone changed their links, leaves the lanes still that have
-- none of these words
pub grown-still : (s t : Store) (ws : List W) (slots : List Slot) (sponsors given : List W) (ready : List ℕ) (k : Lane) → Aside s t ws → seen t ≡ grown (seen s) slots → Flies s sponsors given ready k
    → ((v : W) → Among v ws → Among v (lane_words s k) → ⊥) → Still s t k
grown-still s t ws slots sponsors given ready k f g h o =
    let e = h.held.event in
    let a = h.held.actor in
    let x = effects-kept s t k.effects h.held.linked (let u = used-grown s t slots g in omega (arith, u))
    (λ v q m y. f.events v q (λ b. o v b (own-sent s k.effects v m)) y)
    (λ v q m y. f.actors v q (λ b. o v b (own-created s k.effects v m)) y) in
    record {
      cells = λ w q y. ap (λ (z : Seen). cell_seen z w) g ∙ cell-grown (seen s) slots w q y;
      event = ap (λ (z : Seen). slot_seen z k.event) g ∙ slot-grown (seen s) slots k.event (EventSlot e.0 e.1 e.2) e.3 ∙ sym e.3;
      actor = ap (λ (z : Seen). slot_seen z (own_at (seen s) k.event).actor) g ∙ slot-grown (seen s) slots (own_at (seen s) k.event).actor (ActorSlot a.0 a.1 a.2) a.3 ∙ sym a.3;
      effects = x.0;
      linked = x.1;
      grows = let u = used-grown s t slots g in omega (arith, u);
    }

-- an own word after an effect is one from before, or the word of the quad that is taken next
new-words : (w c : W) (s : Seen) (made : List Slot) (e : Effects) (x : Effect) → MadeWith w c s made x → (v : W) → Among v (own_words (with_effect e x)) → Among v (own_words e) ⊎ (v ≡ Cap (next_quad s))
new-words w c s made e Nothing m v a = inl a
new-words w c s made e (Sends y) m v a = elim (own_words-sends e y v a) [ inl b ↦ inl b | inr b ↦ inr (b ∙ m.0) ]
new-words w c s made e (Creates y) m v a = elim (own_words-creates e y v a) [ inl b ↦ inl b | inr b ↦ inr (b ∙ m.0) ]
new-words w c s made e (Assigns y) m v a = inl (subst (λ (ws : List W). Among v ws) (own_words-assigns e y) a)
new-words w c s made e (Becomes y) m v a = inl a
new-words w c s made e (Sponsors y) m v a = inl a
new-words w c s made e (Grants y k n) m v a = inl a
new-words w c s made e (Reclaims y) m v a = inl a
new-words w c s made e (Starts y z) m v a = inl a
new-words w c s made e (Stops y) m v a = inl a

-- what all lanes are after the one at place i went on
pub record Went (s t : Store) (sponsors given : List W) (ready : List ℕ) (ls : List Lane) (i : ℕ) (m : Lane) : Type 0 where
  pub flight : flight_of t (slice_set ls i m) ≡ slice_set (flight_of s ls) i (lane_of t m)
  pub flying : Every (Flies t sponsors given ready) (slice_set ls i m)
  pub apart : Pairwise (Separate t) (slice_set ls i m)

module _ (before after : Memory) (old new : Ledger) (l m : Lane) (c : Charge) (g : Going) (sheet : List Account)
    (goes : GoesOn before after old new l m c g) (stays : Stays before after old new)
    (row_is : (lane_row (seen before.store) sheet (lane_of before.store l)).outcome ≡ Goes g)
    (given : List W) (ready : List ℕ) where
  abbrev slots : List Slot
  slots = (going-grown (seen before.store) (stack_of before.store l) g).0

  abbrev own_before : Own
  own_before = own_at (seen before.store) l.event

  grows : seen after.store ≡ grown (seen before.store) slots
  grows = goes.seen_is ∙ (going-grown (seen before.store) (stack_of before.store l) g).1

  pub went-number : m.number ≡ l.number
  went-number = ap (λ (x : Flying). x.number) goes.lane_is

  -- the lane itself
  itself : Flies before.store (names old.rows) given ready l → Flies after.store (names new.rows) given ready m
  itself h =
      let b = h.busy in
      let own : own_at (seen after.store) m.event ≡ own_before = ap (λ (x : Flying). x.own) goes.lane_is in
      record {
        held = goes.held;
        busy = (
          b.0,
          b.1,
          ap (λ (o : Own). slot_seen (seen after.store) o.actor) own
              ∙ ap (λ (z : Seen). slot_seen z own_before.actor) grows
              ∙ slot-grown (seen before.store) slots own_before.actor (ActorSlot b.0 b.1 (Fix (pos l.number))) b.2
              ∙ ap (λ (n : ℕ). Some (ActorSlot b.0 b.1 (Fix (pos n)))) (sym went-number),
        );
        numbered = ap (slice_get given) went-number ∙ h.numbered ∙ ap (λ (w : W). Some w) (sym goes.event_is);
        taken = ap (λ (n : ℕ). is_among n ready) went-number ∙ h.taken;
      }

  -- its own words are those that it had, and the word of the quad taken next
  made : MadeWith own_before.sponsor (item (values (stack_of before.store l)) 1) (seen before.store) g.made g.effect
  made = subst (MakesNamed own_before.sponsor (item (values (stack_of before.store l)) 1) (seen before.store)) row_is
      (row_at-makes own_before (fetched (seen before.store) l.code) (seen before.store) sheet (effects_of before.store l.effects) (values (stack_of before.store l)))

  words-after : lane_words after.store m ≡ own_words (with_effect (effects_of before.store l.effects) g.effect)
  words-after = ap (λ (x : Flying). own_words x.effects) goes.lane_is

  words-come : (v : W) → Among v (lane_words after.store m) → Among v (lane_words before.store l) ⊎ (v ≡ Cap (next_quad (seen before.store)))
  words-come v a = new-words own_before.sponsor (item (values (stack_of before.store l)) 1) (seen before.store) g.made (effects_of before.store l.effects) g.effect made v (subst (λ (ws : List W). Among v ws) words-after a)

  -- another lane
  other : (k : Lane) → Separate before.store l k → Flies before.store (names old.rows) given ready k → Flown before.store after.store (names old.rows) given ready k
  other k p h = still before.store after.store (names old.rows) given ready k (grown-still before.store after.store (lane_words before.store l) slots (names old.rows) given ready k goes.aside grows h p.words) h

  apart-from : (k : Lane) → Separate before.store l k → Flies before.store (names old.rows) given ready k → Separate after.store m k
  apart-from k p h =
      let o = other k p h in
      let taken : next_quad (seen before.store) ≡ used before.store = length-map before.store.ram erase in
      record {
        numbers = λ e. p.numbers (sym went-number ∙ e);
        words = λ v a b.
            let b' : Among v (lane_words before.store k) = subst (λ (ws : List W). Among v ws) o.words b in
            elim (words-come v a) [
              | inl x ↦ p.words v x b'
              | inr x ↦ own-free before.store k.effects h.held.linked (next_quad (seen before.store)) (omega (arith, taken)) (subst (λ (w : W). Among w (lane_words before.store k)) x b')
            ];
      }

  pub went : (ls : List Lane) (i : ℕ) → slice_get ls i ≡ Some l → Every (Flies before.store (names old.rows) given ready) ls → Pairwise (Separate before.store) ls → Went before.store after.store (names new.rows) given ready ls i m
  went ls i e h p =
      let rest = every-removed (Flies before.store (names old.rows) given ready) ls i h in
      let far = pairs-at (Separate before.store) ls i l (separate-turned before.store) e p in
      let flown = every-both (Separate before.store l) (Flies before.store (names old.rows) given ready) (Flown before.store after.store (names old.rows) given ready) (remove ls i) (λ k x y. other k x y) far rest in
      record {
        flight = map-set (lane_of before.store) (lane_of after.store) ls i m (every-more (Flown before.store after.store (names old.rows) given ready) (λ (k : Lane). lane_of after.store k ≡ lane_of before.store k) (remove ls i) (λ k f. f.flying) flown);
        flying = every-set (Flies after.store (names new.rows) given ready) ls i m
            (every-more (Flown before.store after.store (names old.rows) given ready) (Flies after.store (names new.rows) given ready) (remove ls i) (λ k f. flies-more after.store (names old.rows) (names new.rows) given ready k stays.sponsors f.flies) flown)
            (itself (every-at (Flies before.store (names old.rows) given ready) ls i l e h));
        apart = pairs-set (Separate after.store) ls i m (separate-turned after.store)
            (pairs-more (Flown before.store after.store (names old.rows) given ready) (Separate before.store) (Separate after.store) (remove ls i) (λ x y f q s. separate-still before.store after.store (names old.rows) given ready x y f q s) flown (pairs-removed (Separate before.store) ls i p))
            (every-both (Separate before.store l) (Flies before.store (names old.rows) given ready) (Separate after.store m) (remove ls i) (λ k x y. apart-from k x y) far rest);
      }

-- ---- the numbers of the lanes

pub number_is : (k l : Flying) → Some k ≡ Some l → k.number ≡ l.number
number_is k l h = ap number_or h
  where
    number_or : Option Flying → ℕ
    number_or None = 0
    number_or (Some x) = x.number

pub in_flight-set : (n : ℕ) (ls : List Flying) (i : ℕ) (l m : Flying) → slice_get ls i ≡ Some l → m.number ≡ l.number → is_in_flight n (slice_set ls i m) ≡ is_in_flight n ls
in_flight-set n [] i l m e h = refl
in_flight-set n (k ∷ ls) zero l m e h = ap (λ (j : ℕ). if nat_eq j n then true else is_in_flight n ls) (h ∙ sym (number_is k l e))
in_flight-set n (k ∷ ls) (suc i) l m e h = ap (λ (b : Bool). if nat_eq k.number n then true else b) (in_flight-set n ls i l m e h)

pub unfinished-set : (given : List W) (ready : List ℕ) (ls : List Flying) (i : ℕ) (l m : Flying) → slice_get ls i ≡ Some l → m.number ≡ l.number → unfinished given ready (slice_set ls i m) ≡ unfinished given ready ls
unfinished-set given ready ls i l m e h = kept-same (is_unfinished ready (slice_set ls i m)) (is_unfinished ready ls) 0 given (λ k a b. ap (λ (x : Bool). is_among k ready || x) (in_flight-set k ls i l m e h))
