-- What is left when an event's actor became idle.
use Rattle.std.proofs.Common.{◌≡◌, ℕ, ◌<◌, List, [], ◌∷◌, length, get_or, Option, Some, ap, refl, sym, ◌∙◌, subst, inl, inr, pos}
use Rattle.std.specs.Prelude.{remove, slice_get, option_map, IfSome}
use Rattle.std.proofs.lemmas.List.{length-set}
use Rattle.std.proofs.lemmas.Option.{slice_get_read}
use Rattle.cap_words.specs.declared.word.Tag.TheVariants.{Actor}
use Rattle.cap_words.specs.Words.{W, Fix, Rom, Ram, Cap}
use Rattle.cap_words.specs.Store.{Store, opaque_cell, used, cap_place}
use Rattle.cap_words.specs.Seen.{Seen, Slot, ActorSlot, seen, slot_seen, altered}
use Rattle.cap_words.specs.Frame.{Among, Framed}
use Rattle.cap_words.proofs.Erased.{actor-there}
use Rattle.quad_memory.specs.declared.cells.ActorCell.{ActorCell}
use Rattle.quad_memory.specs.Memory.{Memory}
use Rattle.quad_memory.specs.Cells.{actor_at, actor_in}
use Rattle.instr_table.specs.Event.{Behaviour}
use Rattle.instr_table.specs.Types.{is_sponsor}
use Rattle.instr_table.specs.Reach.{Every}
use Rattle.vm_sponsor.specs.Ledger.{Ledger, names}
use Rattle.vm_sponsor.proofs.Framed.{Aside}
use Rattle.vm_effects.specs.Actors.{idle_cell, actor_slot}
use Rattle.vm_step.specs.declared.lane.Lane.{Lane}
use Rattle.vm_step.specs.Flight.{own_at}
use Rattle.vm_step.specs.Books.{Books}
use Rattle.vm_machine.specs.declared.parts.Parts.{Parts}
use Rattle.vm_machine.specs.Flight.{Flies, Separate}
use Rattle.vm_machine.specs.Whole.{Kept}
use Rattle.vm_machine.proofs.Lists.{every-both, every-at, every-removed, pairs-at}
use Rattle.vm_machine.proofs.Still.{Flown, separate-turned}
use Rattle.vm_machine.proofs.Left.{actor-flown}
use Rattle.vm_machine.proofs.Keeping.{sponsor-altered, used-same, Quiet, quiet}

-- the slot under an opaque word stands at its place
pub slot-at : (s : Seen) (w : W) (x : Slot) → slot_seen s w ≡ Some x → (w ≡ Cap (cap_place w)) × (slice_get s.slots (cap_place w) ≡ Some x)
slot-at s (Fix n) x h = cc
slot-at s (Rom n) x h = cc
slot-at s (Ram n) x h = cc
slot-at s (Cap n) x h = (refl, h)

-- the cell of an actor that is seen
pub actor-cell : (s : Store) (w a b m : W) → slot_seen (seen s) w ≡ Some (ActorSlot a b m) → actor_at s w ≡ Some (record { code = a; state = b; mark = m })
actor-cell s w a b m h = let q = actor-there s w a b m h in ap (option_map actor_in) q.1

-- one committed actor has another code, state or mark
pub record ActorChanged (before after : Memory) (sheet : Ledger) : Type 0 where
  pub quiet : Quiet before after sheet
  pub used_is : used after.store ≡ used before.store

pub actor-changed : (before after : Memory) (sheet : Ledger) (w a b m x y z : W) → Books before sheet → Framed before.store after.store (w ∷ []) → slot_seen (seen before.store) w ≡ Some (ActorSlot a b m)
    → seen after.store ≡ altered (seen before.store) (cap_place w) (ActorSlot x y z) → after.room ≡ before.room → ActorChanged before after sheet
actor-changed before after sheet w a b m x y z books f there sn r =
    let at = slot-at (seen before.store) w (ActorSlot a b m) there in
    let u = used-same before.store after.store (ap (λ (v : Seen). length v.slots) sn ∙ length-set (seen before.store).slots (cap_place w) (ActorSlot x y z)) in
    record {
      quiet = quiet before after sheet (w ∷ []) books f aside u
          (λ v. ap (λ (o : Seen). is_sponsor o v) sn ∙ sponsor-altered (seen before.store) (cap_place w) (ActorSlot a b m) (ActorSlot x y z) at.1 refl v) r;
      used_is = u;
    }
  where
    aside : (v : W) → Among v (w ∷ []) → Aside before.store v
    aside v (inl e) = let q = actor-there before.store w a b m there in record { tag = Actor; words = _; there = ap (opaque_cell before.store Actor) e ∙ q.1; not_held = λ k. cc; not_spent = λ k. cc }
    aside v (inr k) = absurd k

-- the lane that was taken out stood at its place
pub lane-at : (ls : List Lane) (place : ℕ) (lane : Lane) → place < length ls → lane ≡ get_or ls place lane → slice_get ls place ≡ Some lane
lane-at ls place lane h e = slice_get_read ls (length ls) place lane refl h e

-- the actor of the event at that place
module _ (p : Parts) (place : ℕ) (lane : Lane) (e : slice_get p.flight.items place ≡ Some lane) (k : Kept p) where
  pub flies-at : Flies p.quads.store (names p.sheet.rows) p.queue.given p.queue.ready lane
  flies-at = every-at (Flies p.quads.store (names p.sheet.rows) p.queue.given p.queue.ready) p.flight.items place lane e k.flying

  -- its actor's cell
  pub own-cell : (w : W) → w ≡ (own_at (seen p.quads.store) lane.event).actor → actor_at p.quads.store w ≡ Some (record { code = flies-at.busy.0; state = flies-at.busy.1; mark = Fix (pos lane.number) })
  own-cell w h =
      let b = flies-at.busy in
      ap (actor_at p.quads.store) h ∙ actor-cell p.quads.store (own_at (seen p.quads.store) lane.event).actor b.0 b.1 (Fix (pos lane.number)) b.2

  -- what is seen where it became idle with this behaviour
  pub own-seen : (t : Store) (w : W) (next : Option Behaviour) → w ≡ (own_at (seen p.quads.store) lane.event).actor → IfSome (actor_at p.quads.store w) (λ (x : ActorCell). seen t ≡ altered (seen p.quads.store) (cap_place w) (actor_slot (idle_cell next x)))
      → seen t ≡ altered (seen p.quads.store) (cap_place (own_at (seen p.quads.store) lane.event).actor) (actor_slot (idle_cell next (record { code = flies-at.busy.0; state = flies-at.busy.1; mark = Fix (pos lane.number) })))
  own-seen t w next h f =
      subst (λ (o : Option ActorCell). IfSome o (λ (x : ActorCell). seen t ≡ altered (seen p.quads.store) (cap_place w) (actor_slot (idle_cell next x)))) (own-cell w h) f
      ∙ ap (λ (v : W). altered (seen p.quads.store) (cap_place v) (actor_slot (idle_cell next (record { code = flies-at.busy.0; state = flies-at.busy.1; mark = Fix (pos lane.number) })))) h

  -- the other lanes stay
  pub others-flown : (after : Memory) → Framed p.quads.store after.store ((own_at (seen p.quads.store) lane.event).actor ∷ [])
      → Every (Flown p.quads.store after.store (names p.sheet.rows) p.queue.given p.queue.ready) (remove p.flight.items place)
  others-flown after f =
      let b = flies-at.busy in
      every-both (Separate p.quads.store lane) (Flies p.quads.store (names p.sheet.rows) p.queue.given p.queue.ready) (Flown p.quads.store after.store (names p.sheet.rows) p.queue.given p.queue.ready) (remove p.flight.items place)
      (λ l x y. actor-flown p.quads.store after.store (own_at (seen p.quads.store) lane.event).actor (names p.sheet.rows) p.queue.given p.queue.ready l b.0 b.1 (Fix (pos lane.number)) f b.2 y (λ h. x.numbers (sym (number_in h))))
      (pairs-at (Separate p.quads.store) p.flight.items place lane (separate-turned p.quads.store) e k.apart)
      (every-removed (Flies p.quads.store (names p.sheet.rows) p.queue.given p.queue.ready) p.flight.items place k.flying)
    where
      number_in : {m n : ℕ} → Fix (pos m) ≡ Fix (pos n) → m ≡ n
      number_in h = cc
