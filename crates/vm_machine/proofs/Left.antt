-- What a change within the quads of some words leaves of the lanes that have nothing to do with them.
use Rattle.std.proofs.Common.{◌≡◌, ℕ, List, [], ◌∷◌, Option, Some, None, ap, sym, ◌∙◌, subst, inl, inr, pos}
use Rattle.std.specs.Prelude.{slice_get}
use Rattle.std.proofs.lemmas.Option.{slice_get_within}
use Rattle.cap_words.specs.declared.word.Quad.{Quad}
use Rattle.cap_words.specs.declared.word.Tag.{Tag}
use Rattle.cap_words.specs.declared.word.Tag.TheVariants.{Ordinary, Actor}
use Rattle.cap_words.specs.Words.{W, Fix, Rom, Ram, Cap}
use Rattle.cap_words.specs.Store.{Store, Cell, cell, cell_as, opaque_cell, tagged}
use Rattle.cap_words.specs.Seen.{Slot, ActorSlot, EventSlot, seen, cell_seen, slot_seen}
use Rattle.cap_words.specs.Frame.{Among, Framed}
use Rattle.cap_words.proofs.Tags.{tagged_is}
use Rattle.cap_words.proofs.Erased.{cell-seen, actor-there}
use Rattle.instr_table.specs.Reach.{Every}
use Rattle.vm_effects.proofs.Records.{effects-framed, slot-framed}
use Rattle.vm_effects.proofs.Apart.{own-committed}
use Rattle.vm_step.specs.declared.lane.Lane.{Lane}
use Rattle.vm_step.specs.Flight.{own_at, lane_of, lane_words}
use Rattle.vm_machine.specs.Flight.{flight_of, Flies, Separate, Pairwise}
use Rattle.vm_machine.proofs.Lists.{every-more, map-same, pairs-more}
use Rattle.vm_machine.proofs.Still.{Flown, still, separate-still}

-- each of these words names a quad that no program reads
abbrev pub Opaque : Store → List W → Type 0
Opaque s ws = (v : W) → Among v ws → (tag : Tag) × (q : Quad) × (opaque_cell s tag v ≡ Some q) × (tag ≡ Ordinary → ⊥)

-- readable cells stay
pub cells-framed : (s t : Store) (ws : List W) → Framed s t ws → Opaque s ws → (w : W) (q : Quad) → cell s w ≡ Some q → cell t w ≡ Some q
cells-framed s t ws f o (Fix n) q h = h
cells-framed s t ws f o (Rom n) q h = let r = f.rom_is in rw r h
cells-framed s t ws f o (Cap n) q h = h
cells-framed s t ws f o (Ram n) q h =
    let there : slice_get s.ram n ≡ Some (cell_as Ordinary q) = tagged_is Ordinary (slice_get s.ram n) q h in
    let stays : slice_get t.ram n ≡ slice_get s.ram n = f.rest n (slice_get_within s.ram n (cell_as Ordinary q) there) (λ a.
    let k = o (Cap n) a in
    let other : slice_get s.ram n ≡ Some (cell_as k.0 k.1) = tagged_is k.0 (slice_get s.ram n) k.1 k.2 in
    k.3 (ap tag_of (sym other ∙ there))) in
    ap (tagged Ordinary) stays ∙ h
  where
    tag_of : Option Cell → Tag
    tag_of None = Ordinary
    tag_of (Some c) = c.tag

-- a lane stays as it is where neither its event, its actor nor its own quads changed, and no readable cell
pub framed-flown-by : (s t : Store) (ws : List W) (sponsors given : List W) (ready : List ℕ) (k : Lane) → Framed s t ws → ((w : W) (q : Quad) → cell_seen (seen s) w ≡ Some q → cell_seen (seen t) w ≡ Some q) → Flies s sponsors given ready k
    → (Among k.event ws → ⊥) → (Among (own_at (seen s) k.event).actor ws → ⊥) → ((v : W) → Among v (lane_words s k) → Among v ws → ⊥) → Flown s t sponsors given ready k
framed-flown-by s t ws sponsors given ready k f cells h event actor words =
    let e = h.held.event in
    let a = h.held.actor in
    let x = effects-framed s t ws k.effects h.held.linked f words in
    still s t sponsors given ready k (record {
      cells = cells;
      event = slot-framed s t ws k.event (EventSlot e.0 e.1 e.2) f event e.3 ∙ sym e.3;
      actor = slot-framed s t ws (own_at (seen s) k.event).actor (ActorSlot a.0 a.1 a.2) f actor a.3 ∙ sym a.3;
      effects = x.0;
      linked = x.1;
      grows = f.grows;
    }) h

pub framed-flown : (s t : Store) (ws : List W) (sponsors given : List W) (ready : List ℕ) (k : Lane) → Framed s t ws → Opaque s ws → Flies s sponsors given ready k
    → (Among k.event ws → ⊥) → (Among (own_at (seen s) k.event).actor ws → ⊥) → ((v : W) → Among v (lane_words s k) → Among v ws → ⊥) → Flown s t sponsors given ready k
framed-flown s t ws sponsors given ready k f o h event actor words =
    framed-flown-by s t ws sponsors given ready k f (λ w q y. cell-seen t w ∙ cells-framed s t ws f o w q (sym (cell-seen s w) ∙ y)) h event actor words

-- an event is no actor
pub event-other : (s : Store) (w a b c d e f : W) → slot_seen (seen s) w ≡ Some (EventSlot a b c) → slot_seen (seen s) w ≡ Some (ActorSlot d e f) → ⊥
event-other s w a b c d e f h k = let x : Some (EventSlot a b c) ≡ Some (ActorSlot d e f) = sym h ∙ k in cc

-- where one committed actor alone changed, a lane stays whose actor is another
pub actor-flown : (s t : Store) (w : W) (sponsors given : List W) (ready : List ℕ) (k : Lane) (a b c : W) → Framed s t (w ∷ []) → slot_seen (seen s) w ≡ Some (ActorSlot a b c) → Flies s sponsors given ready k
    → (Fix (pos k.number) ≡ c → ⊥) → Flown s t sponsors given ready k
actor-flown s t w sponsors given ready k a b c f there h other =
    framed-flown s t (w ∷ []) sponsors given ready k f opaque h event actor words
  where
    opaque : Opaque s (w ∷ [])
    opaque v (inl e) = let q = actor-there s w a b c there in (Actor, _, ap (opaque_cell s Actor) e ∙ q.1, λ x. cc)
    opaque v (inr x) = absurd x

    event : Among k.event (w ∷ []) → ⊥
    event (inl e) = let x = h.held.event in event-other s w x.0 x.1 x.2 a b c (ap (slot_seen (seen s)) (sym e) ∙ x.3) there
    event (inr x) = x

    mark_of : Option Slot → W
    mark_of (Some (ActorSlot code state mark)) = mark
    mark_of o = Fix (pos 0)

    actor : Among (own_at (seen s) k.event).actor (w ∷ []) → ⊥
    actor (inl e) = let x = h.busy in other (ap mark_of (sym x.2 ∙ ap (slot_seen (seen s)) e ∙ there))
    actor (inr x) = x

    words : (v : W) → Among v (lane_words s k) → Among v (w ∷ []) → ⊥
    words v m (inl e) = own-committed s k.effects h.held.linked w a b c there (subst (λ (u : W). Among u (lane_words s k)) e m)
    words v m (inr x) = x

-- what a list of lanes is after all of it stayed
pub record Stayed (s t : Store) (sponsors given : List W) (ready : List ℕ) (ls : List Lane) : Type 0 where
  pub flight : flight_of t ls ≡ flight_of s ls
  pub flying : Every (Flies t sponsors given ready) ls
  pub apart : Pairwise (Separate t) ls

pub stayed : (s t : Store) (sponsors given : List W) (ready : List ℕ) (ls : List Lane) → Every (Flown s t sponsors given ready) ls → Pairwise (Separate s) ls → Stayed s t sponsors given ready ls
stayed s t sponsors given ready ls f p = record {
  flight = map-same (lane_of s) (lane_of t) ls (every-more (Flown s t sponsors given ready) (λ (k : Lane). lane_of t k ≡ lane_of s k) ls (λ k x. x.flying) f);
  flying = every-more (Flown s t sponsors given ready) (Flies t sponsors given ready) ls (λ k x. x.flies) f;
  apart = pairs-more (Flown s t sponsors given ready) (Separate s) (Separate t) ls (λ x y a b z. separate-still s t sponsors given ready x y a b z) f p;
}
