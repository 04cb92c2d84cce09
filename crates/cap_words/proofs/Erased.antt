-- What is seen of a store after quads were taken or one was changed, and what is seen under a word.
use Rattle.std.proofs.Common.{◌≡◌, ℕ, List, Option, Some, None, Bool, true, false, if◌then◌else◌, refl, ap, sym, ◌∙◌}
use Rattle.std.specs.Prelude.{map, slice_get, option_map, nat_eq}
use Rattle.std.proofs.lemmas.Bool.{eqb-true}
use Rattle.std.proofs.lemmas.List.{map-append, map-set}
use Rattle.std.proofs.lemmas.Option.{slice_get-map}
use Rattle.cap_words.specs.declared.word.Quad.{Quad}
use Rattle.cap_words.specs.declared.word.Tag.{Tag}
use Rattle.cap_words.specs.declared.word.Tag.TheVariants.{Ordinary, Actor, Event, SponsorHeld, SponsorSpent}
use Rattle.cap_words.specs.Words.{W, Fix, Rom, Ram, Cap, undef}
use Rattle.cap_words.specs.Store.{Store, Cell, tagged, cell, opaque_cell, taken, changed, cell_as}
use Rattle.cap_words.specs.Seen.{Slot, ActorSlot, UnbornSlot, EventSlot, erase, erase_as, erase_actor, seen, grown, altered, open_in, cell_seen, slot_seen}
use Rattle.cap_words.proofs.Places.{set-same}
use Rattle.cap_words.proofs.Tags.{tagged_is, tagged-same}

pub seen-taken : (s : Store) (cells : List Cell) → seen (taken s cells) ≡ grown (seen s) (map erase cells)
seen-taken s cells = ap (λ (l : List Slot). record { rom = s.rom; slots = l }) (map-append erase s.ram cells)

pub seen-changed : (s : Store) (n : ℕ) (c : Cell) → seen (changed s n c) ≡ altered (seen s) n (erase c)
seen-changed s n c = ap (λ (l : List Slot). record { rom = s.rom; slots = l }) (map-set erase s.ram n c)

-- a change that is not seen
pub seen-unseen : (s : Store) (n : ℕ) (c d : Cell) → slice_get s.ram n ≡ Some d → erase d ≡ erase c → seen (changed s n c) ≡ seen s
seen-unseen s n c d h e =
    let k : slice_get (map erase s.ram) n ≡ Some (erase c) = slice_get-map erase s.ram n ∙ ap (option_map erase) h ∙ ap Some e in
    seen-changed s n c ∙ ap (λ (l : List Slot). record { rom = s.rom; slots = l }) (set-same (map erase s.ram) n (erase c) k)

-- what is seen under an opaque word is a function of the quad there
pub slot-seen : (s : Store) (tag : Tag) (w : W) (q : Quad) → opaque_cell s tag w ≡ Some q → slot_seen (seen s) w ≡ Some (erase_as tag q)
slot-seen s tag (Fix n) q h = cc
slot-seen s tag (Rom n) q h = cc
slot-seen s tag (Ram n) q h = cc
slot-seen s tag (Cap n) q h = slice_get-map erase s.ram n ∙ ap (option_map erase) (tagged_is tag (slice_get s.ram n) q h)

open-actor : (a b m : W) → open_in (Some (erase_actor a b m)) ≡ None
open-actor a b (Fix n) = refl
open-actor a b (Rom n) = chosen (nat_eq n 0)
  where
    chosen : (t : Bool) → open_in (Some (if t then ActorSlot a b undef else UnbornSlot)) ≡ None
    chosen true = refl
    chosen false = refl
open-actor a b (Ram n) = refl
open-actor a b (Cap n) = refl

open-erased : (t : Tag) (q : Quad) → open_in (Some (erase_as t q)) ≡ tagged Ordinary (Some (cell_as t q))
open-erased Ordinary q = refl
open-erased Actor q = open-actor q.x q.y q.z
open-erased Event q = refl
open-erased SponsorHeld q = refl
open-erased SponsorSpent q = refl

open-seen : (o : Option Cell) → open_in (option_map erase o) ≡ tagged Ordinary o
open-seen None = refl
open-seen (Some c) = open-erased c.tag c.words

-- a program reads the same cells
pub cell-seen : (s : Store) (w : W) → cell_seen (seen s) w ≡ cell s w
cell-seen s (Fix n) = refl
cell-seen s (Rom n) = refl
cell-seen s (Ram n) = ap open_in (slice_get-map erase s.ram n) ∙ open-seen (slice_get s.ram n)
cell-seen s (Cap n) = refl

-- whatever is seen under an opaque word is there
slot_of : (o : Option Cell) (slot : Slot) → option_map erase o ≡ Some slot → (tag : Tag) × (q : Quad) × (tagged tag o ≡ Some q) × (erase_as tag q ≡ slot)
slot_of None slot h = cc
slot_of (Some c) slot h = (c.tag, c.words, tagged-same c.tag c.words, cc)

pub slot-there : (s : Store) (w : W) (slot : Slot) → slot_seen (seen s) w ≡ Some slot → (tag : Tag) × (q : Quad) × (opaque_cell s tag w ≡ Some q) × (erase_as tag q ≡ slot)
slot-there s (Fix n) slot h = cc
slot-there s (Rom n) slot h = cc
slot-there s (Ram n) slot h = cc
slot-there s (Cap n) slot h = slot_of (slice_get s.ram n) slot (sym (slice_get-map erase s.ram n) ∙ h)

-- a committed actor is seen with its mark
born_rom : (a b c d m : W) (n : ℕ) (t : Bool) → nat_eq n 0 ≡ t → (if t then ActorSlot a b undef else UnbornSlot) ≡ ActorSlot c d m → (a ≡ c) × (b ≡ d) × (Rom n ≡ m)
born_rom a b c d m n true z e =
    let k : n ≡ 0 = eqb-true n 0 z in
    let r : Rom n ≡ undef = ap Rom k in
    (cc, cc, cc)
born_rom a b c d m n false z e = cc

born : (a b mark c d m : W) → erase_actor a b mark ≡ ActorSlot c d m → (a ≡ c) × (b ≡ d) × (mark ≡ m)
born a b (Fix n) c d m e = (cc, cc, cc)
born a b (Rom n) c d m e = born_rom a b c d m n (nat_eq n 0) refl e
born a b (Ram n) c d m e = cc
born a b (Cap n) c d m e = cc

no_event_rom : (a b c d e : W) (t : Bool) → (if t then ActorSlot a b undef else UnbornSlot) ≡ EventSlot c d e → ⊥
no_event_rom a b c d e true h = cc
no_event_rom a b c d e false h = cc

no_event : (a b mark c d e : W) → erase_actor a b mark ≡ EventSlot c d e → ⊥
no_event a b (Fix n) c d e h = cc
no_event a b (Rom n) c d e h = no_event_rom a b c d e (nat_eq n 0) h
no_event a b (Ram n) c d e h = cc
no_event a b (Cap n) c d e h = cc

-- an event that is seen is there
event_of : (s : Store) (w : W) (a b m : W) (tag : Tag) (q : Quad) → opaque_cell s tag w ≡ Some q → erase_as tag q ≡ EventSlot a b m → (next : W) × (opaque_cell s Event w ≡ Some (record { t = a; x = b; y = m; z = next }))
event_of s w a b m Ordinary q h e = cc
event_of s w a b m Actor q h e = absurd (no_event q.x q.y q.z a b m e)
event_of s w a b m Event q h e =
    let t : q.t ≡ a = cc in
    let x : q.x ≡ b = cc in
    let y : q.y ≡ m = cc in
    (q.z, h ∙ (λ i. Some (record { t = t i; x = x i; y = y i; z = q.z })))
event_of s w a b m SponsorHeld q h e = cc
event_of s w a b m SponsorSpent q h e = cc

pub event-there : (s : Store) (w : W) (a b m : W) → slot_seen (seen s) w ≡ Some (EventSlot a b m) → (next : W) × (opaque_cell s Event w ≡ Some (record { t = a; x = b; y = m; z = next }))
event-there s w a b m h = let k = slot-there s w (EventSlot a b m) h in event_of s w a b m k.0 k.1 k.2 k.3

-- an actor that is seen is there, with that code, state and mark
actor_of : (s : Store) (w : W) (a b m : W) (tag : Tag) (q : Quad) → opaque_cell s tag w ≡ Some q → erase_as tag q ≡ ActorSlot a b m → (t : W) × (opaque_cell s Actor w ≡ Some (record { t = t; x = a; y = b; z = m }))
actor_of s w a b m Ordinary q h e = cc
actor_of s w a b m Actor q h e =
    let k = born q.x q.y q.z a b m e in
    (q.t, h ∙ (λ i. Some (record { t = q.t; x = k.0 i; y = k.1 i; z = k.2 i })))
actor_of s w a b m Event q h e = cc
actor_of s w a b m SponsorHeld q h e = cc
actor_of s w a b m SponsorSpent q h e = cc

pub actor-there : (s : Store) (w : W) (a b m : W) → slot_seen (seen s) w ≡ Some (ActorSlot a b m) → (t : W) × (opaque_cell s Actor w ≡ Some (record { t = t; x = a; y = b; z = m }))
actor-there s w a b m h = let k = slot-there s w (ActorSlot a b m) h in actor_of s w a b m k.0 k.1 k.2 k.3
