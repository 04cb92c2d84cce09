-- The text of a word that names no cell that programs read.
use Rattle.std.proofs.Common.{◌≡◌, ℕ, ℤ, Bool, true, false, if◌then◌else◌, List, Option, Some, None, is_some, option_map, map, slice_get, nat_eq, codes, refl, ap, ◌∙◌}
use Rattle.std.specs.Fmt.{signed_decimal}
use Rattle.std.proofs.lemmas.Option.{slice_get-map}
use Rattle.cap_words.specs.declared.word.Quad.{Quad}
use Rattle.cap_words.specs.declared.word.Tag.{Tag}
use Rattle.cap_words.specs.declared.word.Tag.TheVariants.{Ordinary, Actor, Event, SponsorHeld, SponsorSpent}
use Rattle.cap_words.specs.Words.{W, Fix, Rom, Ram, Cap, same_word, undef, nil, truth, number_of}
use Rattle.cap_words.specs.Store.{Store, Cell, tagged, cell_as}
use Rattle.cap_words.specs.Seen.{Seen, Slot, OpenSlot, ActorSlot, UnbornSlot, EventSlot, SponsorSlot, SpentSlot, erase, erase_as, erase_actor, seen, cell_seen}
use Rattle.cap_words.proofs.Same.{word_same}
use Rattle.quad_memory.specs.Cells.{actor_in, actor_at}
use Rattle.instr_table.specs.Types.{Shown, Readable, AnActor, ASponsor, opaque_in, look_up}
use Rattle.vm_turn.specs.Piece.{cell_text, plain_text, shown_text}
use Rattle.vm_devices.specs.Texts.{leaf_text}

-- ---- constants

pub undef_text : (s : Seen) (w : W) → same_word w undef ≡ true → codes "?" ≡ leaf_text s w
unfolding leaf_text look_up
undef_text s w e = rw (word_same w undef e) refl

pub nil_text : (s : Seen) (w : W) → same_word w nil ≡ true → codes "NIL" ≡ leaf_text s w
unfolding leaf_text look_up
nil_text s w e = rw (word_same w nil e) refl

pub false_text : (s : Seen) (w : W) → same_word w (truth false) ≡ true → codes "FALSE" ≡ leaf_text s w
unfolding leaf_text look_up
false_text s w e = rw (word_same w (truth false) e) refl

pub true_text : (s : Seen) (w : W) → same_word w (truth true) ≡ true → codes "TRUE" ≡ leaf_text s w
unfolding leaf_text look_up
true_text s w e = rw (word_same w (truth true) e) refl

-- ---- opaque words

born_shown : (a b : W) (t : Bool) → opaque_in (Some (if t then ActorSlot a b undef else UnbornSlot)) ≡ Some AnActor
born_shown a b true = refl
born_shown a b false = refl

actor_shown : (a b mark : W) → opaque_in (Some (erase_actor a b mark)) ≡ Some AnActor
actor_shown a b (Fix n) = refl
actor_shown a b (Rom n) = born_shown a b (nat_eq n 0)
actor_shown a b (Ram n) = refl
actor_shown a b (Cap n) = refl

opaque_text : Option Shown → List ℕ
opaque_text None = codes "^"
opaque_text (Some (Readable q)) = codes "^"
opaque_text (Some AnActor) = codes "@"
opaque_text (Some ASponsor) = codes "^"

tagged_text : (t : Tag) (q : Quad) → opaque_text (opaque_in (Some (erase_as t q))) ≡ (if is_some (option_map actor_in (tagged Actor (Some (cell_as t q)))) then codes "@" else codes "^")
unfolding opaque_text
tagged_text Ordinary q = refl
tagged_text Actor q = ap opaque_text (actor_shown q.x q.y q.z)
tagged_text Event q = refl
tagged_text SponsorHeld q = refl
tagged_text SponsorSpent q = refl

slot_text : (o : Option Cell) → opaque_text (opaque_in (option_map erase o)) ≡ (if is_some (option_map actor_in (tagged Actor o)) then codes "@" else codes "^")
unfolding opaque_text
slot_text None = refl
slot_text (Some c) = tagged_text c.tag c.words

shown_opaque : (s : Seen) (n : ℕ) (o : Option Slot) → shown_text s (opaque_in o) (Cap n) ≡ opaque_text (opaque_in o)
unfolding opaque_text
shown_opaque s n None = refl
shown_opaque s n (Some slot) = at_slot slot
  where
    at_slot : (slot : Slot) → shown_text s (opaque_in (Some slot)) (Cap n) ≡ opaque_text (opaque_in (Some slot))
    at_slot (OpenSlot q) = refl
    at_slot (ActorSlot code state mark) = refl
    at_slot UnbornSlot = refl
    at_slot (EventSlot sponsor target message) = refl
    at_slot SponsorSlot = refl
    at_slot SpentSlot = refl

-- an actor, or any other opaque word
cap_text : (store : Store) (n : ℕ) → leaf_text (seen store) (Cap n) ≡ (if is_some (actor_at store (Cap n)) then codes "@" else codes "^")
unfolding leaf_text look_up
cap_text store n = shown_opaque (seen store) n (slice_get (map erase store.ram) n) ∙ ap (λ (o : Option Slot). opaque_text (opaque_in o)) (slice_get-map erase store.ram n) ∙ slot_text (slice_get store.ram n)

no_constant : (n : ℕ) → nat_eq n 0 ≡ false → nat_eq n 1 ≡ false → nat_eq n 2 ≡ false → nat_eq n 3 ≡ false → plain_text (Rom n) ≡ codes "^"
no_constant n a b c d = rw (a, b, c, d) refl

pub other_text : (store : Store) (w : W) → number_of w ≡ None → cell_seen (seen store) w ≡ None → same_word w undef ≡ false → same_word w nil ≡ false → same_word w (truth false) ≡ false → same_word w (truth true) ≡ false → leaf_text (seen store) w ≡ (if is_some (actor_at store w) then codes "@" else codes "^")
unfolding leaf_text look_up
other_text store (Fix n) number cell a b c d = cc
other_text store (Rom n) number cell a b c d = ap (λ (o : Option Quad). shown_text (seen store) (option_map Readable o) (Rom n)) cell ∙ no_constant n a b c d
other_text store (Ram n) number cell a b c d = ap (λ (o : Option Quad). shown_text (seen store) (option_map Readable o) (Ram n)) cell
other_text store (Cap n) number cell a b c d = cap_text store n

-- ---- numbers and cells

pub number_text : (s : Seen) (w : W) (n : ℤ) → number_of w ≡ Some n → leaf_text s w ≡ signed_decimal n
unfolding leaf_text look_up
number_text s (Fix m) n h = let same : m ≡ n = cc in ap signed_decimal same
number_text s (Rom m) n h = cc
number_text s (Ram m) n h = cc
number_text s (Cap m) n h = cc

pub readable_text : (s : Seen) (w : W) (q : Quad) → cell_seen s w ≡ Some q → leaf_text s w ≡ cell_text s q
unfolding leaf_text look_up
readable_text s (Fix n) q h = cc
readable_text s (Rom n) q h = ap (λ (o : Option Quad). shown_text s (option_map Readable o) (Rom n)) h
readable_text s (Ram n) q h = ap (λ (o : Option Quad). shown_text s (option_map Readable o) (Ram n)) h
readable_text s (Cap n) q h = cc
