-- What is there after cells were taken.
use Rattle.std.proofs.Common.{◌≡◌, ℕ, ◌+◌, List, [], ◌∷◌, ◌++◌, length, Option, Some, None, refl, ap, sym, ◌∙◌, append-nil, append_assoc, length-append}
use Rattle.std.specs.Prelude.{slice_get}
use Rattle.std.proofs.lemmas.List.{length-map}
use Rattle.std.proofs.lemmas.Option.{slice_get_within}
use Rattle.cap_words.specs.declared.word.Quad.{Quad}
use Rattle.cap_words.specs.declared.word.Tag.TheVariants.{Ordinary}
use Rattle.cap_words.specs.Words.{W, Fix, Rom, Ram, Cap}
use Rattle.cap_words.specs.Store.{Store, Cell, cell_as, used, taken}
use Rattle.cap_words.specs.Seen.{Seen, Slot, OpenSlot, ActorSlot, UnbornSlot, EventSlot, SponsorSlot, SpentSlot, erase, seen, grown, open_in, cell_seen}
use Rattle.cap_words.proofs.Places.{get-left}
use Rattle.quad_memory.specs.Memory.{Memory, with_store}
use Rattle.instr_table.specs.Lists.{next_quad}
use Rattle.vm_dict.specs.Made.{Takes, opened}

-- ---- what is seen

opened_is : (o : Option Slot) (q : Quad) → open_in o ≡ Some q → (slot : Slot) × (o ≡ Some slot)
opened_is None q h = cc
opened_is (Some slot) q h = (slot, refl)

-- a cell that is read stays
pub cell-grown : (s : Seen) (cells : List Slot) (w : W) (q : Quad) → cell_seen s w ≡ Some q → cell_seen (grown s cells) w ≡ Some q
cell-grown s cells (Fix n) q h = h
cell-grown s cells (Rom n) q h = h
cell-grown s cells (Ram n) q h =
    let o = opened_is (slice_get s.slots n) q h in
    ap open_in (get-left s.slots cells n (slice_get_within s.slots n o.0 o.1)) ∙ h
cell-grown s cells (Cap n) q h = h

-- ---- taking

opened-append : (xs ys : List Slot) → opened (xs ++ ys) ≡ opened xs ++ opened ys
opened-append [] ys = refl
opened-append (OpenSlot q ∷ xs) ys = ap (λ (l : List Cell). cell_as Ordinary q ∷ l) (opened-append xs ys)
opened-append (ActorSlot code state mark ∷ xs) ys = opened-append xs ys
opened-append (UnbornSlot ∷ xs) ys = opened-append xs ys
opened-append (EventSlot sponsor target message ∷ xs) ys = opened-append xs ys
opened-append (SponsorSlot ∷ xs) ys = opened-append xs ys
opened-append (SpentSlot ∷ xs) ys = opened-append xs ys

-- no cell
pub takes-none : (m : Memory) → Takes m m []
takes-none m = record {
  memory_is = λ i. record { store = record { rom = m.store.rom; ram = sym (append-nil m.store.ram) i }; room = m.room };
  seen_is = λ i. record { rom = m.store.rom; slots = sym (append-nil (seen m.store).slots) i };
}

-- some cells, and then others
pub takes-append : (old mid new : Memory) (xs ys : List Slot) → Takes old mid xs → Takes mid new ys → Takes old new (xs ++ ys)
takes-append old mid new xs ys h k =
    let ram : (old.store.ram ++ opened xs) ++ opened ys ≡ old.store.ram ++ opened (xs ++ ys) =
    append_assoc old.store.ram (opened xs) (opened ys) ∙ ap (λ (l : List Cell). old.store.ram ++ l) (sym (opened-append xs ys)) in
    record {
      memory_is =
          k.memory_is ∙ ap (λ (m : Memory). with_store m (taken m.store (opened ys))) h.memory_is
          ∙ (λ i. record { store = record { rom = old.store.rom; ram = ram i }; room = old.room });
      seen_is =
          k.seen_is ∙ ap (λ (s : Seen). grown s ys) h.seen_is
          ∙ (λ i. record { rom = old.store.rom; slots = append_assoc (seen old.store).slots xs ys i });
    }

-- a cell before others
pub takes-cons : (old mid new : Memory) (x : Slot) (ys : List Slot) → Takes old mid (x ∷ []) → Takes mid new ys → Takes old new (x ∷ ys)
takes-cons old mid new x ys h k = takes-append old mid new (x ∷ []) ys h k

-- the number of the quad that is taken next
pub next-takes : (old new : Memory) (cells : List Slot) → Takes old new cells → next_quad (seen new.store) ≡ next_quad (seen old.store) + length cells
next-takes old new cells h = ap next_quad h.seen_is ∙ length-append (seen old.store).slots cells

pub next-used : (s : Store) → next_quad (seen s) ≡ used s
next-used s = length-map s.ram erase

pub used-takes : (old new : Memory) (cells : List Slot) → Takes old new cells → used new.store ≡ used old.store + length cells
used-takes old new cells h = sym (next-used new.store) ∙ next-takes old new cells h ∙ ap (λ (n : ℕ). n + length cells) (next-used old.store)

pub room-takes : (old new : Memory) (cells : List Slot) → Takes old new cells → new.room ≡ old.room
room-takes old new cells h = ap (λ (m : Memory). m.room) h.memory_is
