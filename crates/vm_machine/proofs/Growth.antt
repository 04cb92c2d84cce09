-- What is seen of a store that has grown.
use Rattle.std.proofs.Common.{◌≡◌, List, [], ◌∷◌, ◌++◌, drop, Option, Some, None, ap, refl, sym, ◌∙◌, append_assoc}
use Rattle.std.specs.Prelude.{slice_get}
use Rattle.std.proofs.lemmas.Option.{slice_get_within}
use Rattle.cap_words.specs.declared.word.Quad.{Quad}
use Rattle.cap_words.specs.Words.{W, Fix, Rom, Ram, Cap}
use Rattle.cap_words.specs.Seen.{Seen, Slot, OpenSlot, cell_seen, slot_seen, open_in, grown}
use Rattle.cap_words.proofs.Places.{get-left}
use Rattle.instr_table.specs.Lists.{pair_quad}
use Rattle.instr_table.specs.Outcome.{Going}
use Rattle.instr_table.specs.Lane.{Item, top_at, push_one, push_all, after_going}

open_there : (o : Option Slot) (q : Quad) → open_in o ≡ Some q → (x : Slot) × (o ≡ Some x)
open_there None q h = cc
open_there (Some x) q h = (x, refl)

pub cell-grown : (s : Seen) (slots : List Slot) (w : W) (q : Quad) → cell_seen s w ≡ Some q → cell_seen (grown s slots) w ≡ Some q
cell-grown s slots (Fix n) q h = h
cell-grown s slots (Rom n) q h = h
cell-grown s slots (Ram n) q h =
    let x = open_there (slice_get s.slots n) q h in
    ap open_in (get-left s.slots slots n (slice_get_within s.slots n x.0 x.1)) ∙ h
cell-grown s slots (Cap n) q h = h

pub slot-grown : (s : Seen) (slots : List Slot) (w : W) (x : Slot) → slot_seen s w ≡ Some x → slot_seen (grown s slots) w ≡ Some x
slot-grown s slots (Fix n) x h = h
slot-grown s slots (Rom n) x h = h
slot-grown s slots (Ram n) x h = h
slot-grown s slots (Cap n) x h = get-left s.slots slots n (slice_get_within s.slots n x h) ∙ h

pushed-grown : (p : Seen × List Item) (vs : List W) → (slots : List Slot) × ((push_all p vs).0 ≡ grown p.0 slots)
pushed-grown p [] = ([], sym (none p.0))
  where
    nothing : (xs : List Slot) → xs ++ [] ≡ xs
    nothing [] = refl
    nothing (x ∷ xs) = ap (λ (ys : List Slot). x ∷ ys) (nothing xs)

    none : (s : Seen) → grown s [] ≡ s
    none s = let e = nothing s.slots in λ i. record { rom = s.rom; slots = e i }
pushed-grown p (v ∷ vs) =
    let r = pushed-grown (push_one p v) vs in
    let c : List Slot = OpenSlot (pair_quad v (top_at p.1)) ∷ [] in
    (c ++ r.0, r.1 ∙ (let e = append_assoc p.0.slots c r.0 in λ i. record { rom = p.0.rom; slots = e i }))

-- an instruction that goes on takes quads, and changes none that is seen
pub going-grown : (s : Seen) (is : List Item) (g : Going) → (slots : List Slot) × ((after_going s is g).0 ≡ grown s slots)
going-grown s is g =
    let r = pushed-grown (grown s g.made, drop g.pops is) g.pushed in
    (g.made ++ r.0, r.1 ∙ (let e = append_assoc s.slots g.made r.0 in λ i. record { rom = s.rom; slots = e i }))
