-- Stores that show more and more, and what new quads show.
use Rattle.std.proofs.Common.{◌≡◌, refl, ap, ◌∙◌, suc, ◌+◌, List, [], ◌∷◌, ◌++◌, Option, Some, None, option_map, arith, subst}
use Rattle.std.specs.Prelude.{slice_get}
use Rattle.cap_words.specs.declared.word.Quad.{Quad}
use Rattle.cap_words.specs.Words.{W, Ram, Cap}
use Rattle.cap_words.specs.Seen.{Seen, Slot, OpenSlot, UnbornSlot, cell_seen, grown, open_in}
use Rattle.cap_words.proofs.Places.{get-seam, get-second}
use Rattle.instr_table.specs.declared.op.Op.{Op}
use Rattle.instr_table.specs.Types.{Readable, AnActor, opaque_in, look_up, Grows}
use Rattle.instr_table.specs.Lists.{next_quad}
use Rattle.instr_table.specs.Code.{fetched, fetched_in}
use Rattle.instr_table.proofs.ShownWords.{grows-grown, grows-then, shown-read, read-shown}
use Rattle.hum_code.specs.Stands.{Shows}

pub same : (s : Seen) → Grows s s
same s = record { keeps = λ w x h. h }

pub later : {s t u : Seen} → Grows s t → Grows t u → Grows s u
later {s} {t} {u} g h = grows-then s t u g h

pub takes : (s : Seen) (slots : List Slot) → Grows s (grown s slots)
takes s slots = grows-grown s slots

-- a cell that is shown is read, in each later store
pub read_in : {s t : Seen} {q : Quad} (w : W) → Grows s t → Shows s w q → cell_seen t w ≡ Some q
read_in {s} {t} {q} w g h = shown-read t w q (g.keeps w (Readable q) h)

-- the first quad that is taken
pub first_shown : (s : Seen) (q : Quad) (slots : List Slot) → Shows (grown s (OpenSlot q ∷ slots)) (Ram (next_quad s)) q
unfolding look_up
first_shown s q slots = ap (λ o. option_map Readable (open_in o)) (get-seam s.slots slots (OpenSlot q))

pub second_shown : (s : Seen) (p q : Quad) → Shows (grown s (OpenSlot p ∷ OpenSlot q ∷ [])) (Ram (suc (next_quad s))) q
unfolding look_up
second_shown s p q =
    let e : next_quad s + 1 ≡ suc (next_quad s) = omega arith in
    let h : slice_get (s.slots ++ OpenSlot p ∷ OpenSlot q ∷ []) (suc (next_quad s)) ≡ Some (OpenSlot q)
    = subst (λ n. slice_get (s.slots ++ OpenSlot p ∷ OpenSlot q ∷ []) n ≡ Some (OpenSlot q)) e
    (get-second s.slots [] (OpenSlot p) (OpenSlot q)) in
    ap (λ o. option_map Readable (open_in o)) h

pub actor_shown : (s : Seen) (slots : List Slot) → look_up (grown s (UnbornSlot ∷ slots)) (Cap (next_quad s)) ≡ Some AnActor
unfolding look_up
actor_shown s slots = ap opaque_in (get-seam s.slots slots UnbornSlot)

-- an instruction that stands in a store stands in each later one
pub fetched_later : (s t : Seen) (a : W) (x : Op × W) → Grows s t → fetched s a ≡ Some x → fetched t a ≡ Some x
fetched_later s t a x g h = by_cell (cell_seen s a) refl h
  where
    by_cell : (o : Option Quad) → cell_seen s a ≡ o → fetched_in o ≡ Some x → fetched_in (cell_seen t a) ≡ Some x
    by_cell None e i = cc
    by_cell (Some q) e i = ap fetched_in (read_in a g (read-shown s a q e)) ∙ i
