-- Stacks stand when cells are taken, and what pushing and popping do.
use Rattle.std.proofs.Common.{◌≡◌, ℕ, zero, suc, ◌-◌, ◌≤◌, List, [], ◌∷◌, Some, refl, ap, sym, ◌∙◌, subst, arith, drop, length}
use Rattle.std.proofs.lemmas.Grind.{common_steps}
use Rattle.cap_words.specs.declared.word.Quad.{Quad}
use Rattle.cap_words.specs.Words.{W, Ram}
use Rattle.cap_words.specs.Seen.{Seen, Slot, OpenSlot, grown, open_in, cell_seen}
use Rattle.cap_words.proofs.Places.{get-seam}
use Rattle.vm_dict.proofs.Taking.{cell-grown}
use Rattle.instr_table.specs.Lists.{next_quad, pair_quad, item, tail_in}
use Rattle.instr_table.specs.Lane.{Item, values, top_at}
use Rattle.vm_step.specs.Stack.{items_from, IsStack}

pub items-grown : (s : Seen) (cells : List Slot) (d : ℕ) (w : W) → IsStack s d w → items_from (grown s cells) d w ≡ items_from s d w
items-grown s cells zero w h = refl
items-grown s cells (suc d) w h =
    let new = cell-grown s cells w (pair_quad h.0 h.1) h.2 in
    let rest = items-grown s cells d h.1 h.3 in
    rw (new, h.2) (ap (λ (l : List Item). record { value = h.0; at = w } ∷ l) rest)

pub stack-grown : (s : Seen) (cells : List Slot) (d : ℕ) (w : W) → IsStack s d w → IsStack (grown s cells) d w
stack-grown s cells zero w h = h
stack-grown s cells (suc d) w h = (h.0, h.1, cell-grown s cells w (pair_quad h.0 h.1) h.2, stack-grown s cells d h.1 h.3)

pub top-items : (s : Seen) (d : ℕ) (w : W) → IsStack s d w → top_at (items_from s d w) ≡ w
top-items s zero w h = sym h
top-items s (suc d) w h = refl

-- the cell that is taken next
pub cell-next : (s : Seen) (q : Quad) → cell_seen (grown s (OpenSlot q ∷ [])) (Ram (next_quad s)) ≡ Some q
cell-next s q = ap open_in (get-seam s.slots [] (OpenSlot q))

-- one value more
pub items-pushed : (s : Seen) (d : ℕ) (w v : W) → IsStack s d w → items_from (grown s (OpenSlot (pair_quad v w) ∷ [])) (suc d) (Ram (next_quad s)) ≡ record { value = v; at = Ram (next_quad s) } ∷ items_from s d w
items-pushed s d w v h =
    rw (cell-next s (pair_quad v w)) (ap (λ (l : List Item). record { value = v; at = Ram (next_quad s) } ∷ l) (items-grown s (OpenSlot (pair_quad v w) ∷ []) d w h))

pub stack-pushed : (s : Seen) (d : ℕ) (w v : W) → IsStack s d w → IsStack (grown s (OpenSlot (pair_quad v w) ∷ [])) (suc d) (Ram (next_quad s))
stack-pushed s d w v h = (v, w, cell-next s (pair_quad v w), stack-grown s (OpenSlot (pair_quad v w) ∷ []) d w h)

-- one value less
pub record Popped (s : Seen) (d : ℕ) (w : W) (q : Quad) : Type 0 where
  pub value : q.x ≡ item (values (items_from s d w)) 1
  pub rest : items_from s (d - 1) q.y ≡ drop 1 (items_from s d w)
  pub stacked : IsStack s (d - 1) q.y

pub popped : (s : Seen) (d : ℕ) (w : W) (q : Quad) → (d ≡ 0 → ⊥) → IsStack s d w → cell_seen s w ≡ Some q → Popped s d w q
popped s zero w q n h e = absurd (n refl)
popped s (suc d) w q n h e =
    let is-q : pair_quad h.0 h.1 ≡ q = cc in
    let less : suc d - 1 ≡ d = omega arith in
    subst (λ (p : Quad). Popped s (suc d) w p) is-q (record { value = rw h.2; rest = rw (less, h.2); stacked = rw less h.3 })

-- a stack that is not empty has a top cell
pub there : (s : Seen) (d : ℕ) (w : W) → (d ≡ 0 → ⊥) → IsStack s d w → (q : Quad) × (cell_seen s w ≡ Some q)
there s zero w n h = absurd (n refl)
there s (suc d) w n h = (pair_quad h.0 h.1, h.2)

-- the top of what is below
pub item-below : (is : List Item) (n : ℕ) → 1 ≤ n → item (values (drop (n - 1) is)) 1 ≡ item (values is) n
item-below is zero h = absurd (omega arith)
item-below [] (suc n) h = let e : suc n - 1 ≡ n = omega arith in rw e (grind (arith, common_steps))
item-below (i ∷ is) (suc zero) h = refl
item-below (i ∷ is) (suc (suc n)) h =
    let r = item-below is (suc n) (omega arith) in
    let e : suc (suc n) - 1 ≡ suc (suc n - 1) = omega arith in
    let f : suc n - 1 ≡ n = omega arith in
    rw e (r ∙ rw f)

-- how many items there are
pub length-values : (s : Seen) (d : ℕ) (w : W) → length (values (items_from s d w)) ≡ d
length-values s zero w = refl
length-values s (suc d) w = ap suc (length-values s d (tail_in (cell_seen s w)))
