-- Cells that are made of items, and words of cells that are pushed.
use Rattle.std.proofs.Common.{◌≡◌, ℕ, zero, suc, ◌+◌, ◌-◌, ◌≤◌, ◌<◌, List, [], ◌∷◌, ◌++◌, Option, Bool, true, if◌then◌else◌, refl, ap, ap₂, sym, ◌∙◌, subst, arith, take, length, get_or, add-one}
use Rattle.std.specs.Prelude.{reverse}
use Rattle.std.proofs.lemmas.List.{length-reverse}
use Rattle.std.proofs.lemmas.List.{take_more, take_all as take-whole}
use Rattle.cap_words.specs.declared.word.Quad.{Quad}
use Rattle.cap_words.specs.Words.{W, Ram, undef}
use Rattle.cap_words.specs.Store.{used}
use Rattle.cap_words.specs.Seen.{Seen, Slot, OpenSlot, seen, cell_seen}
use Rattle.quad_memory.specs.Memory.{Memory}
use Rattle.instr_table.specs.Types.{is_makeable}
use Rattle.instr_table.specs.Lists.{next_quad, item, top_items, pair_quad, linked, last_linked, chained, Built, head_in, tail_in, parted, field_in, fields_in, one_cell}
use Rattle.instr_table.specs.Outcome.{Row, goes, gives, charge}
use Rattle.instr_table.specs.Row.{quad_row, item_of, listed}
use Rattle.instr_table.proofs.Charges.{length-linked, length-parted, length-top_items}
use Rattle.vm_dict.specs.Made.{Takes}
use Rattle.vm_dict.proofs.Taking.{takes-none, takes-append, next-takes, used-takes, room-takes}
use Rattle.vm_dict.proofs.Copies.{linked-more, last-more}
use Rattle.vm_step.specs.declared.lane.Lane.{Lane}
use Rattle.vm_step.specs.declared.lane.Stack.{Stack as Items}
use Rattle.vm_step.specs.declared.lane.StepEnd.{StepEnd}
use Rattle.vm_step.specs.Stack.{items_from, IsStack}
use Rattle.vm_step.specs.Moves.{Ready, Moves, Turns, restacking, values_of, values_in}
use Rattle.vm_step.proofs.Stacks.{items-grown, stack-grown}
use Rattle.vm_step.proofs.Moving.{ready-moves, ready-takes, takes-turns}
use Rattle.vm_step.proofs.Pushing.{length-take}

-- a stack stands while cells are taken
pub stands-takes : (a b : Memory) (made : List Slot) (d : ℕ) (w : W) → Takes a b made → IsStack (seen a.store) d w → (items_from (seen b.store) d w ≡ items_from (seen a.store) d w) × IsStack (seen b.store) d w
stands-takes a b made d w t h = (
  ap (λ (s : Seen). items_from s d w) t.seen_is ∙ items-grown (seen a.store) made d w h,
  subst (λ (s : Seen). IsStack s d w) (sym t.seen_is) (stack-grown (seen a.store) made d w h),
)

-- ---- pairs

-- so many of these values have been put in front of a tail
pub record Linking (a b : Memory) (vs : List W) (tail : W) (k : ℕ) (list : W) : Type 0 where
  pub cells : Takes a b (linked pair_quad (next_quad (seen a.store)) (take k vs) tail)
  pub word_is : list ≡ last_linked (next_quad (seen a.store)) (take k vs) tail

pub linking-start : (a : Memory) (vs : List W) (tail list : W) → list ≡ tail → Linking a a vs tail 0 list
linking-start a vs tail list e = record { cells = takes-none a; word_is = e }

pub linking-more : (a b c : Memory) (vs : List W) (tail : W) (k : ℕ) (list v word : W) → Linking a b vs tail k list → k < length vs → v ≡ get_or vs k undef → Takes b c (OpenSlot (pair_quad v list) ∷ []) → word ≡ Ram (next_quad (seen b.store)) → Linking a c vs tail (k + 1) word
linking-more a b c vs tail k list v word p h e t we =
    let n = next_quad (seen a.store) in
    let front = take k vs in
    let all : front ++ v ∷ [] ≡ take (k + 1) vs = ap (λ (x : W). front ++ x ∷ []) e ∙ sym (take_more vs k undef h) in
    let cells : linked pair_quad n front tail ++ OpenSlot (pair_quad v list) ∷ [] ≡ linked pair_quad n (take (k + 1) vs) tail =
    ap (λ (w : W). linked pair_quad n front tail ++ OpenSlot (pair_quad v w) ∷ []) p.word_is ∙ sym (linked-more pair_quad n front v tail) ∙ ap (λ (ws : List W). linked pair_quad n ws tail) all in
    let place : next_quad (seen b.store) ≡ n + length front = next-takes a b (linked pair_quad n front tail) p.cells ∙ ap (λ (m : ℕ). n + m) (length-linked pair_quad n front tail) in
    record {
      cells = subst (Takes a c) cells (takes-append a b c (linked pair_quad n front tail) (OpenSlot (pair_quad v list) ∷ []) p.cells t);
      word_is = we ∙ ap Ram place ∙ sym (last-more n front v tail) ∙ ap (λ (ws : List W). last_linked n ws tail) all;
    }

pub linking-room : (a b : Memory) (vs : List W) (tail : W) (k n : ℕ) (list : W) → Linking a b vs tail k list → k < length vs → length vs ≤ n → used a.store + n ≤ a.room → used b.store < b.room
linking-room a b vs tail k n list p h most room =
    let cells = linked pair_quad (next_quad (seen a.store)) (take k vs) tail in
    let u = used-takes a b cells p.cells in
    let r = room-takes a b cells p.cells in
    let l = length-linked pair_quad (next_quad (seen a.store)) (take k vs) tail in
    let t = length-take vs k (omega arith) in
    omega arith

pub linking-end : (a b : Memory) (vs : List W) (tail : W) (k : ℕ) (list : W) → Linking a b vs tail k list → length vs ≤ k
    → Takes a b (chained pair_quad (next_quad (seen a.store)) vs tail).cells × (list ≡ (chained pair_quad (next_quad (seen a.store)) vs tail).word)
linking-end a b vs tail k list p h =
    let n = next_quad (seen a.store) in
    let e = take-whole k vs h in
    (subst (λ (ws : List W). Takes a b (linked pair_quad n ws tail)) e p.cells, p.word_is ∙ ap (λ (ws : List W). last_linked n ws tail) e)

-- ---- a result's cells, and then its word

pub gives-made : (a b c : Memory) (l o : Lane) (n : ℕ) (x : Built) (pops : ℕ) (word next : W) (end : StepEnd) → Ready a l n → Takes a b x.cells → word ≡ x.word → Turns b c l o (goes pops (word ∷ []) next).outcome end
    → Turns a c l o (gives pops x next).outcome end
gives-made a b c l o n x pops word next end r t e k = takes-turns a b c l o n x.cells pops (x.word ∷ []) next end r t (subst (λ (w : W). Turns b c l o (goes pops (w ∷ []) next).outcome end) e k)

pub quad-made : (a b c : Memory) (l o : Lane) (n m : ℕ) (q : Quad) (word next : W) (end : StepEnd) → Ready a l m → Takes a b (OpenSlot q ∷ []) → word ≡ Ram (next_quad (seen a.store))
    → q ≡ record { t = item (values_of a l) 1; x = item_of n (values_of a l) 2; y = item_of n (values_of a l) 3; z = item_of n (values_of a l) 4 }
    → is_makeable (seen a.store) (item (values_of a l) 1) ≡ true → Turns b c l o (goes n (word ∷ []) next).outcome end → Turns a c l o (quad_row n (seen a.store) (values_of a l) next).outcome end
quad-made a b c l o n m q word next end r t we is makes k =
    let cell = one_cell (next_quad (seen a.store)) q in
    let made : Turns a c l o (gives n cell next).outcome end = gives-made a b c l o m cell n word next end r t we k in
    let row : gives n cell next ≡ quad_row n (seen a.store) (values_of a l) next =
    ap (λ (p : Quad). gives n (one_cell (next_quad (seen a.store)) p) next) is
    ∙ sym (ap (λ (x : Bool). if x then gives n (one_cell (next_quad (seen a.store)) (record { t = item (values_of a l) 1; x = item_of n (values_of a l) 2; y = item_of n (values_of a l) 3; z = item_of n (values_of a l) 4 })) next else record (goes n (undef ∷ []) next) { charge = charge 2 0 }) makes) in
    subst (λ (x : Row). Turns a c l o x.outcome end) row made

-- ---- words of lists and cells

pub parts-more : (s : Seen) (n : ℕ) (w rest value : W) → (n ≡ 0 → ⊥) → rest ≡ tail_in (cell_seen s w) → value ≡ head_in (cell_seen s w) → parted s (n - 1) rest ++ value ∷ [] ≡ parted s n w
parts-more s zero w rest value n e f = absurd (n refl)
parts-more s (suc n) w rest value h e f =
    let less : suc n - 1 ≡ n = omega arith in
    ap₂ (λ (ws : List W) (v : W). ws ++ v ∷ []) (ap₂ (parted s) less e) f

pub parts-ready : (a b : Memory) (l m : Lane) (n : ℕ) (rest : W) → (n ≡ 0 → ⊥) → Ready a l (n + 1) → Moves a b l m (restacking 0 (parted (seen a.store) (n - 1) rest) l.code) → Ready b m 1
parts-ready a b l m n rest h r p = let e = length-parted (seen a.store) (n - 1) rest in ready-moves a b l m (restacking 0 (parted (seen a.store) (n - 1) rest) l.code) (n + 1) 1 r p (omega arith)

pub fields-item : (q : Option Quad) (n k : ℕ) → k < n → get_or (fields_in q n) k undef ≡ field_in q (n - 1 - k)
fields-item q zero k h = absurd (omega arith)
fields-item q (suc n) zero h = let e : n ≡ suc n - 1 - 0 = omega arith in ap (field_in q) e
fields-item q (suc n) (suc k) h = let e : n - 1 - k ≡ suc n - 1 - suc k = omega arith in fields-item q n k (omega arith) ∙ ap (field_in q) e

-- ---- a list of the items on top

module _ (a b : Memory) (l : Lane) (n : ℕ) (st : Items) (is : st ≡ record { word = l.stack; depth = l.depth }) (r : Ready a l (n + 1))
    (t : Takes a b (listed n (seen a.store) (values_in (seen a.store) st)).cells) where
  listed_is : listed n (seen a.store) (values_in (seen a.store) st) ≡ listed n (seen a.store) (values_of a l)
  listed_is = ap (λ (x : Items). listed n (seen a.store) (values_in (seen a.store) x)) is

  pub paired-ready : Ready b l 1
  paired-ready =
      let vs = values_in (seen a.store) st in
      let e = length-linked pair_quad (next_quad (seen a.store)) (reverse (top_items n vs)) (item vs (suc n)) in
      let f = length-reverse (top_items n vs) in
      let g = length-top_items n vs in
      ready-takes a b l (n + 1) 1 (listed n (seen a.store) vs).cells r t (omega arith)

  pub paired : (c : Memory) (o : Lane) (word next : W) (end : StepEnd) → word ≡ (listed n (seen a.store) (values_in (seen a.store) st)).word → Turns b c l o (goes (n + 1) (word ∷ []) next).outcome end
      → Turns a c l o (gives (suc n) (listed n (seen a.store) (values_of a l)) next).outcome end
  paired c o word next end e k =
      gives-made a b c l o (n + 1) (listed n (seen a.store) (values_of a l)) (suc n) word next end r (subst (λ (x : Built). Takes a b x.cells) listed_is t) (e ∙ ap (λ (x : Built). x.word) listed_is)
      (subst (λ (m : ℕ). Turns b c l o (goes m (word ∷ []) next).outcome end) (add-one n) k)
