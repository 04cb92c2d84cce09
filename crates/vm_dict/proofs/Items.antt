-- Lists of pairs item by item, and how many items there are.
use Rattle.std.proofs.Common.{◌≡◌, ℕ, zero, suc, ◌+◌, ◌<◌, ◌≤◌, List, [], ◌∷◌, length, Option, Some, None, refl, ap, sym, ◌∙◌, arith}
use Rattle.cap_words.specs.declared.word.Quad.{Quad}
use Rattle.cap_words.specs.Words.{W}
use Rattle.cap_words.specs.Seen.{Seen, Slot, cell_seen, grown}
use Rattle.instr_table.specs.Lists.{pair_in, items_to}
use Rattle.vm_dict.proofs.Taking.{cell-grown}
use Rattle.vm_dict.proofs.Entries.{one_left}

pub items-zero : (s : Seen) (w : W) → items_to s 0 w ≡ []
unfolding items_to
items-zero s w = refl

pub items-none : (s : Seen) (n : ℕ) (w : W) → pair_in (cell_seen s w) ≡ None → items_to s n w ≡ []
unfolding items_to
items-none s zero w h = refl
items-none s (suc n) w h = rw (h, items_to)

pub items-some : (s : Seen) (n : ℕ) (w : W) (q : Quad) → pair_in (cell_seen s w) ≡ Some q → items_to s (suc n) w ≡ q.x ∷ items_to s n q.y
unfolding items_to
items-some s n w q h = rw (h, items_to)

-- a list with as many items as are asked for begins with a pair
pub items-whole : (s : Seen) (n : ℕ) (w : W) → length (items_to s (suc n) w) ≡ suc n → (q : Quad) × (pair_in (cell_seen s w) ≡ Some q) × (length (items_to s n q.y) ≡ n)
items-whole s n w h = first (pair_in (cell_seen s w)) refl
  where
    first : (o : Option Quad) → pair_in (cell_seen s w) ≡ o → (q : Quad) × (pair_in (cell_seen s w) ≡ Some q) × (length (items_to s n q.y) ≡ n)
    first None k = let l : length (items_to s (suc n) w) ≡ 0 = ap length (items-none s (suc n) w k) in absurd (omega arith)
    first (Some q) k = let l : length (items_to s (suc n) w) ≡ suc (length (items_to s n q.y)) = ap length (items-some s n w q k) in (q, k, omega arith)

-- the items are the first ones, as many as they are
pub items-counted : (s : Seen) (m : ℕ) (w : W) → items_to s (length (items_to s m w)) w ≡ items_to s m w
items-counted s zero w = ap (λ (l : List W). items_to s (length l) w) (items-zero s w)
items-counted s (suc m) w = from (pair_in (cell_seen s w)) refl (λ v. items-counted s m v)
  where
    from : (o : Option Quad) → pair_in (cell_seen s w) ≡ o → ((v : W) → items_to s (length (items_to s m v)) v ≡ items_to s m v) → items_to s (length (items_to s (suc m) w)) w ≡ items_to s (suc m) w
    from None k h = rw (items-none s (suc m) w k) (items-zero s w)
    from (Some q) k h = rw (items-some s m w q k) (items-some s (length (items_to s m q.y)) w q k ∙ ap (λ (l : List W). q.x ∷ l) (h q.y))

pub pair-grown : (s : Seen) (cells : List Slot) (w : W) (q : Quad) → pair_in (cell_seen s w) ≡ Some q → pair_in (cell_seen (grown s cells) w) ≡ Some q
pair-grown s cells w q h = from (cell_seen s w) refl
  where
    from : (o : Option Quad) → cell_seen s w ≡ o → pair_in (cell_seen (grown s cells) w) ≡ Some q
    from None k = let n : pair_in (cell_seen s w) ≡ None = ap pair_in k in cc
    from (Some p) k = ap pair_in (cell-grown s cells w p k ∙ sym k) ∙ h

-- ---- the count: so many items were passed

pub record Counting (s : Seen) (m : ℕ) (list : W) (i : ℕ) (at : W) : Type 0 where
  pub left : ℕ
  pub count : i + left ≡ m
  pub length_is : length (items_to s m list) ≡ i + length (items_to s left at)

pub counting-start : (s : Seen) (m : ℕ) (list : W) → Counting s m list 0 list
counting-start s m list = record { left = m; count = omega arith; length_is = omega arith }

pub counting-more : (s : Seen) (m : ℕ) (list : W) (i : ℕ) (at : W) (q : Quad) → Counting s m list i at → i < m → Some q ≡ pair_in (cell_seen s at) → Counting s m list (i + 1) q.y
counting-more s m list i at q h low is =
    let k = one_left i h.left m h.count low in
    let l : length (items_to s h.left at) ≡ suc (length (items_to s k.0 q.y)) = ap (λ (n : ℕ). length (items_to s n at)) k.1 ∙ ap length (items-some s k.0 at q (sym is)) in
    record { left = k.0; count = omega (arith, h.count, k.1); length_is = omega (arith, h.length_is, l) }

pub counting-none : (s : Seen) (m : ℕ) (list : W) (i : ℕ) (at : W) → Counting s m list i at → None ≡ pair_in (cell_seen s at) → i ≡ length (items_to s m list)
counting-none s m list i at h is =
    let l : length (items_to s h.left at) ≡ 0 = ap length (items-none s h.left at (sym is)) in
    omega (arith, h.length_is, l)

pub counting-end : (s : Seen) (m : ℕ) (list : W) (i : ℕ) (at : W) → Counting s m list i at → m ≤ i → i ≤ m → m ≡ length (items_to s m list)
counting-end s m list i at h high low =
    let n : h.left ≡ 0 = omega (arith, h.count) in
    let l : length (items_to s h.left at) ≡ 0 = ap (λ (n : ℕ). length (items_to s n at)) n ∙ ap length (items-zero s at) in
    omega (arith, h.length_is, l)
