-- Numbers that ascend: what lies at a place, what is left without one, and where a walk goes on.
use Rattle.std.proofs.Common.{◌≡◌, ℕ, zero, suc, ◌+◌, ◌<◌, ◌≤◌, List, [], ◌∷◌, ◌++◌, length, get_or, true, false, nat_eq, refl, ap, sym, ◌∙◌, arith, ◌⊎◌, inl, inr}
use Rattle.std.specs.Prelude.{remove, slice_get, nat_le}
use Rattle.std.specs.List.{Contains}
use Rattle.std.proofs.lemmas.Bool.Decides.{nat_tests}
use Rattle.std.proofs.lemmas.Grind.{get_or_default_zero}
use Rattle.event_queue.specs.Pending.{IsAscending, without, first_from}

pub ascending-low : (low lower high : ℕ) (ns : List ℕ) → lower ≤ low → IsAscending low high ns → IsAscending lower high ns
ascending-low low lower high [] h a = tt
ascending-low low lower high (n ∷ ns) h a = (omega (arith, a.0), a.1, a.2)

-- what lies at a place
pub ascending-at : (low high : ℕ) (ns : List ℕ) (i d : ℕ) → IsAscending low high ns → i < length ns → (low ≤ get_or ns i d) × (get_or ns i d < high)
ascending-at low high [] i d a h = absurd (omega arith)
ascending-at low high (n ∷ ns) zero d a h = (a.0, a.1)
ascending-at low high (n ∷ ns) (suc i) d a h = let r = ascending-at (suc n) high ns i d a.2 (omega arith) in (omega (arith, a.0, r.0), r.1)

pub ascending-rises : (low high : ℕ) (ns : List ℕ) (i j d : ℕ) → IsAscending low high ns → i < j → j < length ns → get_or ns i d < get_or ns j d
ascending-rises low high [] i j d a h k = absurd (omega arith)
ascending-rises low high (n ∷ ns) i zero d a h k = absurd (omega arith)
ascending-rises low high (n ∷ ns) zero (suc j) d a h k = (ascending-at (suc n) high ns j d a.2 (omega arith)).0
ascending-rises low high (n ∷ ns) (suc i) (suc j) d a h k = ascending-rises (suc n) high ns i j d a.2 (omega arith) (omega arith)

pub ascending-order : (low high : ℕ) (ns : List ℕ) → IsAscending low high ns → (i j : ℕ) → i ≤ j → j < length ns → get_or ns i 0 ≤ get_or ns j 0
ascending-order low high ns a i j h k = grind (arith, ascending-rises low high ns i j 0 a, λ (e : i ≡ j). ap (λ (m : ℕ). get_or ns m 0) e)

-- one more at the end, or one less
pub ascending-push : (low high : ℕ) (ns : List ℕ) → low ≤ high → IsAscending low high ns → IsAscending low (suc high) (ns ++ high ∷ [])
ascending-push low high [] h a = (h, omega arith, tt)
ascending-push low high (n ∷ ns) h a = (a.0, omega (arith, a.1), ascending-push (suc n) high ns a.1 a.2)

pub ascending-remove : (low high : ℕ) (ns : List ℕ) (i : ℕ) → IsAscending low high ns → IsAscending low high (remove ns i)
ascending-remove low high [] zero a = tt
ascending-remove low high [] (suc i) a = tt
ascending-remove low high (n ∷ ns) zero a = ascending-low (suc n) low high ns (omega (arith, a.0)) a.2
ascending-remove low high (n ∷ ns) (suc i) a = (a.0, a.1, ascending-remove (suc n) high ns i a.2)

-- what is left without a number
without-below : (n low high : ℕ) (ns : List ℕ) → n < low → IsAscending low high ns → without n ns ≡ ns
without-below n low high [] h a = refl
without-below n low high (m ∷ ms) h a =
    let k : nat_eq m n ≡ false = grind (arith, nat_tests, a.0) in
    rw k (ap (λ (l : List ℕ). m ∷ l) (without-below n (suc m) high ms (omega (arith, a.0)) a.2))

pub without-at : (low high : ℕ) (ns : List ℕ) (i n : ℕ) → IsAscending low high ns → i < length ns → get_or ns i 0 ≡ n → without n ns ≡ remove ns i
without-at low high [] i n a h e = absurd (omega arith)
without-at low high (m ∷ ms) zero n a h e =
    let k : nat_eq m n ≡ true = grind (arith, nat_tests) in
    rw k (without-below n (suc m) high ms (omega arith) a.2)
without-at low high (m ∷ ms) (suc i) n a h e =
    let r = ascending-at (suc m) high ms i 0 a.2 (omega arith) in
    let k : nat_eq m n ≡ false = grind (arith, nat_tests, r.0, e) in
    rw k (ap (λ (l : List ℕ). m ∷ l) (without-at (suc m) high ms i n a.2 (omega arith) e))

-- the first number from a bound on is where those before are below it
pub first-at : (ns : List ℕ) (i low : ℕ) → ((j : ℕ) → j < i → j < length ns → get_or ns j 0 < low) → (i < length ns → low ≤ get_or ns i 0) → slice_get ns i ≡ first_from low ns
first-at [] zero low before here = refl
first-at [] (suc i) low before here = refl
first-at (n ∷ ns) zero low before here =
    let k : nat_le low n ≡ true = grind (arith, nat_tests, here (omega arith)) in
    rw k refl
first-at (n ∷ ns) (suc i) low before here =
    let k : nat_le low n ≡ false = grind (arith, nat_tests, before 0 (omega arith) (omega arith)) in
    rw k (first-at ns i low (λ j h g. before (suc j) (omega arith) (omega arith)) (λ h. here (omega arith)))

-- the number after one is at the next place
pub next-at : (low high : ℕ) (ns : List ℕ) (i n : ℕ) → IsAscending low high ns → i < length ns → get_or ns i 0 ≡ n → slice_get ns (i + 1) ≡ first_from (n + 1) ns
next-at low high ns i n a h e =
    first-at ns (i + 1) (n + 1)
    (λ j g k. let o = ascending-order low high ns a j i (omega arith) h in omega (arith, o))
    (λ g. let o = ascending-rises low high ns i (i + 1) 0 a (omega arith) g in omega (arith, o))

-- a number of a list is the first one or one of the others
pub contains-first : (n : ℕ) (ns : List ℕ) → Contains (n ∷ ns) n
contains-first n ns = (0, omega arith, refl)

pub contains-more : (k n : ℕ) (ns : List ℕ) → Contains ns n → Contains (k ∷ ns) n
contains-more k n ns c = (suc c.0, omega (arith, c.1), c.2)

pub contains-either : (k n : ℕ) (ns : List ℕ) → Contains (k ∷ ns) n → (n ≡ k) ⊎ Contains ns n
contains-either k n ns c = by c.0 c.1 c.2
  where
    by : (i : ℕ) → i < length (k ∷ ns) → get_or (k ∷ ns) i n ≡ n → (n ≡ k) ⊎ Contains ns n
    by zero h e = inl (sym e)
    by (suc i) h e = inr (i, omega arith, e)

pub contains-high : (low high : ℕ) (ns : List ℕ) (n : ℕ) → IsAscending low high ns → Contains ns n → n < high
contains-high low high ns n a c = let r = ascending-at low high ns c.0 n a c.1 in omega (arith, r.1, c.2)

pub contains-low : (low high : ℕ) (ns : List ℕ) (n : ℕ) → IsAscending low high ns → Contains ns n → low ≤ n
contains-low low high ns n a c = let r = ascending-at low high ns c.0 n a c.1 in omega (arith, r.0, c.2)

-- a number that a search did not find is not there
pub not-absent : (ns : List ℕ) (n i : ℕ) → ((k : ℕ) → k < i → get_or ns k 0 < n) → ((k : ℕ) → i ≤ k → k < length ns → n < get_or ns k 0) → Contains ns n → ⊥
not-absent ns n i before after c =
    let e : get_or ns c.0 0 ≡ n = sym (get_or_default_zero ns c.0 n c.1) ∙ c.2 in
    grind (arith, before c.0, after c.0, c.1, e)
