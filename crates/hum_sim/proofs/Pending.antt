-- Laws of pending messages.
use Rattle.std.proofs.Common.{◌≡◌, ⊎_elim, refl, ap, sym, subst, ◌∙◌, ℕ, zero, suc, ◌<◌, ◌≤◌, List, [], ◌∷◌, ◌++◌, Some, slice_get, nat_eq, eq-eqb, ne_eqb, arith}
use Rattle.std.proofs.lemmas.Option.{none-some, same_Some}
use Rattle.vm_turn.specs.State.{Message}
use Rattle.vm_turn.specs.Turn as machine
use Rattle.vm_turn.specs.Sound as sound
use Rattle.hum_meaning.specs.Deliver as meaning
use Rattle.hum_meaning.specs.Deliver.{without}
use Rattle.hum_meaning.specs.After.{message_of}
use Rattle.hum_meaning.specs.Sound.{Rising}
use Rattle.hum_core.specs.Alike.{Each}
use Rattle.hum_core.specs.TestLists.{Tests}
use Rattle.hum_sim.specs.Standing.{first_to}
use Rattle.hum_sim.proofs.Lists.{tested}

abbrev pub Pending : Type 0
Pending = meaning.Message Tests

-- ---- found

pub message_number : (n : ℕ) (ps : List Pending) (p : Pending) → message_of n ps ≡ Some p → p.number ≡ n
message_number n [] p e = absurd (none-some p e)
message_number n (q ∷ ps) p e =
    ⊎_elim
    (λ t. ap (λ (x : Pending). x.number) (sym (same_Some q p (rw t.0 at e))) ∙ t.1)
    (λ f. message_number n ps p (rw f.0 at e))
    (tested q.number n)

pub message_append : (n : ℕ) (ps qs : List Pending) (p : Pending) → message_of n ps ≡ Some p → message_of n (ps ++ qs) ≡ Some p
message_append n [] qs p e = absurd (none-some p e)
message_append n (q ∷ ps) qs p e =
    ⊎_elim
    (λ t. rw t.0 (rw t.0 at e))
    (λ f. rw f.0 (message_append n ps qs p (rw f.0 at e)))
    (tested q.number n)

pub first_append : (n : ℕ) (ps qs : List Pending) (p : Pending) → first_to n ps ≡ Some p → first_to n (ps ++ qs) ≡ Some p
first_append n [] qs p e = absurd (none-some p e)
first_append n (q ∷ ps) qs p e =
    ⊎_elim
    (λ t. rw t.0 (rw t.0 at e))
    (λ f. rw f.0 (first_append n ps qs p (rw f.0 at e)))
    (tested q.target n)

pub message_without : (n k : ℕ) (ps : List Pending) (p : Pending) → message_of n ps ≡ Some p → (p.number ≡ k → ⊥) → message_of n (without k ps) ≡ Some p
message_without n k [] p e d = e
message_without n k (q ∷ ps) p e d =
    ⊎_elim
    (λ g.
    ⊎_elim
    (λ t. absurd (d (ap (λ (x : Pending). x.number) (sym (same_Some q p (rw t.0 at e))) ∙ g.1)))
    (λ f. rw g.0 (message_without n k ps p (rw f.0 at e) d))
    (tested q.number n))
    (λ b.
    ⊎_elim
    (λ t. rw (b.0, t.0) (rw t.0 at e))
    (λ f. rw (b.0, f.0) (message_without n k ps p (rw f.0 at e) d))
    (tested q.number n))
    (tested q.number k)

pub first_without : (n k : ℕ) (ps : List Pending) (p : Pending) → first_to n ps ≡ Some p → (p.number ≡ k → ⊥) → first_to n (without k ps) ≡ Some p
first_without n k [] p e d = e
first_without n k (q ∷ ps) p e d =
    ⊎_elim
    (λ g.
    ⊎_elim
    (λ t. absurd (d (ap (λ (x : Pending). x.number) (sym (same_Some q p (rw t.0 at e))) ∙ g.1)))
    (λ f. rw g.0 (first_without n k ps p (rw f.0 at e) d))
    (tested q.target n))
    (λ b.
    ⊎_elim
    (λ t. rw (b.0, t.0) (rw t.0 at e))
    (λ f. rw (b.0, f.0) (first_without n k ps p (rw f.0 at e) d))
    (tested q.target n))
    (tested q.number k)

-- ---- rising numbers

pub rising_as : (R : Message → Pending → Type 0) → ((m : Message) (p : Pending) → R m p → m.number ≡ p.number)
    → (from next : ℕ) (ms : List Message) (ps : List Pending) → Each R ms ps → sound.Rising from next ms → Rising from next ps
rising_as R same from next [] [] h r = r
rising_as R same from next [] (p ∷ ps) h r = absurd h
rising_as R same from next (m ∷ ms) [] h r = absurd h
rising_as R same from next (m ∷ ms) (p ∷ ps) h r =
    let e = same m p h.0 in
    (omega (arith, e, r.0), subst (λ n. Rising (suc n) next ps) e (rising_as R same (suc m.number) next ms ps h.1 r.1))

pub rising_at : (from next : ℕ) (ps : List Pending) (i : ℕ) (p : Pending) → Rising from next ps → slice_get ps i ≡ Some p → from ≤ p.number
rising_at from next [] i p r e = absurd (none-some p e)
rising_at from next (q ∷ ps) zero p r e = subst (λ (x : Pending). from ≤ x.number) (same_Some q p e) r.0
rising_at from next (q ∷ ps) (suc i) p r e = let h = rising_at (suc q.number) next ps i p r.1 e in omega (arith, h, r.0)

pub message_at : (from next : ℕ) (ps : List Pending) (i : ℕ) (p : Pending) → Rising from next ps → slice_get ps i ≡ Some p → message_of p.number ps ≡ Some p
message_at from next [] i p r e = absurd (none-some p e)
message_at from next (q ∷ ps) zero p r e = let s = same_Some q p e in rw (eq-eqb q.number p.number (ap (λ (x : Pending). x.number) s)) e
message_at from next (q ∷ ps) (suc i) p r e =
    let h = rising_at (suc q.number) next ps i p r.1 e in
    rw (ne_eqb q.number p.number (λ d. absurd (omega (arith, h, d)))) (message_at (suc q.number) next ps i p r.1 e)

-- the one with the least number of those to its target
pub first_at : (from next : ℕ) (ps : List Pending) (i : ℕ) (p : Pending) → Rising from next ps → slice_get ps i ≡ Some p
    → ((j : ℕ) (q : Pending) → slice_get ps j ≡ Some q → q.target ≡ p.target → p.number ≤ q.number) → first_to p.target ps ≡ Some p
first_at from next [] i p r e f = absurd (none-some p e)
first_at from next (q ∷ ps) zero p r e f = let s = same_Some q p e in rw (eq-eqb q.target p.target (ap (λ (x : Pending). x.target) s)) e
first_at from next (q ∷ ps) (suc i) p r e f =
    let h = rising_at (suc q.number) next ps i p r.1 e in
    rw (ne_eqb q.target p.target (λ d. let g = f zero q refl d in absurd (omega (arith, h, g))))
    (first_at (suc q.number) next ps i p r.1 e (λ j x a. f (suc j) x a))

-- the one with the least number of all
pub head_at : (from next : ℕ) (ps : List Pending) (i : ℕ) (p : Pending) → Rising from next ps → slice_get ps i ≡ Some p
    → ((j : ℕ) (q : Pending) → slice_get ps j ≡ Some q → p.number ≤ q.number) → slice_get ps 0 ≡ Some p
head_at from next [] i p r e f = absurd (none-some p e)
head_at from next (q ∷ ps) zero p r e f = e
head_at from next (q ∷ ps) (suc i) p r e f =
    let h = rising_at (suc q.number) next ps i p r.1 e in
    let g = f zero q refl in
    absurd (omega (arith, h, g))

-- the first of all is the one of its number
pub head_found : (ps : List Pending) (p : Pending) (n : ℕ) → slice_get ps 0 ≡ Some p → p.number ≡ n → message_of n ps ≡ Some p
head_found [] p n e h = absurd (none-some p e)
head_found (q ∷ ps) p n e h = rw (eq-eqb q.number n (ap (λ (x : Pending). x.number) (same_Some q p e) ∙ h)) e

-- ---- both lists

pub each_without : (R : Message → Pending → Type 0) → ((m : Message) (p : Pending) → R m p → m.number ≡ p.number) → (n : ℕ)
    → (ms : List Message) (ps : List Pending) → Each R ms ps → Each R (machine.without n ms) (without n ps)
each_without R same n [] [] h = tt
each_without R same n [] (p ∷ ps) h = absurd h
each_without R same n (m ∷ ms) [] h = absurd h
each_without R same n (m ∷ ms) (p ∷ ps) h =
    let r = each_without R same n ms ps h.1 in
    let e : nat_eq m.number n ≡ nat_eq p.number n = ap (λ a. nat_eq a n) (same m p h.0) in
    ⊎_elim
    (λ t. rw (t.0, sym e ∙ t.0) r)
    (λ f. rw (f.0, sym e ∙ f.0) (h.0, r))
    (tested m.number n)

-- ---- the first is the least

pub first_least : (from next t : ℕ) (ps : List Pending) (p : Pending) → Rising from next ps → first_to t ps ≡ Some p
    → (j : ℕ) (q : Pending) → slice_get ps j ≡ Some q → q.target ≡ t → p.number ≤ q.number
first_least from next t [] p r e j q at h = absurd (none-some p e)
first_least from next t (y ∷ ps) p r e zero q at h =
    let s = same_Some y q at in
    let same : p ≡ q = same_Some p q (sym e ∙ rw (eq-eqb y.target t (ap (λ (x : Pending). x.target) s ∙ h)) at) in
    let n = ap (λ (x : Pending). x.number) same in
    omega (arith, n)
first_least from next t (y ∷ ps) p r e (suc j) q at h =
    ⊎_elim
    (λ x.
    let n = ap (λ (x : Pending). x.number) (same_Some y p (rw x.0 at e)) in
    let k = rising_at (suc y.number) next ps j q r.1 at in
    omega (arith, n, k))
    (λ f. first_least (suc y.number) next t ps p r.1 (rw f.0 at e) j q at h)
    (tested y.target t)

pub head_least : (from next : ℕ) (ps : List Pending) (p : Pending) → Rising from next ps → slice_get ps 0 ≡ Some p
    → (j : ℕ) (q : Pending) → slice_get ps j ≡ Some q → p.number ≤ q.number
head_least from next [] p r e j q at = absurd (none-some p e)
head_least from next (y ∷ ps) p r e zero q at = let n = ap (λ (x : Pending). x.number) (same_Some p q (sym e ∙ at)) in omega (arith, n)
head_least from next (y ∷ ps) p r e (suc j) q at =
    let n = ap (λ (x : Pending). x.number) (same_Some y p e) in
    let k = rising_at (suc y.number) next ps j q r.1 at in
    omega (arith, n, k)

-- a number that is pending was given
pub pending_given : (from next n : ℕ) (ps : List Pending) (p : Pending) → Rising from next ps → message_of n ps ≡ Some p → p.number < next
pending_given from next n [] p r e = absurd (none-some p e)
pending_given from next n (q ∷ ps) p r e =
    ⊎_elim
    (λ t. let s = ap (λ (x : Pending). x.number) (same_Some q p (rw t.0 at e)) in let l = rising_below (suc q.number) next ps r.1 in omega (arith, s, l))
    (λ f. pending_given (suc q.number) next n ps p r.1 (rw f.0 at e))
    (tested q.number n)
  where
    rising_below : (first last : ℕ) (qs : List Pending) → Rising first last qs → first ≤ last
    rising_below first last [] h = h
    rising_below first last (x ∷ qs) h = let l = rising_below (suc x.number) last qs h.1 in omega (arith, h.0, l)
