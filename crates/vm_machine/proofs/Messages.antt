-- What becomes of the unfinished messages where the ready ones, those in flight, or the events given change.
use Rattle.std.proofs.Common.{◌≡◌, ℕ, suc, ◌+◌, ◌<◌, ◌≤◌, nat_eq, List, [], ◌∷◌, ◌++◌, length, Bool, true, false, if◌then◌else◌, ap, ap₂, refl, sym, ◌∙◌, arith}
use Rattle.std.specs.Prelude.{map, ◌||◌}
use Rattle.std.proofs.lemmas.Bool.Decides.{nat_tests}
use Rattle.cap_words.specs.Words.{W}
use Rattle.instr_table.specs.Lane.{Lane as Flying}
use Rattle.instr_table.specs.Event.{Sent}
use Rattle.vm_turn.specs.State.{Message}
use Rattle.vm_turn.specs.Turn.{is_in_flight, without, numbered_from}
use Rattle.event_queue.specs.Pending.{numbers_from, without as without_number}
use Rattle.vm_machine.specs.Messages.{is_among, is_unfinished, kept_from, unfinished}

pub differ : (n k : ℕ) → nat_eq n k ≡ false → n ≡ k → ⊥
differ n k h e = grind (arith, nat_tests)

pub same : (n k : ℕ) → nat_eq n k ≡ true → n ≡ k
same n k h = grind (arith, nat_tests)

pub other : (n k : ℕ) → (n ≡ k → ⊥) → nat_eq n k ≡ false
other n k h = grind (arith, nat_tests)

itself : (n : ℕ) → nat_eq n n ≡ true
itself n = grind (arith, nat_tests)

-- ---- which messages are kept

-- functions that say the same of the numbers of a list keep the same
pub kept-same : (f g : ℕ → Bool) (n : ℕ) (ws : List W) → ((k : ℕ) → n ≤ k → k < n + length ws → f k ≡ g k) → kept_from f n ws ≡ kept_from g n ws
kept-same f g n [] h = refl
kept-same f g n (w ∷ ws) h =
    ap₂ (λ (b : Bool) (ms : List Message). if b then record { number = n; event = w } ∷ ms else ms)
    (h n (omega arith) (omega arith))
    (kept-same f g (suc n) ws (λ k a b. h k (omega (arith, a)) (omega (arith, b))))

-- one that says no of one number more keeps the others
pub kept-without : (f g : ℕ → Bool) (x n : ℕ) (ws : List W) → ((k : ℕ) → (k ≡ x → ⊥) → g k ≡ f k) → g x ≡ false → kept_from g n ws ≡ without x (kept_from f n ws)
kept-without f g x n [] h none = refl
kept-without f g x n (w ∷ ws) h none = by (nat_eq n x) refl (kept-without f g x (suc n) ws h none)
  where
    keeps : (b : Bool) (ms : List Message) → nat_eq n x ≡ false → (if b then record { number = n; event = w } ∷ without x ms else without x ms) ≡ without x (if b then record { number = n; event = w } ∷ ms else ms)
    keeps true ms e = rw e refl
    keeps false ms e = refl

    drops : (b : Bool) (ms : List Message) → nat_eq n x ≡ true → without x ms ≡ without x (if b then record { number = n; event = w } ∷ ms else ms)
    drops true ms e = rw e refl
    drops false ms e = refl

    by : (b : Bool) → nat_eq n x ≡ b → kept_from g (suc n) ws ≡ without x (kept_from f (suc n) ws) → (if g n then record { number = n; event = w } ∷ kept_from g (suc n) ws else kept_from g (suc n) ws) ≡ without x (if f n then record { number = n; event = w } ∷ kept_from f (suc n) ws else kept_from f (suc n) ws)
    by true e r =
        let no_n : g n ≡ false = ap g (same n x e) ∙ none in
        rw no_n (r ∙ drops (f n) (kept_from f (suc n) ws) e)
    by false e r =
        let yes : g n ≡ f n = h n (differ n x e) in
        ap₂ (λ (b : Bool) (ms : List Message). if b then record { number = n; event = w } ∷ ms else ms) yes r ∙ keeps (f n) (kept_from f (suc n) ws) e

-- new events that are all kept come behind
all-kept : (g : ℕ → Bool) (n : ℕ) (ms : List Sent) → ((k : ℕ) → n ≤ k → k < n + length ms → g k ≡ true) → kept_from g n (map (λ (m : Sent). m.event) ms) ≡ numbered_from n ms
all-kept g n [] h = refl
all-kept g n (m ∷ ms) h =
    let yes : g n ≡ true = h n (omega arith) (omega arith) in
    rw yes (ap (λ (l : List Message). record { number = n; event = m.event } ∷ l) (all-kept g (suc n) ms (λ k a b. h k (omega (arith, a)) (omega (arith, b)))))

pub kept-append : (f g : ℕ → Bool) (n : ℕ) (ws : List W) (ms : List Sent) → ((k : ℕ) → k < n + length ws → g k ≡ f k) → ((k : ℕ) → n + length ws ≤ k → k < n + length ws + length ms → g k ≡ true)
    → kept_from g n (ws ++ map (λ (m : Sent). m.event) ms) ≡ kept_from f n ws ++ numbered_from (n + length ws) ms
kept-append f g n [] ms h new = let e : n + 0 ≡ n = omega arith in rw e (all-kept g n ms (λ k a b. new k (omega (arith, a)) (omega (arith, b))))
kept-append f g n (w ∷ ws) ms h new =
    let e : n + length (w ∷ ws) ≡ suc n + length ws = omega arith in
    let r = kept-append f g (suc n) ws ms (λ k a. h k (omega (arith, a))) (λ k a b. new k (omega (arith, a)) (omega (arith, b))) in
    rw e (by (g n) (f n) (h n (omega arith)) (kept_from g (suc n) (ws ++ map (λ (m : Sent). m.event) ms)) (kept_from f (suc n) ws) r)
  where
    by : (b c : Bool) → b ≡ c → (xs ys : List Message) → xs ≡ ys ++ numbered_from (suc n + length ws) ms → (if b then record { number = n; event = w } ∷ xs else xs) ≡ (if c then record { number = n; event = w } ∷ ys else ys) ++ numbered_from (suc n + length ws) ms
    by true true e xs ys r = ap (λ (l : List Message). record { number = n; event = w } ∷ l) r
    by true false e xs ys r = cc
    by false true e xs ys r = cc
    by false false e xs ys r = r

-- ---- numbers in lists

pub among-append : (n : ℕ) (ks ms : List ℕ) → is_among n (ks ++ ms) ≡ (is_among n ks || is_among n ms)
among-append n [] ms = refl
among-append n (k ∷ ks) ms = by (nat_eq k n) (among-append n ks ms)
  where
    by : (b : Bool) → is_among n (ks ++ ms) ≡ (is_among n ks || is_among n ms) → (if b then true else is_among n (ks ++ ms)) ≡ ((if b then true else is_among n ks) || is_among n ms)
    by true r = refl
    by false r = r

-- none of the numbers from a number on is below it, and each of them is there
pub numbers-below : (n k : ℕ) (ws : List W) → k < n → is_among k (numbers_from n ws) ≡ false
numbers-below n k [] h = refl
numbers-below n k (w ∷ ws) h = let e : nat_eq n k ≡ false = other n k (λ x. omega (arith, x, h)) in rw e (numbers-below (suc n) k ws (omega (arith, h)))

numbers-there : (n k : ℕ) (ws : List W) → n ≤ k → k < n + length ws → is_among k (numbers_from n ws) ≡ true
numbers-there n k [] a b = absurd (omega (arith, a, b))
numbers-there n k (w ∷ ws) a b = by (nat_eq n k) refl (λ c d. numbers-there (suc n) k ws c d)
  where
    by : (c : Bool) → nat_eq n k ≡ c → (suc n ≤ k → k < suc n + length ws → is_among k (numbers_from (suc n) ws) ≡ true) → (if c then true else is_among k (numbers_from (suc n) ws)) ≡ true
    by true e later = refl
    by false e later = later (let d = differ n k e in grind (arith, a, d)) (omega (arith, b))

pub without-among : (n k : ℕ) (ks : List ℕ) → (k ≡ n → ⊥) → is_among k (without_number n ks) ≡ is_among k ks
without-among n k [] d = refl
without-among n k (m ∷ ms) d = by (nat_eq m n) refl (without-among n k ms d)
  where
    by : (b : Bool) → nat_eq m n ≡ b → is_among k (without_number n ms) ≡ is_among k ms → is_among k (if b then without_number n ms else m ∷ without_number n ms) ≡ (if nat_eq m k then true else is_among k ms)
    by true e r = let o : nat_eq m k ≡ false = other m k (λ x. d (sym x ∙ same m n e)) in rw o r
    by false e r = ap (λ (b : Bool). if nat_eq m k then true else b) r

pub without-gone : (n : ℕ) (ks : List ℕ) → is_among n (without_number n ks) ≡ false
without-gone n [] = refl
without-gone n (m ∷ ms) = by (nat_eq m n) refl (without-gone n ms)
  where
    by : (b : Bool) → nat_eq m n ≡ b → is_among n (without_number n ms) ≡ false → is_among n (if b then without_number n ms else m ∷ without_number n ms) ≡ false
    by true e r = r
    by false e r = rw e r

flight-end : (n : ℕ) (ls : List Flying) (l : Flying) → is_in_flight n (ls ++ l ∷ []) ≡ (is_in_flight n ls || nat_eq l.number n)
flight-end n [] l = by (nat_eq l.number n)
  where
    by : (b : Bool) → (if b then true else false) ≡ b
    by true = refl
    by false = refl
flight-end n (k ∷ ls) l = by (nat_eq k.number n) (flight-end n ls l)
  where
    by : (b : Bool) → is_in_flight n (ls ++ l ∷ []) ≡ (is_in_flight n ls || nat_eq l.number n) → (if b then true else is_in_flight n (ls ++ l ∷ [])) ≡ ((if b then true else is_in_flight n ls) || nat_eq l.number n)
    by true r = refl
    by false r = r

pub or-true : (b : Bool) → (b || true) ≡ true
or-true true = refl
or-true false = refl

pub or-false : (b : Bool) → (b || false) ≡ b
or-false true = refl
or-false false = refl

-- ---- what a machine does

-- a ready message goes into flight
pub unfinished-begun : (given : List W) (ready : List ℕ) (flight : List Flying) (l : Flying) → is_among l.number ready ≡ true → unfinished given (without_number l.number ready) (flight ++ l ∷ []) ≡ unfinished given ready flight
unfinished-begun given ready flight l h = kept-same (is_unfinished (without_number l.number ready) (flight ++ l ∷ [])) (is_unfinished ready flight) 0 given (λ k a b. at k)
  where
    by : (k : ℕ) (c : Bool) → nat_eq l.number k ≡ c → (is_among k (without_number l.number ready) || (is_in_flight k flight || c)) ≡ (is_among k ready || is_in_flight k flight)
    by k true e =
        let x : l.number ≡ k = same l.number k e in
        let r : is_among k ready ≡ true = ap (λ (j : ℕ). is_among j ready) (sym x) ∙ h in
        rw (r, or-true (is_in_flight k flight)) (or-true (is_among k (without_number l.number ready)))
    by k false e =
        let x : is_among k (without_number l.number ready) ≡ is_among k ready = without-among l.number k ready (λ y. differ l.number k e (sym y)) in
        rw (x, or-false (is_in_flight k flight)) refl

    at : (k : ℕ) → is_unfinished (without_number l.number ready) (flight ++ l ∷ []) k ≡ is_unfinished ready flight k
    at k = ap (λ (b : Bool). is_among k (without_number l.number ready) || b) (flight-end k flight l) ∙ by k (nat_eq l.number k) refl

-- a ready message ends at once
pub unfinished-ended : (given : List W) (ready : List ℕ) (flight : List Flying) (n : ℕ) → is_in_flight n flight ≡ false → unfinished given (without_number n ready) flight ≡ without n (unfinished given ready flight)
unfinished-ended given ready flight n h =
    kept-without (is_unfinished ready flight) (is_unfinished (without_number n ready) flight) n 0 given
    (λ k d. ap (λ (b : Bool). b || is_in_flight k flight) (without-among n k ready d))
    (let g : is_among n (without_number n ready) ≡ false = without-gone n ready in rw g h)

-- messages are appended
pub unfinished-append : (given : List W) (ready : List ℕ) (flight : List Flying) (ms : List Sent)
    → unfinished (given ++ map (λ (m : Sent). m.event) ms) (ready ++ numbers_from (length given) (map (λ (m : Sent). m.event) ms)) flight ≡ unfinished given ready flight ++ numbered_from (length given) ms
unfinished-append given ready flight ms =
    let h : kept_from (is_unfinished (ready ++ numbers_from (length given) ws) flight) 0 (given ++ ws) ≡ kept_from (is_unfinished ready flight) 0 given ++ numbered_from (0 + length given) ms = kept-append (is_unfinished ready flight) (is_unfinished (ready ++ numbers_from (length given) ws) flight) 0 given ms old new in
    h ∙ ap (λ (n : ℕ). kept_from (is_unfinished ready flight) 0 given ++ numbered_from n ms) zero_more
  where
    zero_more : 0 + length given ≡ length given
    zero_more = omega arith

    ws : List W
    ws = map (λ (m : Sent). m.event) ms

    count : (xs : List Sent) → length (map (λ (m : Sent). m.event) xs) ≡ length xs
    count [] = refl
    count (x ∷ xs) = ap suc (count xs)

    old : (k : ℕ) → k < 0 + length given → is_unfinished (ready ++ numbers_from (length given) ws) flight k ≡ is_unfinished ready flight k
    old k a = ap (λ (b : Bool). b || is_in_flight k flight) (among-append k ready (numbers_from (length given) ws) ∙ ap (λ (b : Bool). is_among k ready || b) (numbers-below (length given) k ws (omega (arith, a))) ∙ or-false (is_among k ready))

    new : (k : ℕ) → 0 + length given ≤ k → k < 0 + length given + length ms → is_unfinished (ready ++ numbers_from (length given) ws) flight k ≡ true
    new k a b =
        let t : is_among k (numbers_from (length given) ws) ≡ true = numbers-there (length given) k ws (omega (arith, a)) (omega (arith, b, count ms)) in
        ap (λ (c : Bool). c || is_in_flight k flight) (among-append k ready (numbers_from (length given) ws) ∙ ap (λ (c : Bool). is_among k ready || c) t ∙ or-true (is_among k ready))
