-- How many messages are unfinished.
use Rattle.std.proofs.Common.{◌≡◌, ℕ, suc, ◌+◌, ◌<◌, ◌≤◌, nat_eq, List, [], ◌∷◌, length, Bool, true, false, if◌then◌else◌, ap, refl, sym, ◌∙◌, arith}
use Rattle.std.proofs.lemmas.Bool.Decides.{nat_tests}
use Rattle.std.proofs.lemmas.Option.{slice_get_within}
use Rattle.cap_words.specs.Words.{W}
use Rattle.cap_words.specs.Store.{Store}
use Rattle.instr_table.specs.Lane.{Lane as Flying}
use Rattle.instr_table.specs.Reach.{Every}
use Rattle.vm_step.specs.declared.lane.Lane.{Lane}
use Rattle.vm_turn.specs.State.{Message}
use Rattle.vm_turn.specs.Turn.{is_in_flight}
use Rattle.event_queue.specs.Pending.{IsAscending}
use Rattle.vm_machine.specs.Flight.{flight_of, Flies, Separate, Pairwise}
use Rattle.vm_machine.specs.Messages.{is_among, is_unfinished, kept_from, unfinished}
use Rattle.vm_machine.proofs.Messages.{differ, same, other, kept-same, or-true}

-- one number more that is kept is one message more
one-more : (f g : ℕ → Bool) (x n : ℕ) (ws : List W) → n ≤ x → x < n + length ws → ((k : ℕ) → (k ≡ x → ⊥) → g k ≡ f k) → f x ≡ false → g x ≡ true → length (kept_from g n ws) ≡ suc (length (kept_from f n ws))
one-more f g x n [] a b h off on = absurd (omega (arith, a, b))
one-more f g x n (w ∷ ws) a b h off on = by (nat_eq n x) refl (λ c d. one-more f g x (suc n) ws c d h off on)
  where
    Count : Bool → Bool → List Message → List Message → Type 0
    Count p q xs ys = length (if p then record { number = n; event = w } ∷ xs else xs) ≡ suc (length (if q then record { number = n; event = w } ∷ ys else ys))

    here : (p q : Bool) (xs ys : List Message) → p ≡ true → q ≡ false → xs ≡ ys → Count p q xs ys
    here true true xs ys e o r = cc
    here true false xs ys e o r = ap (λ (zs : List Message). suc (length zs)) r
    here false q xs ys e o r = cc

    later : (p q : Bool) (xs ys : List Message) → p ≡ q → length xs ≡ suc (length ys) → Count p q xs ys
    later true true xs ys e r = ap suc r
    later true false xs ys e r = cc
    later false true xs ys e r = cc
    later false false xs ys e r = r

    by : (c : Bool) → nat_eq n x ≡ c → (suc n ≤ x → x < suc n + length ws → length (kept_from g (suc n) ws) ≡ suc (length (kept_from f (suc n) ws))) → Count (g n) (f n) (kept_from g (suc n) ws) (kept_from f (suc n) ws)
    by true e k =
        let q = same n x e in
        here (g n) (f n) (kept_from g (suc n) ws) (kept_from f (suc n) ws) (ap g q ∙ on) (ap f q ∙ off) (sym (kept-same f g (suc n) ws (λ j c d. sym (h j (λ z. omega (arith, c, z, q))))))
    by false e k =
        let d = differ n x e in
        later (g n) (f n) (kept_from g (suc n) ws) (kept_from f (suc n) ws) (h n d) (k (grind (arith, a, d)) (omega (arith, b)))

none-kept : (n : ℕ) (ws : List W) → length (kept_from (λ (k : ℕ). false) n ws) ≡ 0
none-kept n [] = refl
none-kept n (w ∷ ws) = none-kept (suc n) ws

-- no number of an ascending list stands below where it begins
below : (low high x : ℕ) (ns : List ℕ) → IsAscending low high ns → x < low → is_among x ns ≡ false
below low high x [] h l = refl
below low high x (n ∷ ns) h l =
    let a = h.0 in
    let e : nat_eq n x ≡ false = other n x (λ z. omega (arith, z, a, l)) in
    rw e (below (suc n) high x ns h.2 (omega (arith, a, l)))

itself : (n : ℕ) → nat_eq n n ≡ true
itself n = grind (arith, nat_tests)

count-ready : (given : List W) (low : ℕ) (ready : List ℕ) → IsAscending low (length given) ready → length (kept_from (is_unfinished ready []) 0 given) ≡ length ready
count-ready given low [] h = none-kept 0 given
count-ready given low (m ∷ ms) h =
    let b = h.1 in
    let gone = below (suc m) (length given) m ms h.2 (omega arith) in
    one-more (is_unfinished ms []) (is_unfinished (m ∷ ms) []) m 0 given (omega arith) (omega (arith, b))
    (λ k d. let e : nat_eq m k ≡ false = other m k (λ z. d (sym z)) in rw e refl)
    (rw gone refl)
    (let e : nat_eq m m ≡ true = itself m in rw e refl)
    ∙ ap suc (count-ready given (suc m) ms h.2)

-- no other lane flies with that number
none-flies : (s : Store) (l : Lane) (ls : List Lane) → Every (Separate s l) ls → is_in_flight l.number (flight_of s ls) ≡ false
none-flies s l [] h = refl
none-flies s l (k ∷ ls) h = let e : nat_eq k.number l.number ≡ false = other k.number l.number (λ z. h.0.numbers (sym z)) in rw e (none-flies s l ls h.1)

-- each message that is ready or in flight is unfinished, and no other
pub count-unfinished : (s : Store) (sponsors given : List W) (ready : List ℕ) (ls : List Lane) → Every (Flies s sponsors given ready) ls → Pairwise (Separate s) ls → IsAscending 0 (length given) ready
    → length (unfinished given ready (flight_of s ls)) ≡ length ready + length ls
count-unfinished s sponsors given ready [] h a r = let e = count-ready given 0 ready r in omega (arith, e)
count-unfinished s sponsors given ready (l ∷ ls) h a r =
    let w = slice_get_within given l.number l.event h.0.numbered in
    let o = none-flies s l ls a.0 in
    let e = one-more (is_unfinished ready (flight_of s ls)) (is_unfinished ready (flight_of s (l ∷ ls))) l.number 0 given (omega arith) (omega (arith, w))
    (λ k d. let e : nat_eq l.number k ≡ false = other l.number k (λ z. d (sym z)) in rw e refl)
    (rw (h.0.taken, o) refl)
    (let e : nat_eq l.number l.number ≡ true = itself l.number in rw e (or-true (is_among l.number ready))) in
    let m = count-unfinished s sponsors given ready ls h.1 a.1 r in
    omega (arith, e, m)

-- no message in flight is ready
pub none-ready : (s : Store) (sponsors given : List W) (ready : List ℕ) (ls : List Lane) → Every (Flies s sponsors given ready) ls → Every (λ (l : Flying). is_among l.number ready ≡ false) (flight_of s ls)
none-ready s sponsors given ready [] h = tt
none-ready s sponsors given ready (l ∷ ls) h = (h.0.taken, none-ready s sponsors given ready ls h.1)
