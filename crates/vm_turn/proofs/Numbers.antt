-- The numbers of messages and of events in flight.
use Rattle.std.proofs.Common.{◌≡◌, ◌⊎◌, inl, inr, ℕ, zero, suc, ◌+◌, ◌≤◌, nat_eq, List, [], ◌∷◌, ◌++◌, length, Option, Some, None, Bool, true, false, if◌then◌else◌, ap, refl, sym, ◌∙◌, subst, arith}
use Rattle.std.specs.Prelude.{remove, slice_get, slice_set}
use Rattle.std.proofs.Math.Nat.{le_refl}
use Rattle.std.proofs.lemmas.Bool.Decides.{nat_tests}
use Rattle.cap_words.specs.Words.{W}
use Rattle.instr_table.specs.Event.{Sent}
use Rattle.instr_table.specs.Lane.{Lane}
use Rattle.vm_effects.specs.Gathered.{sent_words}
use Rattle.vm_turn.specs.State.{Message}
use Rattle.vm_turn.specs.Turn.{is_in_flight, without, numbered_from}
use Rattle.vm_turn.specs.Sound.{numbers, Other, Distinct, Has, HasAll, Rising, message_words}
use Rattle.vm_turn.proofs.Sums.{Measure}

-- the number of an event, where it is there
abbrev pub number_or : Option Lane → ℕ
number_or None = 0
number_or (Some l) = l.number

differ : (n k : ℕ) → nat_eq n k ≡ false → n ≡ k → ⊥
differ n k h e = grind (arith, nat_tests)

same : (n k : ℕ) → nat_eq n k ≡ true → n ≡ k
same n k h = grind (arith, nat_tests)

-- ---- messages without a number

pub has-append : (ms xs : List Message) (n : ℕ) → Has ms n → Has (ms ++ xs) n
has-append [] xs n h = absurd h
has-append (m ∷ ms) xs n (inl e) = inl e
has-append (m ∷ ms) xs n (inr h) = inr (has-append ms xs n h)

pub has-without : (ms : List Message) (n k : ℕ) → (k ≡ n → ⊥) → Has ms k → Has (without n ms) k
has-without [] n k other h = h
has-without (m ∷ ms) n k other h = pick (nat_eq m.number n) refl (λ g. has-without ms n k other g) h
  where
    pick : (b : Bool) → nat_eq m.number n ≡ b → (Has ms k → Has (without n ms) k) → (m.number ≡ k) ⊎ Has ms k → Has (if b then without n ms else m ∷ without n ms) k
    pick true e later (inl g) = absurd (other (sym g ∙ same m.number n e))
    pick true e later (inr g) = later g
    pick false e later (inl g) = inl g
    pick false e later (inr g) = inr (later g)

length-without : (ms : List Message) (n : ℕ) → length (without n ms) ≤ length ms
length-without [] n = omega arith
length-without (m ∷ ms) n = pick (nat_eq m.number n) (length-without ms n)
  where
    pick : (b : Bool) → length (without n ms) ≤ length ms → length (if b then without n ms else m ∷ without n ms) ≤ length (m ∷ ms)
    pick true h = omega (arith, h)
    pick false h = omega (arith, h)

pub fewer : (ms : List Message) (n : ℕ) → Has ms n → length (without n ms) + 1 ≤ length ms
fewer [] n h = absurd h
fewer (m ∷ ms) n h = pick (nat_eq m.number n) refl (length-without ms n) (λ g. fewer ms n g) h
  where
    pick : (b : Bool) → nat_eq m.number n ≡ b → length (without n ms) ≤ length ms → (Has ms n → length (without n ms) + 1 ≤ length ms) → (m.number ≡ n) ⊎ Has ms n → length (if b then without n ms else m ∷ without n ms) + 1 ≤ length (m ∷ ms)
    pick true e bound later g = omega (arith, bound)
    pick false e bound later (inl g) = absurd (differ m.number n e g)
    pick false e bound later (inr g) = let k = later g in omega (arith, k)

pub all-append : (ms xs : List Message) (ks : List ℕ) → HasAll ms ks → HasAll (ms ++ xs) ks
all-append ms xs [] h = tt
all-append ms xs (k ∷ ks) h = (has-append ms xs k h.0, all-append ms xs ks h.1)

pub all-without : (ms : List Message) (n : ℕ) (ks : List ℕ) → Other n ks → HasAll ms ks → HasAll (without n ms) ks
all-without ms n [] other h = tt
all-without ms n (k ∷ ks) other h = (has-without ms n k other.0 h.0, all-without ms n ks other.1 h.1)

-- different numbers of messages are no more than the messages
pub no_more : (ks : List ℕ) (ms : List Message) → Distinct ks → HasAll ms ks → length ks ≤ length ms
no_more [] ms apart h = omega arith
no_more (k ∷ ks) ms apart h =
    let f = fewer ms k h.0 in
    let g = no_more ks (without k ms) apart.1 (all-without ms k ks apart.0 h.1) in
    omega (arith, f, g)

-- ---- events in flight

pub not_in_flight : (n : ℕ) (ls : List Lane) → is_in_flight n ls ≡ false → Other n (numbers ls)
not_in_flight n [] h = tt
not_in_flight n (l ∷ ls) h = pick (nat_eq l.number n) refl (λ g. not_in_flight n ls g) h
  where
    pick : (b : Bool) → nat_eq l.number n ≡ b → (is_in_flight n ls ≡ false → Other n (numbers ls)) → (if b then true else is_in_flight n ls) ≡ false → Other n (numbers (l ∷ ls))
    pick true e later g = cc
    pick false e later g = (differ l.number n e, later g)

-- one more number at the end
other-end : (n k : ℕ) (ks : List ℕ) → Other k ks → (n ≡ k → ⊥) → Other k (ks ++ n ∷ [])
other-end n k [] h d = (d, tt)
other-end n k (j ∷ ks) h d = (h.0, other-end n k ks h.1 d)

pub apart-end : (n : ℕ) (ks : List ℕ) → Distinct ks → Other n ks → Distinct (ks ++ n ∷ [])
apart-end n [] apart other = (tt, tt)
apart-end n (k ∷ ks) apart other = (other-end n k ks apart.0 (λ e. other.0 (sym e)), apart-end n ks apart.1 other.1)

pub all-end : (ms : List Message) (n : ℕ) (ks : List ℕ) → HasAll ms ks → Has ms n → HasAll ms (ks ++ n ∷ [])
all-end ms n [] h g = (g, tt)
all-end ms n (k ∷ ks) h g = (h.0, all-end ms n ks h.1 g)

pub numbers-end : (ls : List Lane) (l : Lane) → numbers (ls ++ l ∷ []) ≡ numbers ls ++ l.number ∷ []
numbers-end [] l = refl
numbers-end (k ∷ ls) l = ap (λ (ns : List ℕ). k.number ∷ ns) (numbers-end ls l)

-- an event goes on
pub numbers-set : (ls : List Lane) (i : ℕ) (l new : Lane) → slice_get ls i ≡ Some l → new.number ≡ l.number → numbers (slice_set ls i new) ≡ numbers ls
numbers-set [] i l new h e = refl
numbers-set (k ∷ ls) zero l new h e = ap (λ (n : ℕ). n ∷ numbers ls) (e ∙ sym (ap (λ (o : Option Lane). number_or o) h))
numbers-set (k ∷ ls) (suc i) l new h e = ap (λ (ns : List ℕ). k.number ∷ ns) (numbers-set ls i l new h e)

-- an event ends: the others, at its place
other-removed : (n : ℕ) (ls : List Lane) (i : ℕ) → Other n (numbers ls) → Other n (numbers (remove ls i))
other-removed n [] zero h = tt
other-removed n [] (suc i) h = tt
other-removed n (k ∷ ls) zero h = h.1
other-removed n (k ∷ ls) (suc i) h = (h.0, other-removed n ls i h.1)

pub apart-removed : (ls : List Lane) (i : ℕ) → Distinct (numbers ls) → Distinct (numbers (remove ls i))
apart-removed [] zero h = tt
apart-removed [] (suc i) h = tt
apart-removed (k ∷ ls) zero h = h.1
apart-removed (k ∷ ls) (suc i) h = (other-removed k.number ls i h.0, apart-removed ls i h.1)

-- a number that stands among others is not one that they all differ from
not_among : (n : ℕ) (ls : List Lane) (i : ℕ) (l : Lane) → Other n (numbers ls) → slice_get ls i ≡ Some l → l.number ≡ n → ⊥
not_among n [] i l h g e = cc
not_among n (k ∷ ls) zero l h g e = h.0 (ap number_or g ∙ e)
not_among n (k ∷ ls) (suc i) l h g e = not_among n ls i l h.1 g e

pub rest-other : (ls : List Lane) (i : ℕ) (l : Lane) → slice_get ls i ≡ Some l → Distinct (numbers ls) → Other l.number (numbers (remove ls i))
rest-other [] i l g h = cc
rest-other (k ∷ ls) zero l g h = subst (λ (n : ℕ). Other n (numbers ls)) (ap number_or g) h.0
rest-other (k ∷ ls) (suc i) l g h = ((λ e. not_among k.number ls i l h.0 g (sym e)), rest-other ls i l g h.1)

pub all-removed : (ms : List Message) (ls : List Lane) (i : ℕ) → HasAll ms (numbers ls) → HasAll ms (numbers (remove ls i))
all-removed ms [] zero h = tt
all-removed ms [] (suc i) h = tt
all-removed ms (k ∷ ls) zero h = h.1
all-removed ms (k ∷ ls) (suc i) h = (h.0, all-removed ms ls i h.1)

pub has-at : (ms : List Message) (ls : List Lane) (i : ℕ) (l : Lane) → slice_get ls i ≡ Some l → HasAll ms (numbers ls) → Has ms l.number
has-at ms [] i l g h = cc
has-at ms (k ∷ ls) zero l g h = subst (λ (n : ℕ). Has ms n) (ap number_or g) h.0
has-at ms (k ∷ ls) (suc i) l g h = has-at ms ls i l g h.1

-- ---- numbers that rise

rising-lower : (m n last : ℕ) (ms : List Message) → m ≤ n → Rising n last ms → Rising m last ms
rising-lower m n last [] h r = omega (arith, r)
rising-lower m n last (k ∷ ms) h r = let e = r.0 in (omega (arith, e), r.1)

pub rising-without : (first last : ℕ) (ms : List Message) (n : ℕ) → Rising first last ms → Rising first last (without n ms)
rising-without first last [] n r = r
rising-without first last (m ∷ ms) n r = by (nat_eq m.number n) (rising-without (suc m.number) last ms n r.1)
  where
    by : (b : Bool) → Rising (suc m.number) last (without n ms) → Rising first last (if b then without n ms else m ∷ without n ms)
    by true h = let e = r.0 in rising-lower first (suc m.number) last (without n ms) (omega (arith, e)) h
    by false h = (r.0, h)

pub rising-append : (first middle last : ℕ) (ms xs : List Message) → Rising first middle ms → Rising middle last xs → Rising first last (ms ++ xs)
rising-append first middle last [] xs r h = rising-lower first middle last xs r h
rising-append first middle last (m ∷ ms) xs r h = (r.0, rising-append (suc m.number) middle last ms xs r.1 h)

pub rising-numbered : (n : ℕ) (es : List Sent) → Rising n (n + length es) (numbered_from n es)
rising-numbered n [] = omega arith
rising-numbered n (m ∷ es) =
    let e : n + suc (length es) ≡ suc n + length es = omega arith in
    (le_refl n, subst (λ (last : ℕ). Rising (suc n) last (numbered_from (suc n) es)) (sym e) (rising-numbered (suc n) es))

-- ---- the words of messages

pub numbered-words : (n : ℕ) (es : List Sent) → message_words (numbered_from n es) ≡ sent_words es
numbered-words n [] = refl
numbered-words n (m ∷ es) = ap (λ (ws : List W). m.event ∷ ws) (numbered-words (suc n) es)

pub without-words : (c : Measure) (n : ℕ) (ms : List Message) → c.of (message_words (without n ms)) ≤ c.of (message_words ms)
without-words c n [] = omega arith
without-words c n (m ∷ ms) = by (nat_eq m.number n) (without-words c n ms)
  where
    by : (b : Bool) → c.of (message_words (without n ms)) ≤ c.of (message_words ms) → c.of (message_words (if b then without n ms else m ∷ without n ms)) ≤ c.of (message_words (m ∷ ms))
    by true h = let e = c.more (m.event ∷ []) (message_words ms) in omega (arith, h, e)
    by false h = let e = c.more (m.event ∷ []) (message_words ms) in let d = c.more (m.event ∷ []) (message_words (without n ms)) in omega (arith, h, e, d)
