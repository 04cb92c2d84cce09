-- Each event stands in one place, and its word is that of a quad that is taken.
use Rattle.std.proofs.Common.{◌≡◌, ◌⊎◌, inl, inr, ℕ, zero, suc, ◌+◌, ◌<◌, ◌≤◌, List, [], ◌∷◌, ◌++◌, length, Bool, true, false, refl, ap, ◌∙◌, sym, subst, arith}
use Rattle.std.specs.Prelude.{cond}
use Rattle.std.proofs.lemmas.List.{map-append}
use Rattle.std.proofs.lemmas.List.Sums.{sum_by-cons}
use Rattle.cap_words.specs.Words.{W, Fix, Rom, Ram, Cap, same_word}
use Rattle.cap_words.specs.Seen.{Seen, Slot}
use Rattle.cap_words.specs.Frame.{Among}
use Rattle.cap_words.proofs.Same.{word_same, word_is}
use Rattle.instr_table.specs.Lists.{next_quad}
use Rattle.instr_table.specs.Event.{Sent, Effects, Effect, Nothing, Sends, Creates, Assigns, Becomes, Sponsors, Grants, Reclaims, Starts, Stops, with_effect}
use Rattle.instr_table.specs.Outcome.{events_in}
use Rattle.instr_table.specs.Making.{MadeWith}
use Rattle.vm_effects.specs.Gathered.{sent_words}
use Rattle.vm_turn.specs.Sound.{times, NamesOne}
use Rattle.vm_turn.proofs.Sums.{Measure}
use Rattle.vm_turn.proofs.Sheets.{prepares}

-- ---- what an effect names

-- the event that an effect makes: of a message that is sent, or of a signal that is prepared
abbrev pub named : Effect → List W
named Nothing = []
named (Sends m) = m.event ∷ []
named (Creates m) = []
named (Assigns m) = []
named (Becomes b) = []
named (Sponsors w) = []
named (Grants w kind n) = []
named (Reclaims w) = []
named (Starts w signal) = signal ∷ []
named (Stops w) = []

-- it costs an event
pub named-cost : (x : Effect) → length (named x) ≡ events_in x
named-cost Nothing = refl
named-cost (Sends m) = refl
named-cost (Creates m) = refl
named-cost (Assigns m) = refl
named-cost (Becomes b) = refl
named-cost (Sponsors w) = refl
named-cost (Grants w kind n) = refl
named-cost (Reclaims w) = refl
named-cost (Starts w signal) = refl
named-cost (Stops w) = refl

-- and is sent or prepared
pub sent-named : (c : Measure) (f : Effects) (x : Effect) → c.of (sent_words (with_effect f x).sent) + c.of (prepares x) ≡ c.of (sent_words f.sent) + c.of (named x)
sent-named c f Nothing = refl
sent-named c f (Sends m) =
    let a : sent_words (f.sent ++ m ∷ []) ≡ sent_words f.sent ++ m.event ∷ [] = map-append (λ (x : Sent). x.event) f.sent (m ∷ []) in
    let b : c.of (sent_words (f.sent ++ m ∷ [])) ≡ c.of (sent_words f.sent ++ m.event ∷ []) = ap c.of a in
    omega (arith, b, c.more (sent_words f.sent) (m.event ∷ []), c.none)
sent-named c f (Creates m) = refl
sent-named c f (Assigns m) = refl
sent-named c f (Becomes b) = refl
sent-named c f (Sponsors w) = refl
sent-named c f (Grants w kind n) = refl
sent-named c f (Reclaims w) = refl
sent-named c f (Starts w signal) = refl
sent-named c f (Stops w) = refl

-- no event, or that of the quad that is taken next
abbrev pub IsNext : Seen → List Slot → List W → Type 0
IsNext s made ws = (ws ≡ []) ⊎ ((ws ≡ Cap (next_quad s) ∷ []) × (1 ≤ length made))

pub named-next : (payer controller : W) (s : Seen) (made : List Slot) (x : Effect) → MadeWith payer controller s made x → IsNext s made (named x)
named-next payer controller s made Nothing h = inl refl
named-next payer controller s made (Sends m) h = let e : length made ≡ 1 = ap (λ (xs : List Slot). length xs) h.1 in inr (ap (λ (w : W). w ∷ []) h.0, omega (arith, e))
named-next payer controller s made (Creates m) h = inl refl
named-next payer controller s made (Assigns m) h = inl refl
named-next payer controller s made (Becomes b) h = inl refl
named-next payer controller s made (Sponsors w) h = inl refl
named-next payer controller s made (Grants w kind n) h = inl refl
named-next payer controller s made (Reclaims w) h = inl refl
named-next payer controller s made (Starts w signal) h = let e : length made ≡ 1 = ap (λ (xs : List Slot). length xs) h.1 in inr (ap (λ (w : W). w ∷ []) h.0, omega (arith, e))
named-next payer controller s made (Stops w) h = inl refl

-- ---- words that name quads

pub names-more : (m n : ℕ) (w : W) → m ≤ n → NamesOne m w → NamesOne n w
names-more m n (Fix z) h t = absurd t
names-more m n (Rom k) h t = absurd t
names-more m n (Ram k) h t = absurd t
names-more m n (Cap k) h t = omega (arith, h, t)

-- what is counted of words: of each at most one, and of those alone that name one of the first n quads
pub record Placed (c : W → ℕ) (n : ℕ) : Type 0 where
  pub once : (w : W) → c w ≤ 1
  pub taken : (w : W) → 1 ≤ c w → NamesOne n w

-- no more is counted
pub placed-same : (c d : W → ℕ) (m n : ℕ) → m ≤ n → ((w : W) → d w ≤ c w) → Placed c m → Placed d n
placed-same c d m n up less p = record {
  once = λ w. let a = less w in let b = p.once w in omega (arith, a, b);
  taken = λ w h. let a = less w in names-more m n w up (p.taken w (omega (arith, a, h)));
}

abbrev bit : Bool → ℕ
bit b = cond b 1 0

times-bit : (v w : W) → times w (v ∷ []) ≡ bit (same_word v w)
times-bit v w = omega arith

pub times-none : (v w : W) → same_word v w ≡ false → times w (v ∷ []) ≡ 0
times-none v w h = times-bit v w ∙ ap bit h

bit-one : (b : Bool) → bit b ≤ 1
bit-one true = omega arith
bit-one false = omega arith

pub times-one : (v w : W) → times w (v ∷ []) ≤ 1
times-one v w = let e = times-bit v w in let o = bit-one (same_word v w) in omega (arith, e, o)

-- the quad that is taken next is counted once more
pub placed-next : (c d : W → ℕ) (m n : ℕ) → m < n → ((w : W) → d w ≤ c w + times w (Cap m ∷ [])) → Placed c m → Placed d n
placed-next c d m n up less p = record { once = λ w. once w (same_word (Cap m) w) refl; taken = λ w h. taken w h (same_word (Cap m) w) refl }
  where
    nowhere : (w : W) → Cap m ≡ w → c w ≡ 0
    nowhere w e = by (c w) refl
      where
        by : (k : ℕ) → c w ≡ k → k ≡ 0
        by zero h = refl
        by (suc k) h =
            let t : NamesOne m (Cap m) = subst (NamesOne m) (sym e) (p.taken w (omega (arith, h))) in
            absurd (omega (arith, t))

    once : (w : W) (b : Bool) → same_word (Cap m) w ≡ b → d w ≤ 1
    once w true e = let a = less w in let z = nowhere w (word_same (Cap m) w e) in let o = times-one (Cap m) w in omega (arith, a, z, o)
    once w false e = let a = less w in let z = times-none (Cap m) w e in let o = p.once w in omega (arith, a, z, o)

    taken : (w : W) → 1 ≤ d w → (b : Bool) → same_word (Cap m) w ≡ b → NamesOne n w
    taken w h true e = subst (NamesOne n) (word_same (Cap m) w e) up
    taken w h false e = let a = less w in let z = times-none (Cap m) w e in names-more m n w (omega (arith, up)) (p.taken w (omega (arith, a, z, h)))

-- the quad that an effect names, if any, is counted once more
pub placed-named : (c d : W → ℕ) (s : Seen) (n : ℕ) (made : List Slot) (ws : List W) → length s.slots + length made ≤ n → IsNext s made ws → ((w : W) → d w ≤ c w + times w ws) → Placed c (length s.slots) → Placed d n
placed-named c d s n made ws up (inl e) less p = placed-same c d (length s.slots) n (omega (arith, up)) (λ w. let a : times w ws ≡ times w [] = ap (λ (vs : List W). times w vs) e in let b = less w in omega (arith, a, b)) p
placed-named c d s n made ws up (inr h) less p = let k = h.1 in placed-next c d (length s.slots) n (omega (arith, up, k)) (λ w. subst (λ (vs : List W). d w ≤ c w + times w vs) h.0 (less w)) p

-- ---- words that are counted

pub times-cons : (v w : W) (ws : List W) → times w ws ≤ times w (v ∷ ws)
times-cons v w ws = omega (arith, sum_by-cons (λ (v : W). bit (same_word v w)) v ws)

pub times-head : (v w : W) (ws : List W) → v ≡ w → times w (v ∷ ws) ≡ 1 + times w ws
times-head v w ws e =
    let a : bit (same_word v w) ≡ bit true = ap bit (subst (λ (u : W). same_word v u ≡ true) e (word_is v)) in
    omega (arith, a, sum_by-cons (λ (v : W). bit (same_word v w)) v ws)

-- a word that is in a list is there once at least
pub times-among : (w : W) (ws : List W) → Among w ws → 1 ≤ times w ws
times-among w [] h = absurd h
times-among w (v ∷ ws) (inl e) = let a = times-head v w ws (sym e) in omega (arith, a)
times-among w (v ∷ ws) (inr h) = let c = times-cons v w ws in let t = times-among w ws h in omega (arith, c, t)
