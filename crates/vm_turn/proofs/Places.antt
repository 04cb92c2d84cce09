-- What every turn keeps, said of single messages, events in flight and signals.
use Rattle.std.proofs.Common.{◌≡◌, inl, inr, ℕ, zero, suc, ◌<◌, ◌≤◌, List, [], ◌∷◌, Option, Some, Bool, true, false, if◌then◌else◌, refl, ap, ◌∙◌, sym, subst, arith}
use Rattle.std.specs.Prelude.{slice_get}
use Rattle.std.specs.List.{sum_by}
use Rattle.std.proofs.lemmas.List.Sums.{sum_by-cons}
use Rattle.cap_words.specs.Words.{W, same_word}
use Rattle.cap_words.specs.Frame.{Among}
use Rattle.instr_table.specs.Sheet.{Account, no_account, account, prepared}
use Rattle.instr_table.specs.Lane.{Lane}
use Rattle.vm_sponsor.specs.declared.amounts.Amounts.{Amounts}
use Rattle.vm_turn.specs.State.{Message, State}
use Rattle.vm_turn.specs.Sound.{Sound, numbers, Other, Distinct, Has, Rising, message_words, sent_by, as_list, signals_of, times}
use Rattle.vm_turn.proofs.Numbers.{has-at}
use Rattle.vm_turn.proofs.Sums.{some_is, sum-at}
use Rattle.vm_turn.proofs.Events.{times-among, times-cons, times-head}

-- ---- lists

-- the account of a sponsor counts no more than all
pub account-under : (f : Account → ℕ) (rows : List Account) (w : W) → f (no_account w) ≡ 0 → f (account rows w) ≤ sum_by f rows
account-under f [] w z = omega (arith, z)
account-under f (a ∷ rows) w z = by (same_word a.sponsor w) (account-under f rows w z)
  where
    by : (b : Bool) → f (account rows w) ≤ sum_by f rows → f (if b then a else account rows w) ≤ sum_by f (a ∷ rows)
    by true h = omega (arith, sum_by-cons f a rows)
    by false h = omega (arith, sum_by-cons f a rows, h)

message-among : (ms : List Message) (i : ℕ) (m : Message) → slice_get ms i ≡ Some m → Among m.event (message_words ms)
message-among [] i m h = cc
message-among (k ∷ ms) zero m h = inl (ap (λ (x : Message). x.event) (sym (some_is h)))
message-among (k ∷ ms) (suc i) m h = inr (message-among ms i m h)

-- a word that stands there once stands at one place
one-place : (ms : List Message) (w : W) → times w (message_words ms) ≤ 1 → (i j : ℕ) (m n : Message) → slice_get ms i ≡ Some m → slice_get ms j ≡ Some n → m.event ≡ w → n.event ≡ w → i ≡ j
one-place [] w o i j m n a b e f = cc
one-place (k ∷ ms) w o zero zero m n a b e f = refl
one-place (k ∷ ms) w o zero (suc j) m n a b e f =
    let h = times-head k.event w (message_words ms) (ap (λ (x : Message). x.event) (some_is a) ∙ e) in
    let t = times-among w (message_words ms) (subst (λ (v : W). Among v (message_words ms)) f (message-among ms j n b)) in
    absurd (omega (arith, o, h, t))
one-place (k ∷ ms) w o (suc i) zero m n a b e f =
    let h = times-head k.event w (message_words ms) (ap (λ (x : Message). x.event) (some_is b) ∙ f) in
    let t = times-among w (message_words ms) (subst (λ (v : W). Among v (message_words ms)) e (message-among ms i m a)) in
    absurd (omega (arith, o, h, t))
one-place (k ∷ ms) w o (suc i) (suc j) m n a b e f =
    let c = times-cons k.event w (message_words ms) in
    ap suc (one-place ms w (omega (arith, o, c)) i j m n a b e f)

-- ---- numbers

pub rising-first : (first last : ℕ) (ms : List Message) (i : ℕ) (m : Message) → Rising first last ms → slice_get ms i ≡ Some m → first ≤ m.number
rising-first first last [] i m r h = cc
rising-first first last (k ∷ ms) zero m r h = let e : k.number ≡ m.number = ap (λ (x : Message). x.number) (some_is h) in let f = r.0 in omega (arith, e, f)
rising-first first last (k ∷ ms) (suc i) m r h = let f = r.0 in let g = rising-first (suc k.number) last ms i m r.1 h in omega (arith, f, g)

rising-one : (first last : ℕ) (ms : List Message) (i j : ℕ) (m n : Message) → Rising first last ms → slice_get ms i ≡ Some m → slice_get ms j ≡ Some n → m.number ≡ n.number → i ≡ j
rising-one first last [] i j m n r a b e = cc
rising-one first last (k ∷ ms) zero zero m n r a b e = refl
rising-one first last (k ∷ ms) zero (suc j) m n r a b e =
    let f : k.number ≡ m.number = ap (λ (x : Message). x.number) (some_is a) in
    let g = rising-first (suc k.number) last ms j n r.1 b in
    absurd (omega (arith, e, f, g))
rising-one first last (k ∷ ms) (suc i) zero m n r a b e =
    let f : k.number ≡ n.number = ap (λ (x : Message). x.number) (some_is b) in
    let g = rising-first (suc k.number) last ms i m r.1 a in
    absurd (omega (arith, e, f, g))
rising-one first last (k ∷ ms) (suc i) (suc j) m n r a b e = ap suc (rising-one (suc k.number) last ms i j m n r.1 a b e)

rising-last : (first last : ℕ) (ms : List Message) → Rising first last ms → first ≤ last
rising-last first last [] r = r
rising-last first last (k ∷ ms) r = let f = r.0 in let g = rising-last (suc k.number) last ms r.1 in omega (arith, f, g)

rising-below : (first last : ℕ) (ms : List Message) (i : ℕ) (m : Message) → Rising first last ms → slice_get ms i ≡ Some m → m.number < last
rising-below first last [] i m r h = cc
rising-below first last (k ∷ ms) zero m r h = let e : k.number ≡ m.number = ap (λ (x : Message). x.number) (some_is h) in let g = rising-last (suc k.number) last ms r.1 in omega (arith, e, g)
rising-below first last (k ∷ ms) (suc i) m r h = rising-below (suc k.number) last ms i m r.1 h

pub other-at : (n : ℕ) (ls : List Lane) (i : ℕ) (l : Lane) → Other n (numbers ls) → slice_get ls i ≡ Some l → l.number ≡ n → ⊥
other-at n [] i l h a e = cc
other-at n (k ∷ ls) zero l h a e = h.0 (ap (λ (x : Lane). x.number) (some_is a) ∙ e)
other-at n (k ∷ ls) (suc i) l h a e = other-at n ls i l h.1 a e

distinct-one : (ls : List Lane) (i j : ℕ) (k l : Lane) → Distinct (numbers ls) → slice_get ls i ≡ Some k → slice_get ls j ≡ Some l → k.number ≡ l.number → i ≡ j
distinct-one [] i j k l d a b e = cc
distinct-one (x ∷ ls) zero zero k l d a b e = refl
distinct-one (x ∷ ls) zero (suc j) k l d a b e = let f : x.number ≡ k.number = ap (λ (y : Lane). y.number) (some_is a) in absurd (other-at x.number ls j l d.0 b (sym (f ∙ e)))
distinct-one (x ∷ ls) (suc i) zero k l d a b e = let f : x.number ≡ l.number = ap (λ (y : Lane). y.number) (some_is b) in absurd (other-at x.number ls i k d.0 a (e ∙ sym f))
distinct-one (x ∷ ls) (suc i) (suc j) k l d a b e = ap suc (distinct-one ls i j k l d.1 a b e)

pub has-place : (ms : List Message) (n : ℕ) → Has ms n → (p : ℕ) × (m : Message) × (slice_get ms p ≡ Some m) × (m.number ≡ n)
has-place [] n h = absurd h
has-place (k ∷ ms) n (inl e) = (0, k, refl, e)
has-place (k ∷ ms) n (inr h) = let g = has-place ms n h in (suc g.0, g.1, g.2, g.3)

-- ---- what every turn keeps

module _ {grant : Amounts} (s : State) (ok : Sound grant s) where
  -- two messages have different numbers, and different events
  pub messages-numbers : (p q : ℕ) (m n : Message) → slice_get s.messages p ≡ Some m → slice_get s.messages q ≡ Some n → m.number ≡ n.number → p ≡ q
  messages-numbers p q m n a b e = rising-one 0 s.next_number s.messages p q m n ok.rising a b e

  pub message-given : (p : ℕ) (m : Message) → slice_get s.messages p ≡ Some m → m.number < s.next_number
  message-given p m a = rising-below 0 s.next_number s.messages p m ok.rising a

  pub messages-events : (p q : ℕ) (m n : Message) → slice_get s.messages p ≡ Some m → slice_get s.messages q ≡ Some n → m.event ≡ n.event → p ≡ q
  messages-events p q m n a b e = let o = ok.once n.event in one-place s.messages n.event (omega (arith, o)) p q m n a b e refl

  -- an event in flight is of an unfinished message; two of them have different numbers, and different events
  pub flight-message : (i : ℕ) (l : Lane) → slice_get s.flight i ≡ Some l → (p : ℕ) × (m : Message) × (slice_get s.messages p ≡ Some m) × (m.number ≡ l.number)
  flight-message i l a = has-place s.messages l.number (has-at s.messages s.flight i l a ok.pending)

  pub flight-numbers : (i j : ℕ) (k l : Lane) → slice_get s.flight i ≡ Some k → slice_get s.flight j ≡ Some l → k.number ≡ l.number → i ≡ j
  flight-numbers i j k l a b e = distinct-one s.flight i j k l ok.apart a b e

  pub flight-events : (i j : ℕ) (k l : Lane) (p q : ℕ) (m n : Message) → slice_get s.flight i ≡ Some k → slice_get s.flight j ≡ Some l → slice_get s.messages p ≡ Some m → slice_get s.messages q ≡ Some n → m.number ≡ k.number → n.number ≡ l.number → m.event ≡ n.event → i ≡ j
  flight-events i j k l p q m n a b c d e f h =
      let same : p ≡ q = messages-events p q m n c d h in
      let is : m ≡ n = some_is (sym c ∙ (ap (λ (x : ℕ). slice_get s.messages x) same ∙ d)) in
      flight-numbers i j k l a b (sym e ∙ (ap (λ (x : Message). x.number) is ∙ f))

  sent-times : (i : ℕ) (l : Lane) (w : W) → slice_get s.flight i ≡ Some l → Among w (sent_by l) → 1 ≤ sum_by (λ (l : Lane). times w (sent_by l)) s.flight
  sent-times i l w a h = let t = times-among w (sent_by l) h in let u = sum-at (λ (l : Lane). times w (sent_by l)) s.flight i l a in omega (arith, t, u)

  message-times : (p : ℕ) (m : Message) (w : W) → slice_get s.messages p ≡ Some m → m.event ≡ w → 1 ≤ times w (message_words s.messages)
  message-times p m w a e = times-among w (message_words s.messages) (subst (λ (v : W). Among v (message_words s.messages)) e (message-among s.messages p m a))

  -- no event in flight has sent the event of an unfinished message
  pub message-not_sent : (p : ℕ) (m : Message) (i : ℕ) (l : Lane) → slice_get s.messages p ≡ Some m → slice_get s.flight i ≡ Some l → Among m.event (sent_by l) → ⊥
  message-not_sent p m i l a b h =
      let o = ok.once m.event in
      let t = message-times p m m.event a refl in
      let u = sent-times i l m.event b h in
      absurd (omega (arith, o, t, u))

  module _ (who w : W) (h : prepared s.sheet who ≡ Some w) where
    signal-times : 1 ≤ sum_by (λ (a : Account). times w (signals_of a)) s.sheet
    signal-times =
        let e : times w (as_list (prepared s.sheet who)) ≡ times w (w ∷ []) = ap (λ (o : Option W). times w (as_list o)) h in
        let t = times-among w (w ∷ []) (inl refl) in
        let u = account-under (λ (a : Account). times w (signals_of a)) s.sheet who refl in
        omega (arith, e, t, u)

    -- a prepared signal is the event of no message, and no event in flight has sent it
    pub signal-no_message : (p : ℕ) (m : Message) → slice_get s.messages p ≡ Some m → m.event ≡ w → ⊥
    signal-no_message p m a e = let o = ok.once w in let t = message-times p m w a e in let u = signal-times in absurd (omega (arith, o, t, u))

    pub signal-not_sent : (i : ℕ) (l : Lane) → slice_get s.flight i ≡ Some l → Among w (sent_by l) → ⊥
    signal-not_sent i l a g = let o = ok.once w in let t = sent-times i l w a g in let u = signal-times in absurd (omega (arith, o, t, u))
