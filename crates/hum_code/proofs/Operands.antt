-- What the code of the built-in functions shares: the parts of a pair, two numbers, truth values, and the way back.
use Rattle.std.proofs.Common.{◌≡◌, refl, ℕ, ◌+◌, ◌≤◌, Bool, true, false, List, ◌∷◌, arith}
use Rattle.cap_words.specs.Words.{W, truth, same_word, pair_t, fixnum_t}
use Rattle.cap_words.specs.Seen.{Seen}
use Rattle.instr_table.specs.Types.{Grows, type_of, is_type}
use Rattle.instr_table.specs.Event.{Effects}
use Rattle.hum_code.specs.Comes.{Setting, Point, point, Comes}
use Rattle.hum_code.specs.Layout.{Layout}
use Rattle.hum_code.specs.Stands.{ShowsPair}
use Rattle.hum_code.specs.Runtime.{PartsAt, NumbersAt, TruthAt, AnswersAt, BackAt}
use Rattle.hum_code.proofs.Steps.{push, drop1, drop2, dup1, pick1, pick2, part1, roll2, jump, typeq, eq_, if_true, if_false}

-- the word is of that type in each later store, or is not
abbrev pub Types : Seen → W → W → Bool → Type 0
Types s w x b = (t : Seen) → Grows s t → is_type (type_of t w) x ≡ b

-- at most n cycles and n quads more
pub record Spends (n c q c' q' : ℕ) : Type 0 where
  pub from : c ≤ c'
  pub cycles : c' ≤ c + n
  pub quads : q' ≤ q + n

-- one after the other
pub spends : {n n' c q c' q' c'' q'' : ℕ} → Spends n c q c' q' → Spends n' c' q' c'' q'' → Spends (n + n') c q c'' q''
spends h i = record { from = omega (arith, h.from, i.from); cycles = omega (arith, h.cycles, i.cycles); quads = omega (arith, h.quads, i.quads) }

-- the event comes to P from there, with n cycles and n quads more at most
abbrev pub From : Setting → ℕ → (Seen → Point → Type 0) → Seen → (n c q : ℕ) → W → List W → Effects → Type 0
From m most P s n c q k vs e = (c' q' : ℕ) → Spends n c q c' q' → Comes m most P s (point k vs e c' q')

module _ {m : Setting} (lay : Layout) {most : ℕ} {P : Seen → Point → Type 0} {s : Seen} {vs : List W} {e : Effects} {c q : ℕ} where
  -- ---- a pair

  pub parts : {a k n w x y : W} → PartsAt m lay a k → Types s w pair_t true → ShowsPair s w x y → From m most P s 6 c q k (y ∷ x ∷ vs) e
      → Comes m most P s (point a (n ∷ w ∷ vs) e c q)
  parts h f is go =
      drop1 h.2.1 (dup1 h.2.2.1 (typeq true h.2.2.2 f (if_true h.3 (part1 h.4.1 is (roll2 h.4.2
      (go _ _ (record { from = omega arith; cycles = omega arith; quads = omega arith })))))))

  pub no_pair : {a k n w : W} → PartsAt m lay a k → Types s w pair_t false → From m most P s 4 c q (lay.fail 1) (w ∷ vs) e
      → Comes m most P s (point a (n ∷ w ∷ vs) e c q)
  no_pair h f go =
      drop1 h.2.1 (dup1 h.2.2.1 (typeq false h.2.2.2 f (if_false h.3
      (go _ _ (record { from = omega arith; cycles = omega arith; quads = omega arith })))))

  -- ---- two numbers

  pub numbers : {a k x y : W} → NumbersAt m lay a k → Types s y fixnum_t true → Types s x fixnum_t true → From m most P s 6 c q k (y ∷ x ∷ vs) e
      → Comes m most P s (point a (y ∷ x ∷ vs) e c q)
  numbers h f g go =
      dup1 h.3.1 (typeq true h.3.2 f (if_true h.4 (pick2 h.5.1 (typeq true h.5.2 g (if_true h.6
      (go _ _ (record { from = omega arith; cycles = omega arith; quads = omega arith })))))))

  pub no_first : {a k x y : W} → NumbersAt m lay a k → Types s y fixnum_t true → Types s x fixnum_t false
      → From m most P s 6 c q (lay.fail 4) (y ∷ x ∷ vs) e → Comes m most P s (point a (y ∷ x ∷ vs) e c q)
  no_first h f g go =
      dup1 h.3.1 (typeq true h.3.2 f (if_true h.4 (pick2 h.5.1 (typeq false h.5.2 g (if_false h.6
      (go _ _ (record { from = omega arith; cycles = omega arith; quads = omega arith })))))))

  pub no_second : {a k x y : W} → NumbersAt m lay a k → Types s y fixnum_t false → From m most P s 6 c q (lay.fail 4) (y ∷ x ∷ vs) e
      → Comes m most P s (point a (y ∷ x ∷ vs) e c q)
  no_second h f go =
      dup1 h.3.1 (typeq false h.3.2 f (if_false h.4 (go _ _ (record { from = omega arith; cycles = omega arith; quads = omega arith }))))

  -- ---- truth values

  pub first_truth : {a k : W} (b : Bool) → TruthAt m lay 1 a k → From m most P s 6 c q k (truth b ∷ vs) e
      → Comes m most P s (point a (truth b ∷ vs) e c q)
  first_truth true h go =
      pick1 h.3.1 (eq_ true h.3.2 refl (if_true h.4 (go _ _ (record { from = omega arith; cycles = omega arith; quads = omega arith }))))
  first_truth false h go =
      pick1 h.3.1 (eq_ false h.3.2 refl (if_false h.4 (pick1 h.5.1 (eq_ true h.5.2 refl (if_true h.6
      (go _ _ (record { from = omega arith; cycles = omega arith; quads = omega arith })))))))

  pub second_truth : {a k x : W} (b : Bool) → TruthAt m lay 2 a k → From m most P s 6 c q k (x ∷ truth b ∷ vs) e
      → Comes m most P s (point a (x ∷ truth b ∷ vs) e c q)
  second_truth true h go =
      pick2 h.3.1 (eq_ true h.3.2 refl (if_true h.4 (go _ _ (record { from = omega arith; cycles = omega arith; quads = omega arith }))))
  second_truth false h go =
      pick2 h.3.1 (eq_ false h.3.2 refl (if_false h.4 (pick2 h.5.1 (eq_ true h.5.2 refl (if_true h.6
      (go _ _ (record { from = omega arith; cycles = omega arith; quads = omega arith })))))))

  -- it is neither of them
  pub no_first_truth : {a k x : W} → TruthAt m lay 1 a k → ((b : Bool) → same_word x (truth b) ≡ false)
      → From m most P s 6 c q (lay.fail 5) (x ∷ vs) e → Comes m most P s (point a (x ∷ vs) e c q)
  no_first_truth h f go =
      pick1 h.3.1 (eq_ false h.3.2 (f true) (if_false h.4 (pick1 h.5.1 (eq_ false h.5.2 (f false) (if_false h.6
      (go _ _ (record { from = omega arith; cycles = omega arith; quads = omega arith })))))))

  pub no_second_truth : {a k x y : W} → TruthAt m lay 2 a k → ((b : Bool) → same_word x (truth b) ≡ false)
      → From m most P s 6 c q (lay.fail 5) (y ∷ x ∷ vs) e → Comes m most P s (point a (y ∷ x ∷ vs) e c q)
  no_second_truth h f go =
      pick2 h.3.1 (eq_ false h.3.2 (f true) (if_false h.4 (pick2 h.5.1 (eq_ false h.5.2 (f false) (if_false h.6
      (go _ _ (record { from = omega arith; cycles = omega arith; quads = omega arith })))))))

  -- ---- the answer

  pub back : {a x k : W} → BackAt m a → From m most P s 3 c q k (x ∷ vs) e → Comes m most P s (point a (x ∷ k ∷ vs) e c q)
  back h go = roll2 h.1.1 (jump h.1.2 (go _ _ (record { from = omega arith; cycles = omega arith; quads = omega arith })))

module _ {m : Setting} (lay : Layout) {most : ℕ} {P : Seen → Point → Type 0} {s : Seen} {vs : List W} {e : Effects} {c q : ℕ} where
  pub answers1 : {a v x k : W} → AnswersAt m lay 1 v a → From m most P s 6 c q k (v ∷ vs) e → Comes m most P s (point a (x ∷ k ∷ vs) e c q)
  answers1 h go =
      drop1 h.1.1 (push h.1.2 (back lay h.2
      (λ c' q' p. go c' q' (record { from = omega (arith, p.from); cycles = omega (arith, p.cycles); quads = omega (arith, p.quads) }))))

  pub answers2 : {a v x y k : W} → AnswersAt m lay 2 v a → From m most P s 6 c q k (v ∷ vs) e → Comes m most P s (point a (x ∷ y ∷ k ∷ vs) e c q)
  answers2 h go =
      drop2 h.1.1 (push h.1.2 (back lay h.2
      (λ c' q' p. go c' q' (record { from = omega (arith, p.from); cycles = omega (arith, p.cycles); quads = omega (arith, p.quads) }))))
