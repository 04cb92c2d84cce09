-- One course of action stands for another that has no fewer steps left, as long as it has fewer than d left itself.
use Rattle.std.proofs.Common.{◌≡◌, refl, ap, ◌∙◌, ℕ, zero, suc, pred, ◌+◌, ◌<◌, ◌≤◌, Option, Some, None, arith}
use Rattle.hum_meaning.specs.Value.{Parts, Value}
use Rattle.hum_meaning.specs.Action.{Effects, Outcome, Gives, Fails, Undecided, Action, and_then, ◌>>=◌, ◌>>◌, pure, fail, spend, step, undecided, create, send, becoming, become}

-- No steps come back; with fewer than d at the start, the second outcome is the same, with j more steps left.
abbrev pub Holds : {L : Parts} {A : Type 0} → (s j d : ℕ) → Outcome L A → Outcome L A → Type 0
Holds s j d (Gives a e t) o = (t ≤ s) × (s < d → o ≡ Gives a e (t + j))
Holds s j d (Fails c n) o = s < d → o ≡ Fails c n
Holds s j d Undecided o = Unit {0}

pub record Agrees {L : Parts} {A : Type 0} (d : ℕ) (p q : Action L A) : Type 0 where
  pub at : (effects : Effects L) (s j : ℕ) → Holds s j d (p effects s) (q effects (s + j))

module _ {L : Parts} {A : Type 0} where
  forget : (s j j' : ℕ) (o o' o'' : Outcome L A) → Holds s j 0 o o' → Holds s j' 0 o o''
  forget s j j' (Gives a e t) o' o'' h = (h.0, λ lt. absurd (omega (arith, lt)))
  forget s j j' (Fails c n) o' o'' h = λ lt. absurd (omega (arith, lt))
  forget s j j' Undecided o' o'' h = tt

  -- with no steps at all, the second course is of no account
  pub any_at_zero : (p q r : Action L A) → Agrees 0 p q → Agrees 0 p r
  any_at_zero p q r h = record { at = λ e s j. forget s j j (p e s) (q e (s + j)) (r e (s + j)) (h.at e s j) }

  fewer_holds : (s j d d' : ℕ) (o o' : Outcome L A) → d ≤ d' → Holds s j d' o o' → Holds s j d o o'
  fewer_holds s j d d' (Gives a e t) o' le h = (h.0, λ lt. h.1 (omega (arith, lt, le)))
  fewer_holds s j d d' (Fails c n) o' le h = λ lt. h (omega (arith, lt, le))
  fewer_holds s j d d' Undecided o' le h = tt

  pub undecided_agrees : (d : ℕ) (q : Action L A) → Agrees d undecided q
  undecided_agrees d q = record { at = λ e s j. tt }

  pub pure_agrees : (d : ℕ) (a : A) → Agrees {L = L} d (pure a) (pure a)
  pure_agrees d a = record { at = λ e s j. (omega arith, λ lt. refl) }

  pub fail_agrees : (d code : ℕ) → Agrees {L = L} {A = A} d (fail code) (fail code)
  fail_agrees d code = record { at = λ e s j. λ lt. refl }

-- ---- one after the other

module _ {L : Parts} {A B : Type 0} (s j d : ℕ) where
  last_holds : (t : ℕ) (o' : Outcome L A) (g : A → Action L B) (r' : Outcome L B) → t ≤ s → (s < d → and_then o' g ≡ r')
      → (r : Outcome L B) → Holds t j d r r' → Holds s j d r (and_then o' g)
  last_holds t o' g r' le is (Gives b e' u) h = (omega (arith, le, h.0), λ lt. is lt ∙ h.1 (omega (arith, le, lt)))
  last_holds t o' g r' le is (Fails c n) h = λ lt. is lt ∙ h (omega (arith, le, lt))
  last_holds t o' g r' le is Undecided h = tt

  then_holds : (o o' : Outcome L A) (f g : A → Action L B) → Holds s j d o o' → ((a : A) → Agrees d (f a) (g a))
      → Holds s j d (and_then o f) (and_then o' g)
  then_holds (Gives a e t) o' f g h k = last_holds t o' g (g a e (t + j)) h.0 (λ lt. ap (λ x. and_then x g) (h.1 lt)) (f a e t) ((k a).at e t j)
  then_holds (Fails c n) o' f g h k = λ lt. ap (λ x. and_then x g) (h lt)
  then_holds Undecided o' f g h k = tt

module _ {L : Parts} {A B : Type 0} where
  pub bind_agrees : (d : ℕ) {p q : Action L A} {f g : A → Action L B} → Agrees d p q → ((a : A) → Agrees d (f a) (g a))
      → Agrees d (p >>= f) (q >>= g)
  bind_agrees d {p} {q} {f} {g} h k = record { at = λ e s j. then_holds s j d (p e s) (q e (s + j)) f g (h.at e s j) k }

-- ---- steps

module _ {L : Parts} {A : Type 0} where
  later_holds : (d s j : ℕ) (o o' : Outcome L A) → Holds s j (pred d) o o' → Holds (suc s) j d o o'
  later_holds d s j (Gives a e t) o' h = (omega (arith, h.0), λ lt. h.1 (omega (arith, lt)))
  later_holds d s j (Fails c n) o' h = λ lt. h (omega (arith, lt))
  later_holds d s j Undecided o' h = tt

  spent : (d : ℕ) (p q : Action L A) (e : Effects L) (s j : ℕ) → Agrees (pred d) p q
      → Holds s j d (and_then (spend e s) (λ _. p)) (and_then (spend e (s + j)) (λ _. q))
  spent d p q e zero j h = tt
  spent d p q e (suc s) j h = let same : suc s + j ≡ suc (s + j) = omega arith in rw same (later_holds d s j (p e s) (q e (s + j)) (h.at e s j))

  -- behind a step there is one less
  pub step_agrees : (d : ℕ) {p q : Action L A} → Agrees (pred d) p q → Agrees d (step >> p) (step >> q)
  step_agrees d {p} {q} h = record { at = λ e s j. spent d p q e s j h }

  pub fewer : (d d' : ℕ) {p q : Action L A} → d ≤ d' → Agrees d' p q → Agrees d p q
  fewer d d' {p} {q} le h = record { at = λ e s j. fewer_holds s j d d' (p e s) (q e (s + j)) le (h.at e s j) }

  pub step_keeps : (d : ℕ) {p q : Action L A} → Agrees d p q → Agrees d (step >> p) (step >> q)
  step_keeps d h = step_agrees d (fewer (pred d) d (omega arith) h)

-- ---- effects

module _ {L : Parts} where
  pub create_agrees : (d base : ℕ) (v : Value L) → Agrees d (create base v) (create base v)
  create_agrees d base v = record { at = λ e s j. (omega arith, λ lt. refl) }

  pub send_agrees : (d n : ℕ) (v : Value L) → Agrees d (send n v) (send n v)
  send_agrees d n v = record { at = λ e s j. (omega arith, λ lt. refl) }

  becoming_holds : (d : ℕ) (o : Option (Value L)) (v : Value L) (e : Effects L) (s j : ℕ)
      → Holds s j d (becoming o v e s) (becoming o v e (s + j))
  becoming_holds d None v e s j = (omega arith, λ lt. refl)
  becoming_holds d (Some w) v e s j = λ lt. refl

  pub become_agrees : (d : ℕ) (v : Value L) → Agrees d (become v) (become v)
  become_agrees d v = record { at = λ e s j. becoming_holds d e.next v e s j }
