-- Courses of action that are alike, one part after the other.
use Rattle.std.proofs.Common.{◌≡◌, refl, ap, subst, ℕ, zero, suc, ◌+◌, ◌<◌, ◌≤◌, Bool, true, false, List, [], ◌∷◌, ◌++◌, length, Option, Some, None, arith}
use Rattle.std.specs.Prelude.{if◌then◌else◌, ℤ, ◌+ℤ◌, ◌-ℤ◌, ◌*ℤ◌, int_lt, not, ◌&&◌, ◌||◌}
use Rattle.cap_words.specs.Fixnums.{wrap, comparison}
use Rattle.hum_meaning.specs.Value.{Parts, Atom, Truth, Number, BuiltIn, Add, Sub, Mul, Compare, Less, LessEqual, Greater, GreaterEqual, Equal, And, Or, Not, Value, Plain, Pair}
use Rattle.hum_meaning.specs.Action.{Action, Effects, Outcome, Gives, Fails, Undecided, and_then, ◌>>=◌, ◌>>◌, pure, fail, no_match, not_a_number, not_a_truth_value, second_become, spend, step, create, send, becoming, become}
use Rattle.hum_meaning.specs.Same.{same, same_atom}
use Rattle.hum_meaning.specs.BuiltIns.{built_in, on_pair, on_numbers, on_truths, negation, equality}
use Rattle.hum_core.specs.Alike.{Both, Each, Reading, ConstantAs, Alike, plain_as, pair_as, SentAs, EffectsAs, OutcomeAs}
use Rattle.hum_core.proofs.Following.{ActsAs}

each_end : {A B : Type 0} (R : A → B → Type 0) (xs : List A) (ys : List B) (a : A) (b : B) → Each R xs ys → R a b
    → Each R (xs ++ a ∷ []) (ys ++ b ∷ [])
each_end R [] [] a b h k = (k, tt)
each_end R (x ∷ xs) (y ∷ ys) a b h k = (h.0, each_end R xs ys a b h.1 k)
each_end R [] (y ∷ ys) a b h k = absurd h
each_end R (x ∷ xs) [] a b h k = absurd h

pub each_length : {A B : Type 0} (R : A → B → Type 0) (xs : List A) (ys : List B) → Each R xs ys → length xs ≡ length ys
each_length R [] [] h = refl
each_length R (x ∷ xs) (y ∷ ys) h = ap suc (each_length R xs ys h.1)
each_length R [] (y ∷ ys) h = absurd h
each_length R (x ∷ xs) [] h = absurd h

-- ---- steps

module _ {L K : Parts} (r : Reading L K) where
  sooner_as : {A B : Type 0} (R : A → B → Type 0) (s t : ℕ) → t ≤ s → (o : Outcome L A) (o' : Outcome K B) → OutcomeAs r t R o o'
      → OutcomeAs r s R o o'
  sooner_as R s t le (Gives a e u) (Gives b d w) h = (h.0, h.1, h.2, omega (arith, le, h.3))
  sooner_as R s t le (Fails c n) (Fails d m) h = h
  sooner_as R s t le Undecided Undecided h = tt
  sooner_as R s t le (Gives a e u) (Fails d m) h = absurd h
  sooner_as R s t le (Gives a e u) Undecided h = absurd h
  sooner_as R s t le (Fails c n) (Gives b d w) h = absurd h
  sooner_as R s t le (Fails c n) Undecided h = absurd h
  sooner_as R s t le Undecided (Gives b d w) h = absurd h
  sooner_as R s t le Undecided (Fails d m) h = absurd h

  module _ {A B : Type 0} (b : ℕ) (R : A → B → Type 0) where
    spent_as : (p : Action L A) (q : Action K B) → ActsAs r b R p q → (e : Effects L) (d : Effects K) (s : ℕ) → s < suc b → EffectsAs r e d
        → OutcomeAs r s R (and_then (spend e s) (λ _. p)) (and_then (spend d s) (λ _. q))
    spent_as p q h e d zero lt k = tt
    spent_as p q h e d (suc s) lt k = sooner_as R (suc s) s (omega arith) (p e s) (q d s) (h.at e d s (omega (arith, lt)) k)

    -- a step is spent
    pub step_as : (p : Action L A) (q : Action K B) → ActsAs r b R p q → ActsAs r (suc b) R (step >> p) (step >> q)
    step_as p q h = record { at = λ e d s lt k. spent_as p q h e d s lt k }

    pub fewer : (c : ℕ) (p : Action L A) (q : Action K B) → b ≤ c → ActsAs r c R p q → ActsAs r b R p q
    fewer c p q le h = record { at = λ e d s lt k. h.at e d s (omega (arith, lt, le)) k }

  pub step_keeps : {A B : Type 0} (b : ℕ) (R : A → B → Type 0) (p : Action L A) (q : Action K B) → ActsAs r b R p q
      → ActsAs r b R (step >> p) (step >> q)
  step_keeps b R p q h = fewer b R (suc b) _ _ (omega arith) (step_as b R p q h)

-- ---- one after the other

module _ {L K : Parts} (r : Reading L K) (b' : ℕ) where
  module _ {A B C D : Type 0} (R : A → B → Type 0) (S : C → D → Type 0) (f : A → Action L C) (g : B → Action K D) (k : (a : A) (b : B) → R a b → ActsAs r b' S (f a) (g b)) where
    then_as : (s : ℕ) → s < b' → (o : Outcome L A) (o' : Outcome K B) → OutcomeAs r s R o o'
        → OutcomeAs r s S (and_then o f) (and_then o' g)
    then_as s lt (Gives a e t) (Gives b d u) h = subst (λ u. OutcomeAs r s S (f a e t) (g b d u)) h.2 (sooner_as r S s t h.3 (f a e t) (g b d t) ((k a b h.0).at e d t (omega (arith, lt, h.3)) h.1))
    then_as s lt (Fails c n) (Fails d m) h = h
    then_as s lt Undecided Undecided h = tt
    then_as s lt (Gives a e t) (Fails d m) h = absurd h
    then_as s lt (Gives a e t) Undecided h = absurd h
    then_as s lt (Fails c n) (Gives b d u) h = absurd h
    then_as s lt (Fails c n) Undecided h = absurd h
    then_as s lt Undecided (Gives b d u) h = absurd h
    then_as s lt Undecided (Fails d m) h = absurd h

    pub bind_as' : (p : Action L A) (q : Action K B) → ActsAs r b' R p q → ActsAs r b' S (p >>= f) (q >>= g)
    bind_as' p q h = record { at = λ e d s lt a. then_as s lt (p e s) (q d s) (h.at e d s lt a) }

  pub pure_as : {A B : Type 0} (R : A → B → Type 0) (a : A) (b : B) → R a b → ActsAs r b' R (pure a) (pure b)
  pure_as R a b h = record { at = λ e d s lt k. (h, k, refl, omega arith) }

  pub fail_as : {A B : Type 0} (R : A → B → Type 0) (c : ℕ) → ActsAs r {A = A} {B = B} b' R (fail c) (fail c)
  fail_as R c = record { at = λ e d s lt k. (refl, each_length (SentAs r) e.sent d.sent k.sent_as) }

  -- ---- effects

  pub create_as : (base : ℕ) (v : Value L) (w : Value K) → Alike r v w → ActsAs r b' (λ a b. a ≡ b) (create base v) (create base w)
  create_as base v w h = record { at = λ e d s lt k. (ap (λ n. base + n) (each_length (Alike r) e.created d.created k.created_as), record { created_as = each_end (Alike r) e.created d.created v w k.created_as h; sent_as = k.sent_as; next_as = k.next_as }, refl, omega arith) }

  pub send_as : (n : ℕ) (v : Value L) (w : Value K) → Alike r v w → ActsAs r b' (λ a b. Unit {0}) (send n v) (send n w)
  send_as n v w h = record { at = λ e d s lt k. (tt, record { created_as = k.created_as; sent_as = each_end (SentAs r) e.sent d.sent (n, v) (n, w) k.sent_as (refl, h); next_as = k.next_as }, refl, omega arith) }

  becoming_as : (o : Option (Value L)) (o' : Option (Value K)) (v : Value L) (w : Value K) → Both (Alike r) o o' → Alike r v w
      → ActsAs r b' (λ a b. Unit {0}) (becoming o v) (becoming o' w)
  becoming_as None None v w b h = record { at = λ e d s lt k. (tt, record { created_as = k.created_as; sent_as = k.sent_as; next_as = h }, refl, omega arith) }
  becoming_as (Some a) (Some c) v w b h = fail_as (λ a b. Unit {0}) second_become
  becoming_as None (Some c) v w b h = absurd b
  becoming_as (Some a) None v w b h = absurd b

  pub become_as : (v : Value L) (w : Value K) → Alike r v w → ActsAs r b' (λ a b. Unit {0}) (become v) (become w)
  become_as v w h = record { at = λ e d s lt k. (becoming_as e.next d.next v w k.next_as h).at e d s lt k }

  -- ---- comparison

  pub constant_as : (v : Value L) (w : Value K) → ConstantAs {L = L} {K = K} v w → Alike r v w
  constant_as (Plain a) (Plain b) h = subst (λ b. Alike r (Plain a) (Plain b)) h (plain_as a)
  constant_as (Pair a b) (Pair c d) h = pair_as (constant_as a c h.0) (constant_as b d h.1)
  constant_as _ _ h = absurd h

  heads_as : (b : Bool) (p : Action L Bool) (q : Action K Bool) → ActsAs r b' (λ a b. a ≡ b) p q
      → ActsAs r b' (λ a b. a ≡ b) (if b then p else pure false) (if b then q else pure false)
  heads_as true p q h = h
  heads_as false p q h = pure_as (λ a b. a ≡ b) false false refl

  pub same_as : {v x : Value L} {w y : Value K} → Alike r v w → Alike r x y → ActsAs r b' (λ a b. a ≡ b) (same v x) (same w y)
  unfolding same
  same_as (pair_as {a = a} {b = b} {c = c} {d = d} h k) (pair_as {a = p} {b = q} {c = x'} {d = y'} h' k') =
      step_keeps r b' _ _ _ (bind_as' _ _ _ _ (λ x y e. subst (λ y. ActsAs r b' (λ a b. a ≡ b) (if x then same b q else pure false) (if y then same d y' else pure false)) e (heads_as x (same b q) (same d y') (same_as k k'))) _ _ (same_as h h'))
  same_as (plain_as a) (plain_as b) = pure_as (λ a b. a ≡ b) (same_atom a b) (same_atom a b) refl
  same_as _ _ = pure_as (λ a b. a ≡ b) false false refl

  -- ---- the built-in functions

  on_pair_as : (f : Value L → Value L → Action L (Value L)) (g : Value K → Value K → Action K (Value K))
      → ((a b : Value L) (c d : Value K) → Alike r a c → Alike r b d → ActsAs r b' (Alike r) (f a b) (g c d)) → {v : Value L} {w : Value K}
      → Alike r v w → ActsAs r b' (Alike r) (on_pair f v) (on_pair g w)
  on_pair_as f g k (pair_as {a = a} {b = b} {c = c} {d = d} h h') = k a b c d h h'
  on_pair_as f g k _ = fail_as (Alike r) no_match

  on_numbers_as : (f : ℤ → ℤ → Atom) → {v x : Value L} {w y : Value K} → Alike r v w → Alike r x y
      → ActsAs r b' (Alike r) (on_numbers (λ a b. Plain (f a b)) v x) (on_numbers (λ a b. Plain (f a b)) w y)
  on_numbers_as f (plain_as (Number a)) (plain_as (Number b)) = pure_as (Alike r) _ _ (plain_as (f a b))
  on_numbers_as f _ _ = fail_as (Alike r) not_a_number

  on_truths_as : (f : Bool → Bool → Bool) → {v x : Value L} {w y : Value K} → Alike r v w → Alike r x y
      → ActsAs r b' (Alike r) (on_truths f v x) (on_truths f w y)
  on_truths_as f (plain_as (Truth a)) (plain_as (Truth b)) = pure_as (Alike r) _ _ (plain_as (Truth (f a b)))
  on_truths_as f _ _ = fail_as (Alike r) not_a_truth_value

  negation_as : {v : Value L} {w : Value K} → Alike r v w → ActsAs r b' (Alike r) (negation v) (negation w)
  negation_as (plain_as (Truth a)) = pure_as (Alike r) _ _ (plain_as (Truth (not a)))
  negation_as _ = fail_as (Alike r) not_a_truth_value

  truth_of : (a b : Bool) → a ≡ b → Alike r (Plain (Truth a)) (Plain (Truth b))
  truth_of a b e = subst (λ b. Alike r (Plain (Truth a)) (Plain (Truth b))) e (plain_as (Truth a))

  equality_as : {v x : Value L} {w y : Value K} → Alike r v w → Alike r x y → ActsAs r b' (Alike r) (equality v x) (equality w y)
  equality_as h k = bind_as' _ _ _ _ (λ a b e. pure_as (Alike r) _ _ (truth_of a b e)) _ _ (same_as h k)

  numbers_as : (f : ℤ → ℤ → Atom) {v : Value L} {w : Value K} → Alike r v w
      → ActsAs r b' (Alike r) (on_pair (on_numbers (λ a b. Plain (f a b))) v) (on_pair (on_numbers (λ a b. Plain (f a b))) w)
  numbers_as f h = on_pair_as _ _ (λ _ _ _ _ i j. on_numbers_as f i j) h

  truths_as : (f : Bool → Bool → Bool) {v : Value L} {w : Value K} → Alike r v w
      → ActsAs r b' (Alike r) (on_pair (on_truths f) v) (on_pair (on_truths f) w)
  truths_as f h = on_pair_as _ _ (λ _ _ _ _ i j. on_truths_as f i j) h

  pub built_in_as : (b : BuiltIn) {v : Value L} {w : Value K} → Alike r v w → ActsAs r b' (Alike r) (built_in b v) (built_in b w)
  unfolding built_in
  built_in_as Add h = numbers_as (λ a b. Number (wrap (a +ℤ b))) h
  built_in_as Sub h = numbers_as (λ a b. Number (wrap (a -ℤ b))) h
  built_in_as Mul h = numbers_as (λ a b. Number (wrap (a *ℤ b))) h
  built_in_as Compare h = numbers_as (λ a b. Number (comparison a b)) h
  built_in_as Less h = numbers_as (λ a b. Truth (int_lt a b)) h
  built_in_as LessEqual h = numbers_as (λ a b. Truth (not (int_lt b a))) h
  built_in_as Greater h = numbers_as (λ a b. Truth (int_lt b a)) h
  built_in_as GreaterEqual h = numbers_as (λ a b. Truth (not (int_lt a b))) h
  built_in_as Equal h = on_pair_as _ _ (λ _ _ _ _ i j. equality_as i j) h
  built_in_as And h = truths_as (λ a b. a && b) h
  built_in_as Or h = truths_as (λ a b. a || b) h
  built_in_as Not h = negation_as h
