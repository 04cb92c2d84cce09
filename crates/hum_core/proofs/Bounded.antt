-- Deliveries that are alike have the same bounds, and more steps have greater ones.
use Rattle.std.proofs.Common.{◌≡◌, refl, ap, sym, ◌∙◌, ℕ, ◌+◌, List, [], ◌∷◌, length, Option, Some, None, arith, slice_get}
use Rattle.std.specs.Prelude.{◌-◌, ◌↔◌}
use Rattle.std.specs.Option.{option_map}
use Rattle.std.proofs.Math.Path.{ap₂}
use Rattle.hum_meaning.specs.Value.{Parts, Value, Answers}
use Rattle.hum_meaning.specs.Action.{Effects, no_effects, Outcome, Gives}
use Rattle.hum_meaning.specs.Language.{Language}
use Rattle.hum_meaning.specs.Deliver.{Message, Configuration, Delivery, Committed, Failed, Open, responded, respond, delivered, deliver}
use Rattle.hum_meaning.specs.Laws.{IsClosed}
use Rattle.hum_meaning.proofs.Law.{Lawful}
use Rattle.hum_meaning.proofs.Deliveries.{deliver_stays}
use Rattle.hum_core.specs.Alike.{Each, Reading}
use Rattle.hum_core.specs.Configurations.{DeliveryAs, DeliverAlike}
use Rattle.hum_core.specs.Bound.{Cost, cost_of, sends_of, Event, EventAs, bound, HasBound, BoundsAgree, BoundsCount}

-- ---- deliveries that are alike

-- what is so of the first ones where it is of the second ones, each by each
each_same : {X Y Z : Type 0} (R : X → Y → Type 0) (P : X → Z → Type 0) (Q : Y → Z → Type 0)
    → ((x : X) (y : Y) (z : Z) → R x y → P x z ↔ Q y z) → (xs : List X) (ys : List Y) (zs : List Z) → Each R xs ys
    → Each P xs zs ↔ Each Q ys zs
each_same R P Q go [] [] [] h = (λ b. tt, λ b. tt)
each_same R P Q go (x ∷ xs) (y ∷ ys) (z ∷ zs) h =
    let one = go x y z h.0 in
    let others = each_same R P Q go xs ys zs h.1 in
    (λ b. (one.0 b.0, others.0 b.1), λ b. (one.1 b.0, others.1 b.1))
each_same R P Q go [] [] (z ∷ zs) h = (λ b. absurd b, λ b. absurd b)
each_same R P Q go (x ∷ xs) (y ∷ ys) [] h = (λ b. absurd b, λ b. absurd b)
each_same R P Q go [] (y ∷ ys) zs h = absurd h
each_same R P Q go (x ∷ xs) [] zs h = absurd h

module _ {L K : Parts} (r : Reading L K) (l : Language L) (k : Language K) (alike : DeliverAlike r l k) where
  sends_as : (c : Configuration L) (d : Configuration K) (x : Delivery L) (y : Delivery K) → c.next_number ≡ d.next_number → DeliveryAs r x y
      → sends_of c x ≡ sends_of d y
  sends_as c d (Committed c') (Committed d') e h = ap₂ (λ i j. Some (i - j)) h.next_number e
  sends_as c d (Failed code n c') (Failed code' n' d') e h = ap Some h.1
  sends_as c d Open Open e h = refl
  sends_as c d _ _ e h = absurd h

  same_bound : (e : Event L) (d : Event K) (s : ℕ) → EventAs r e d → bound l e s ≡ bound k d s
  same_bound e d s h = ap (option_map (cost_of s)) (sends_as e.0 d.0 _ _ h.0.next_number (alike e.0 d.0 e.1 d.1 s h.0 h.1))

  pub bounds_agree : BoundsAgree r l k
  bounds_agree = record {
    one = same_bound;
    each = each_same (EventAs r) (HasBound l) (HasBound k)
        (λ e d cost h. (λ b. (b.0, sym (same_bound e d b.0 h) ∙ b.1), λ b. (b.0, same_bound e d b.0 h ∙ b.1)));
  }

-- ---- one language

module _ {L : Parts} (language : Language L) (lawful : Lawful language) where
  -- a delivery that has a bound is decided
  closed_of : (c : Configuration L) (x : Delivery L) (s : ℕ) (cost : Cost) → option_map (cost_of s) (sends_of c x) ≡ Some cost → IsClosed x
  closed_of c (Committed d) s cost h = tt
  closed_of c (Failed code n d) s cost h = tt
  closed_of c Open s cost h = absurd (cc)

  -- with another number of steps it has the same events
  others : (o : Option ℕ) (s t sends : ℕ) → option_map (cost_of s) o ≡ Some (cost_of s sends)
      → option_map (cost_of t) o ≡ Some (cost_of t sends)
  others None s t sends h = absurd (cc)
  others (Some n) s t sends h = ap (option_map (λ x. cost_of t x.events)) h

  more_steps : (e : Event L) (s j sends : ℕ) → bound language e s ≡ Some (cost_of s sends)
      → bound language e (s + j) ≡ Some (cost_of (s + j) sends)
  more_steps e s j sends h =
      ap (λ x. option_map (cost_of (s + j)) (sends_of e.0 x)) (deliver_stays language lawful e.0 e.1 s j (closed_of e.0 _ s _ h))
      ∙ others (sends_of e.0 (deliver language e.0 e.1 s)) s (s + j) sends h

  sent_numbers : (c : Configuration L) (m : Message L) (o : Outcome L (Unit {0})) (effects : Effects L) (left : ℕ) → o ≡ Gives tt effects left
      → sends_of c (responded c m o) ≡ Some (length effects.sent)
  sent_numbers c m o effects left e =
      ap (λ o. sends_of c (responded c m o)) e ∙ ap Some (let same : c.next_number + length effects.sent - c.next_number ≡ length effects.sent = omega arith in same)

  each_message : (c : Configuration L) (m : Message L) (s : ℕ) (v : Value L) (effects : Effects L) (left : ℕ)
      → slice_get c.behaviours m.target ≡ Some (Answers v)
      → respond language m.target (length c.behaviours) s v m.value no_effects s ≡ Gives tt effects left
      → bound language (c, m) s ≡ Some (cost_of s (length effects.sent))
  unfolding deliver
  each_message c m s v effects left at gives =
      ap (λ o. option_map (cost_of s) (sends_of c (delivered language c m s o))) at
      ∙ ap (option_map (cost_of s)) (sent_numbers c m _ effects left gives)

  pub bounds_count : BoundsCount language
  bounds_count = record { more = more_steps; committed = each_message }
