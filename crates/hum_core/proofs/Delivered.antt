-- Where a reading is sound, deliveries are alike.
use Rattle.std.proofs.Common.{◌≡◌, refl, ap, subst, ◌∙◌, ℕ, zero, suc, ◌+◌, Bool, true, false, List, [], ◌∷◌, ◌++◌, length, map, Option, Some, None, arith, slice_get}
use Rattle.std.specs.Prelude.{slice_set, nat_eq, if◌then◌else◌}
use Rattle.hum_meaning.specs.Value.{Parts, Value, Behaviour, Device, Answers}
use Rattle.hum_meaning.specs.Action.{Effects, no_effects, Outcome, Gives, Fails, Undecided}
use Rattle.hum_meaning.specs.Language.{Language}
use Rattle.hum_meaning.specs.Meaning.{level}
use Rattle.hum_meaning.specs.Piece.{piece}
use Rattle.hum_meaning.specs.Deliver.{Message, Configuration, without, numbered_from, drop, replaced, commit, responded, printed, respond, delivered, deliver}
use Rattle.hum_core.specs.Alike.{Both, Each, Reading, Alike, SentAs, EffectsAs, OutcomeAs}
use Rattle.hum_core.specs.Configurations.{BehaviourAs, MessageAs, ConfigurationAs, DeliveryAs, DeliverAlike}
use Rattle.hum_core.proofs.Following.{ActsAs, Follows, Sound}
use Rattle.hum_core.proofs.Acts.{each_length, bind_as'}
use Rattle.hum_core.proofs.Simulates.{apply_as, perform_as, level_follows}
use Rattle.hum_core.proofs.Texts.{piece_as}

-- ---- lists, part by part

each_append : {A B : Type 0} (R : A → B → Type 0) (xs us : List A) (ys vs : List B) → Each R xs ys → Each R us vs
    → Each R (xs ++ us) (ys ++ vs)
each_append R [] us [] vs h k = k
each_append R (x ∷ xs) us (y ∷ ys) vs h k = (h.0, each_append R xs us ys vs h.1 k)
each_append R [] us (y ∷ ys) vs h k = absurd h
each_append R (x ∷ xs) us [] vs h k = absurd h

pub each_at : {A B : Type 0} (R : A → B → Type 0) (xs : List A) (ys : List B) (n : ℕ) → Each R xs ys → Both R (slice_get xs n) (slice_get ys n)
each_at R [] [] n h = tt
each_at R (x ∷ xs) (y ∷ ys) zero h = h.0
each_at R (x ∷ xs) (y ∷ ys) (suc n) h = each_at R xs ys n h.1
each_at R [] (y ∷ ys) n h = absurd h
each_at R (x ∷ xs) [] n h = absurd h

each_set : {A B : Type 0} (R : A → B → Type 0) (xs : List A) (ys : List B) (n : ℕ) (x : A) (y : B) → Each R xs ys → R x y
    → Each R (slice_set xs n x) (slice_set ys n y)
each_set R [] [] n x y h k = tt
each_set R (a ∷ xs) (b ∷ ys) zero x y h k = (k, h.1)
each_set R (a ∷ xs) (b ∷ ys) (suc n) x y h k = (h.0, each_set R xs ys n x y h.1 k)
each_set R [] (b ∷ ys) n x y h k = absurd h
each_set R (a ∷ xs) [] n x y h k = absurd h

module _ {L K : Parts} (r : Reading L K) where
  -- ---- messages and behaviours

  kept_or : (b : Bool) (m : Message L) (m' : Message K) (ms : List (Message L)) (ms' : List (Message K)) → MessageAs r m m'
      → Each (MessageAs r) ms ms' → Each (MessageAs r) (if b then ms else m ∷ ms) (if b then ms' else m' ∷ ms')
  kept_or true m m' ms ms' h k = k
  kept_or false m m' ms ms' h k = (h, k)

  pub without_as : (n : ℕ) (ms : List (Message L)) (ms' : List (Message K)) → Each (MessageAs r) ms ms'
      → Each (MessageAs r) (without n ms) (without n ms')
  without_as n [] [] h = tt
  without_as n (m ∷ ms) (m' ∷ ms') h =
      subst (λ k. Each (MessageAs r) (without n (m ∷ ms)) (if nat_eq k n then without n ms' else m' ∷ without n ms')) h.0.number
      (kept_or (nat_eq m.number n) m m' (without n ms) (without n ms') h.0 (without_as n ms ms' h.1))
  without_as n [] (m' ∷ ms') h = absurd h
  without_as n (m ∷ ms) [] h = absurd h

  numbered_as : (n : ℕ) (xs : List (ℕ × Value L)) (ys : List (ℕ × Value K)) → Each (SentAs r) xs ys
      → Each (MessageAs r) (numbered_from n xs) (numbered_from n ys)
  numbered_as n [] [] h = tt
  numbered_as n (x ∷ xs) (y ∷ ys) h = (record { number = refl; target = h.0.0; value = h.0.1 }, numbered_as (suc n) xs ys h.1)
  numbered_as n [] (y ∷ ys) h = absurd h
  numbered_as n (x ∷ xs) [] h = absurd h

  answers_as : (vs : List (Value L)) (ws : List (Value K)) → Each (Alike r) vs ws → Each (BehaviourAs r) (map Answers vs) (map Answers ws)
  answers_as [] [] h = tt
  answers_as (v ∷ vs) (w ∷ ws) h = (h.0, answers_as vs ws h.1)
  answers_as [] (w ∷ ws) h = absurd h
  answers_as (v ∷ vs) [] h = absurd h

  replaced_as : (bs : List (Behaviour L)) (cs : List (Behaviour K)) (n : ℕ) (o : Option (Value L)) (o' : Option (Value K))
      → Each (BehaviourAs r) bs cs → Both (Alike r) o o' → Each (BehaviourAs r) (replaced bs n o) (replaced cs n o')
  replaced_as bs cs n None None h k = h
  replaced_as bs cs n (Some v) (Some w) h k = each_set (BehaviourAs r) bs cs n (Answers v) (Answers w) h k
  replaced_as bs cs n None (Some w) h k = absurd k
  replaced_as bs cs n (Some v) None h k = absurd k

  -- ---- one message, of one number and target

  module _ (c : Configuration L) (d : Configuration K) (h : ConfigurationAs r c d) (number target : ℕ) (v : Value L) (w : Value K) (a : Alike r v w) where
    abbrev m : Message L
    m = record { number = number; target = target; value = v }

    abbrev m' : Message K
    m' = record { number = number; target = target; value = w }

    drop_as : ConfigurationAs r (drop c m) (drop d m')
    drop_as = record { behaviours = h.behaviours; pending = without_as number c.pending d.pending h.pending; next_number = h.next_number; output = h.output }

    commit_as : (e : Effects L) (f : Effects K) → EffectsAs r e f → ConfigurationAs r (commit c m e) (commit d m' f)
    commit_as e f k = record {
      behaviours = each_append (BehaviourAs r) _ _ _ _ (replaced_as c.behaviours d.behaviours target e.next f.next h.behaviours k.next_as) (answers_as e.created f.created k.created_as);
      pending = each_append (MessageAs r) _ _ _ _ (without_as number c.pending d.pending h.pending)
          (subst (λ n. Each (MessageAs r) (numbered_from c.next_number e.sent) (numbered_from n f.sent)) h.next_number (numbered_as c.next_number e.sent f.sent k.sent_as));
      next_number = ap (λ n. n + length e.sent) h.next_number ∙ ap (λ n. d.next_number + n) (each_length (SentAs r) e.sent f.sent k.sent_as);
      output = h.output;
    }

    responded_as : (s : ℕ) (o : Outcome L (Unit {0})) (o' : Outcome K (Unit {0})) → OutcomeAs r s (λ x y. Unit {0}) o o'
        → DeliveryAs r (responded c m o) (responded d m' o')
    responded_as s (Gives u e t) (Gives u' f t') k = commit_as e f k.1
    responded_as s (Fails code n) (Fails code' n') k = (k.0, k.1, drop_as)
    responded_as s Undecided Undecided k = tt
    responded_as s (Gives u e t) (Fails code' n') k = absurd k
    responded_as s (Gives u e t) Undecided k = absurd k
    responded_as s (Fails code n) (Gives u' f t') k = absurd k
    responded_as s (Fails code n) Undecided k = absurd k
    responded_as s Undecided (Gives u' f t') k = absurd k
    responded_as s Undecided (Fails code' n') k = absurd k

    printed_as : (o o' : Option (List ℕ)) → o ≡ o' → DeliveryAs r (printed c m o) (printed d m' o')
    printed_as o o' e = subst (λ o'. DeliveryAs r (printed c m o) (printed d m' o')) e (printed_same o)
      where
        printed_same : (o : Option (List ℕ)) → DeliveryAs r (printed c m o) (printed d m' o)
        printed_same (Some bytes) = record { behaviours = drop_as.behaviours; pending = drop_as.pending; next_number = h.next_number; output = ap (λ x. x ++ bytes) h.output }
        printed_same None = (refl, refl, drop_as)

    module _ (l : Language L) (k : Language K) (sound : Sound r l k) where
      respond_as : (base s : ℕ) (b : Value L) (b' : Value K) → Alike r b b'
          → ActsAs r (suc s) (λ x y. Unit {0}) (respond l target base s b v) (respond k target base s b' w)
      respond_as base s b b' i =
          let f : Follows r (suc s) (level l target base (suc s)) (level k target base (suc s)) = level_follows r l k sound target base (suc s) (suc s) (suc s) (omega arith) (omega arith) in
          bind_as' r (suc s) _ _ _ _ (λ x y j. perform_as r (suc s) _ _ f j) _ _ (apply_as r l k sound target base (suc s) _ _ f i a)

      nothing_as : EffectsAs r no_effects no_effects
      nothing_as = record { created_as = tt; sent_as = tt; next_as = tt }

      delivered_as : (s : ℕ) (o : Option (Behaviour L)) (o' : Option (Behaviour K)) → Both (BehaviourAs r) o o'
          → DeliveryAs r (delivered l c m s o) (delivered k d m' s o')
      delivered_as s (Some (Device n)) (Some (Device n')) e = printed_as _ _ (piece_as r n a ∙ ap (λ n. piece n w) e)
      delivered_as s (Some (Answers b)) (Some (Answers b')) i =
          responded_as s _ _ (subst (λ n. OutcomeAs r s (λ x y. Unit {0}) (respond l target (length c.behaviours) s b v no_effects s) (respond k target n s b' w no_effects s))
          (each_length (BehaviourAs r) c.behaviours d.behaviours h.behaviours) ((respond_as (length c.behaviours) s b b' i).at no_effects no_effects s (omega arith) nothing_as))
      delivered_as s None None i = tt
      delivered_as s (Some (Device n)) (Some (Answers b')) i = absurd i
      delivered_as s (Some (Answers b)) (Some (Device n')) i = absurd i
      delivered_as s None (Some b') i = absurd i
      delivered_as s (Some b) None i = absurd i

      same_message : (s : ℕ) → DeliveryAs r (deliver l c m s) (deliver k d m' s)
      unfolding deliver
      same_message s = delivered_as s _ _ (each_at (BehaviourAs r) c.behaviours d.behaviours target h.behaviours)

pub deliver_alike : {L K : Parts} (r : Reading L K) (l : Language L) (k : Language K) → Sound r l k → DeliverAlike r l k
deliver_alike r l k sound c d m m' s h i =
    subst (λ n. DeliveryAs r (deliver l c m s) (deliver k d (record { number = n; target = m'.target; value = m'.value }) s)) i.number
    (subst (λ t. DeliveryAs r (deliver l c m s) (deliver k d (record { number = m.number; target = t; value = m'.value }) s)) i.target
    (same_message r c d h m.number m.target m.value m'.value i.value l k sound s))
