-- What stands for one another by a reading means the same, with the same steps and bounds.
use Rattle.std.proofs.Common.{◌≡◌, refl, sym, subst, ◌∙◌, ℕ, ◌+◌, ◌≤◌, List, [], ◌∷◌, map, arith, slice_get}
use Rattle.std.specs.List.{sum}
use Rattle.std.proofs.lemmas.List.Sums.{sum_by-cons}
use Rattle.hum_meaning.specs.Value.{Parts}
use Rattle.hum_meaning.specs.Language.{Language}
use Rattle.hum_meaning.specs.Deliver.{Message, Configuration, Delivery, Committed, Failed, Open, deliver}
use Rattle.hum_meaning.specs.Laws.{IsClosed}
use Rattle.hum_core.specs.Alike.{Both, Each, Reading}
use Rattle.hum_core.specs.Bound.{Cost, Fit}
use Rattle.hum_core.specs.Configurations.{BehaviourAs, MessageAs, ConfigurationAs, DeliveryAs, DeliverAlike}
use Rattle.hum_core.specs.Likeness.{IsPending, SeenAlike, IsAtMost, EndsAs, KeepsDeliveries, KeepsJournals, KeepsBounds, MeansTheSame}
use Rattle.hum_core.specs.Programs.{by_reading}
use Rattle.hum_core.proofs.Acts.{each_length}
use Rattle.hum_core.proofs.Delivered.{each_at}
use Rattle.hum_core.proofs.Followed.{the_other, the_one, message_as, journals_alike}
use Rattle.hum_core.proofs.Bounded.{bounds_agree}

-- ---- costs

pub at_most : (cost : Cost) → IsAtMost cost cost
at_most cost = record { cycles = omega arith; memory = omega arith; events = omega arith }

pub at_most_then : (a b c : Cost) → IsAtMost a b → IsAtMost b c → IsAtMost a c
at_most_then a b c h k = record {
  cycles = omega (arith, h.cycles, k.cycles);
  memory = omega (arith, h.memory, k.memory);
  events = omega (arith, h.events, k.events);
}

pub each_at_most : (costs : List Cost) → Each IsAtMost costs costs
each_at_most [] = tt
each_at_most (x ∷ xs) = (at_most x, each_at_most xs)

pub each_at_most_then : (xs ys zs : List Cost) → Each IsAtMost xs ys → Each IsAtMost ys zs → Each IsAtMost xs zs
each_at_most_then [] [] [] h k = tt
each_at_most_then (x ∷ xs) (y ∷ ys) (z ∷ zs) h k = (at_most_then x y z h.0 k.0, each_at_most_then xs ys zs h.1 k.1)
each_at_most_then [] (y ∷ ys) zs h k = absurd h
each_at_most_then (x ∷ xs) [] zs h k = absurd h
each_at_most_then xs [] (z ∷ zs) h k = absurd k
each_at_most_then xs (y ∷ ys) [] h k = absurd k

module _ (kind : Cost → ℕ) (fewer : (a b : Cost) → IsAtMost a b → kind a ≤ kind b) where
  first_of_sum : (x : Cost) (xs : List Cost) → sum (map kind (x ∷ xs)) ≡ kind x + sum (map kind xs)
  first_of_sum x xs = sum_by-cons (λ (n : ℕ). n) (kind x) (map kind xs)

  less_in_all : (less costs : List Cost) → Each IsAtMost less costs → sum (map kind less) ≤ sum (map kind costs)
  less_in_all [] [] h = omega arith
  less_in_all (x ∷ xs) (y ∷ ys) h = omega (arith, fewer x y h.0, less_in_all xs ys h.1, first_of_sum x xs, first_of_sum y ys)
  less_in_all [] (y ∷ ys) h = absurd h
  less_in_all (x ∷ xs) [] h = absurd h

  -- what fits an amount still does where no cost is more
  pub fits_less : (less costs : List Cost) → Each IsAtMost less costs → (amount : ℕ) → Fit kind costs amount → Fit kind less amount
  fits_less less costs h amount fit = omega (arith, less_in_all less costs h, fit)

module _ {L K : Parts} (r : Reading L K) where
  -- ---- what is seen

  pending_forth : (c : Configuration L) (d : Configuration K) → ConfigurationAs r c d → (number target : ℕ) → IsPending c number target
      → IsPending d number target
  pending_forth c d h number target p =
      let there = subst (λ o. Both (MessageAs r) o (slice_get d.pending p.1)) p.2 (each_at (MessageAs r) c.pending d.pending p.1 h.pending) in
      let q = the_other (MessageAs r) p.0 (slice_get d.pending p.1) there in
      (q.0, p.1, q.1, sym q.2.number ∙ p.3, sym q.2.target ∙ p.4)

  pending_back : (c : Configuration L) (d : Configuration K) → ConfigurationAs r c d → (number target : ℕ) → IsPending d number target
      → IsPending c number target
  pending_back c d h number target p =
      let there = subst (λ o. Both (MessageAs r) (slice_get c.pending p.1) o) p.2 (each_at (MessageAs r) c.pending d.pending p.1 h.pending) in
      let q = the_one (MessageAs r) p.0 (slice_get c.pending p.1) there in
      (q.0, p.1, q.1, q.2.number ∙ p.3, q.2.target ∙ p.4)

  none_forth : (ms : List (Message L)) (ns : List (Message K)) → Each (MessageAs r) ms ns → ms ≡ [] → ns ≡ []
  none_forth ms [] h e = refl
  none_forth [] (n ∷ ns) h e = absurd h
  none_forth (m ∷ ms) (n ∷ ns) h e = cc

  none_back : (ms : List (Message L)) (ns : List (Message K)) → Each (MessageAs r) ms ns → ns ≡ [] → ms ≡ []
  none_back [] ns h e = refl
  none_back (m ∷ ms) [] h e = absurd h
  none_back (m ∷ ms) (n ∷ ns) h e = cc

  seen_alike : (c : Configuration L) (d : Configuration K) → ConfigurationAs r c d → SeenAlike c d
  seen_alike c d h = record {
    output = h.output;
    next_number = h.next_number;
    actors = each_length (BehaviourAs r) c.behaviours d.behaviours h.behaviours;
    pending = λ number target. (pending_forth c d h number target, pending_back c d h number target);
    at_rest = (none_forth c.pending d.pending h.pending, none_back c.pending d.pending h.pending);
  }

  -- ---- the ends of deliveries

  ends_forth : (x : Delivery L) (y : Delivery K) → IsClosed x → DeliveryAs r x y → EndsAs (by_reading r) x y
  ends_forth (Committed c) (Committed d) o h = h
  ends_forth (Failed code n c) (Failed code' n' d) o h = h
  ends_forth Open y o h = absurd o
  ends_forth _ _ o h = absurd h

  ends_back : (x : Delivery L) (y : Delivery K) → IsClosed y → DeliveryAs r x y → EndsAs (by_reading r) x y
  ends_back (Committed c) (Committed d) o h = h
  ends_back (Failed code n c) (Failed code' n' d) o h = h
  ends_back x Open o h = absurd o
  ends_back _ _ o h = absurd h

  module _ (l : Language L) (k : Language K) (alike : DeliverAlike r l k) where
    keeps_deliveries : KeepsDeliveries (by_reading r) l k
    keeps_deliveries = record {
      forth = λ e d s h o. (s, omega arith, ends_forth (deliver l e.0 e.1 s) (deliver k d.0 d.1 s) o (alike e.0 d.0 e.1 d.1 s h.0 h.1));
      back = λ e d t h o. (t, ends_back (deliver l e.0 e.1 t) (deliver k d.0 d.1 t) o (alike e.0 d.0 e.1 d.1 t h.0 h.1));
    }

    keeps_journals : KeepsJournals (by_reading r) l k
    keeps_journals = let all = journals_alike r l k alike in record { forth = all.forth; back = all.back }

    keeps_bounds : KeepsBounds (by_reading r) l k
    keeps_bounds = let same = bounds_agree r l k alike in record {
      forth = λ e d s cost h b. (s, cost, omega arith, at_most cost, sym (same.one e d s h) ∙ b);
      back = λ e d t cost h b. (t, cost, same.one e d t h ∙ b);
      each_forth = λ es ds costs h b. (costs, (same.each es ds costs h).0 b, each_at_most costs);
      each_back = λ es ds costs h b. (costs, (same.each es ds costs h).1 b);
    }

    pub means_by : MeansTheSame (by_reading r) l k
    means_by = record {
      seen = seen_alike;
      messages = λ c d n h. message_as r n c.pending d.pending h.pending;
      numbers = λ m n h. h.number;
      targets = λ m n h. h.target;
      deliveries = keeps_deliveries;
      journals = keeps_journals;
      bounds = keeps_bounds;
    }
