-- Where a reading is sound, journals lead to configurations that are alike.
use Rattle.std.proofs.Common.{◌≡◌, refl, sym, subst, ℕ, Bool, true, false, List, [], ◌∷◌, Option, Some, None}
use Rattle.std.specs.Prelude.{nat_eq, if◌then◌else◌}
use Rattle.hum_meaning.specs.Value.{Parts}
use Rattle.hum_meaning.specs.Language.{Language}
use Rattle.hum_meaning.specs.Deliver.{Message, Configuration, Delivery, Committed, Failed, Open, drop, deliver}
use Rattle.hum_meaning.specs.After.{Ending, Commits, FailsWith, RunsOut, Entry, message_of, Leads, Enters, Follows}
use Rattle.hum_core.specs.Alike.{Both, Each, Reading}
use Rattle.hum_core.specs.Configurations.{MessageAs, ConfigurationAs, DeliveryAs, DeliverAlike}
use Rattle.hum_core.specs.Journals.{JournalsAlike}
use Rattle.hum_core.proofs.Delivered.{without_as}

-- ---- what is there

-- where the one is there the other is, and stands in the relation
pub the_other : {A B : Type 0} (R : A → B → Type 0) (a : A) (o : Option B) → Both R (Some a) o → (b : B) × (o ≡ Some b) × R a b
the_other R a (Some b) h = (b, refl, h)
the_other R a None h = absurd h

pub the_one : {A B : Type 0} (R : A → B → Type 0) (b : B) (o : Option A) → Both R o (Some b) → (a : A) × (o ≡ Some a) × R a b
the_one R b (Some a) h = (a, refl, h)
the_one R b None h = absurd h

module _ {L K : Parts} (r : Reading L K) where
  -- ---- the message of a number

  found_or : (b : Bool) (m : Message L) (m' : Message K) (o : Option (Message L)) (o' : Option (Message K)) → MessageAs r m m'
      → Both (MessageAs r) o o' → Both (MessageAs r) (if b then Some m else o) (if b then Some m' else o')
  found_or true m m' o o' h k = h
  found_or false m m' o o' h k = k

  pub message_as : (n : ℕ) (ms : List (Message L)) (ms' : List (Message K)) → Each (MessageAs r) ms ms'
      → Both (MessageAs r) (message_of n ms) (message_of n ms')
  message_as n [] [] h = tt
  message_as n (m ∷ ms) (m' ∷ ms') h =
      subst (λ k. Both (MessageAs r) (message_of n (m ∷ ms)) (if nat_eq k n then Some m' else message_of n ms')) h.0.number
      (found_or (nat_eq m.number n) m m' (message_of n ms) (message_of n ms') h.0 (message_as n ms ms' h.1))
  message_as n [] (m' ∷ ms') h = absurd h
  message_as n (m ∷ ms) [] h = absurd h

  -- ---- the end of a delivery

  commits_forth : (c : Configuration L) (y : Delivery K) → DeliveryAs r (Committed c) y
      → (d : Configuration K) × (y ≡ Committed d) × ConfigurationAs r c d
  commits_forth c (Committed d) h = (d, refl, h)
  commits_forth c (Failed code sends d) h = absurd h
  commits_forth c Open h = absurd h

  commits_back : (d : Configuration K) (x : Delivery L) → DeliveryAs r x (Committed d)
      → (c : Configuration L) × (x ≡ Committed c) × ConfigurationAs r c d
  commits_back d (Committed c) h = (c, refl, h)
  commits_back d (Failed code sends c) h = absurd h
  commits_back d Open h = absurd h

  fails_forth : (code sends : ℕ) (c : Configuration L) (y : Delivery K) → DeliveryAs r (Failed code sends c) y
      → (d : Configuration K) × (y ≡ Failed code sends d) × ConfigurationAs r c d
  fails_forth code sends c (Committed d) h = absurd h
  fails_forth code sends c (Failed code' sends' d) h = (d, (λ i. Failed (sym h.0 i) (sym h.1 i) d), h.2)
  fails_forth code sends c Open h = absurd h

  fails_back : (code sends : ℕ) (d : Configuration K) (x : Delivery L) → DeliveryAs r x (Failed code sends d)
      → (c : Configuration L) × (x ≡ Failed code sends c) × ConfigurationAs r c d
  fails_back code sends d (Committed c) h = absurd h
  fails_back code sends d (Failed code' sends' c) h = (c, (λ i. Failed (h.0 i) (h.1 i) c), h.2)
  fails_back code sends d Open h = absurd h

  dropped_as : (c : Configuration L) (d : Configuration K) (m : Message L) (m' : Message K) → ConfigurationAs r c d → MessageAs r m m'
      → ConfigurationAs r (drop c m) (drop d m')
  dropped_as c d m m' h i = subst (λ n. ConfigurationAs r (drop c m) (drop d (record { number = n; target = m'.target; value = m'.value }))) i.number
      (record { behaviours = h.behaviours; pending = without_as r m.number c.pending d.pending h.pending; next_number = h.next_number; output = h.output })

  -- ---- one entry

  module _ (l : Language L) (k : Language K) (alike : DeliverAlike r l k) (c : Configuration L) (d : Configuration K) (h : ConfigurationAs r c d) where
    leads_forth : (m : Message L) (m' : Message K) → MessageAs r m m' → (e : Ending) (c' : Configuration L) → Leads l c m e c'
        → (d' : Configuration K) × Leads k d m' e d' × ConfigurationAs r c' d'
    leads_forth m m' i Commits c' x =
        let y = commits_forth c' (deliver k d m' x.0) (subst (λ z. DeliveryAs r z (deliver k d m' x.0)) x.1 (alike c d m m' x.0 h i)) in
        (y.0, (x.0, y.1), y.2)
    leads_forth m m' i (FailsWith code) c' x =
        let y = fails_forth code x.1 c' (deliver k d m' x.0) (subst (λ z. DeliveryAs r z (deliver k d m' x.0)) x.2 (alike c d m m' x.0 h i)) in
        (y.0, (x.0, x.1, y.1), y.2)
    leads_forth m m' i RunsOut c' x = (drop d m', refl, subst (λ z. ConfigurationAs r z (drop d m')) (sym x) (dropped_as c d m m' h i))

    leads_back : (m : Message L) (m' : Message K) → MessageAs r m m' → (e : Ending) (d' : Configuration K) → Leads k d m' e d'
        → (c' : Configuration L) × Leads l c m e c' × ConfigurationAs r c' d'
    leads_back m m' i Commits d' x =
        let y = commits_back d' (deliver l c m x.0) (subst (λ z. DeliveryAs r (deliver l c m x.0) z) x.1 (alike c d m m' x.0 h i)) in
        (y.0, (x.0, y.1), y.2)
    leads_back m m' i (FailsWith code) d' x =
        let y = fails_back code x.1 d' (deliver l c m x.0) (subst (λ z. DeliveryAs r (deliver l c m x.0) z) x.2 (alike c d m m' x.0 h i)) in
        (y.0, (x.0, x.1, y.1), y.2)
    leads_back m m' i RunsOut d' x = (drop c m, refl, subst (λ z. ConfigurationAs r (drop c m) z) (sym x) (dropped_as c d m m' h i))

    enters_forth : (e : Entry) (c' : Configuration L) → Enters l c e c' → (d' : Configuration K) × Enters k d e d' × ConfigurationAs r c' d'
    enters_forth e c' x =
        let other = the_other (MessageAs r) x.message _ (subst (λ o. Both (MessageAs r) o (message_of e.message d.pending)) x.pending (message_as e.message c.pending d.pending h.pending)) in
        let y = leads_forth x.message other.0 other.2 e.ending c' x.leads in
        (y.0, record { message = other.0; pending = other.1; leads = y.1 }, y.2)

    enters_back : (e : Entry) (d' : Configuration K) → Enters k d e d' → (c' : Configuration L) × Enters l c e c' × ConfigurationAs r c' d'
    enters_back e d' x =
        let one = the_one (MessageAs r) x.message _ (subst (λ o. Both (MessageAs r) (message_of e.message c.pending) o) x.pending (message_as e.message c.pending d.pending h.pending)) in
        let y = leads_back one.0 x.message one.2 e.ending d' x.leads in
        (y.0, record { message = one.0; pending = one.1; leads = y.1 }, y.2)

-- ---- journals

module _ {L K : Parts} (r : Reading L K) (l : Language L) (k : Language K) (alike : DeliverAlike r l k) where
  forth : (journal : List Entry) (c c' : Configuration L) (d : Configuration K) → ConfigurationAs r c d → Follows l c journal c'
      → (d' : Configuration K) × Follows k d journal d' × ConfigurationAs r c' d'
  forth [] c c' d h x = (d, refl, subst (λ z. ConfigurationAs r z d) x h)
  forth (e ∷ more) c c' d h x =
      let y = enters_forth r l k alike c d h e x.0 x.1 in
      let z = forth more x.0 c' y.0 y.2 x.2 in
      (z.0, (y.0, y.1, z.1), z.2)

  back : (journal : List Entry) (c : Configuration L) (d d' : Configuration K) → ConfigurationAs r c d → Follows k d journal d'
      → (c' : Configuration L) × Follows l c journal c' × ConfigurationAs r c' d'
  back [] c d d' h x = (c, refl, subst (λ z. ConfigurationAs r c z) x h)
  back (e ∷ more) c d d' h x =
      let y = enters_back r l k alike c d h e x.0 x.1 in
      let z = back more y.0 x.0 d' y.2 x.2 in
      (z.0, (y.0, y.1, z.1), z.2)

  pub journals_alike : JournalsAlike r l k
  journals_alike = record { forth = forth; back = back }
