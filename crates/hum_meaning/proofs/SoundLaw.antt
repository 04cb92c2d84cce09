-- The opening configuration is sound, and so is each one that a finished event makes of a sound one.
use Rattle.std.proofs.Common.{◌≡◌, refl, ap, sym, subst, ◌∙◌, ℕ, zero, suc, ◌+◌, ◌<◌, ◌≤◌, Bool, true, false, List, [], ◌∷◌, ◌++◌, length, map, length-append, Option, Some, None, arith, slice_get, slice_set}
use Rattle.std.specs.Prelude.{nat_eq, if◌then◌else◌}
use Rattle.std.specs.List.{AllByRecursion}
use Rattle.std.proofs.lemmas.List.{map-append, map-set, length-map, length-set}
use Rattle.std.proofs.lemmas.Option.{slice_get-get_or}
use Rattle.hum_meaning.specs.Value.{Parts, Value, Function, Behaviour, Device, Answers}
use Rattle.hum_meaning.specs.Action.{Effects, no_effects, Outcome, Gives, Fails, Undecided}
use Rattle.hum_meaning.specs.Language.{Language}
use Rattle.hum_meaning.specs.Named.{Trees, Lambda}
use Rattle.hum_meaning.specs.Look.{outermost}
use Rattle.hum_meaning.specs.Piece.{piece}
use Rattle.hum_meaning.specs.Deliver.{Message, Configuration, Delivery, Committed, Failed, Open, without, numbered_from, drop, replaced, commit, responded, printed, respond, delivered, deliver}
use Rattle.hum_meaning.specs.After.{opening_of, Ending, Commits, FailsWith, RunsOut, Entry, message_of, Leads, Enters, Follows}
use Rattle.hum_meaning.specs.Sound.{ValueWithin, MessageWithin, roll, Rising, Sound}
use Rattle.hum_meaning.proofs.Within.{Anything, each_more, each_append, value_more, SentWithin, OptionWithin, EffectsWithin, Ends, Keeps, bind_keeps}
use Rattle.hum_meaning.proofs.NamedWithin.{outermost_within}
use Rattle.hum_meaning.proofs.WithinLaw.{KeepsActors, level_keeps, apply_keeps, perform_keeps}

-- ---- messages

module _ {L : Parts} where
  message_more : (n m : ℕ) → n ≤ m → (x : Message L) → MessageWithin n x → MessageWithin m x
  message_more n m le x h = (omega (arith, le, h.0), value_more n m le x.value h.1)

  -- a message of a list, or none
  abbrev FoundWithin : ℕ → Option (Message L) → Type 0
  FoundWithin n None = Unit {0}
  FoundWithin n (Some x) = MessageWithin n x

  either : (n : ℕ) (x : Message L) (o : Option (Message L)) → MessageWithin n x → FoundWithin n o → (b : Bool)
      → FoundWithin n (if b then Some x else o)
  either n x o h k true = h
  either n x o h k false = k

  found_within : (n k : ℕ) (ms : List (Message L)) → AllByRecursion (MessageWithin n) ms → FoundWithin n (message_of k ms)
  found_within n k [] h = tt
  found_within n k (x ∷ ms) h = either n x (message_of k ms) h.0 (found_within n k ms h.1) (nat_eq x.number k)

  pub pending_within : (n k : ℕ) (ms : List (Message L)) (x : Message L) → AllByRecursion (MessageWithin n) ms → message_of k ms ≡ Some x
      → MessageWithin n x
  pending_within n k ms x h e = subst (FoundWithin n) e (found_within n k ms h)

  rest_or_all : (n : ℕ) (x : Message L) (ms : List (Message L)) → MessageWithin n x → AllByRecursion (MessageWithin n) ms → (b : Bool)
      → AllByRecursion (MessageWithin n) (if b then ms else x ∷ ms)
  rest_or_all n x ms h k true = k
  rest_or_all n x ms h k false = (h, k)

  without_within : (n k : ℕ) (ms : List (Message L)) → AllByRecursion (MessageWithin n) ms → AllByRecursion (MessageWithin n) (without k ms)
  without_within n k [] h = tt
  without_within n k (x ∷ ms) h = rest_or_all n x (without k ms) h.0 (without_within n k ms h.1) (nat_eq x.number k)

  numbered_within : (n k : ℕ) (sent : List (ℕ × Value L)) → AllByRecursion (SentWithin n) sent
      → AllByRecursion (MessageWithin n) (numbered_from k sent)
  numbered_within n k [] h = tt
  numbered_within n k (p ∷ more) h = (h.0, numbered_within n (suc k) more h.1)

  -- ---- numbers of messages

  rising_from : (from lower next : ℕ) (ms : List (Message L)) → lower ≤ from → Rising from next ms → Rising lower next ms
  rising_from from lower next [] le h = omega (arith, le, h)
  rising_from from lower next (x ∷ ms) le h = (omega (arith, le, h.0), h.1)

  rest_rises : (from next : ℕ) (x : Message L) (ms : List (Message L)) → from ≤ x.number → Rising (suc x.number) next ms → (b : Bool)
      → Rising from next (if b then ms else x ∷ ms)
  rest_rises from next x ms le h true = rising_from (suc x.number) from next ms (omega (arith, le)) h
  rest_rises from next x ms le h false = (le, h)

  without_rises : (k from next : ℕ) (ms : List (Message L)) → Rising from next ms → Rising from next (without k ms)
  without_rises k from next [] h = h
  without_rises k from next (x ∷ ms) h = rest_rises from next x (without k ms) h.0 (without_rises k (suc x.number) next ms h.1) (nat_eq x.number k)

  numbered_rises : (from : ℕ) (sent : List (ℕ × Value L)) → Rising from (from + length sent) (numbered_from from sent)
  numbered_rises from [] = omega arith
  numbered_rises from (p ∷ more) =
      let same : suc from + length more ≡ from + suc (length more) = omega arith in
      (omega arith, subst (λ k. Rising (suc from) k (numbered_from (suc from) more)) same (numbered_rises (suc from) more))

  both_rise : (from next : ℕ) (ms : List (Message L)) (sent : List (ℕ × Value L)) → Rising from next ms
      → Rising from (next + length sent) (ms ++ numbered_from next sent)
  both_rise from next [] sent h = rising_from next from (next + length sent) (numbered_from next sent) h (numbered_rises next sent)
  both_rise from next (x ∷ ms) sent h = (h.0, both_rise (suc x.number) next ms sent h.1)

-- ---- behaviours

module _ {L : Parts} where
  each_set : (P : Value L → Type 0) (us : List (Value L)) (k : ℕ) (v : Value L) → P v → AllByRecursion P us → AllByRecursion P (slice_set us k v)
  each_set P [] k v h i = tt
  each_set P (u ∷ us) zero v h i = (h, i.1)
  each_set P (u ∷ us) (suc k) v h i = (i.0, each_set P us k v h i.1)

  -- one of the behaviours
  abbrev BehaviourWithin : ℕ → Option (Behaviour L) → Type 0
  BehaviourWithin n (Some (Answers v)) = ValueWithin n v
  BehaviourWithin n _ = Unit {0}

  answers_within : (n : ℕ) (us : List (Value L)) (k : ℕ) → AllByRecursion (ValueWithin n) us → BehaviourWithin n (slice_get (map Answers us) k)
  answers_within n [] k h = tt
  answers_within n (u ∷ us) zero h = h.0
  answers_within n (u ∷ us) (suc k) h = answers_within n us k h.1

  behaviour_within : (n : ℕ) (first : Value L) (created : List (Value L)) (k : ℕ) → AllByRecursion (ValueWithin n) (first ∷ created)
      → BehaviourWithin n (slice_get (roll first created) k)
  behaviour_within n first created zero h = h.0
  behaviour_within n first created (suc zero) h = tt
  behaviour_within n first created (suc (suc zero)) h = tt
  behaviour_within n first created (suc (suc (suc k))) h = answers_within n created k h.1

  -- a first actor, the devices and created actors, as a sound configuration has them
  pub record Next (behaviours : List (Behaviour L)) (n : ℕ) : Type 0 where
    pub first : Value L
    pub created : List (Value L)
    pub actors : behaviours ≡ roll first created
    pub within : AllByRecursion (ValueWithin n) (first ∷ created)

  -- whether an actor answers by a value
  abbrev IsAnswering : Option (Behaviour L) → Type 0
  IsAnswering (Some (Answers v)) = Unit {0}
  IsAnswering _ = ⊥

  next_actors : (n : ℕ) (first : Value L) (created : List (Value L)) (target : ℕ) (o : Option (Value L)) → IsAnswering (slice_get (roll first created) target)
      → AllByRecursion (ValueWithin n) (first ∷ created) → OptionWithin n o → Next (replaced (roll first created) target o) n
  next_actors n first created target None a h k = record { first = first; created = created; actors = refl; within = h }
  next_actors n first created zero (Some v) a h k = record { first = v; created = created; actors = refl; within = (k, h.1) }
  next_actors n first created (suc zero) (Some v) a h k = absurd a
  next_actors n first created (suc (suc zero)) (Some v) a h k = absurd a
  next_actors n first created (suc (suc (suc i))) (Some v) a h k = record {
    first = first;
    created = slice_set created i v;
    actors = ap (λ bs. Answers first ∷ Device 0 ∷ Device 1 ∷ bs) (sym (map-set Answers created i v));
    within = (h.0, each_set (ValueWithin n) created i v k h.1);
  }

  more_actors : (n : ℕ) (bs : List (Behaviour L)) (more : List (Value L)) → Next bs n → AllByRecursion (ValueWithin n) more
      → Next (bs ++ map Answers more) n
  more_actors n bs more x h = record {
    first = x.first;
    created = x.created ++ more;
    actors = ap (λ bs. bs ++ map Answers more) x.actors ∙ ap (λ bs. Answers x.first ∷ Device 0 ∷ Device 1 ∷ bs) (sym (map-append Answers x.created more));
    within = (x.within.0, each_append (ValueWithin n) x.created more x.within.1 h);
  }

  replaced_length : (bs : List (Behaviour L)) (k : ℕ) (o : Option (Value L)) → length (replaced bs k o) ≡ length bs
  replaced_length bs k None = refl
  replaced_length bs k (Some v) = length-set bs k (Answers v)

-- ---- the beginning

pub opening_sound : (t : Trees) (file : Lambda t) → Sound (opening_of t file)
opening_sound t file = record {
  first = Function file (outermost t);
  created = [];
  actors = refl;
  behaviours = (outermost_within t, tt);
  messages = ((omega arith, tt), tt);
  numbers = (omega arith, omega arith);
}

-- ---- endings

module _ {L : Parts} where
  pub drop_sound : (c : Configuration L) (m : Message L) → Sound c → Sound (drop c m)
  drop_sound c m h = record {
    first = h.first;
    created = h.created;
    actors = h.actors;
    behaviours = h.behaviours;
    messages = without_within (length c.behaviours) m.number c.pending h.messages;
    numbers = without_rises m.number 0 c.next_number c.pending h.numbers;
  }

  next_of : (c : Configuration L) (m : Message L) (e : Effects L) → Sound c → IsAnswering (slice_get c.behaviours m.target)
      → EffectsWithin (length c.behaviours) e → Next (replaced c.behaviours m.target e.next ++ map Answers e.created) (length c.behaviours + length e.created)
  next_of c m e h a w =
      let n = length c.behaviours in
      let k = n + length e.created in
      let more : AllByRecursion (ValueWithin k) (h.first ∷ h.created) = each_more (ValueWithin n) (ValueWithin k) (value_more n k (omega arith)) (h.first ∷ h.created) h.behaviours in
      let answers : IsAnswering (slice_get (roll h.first h.created) m.target) = subst (λ bs. IsAnswering (slice_get bs m.target)) h.actors a in
      more_actors k _ e.created
      (subst (λ bs. Next (replaced bs m.target e.next) k) (sym h.actors) (next_actors k h.first h.created m.target e.next answers more w.next)) w.created

  pub commit_sound : (c : Configuration L) (m : Message L) (e : Effects L) → Sound c → IsAnswering (slice_get c.behaviours m.target)
      → EffectsWithin (length c.behaviours) e → Sound (commit c m e)
  commit_sound c m e h a w =
      let n = length c.behaviours in
      let k = n + length e.created in
      let after = next_of c m e h a w in
      let same : k ≡ length (replaced c.behaviours m.target e.next ++ map Answers e.created) =
      omega (arith, length-append (replaced c.behaviours m.target e.next) (map Answers e.created), replaced_length c.behaviours m.target e.next, length-map e.created Answers) in
      let old = each_more (MessageWithin n) (MessageWithin k) (message_more n k (omega arith)) (without m.number c.pending) (without_within n m.number c.pending h.messages) in
      let all = each_append (MessageWithin k) _ (numbered_from c.next_number e.sent) old (numbered_within k c.next_number e.sent w.sent) in
      record {
        first = after.first;
        created = after.created;
        actors = after.actors;
        behaviours = subst (λ i. AllByRecursion (ValueWithin i) (after.first ∷ after.created)) same after.within;
        messages = subst (λ i. AllByRecursion (MessageWithin i) (without m.number c.pending ++ numbered_from c.next_number e.sent)) same all;
        numbers = both_rise 0 c.next_number (without m.number c.pending) e.sent (without_rises m.number 0 c.next_number c.pending h.numbers);
      }

  -- what a delivery leaves, if it is decided
  abbrev LeavesSound : Delivery L → Type 0
  LeavesSound (Committed c) = Sound c
  LeavesSound (Failed code sends c) = Sound c
  LeavesSound Open = Unit {0}

  responded_sound : (c : Configuration L) (m : Message L) (from : ℕ) (o : Outcome L (Unit {0})) → Sound c
      → IsAnswering (slice_get c.behaviours m.target) → Ends (length c.behaviours) from Anything o → LeavesSound (responded c m o)
  responded_sound c m from (Gives u e left) h a w = commit_sound c m e h a w.1
  responded_sound c m from (Fails code sends) h a w = drop_sound c m h
  responded_sound c m from Undecided h a w = tt

  printed_sound : (c : Configuration L) (m : Message L) (o : Option (List ℕ)) → Sound c → LeavesSound (printed c m o)
  printed_sound c m (Some bytes) h =
      let d = drop_sound c m h in
      record { first = d.first; created = d.created; actors = d.actors; behaviours = d.behaviours; messages = d.messages; numbers = d.numbers }
  printed_sound c m None h = drop_sound c m h

-- ---- deliveries

module _ {L : Parts} (language : Language L) (lawful : KeepsActors language) where
  respond_keeps : (self base s : ℕ) → self < base → (b v : Value L) → ValueWithin base b → ValueWithin base v
      → Keeps base base Anything (respond language self base s b v)
  respond_keeps self base s lt b v i j =
      let h = level_keeps language lawful self base lt (suc s) in
      bind_keeps base (apply_keeps language lawful self base lt _ h base b v i j) (λ m le x k. perform_keeps base _ h m x k)

  nothing_within : (n : ℕ) → EffectsWithin {L = L} n no_effects
  nothing_within n = record { created = tt; sent = tt; next = tt }

  delivered_sound : (c : Configuration L) (m : Message L) (s : ℕ) (o : Option (Behaviour L)) → Sound c → MessageWithin (length c.behaviours) m
      → slice_get c.behaviours m.target ≡ o → LeavesSound (delivered language c m s o)
  delivered_sound c m s (Some (Device k)) h w e = printed_sound c m (piece k m.value) h
  delivered_sound c m s (Some (Answers v)) h w e =
      let n = length c.behaviours in
      let found : BehaviourWithin n (slice_get c.behaviours m.target) = subst (λ bs. BehaviourWithin n (slice_get bs m.target)) (sym h.actors) (behaviour_within n h.first h.created m.target h.behaviours) in
      let inside : ValueWithin n v = subst (BehaviourWithin n) e found in
      responded_sound c m _ _ h (subst IsAnswering (sym e) tt)
      ((respond_keeps m.target n s w.0 v m.value inside w.1).at no_effects s (omega arith) (nothing_within n))
  delivered_sound c m s None h w e = tt

  pub deliver_sound : (c : Configuration L) (m : Message L) (s : ℕ) → Sound c → MessageWithin (length c.behaviours) m
      → LeavesSound (deliver language c m s)
  unfolding deliver
  deliver_sound c m s h w = delivered_sound c m s (slice_get c.behaviours m.target) h w refl

  leads_sound : (c : Configuration L) (m : Message L) (e : Ending) (d : Configuration L) → Sound c → MessageWithin (length c.behaviours) m
      → Leads language c m e d → Sound d
  leads_sound c m Commits d h w k = subst LeavesSound k.1 (deliver_sound c m k.0 h w)
  leads_sound c m (FailsWith code) d h w k = subst LeavesSound k.2 (deliver_sound c m k.0 h w)
  leads_sound c m RunsOut d h w k = subst Sound (sym k) (drop_sound c m h)

  -- an event that is finished keeps a configuration sound
  pub enters_sound : (c d : Configuration L) (e : Entry) → Sound c → Enters language c e d → Sound d
  enters_sound c d e h k =
      leads_sound c k.message e.ending d h (pending_within (length c.behaviours) e.message c.pending k.message h.messages k.pending) k.leads

  pub follows_sound : (journal : List Entry) (c d : Configuration L) → Sound c → Follows language c journal d → Sound d
  follows_sound [] c d h k = subst Sound k h
  follows_sound (e ∷ more) c d h k = follows_sound more k.0 d (enters_sound c k.0 e h k.1) k.2

-- ---- targets

pub target_there : {L : Parts} (c : Configuration L) (n : ℕ) (m : Message L) → Sound c → message_of n c.pending ≡ Some m
    → (b : Behaviour L) × (slice_get c.behaviours m.target ≡ Some b)
target_there c n m h e =
    let there = pending_within (length c.behaviours) n c.pending m h.messages e in
    (_, slice_get-get_or c.behaviours m.target (Device 0) there.0)
