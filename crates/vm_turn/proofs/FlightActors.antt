-- Every turn keeps that the actors of events in flight are busy with them, that what they created is not committed, and that what they sent
-- stands in the store.
use Rattle.std.proofs.Common.{◌≡◌, ◌⊎◌, inl, inr, ℕ, zero, suc, ◌%◌, Bool, true, false, List, [], ◌∷◌, ◌++◌, length, Option, Some, None, refl, sym, ap, subst, ◌∙◌, arith, if◌then◌else◌, append-nil, nat_lt}
use Rattle.std.specs.Prelude.{slice_get, slice_set, remove, pos, ◌&&◌, not}
use Rattle.std.specs.List.{sum_by}
use Rattle.std.proofs.lemmas.List.{map-append}
use Rattle.std.proofs.lemmas.List.Sums.{sum_by_push}
use Rattle.cap_words.specs.Words.{W, Fix, Cap, same_word, undef}
use Rattle.cap_words.specs.Seen.{Seen, Slot, ActorSlot, UnbornSlot, EventSlot, slot_seen}
use Rattle.cap_words.specs.Frame.{Among}
use Rattle.cap_words.proofs.Places.{get-seam}
use Rattle.cap_words.proofs.Same.{word_same}
use Rattle.quad_memory.specs.Image.{RomImage}
use Rattle.instr_table.specs.declared.charge.Quota.{Quota}
use Rattle.instr_table.specs.Code.{fetched}
use Rattle.instr_table.specs.Lists.{next_quad, item}
use Rattle.instr_table.specs.Event.{Sent, Made, Effects, no_effects, Effect, Nothing, Sends, Creates, Assigns, Becomes, Sponsors, Grants, Reclaims, Starts, Stops, with_effect, reassigned}
use Rattle.instr_table.specs.Sheet.{Account, spend, stop, prepared, runs}
use Rattle.instr_table.specs.Outcome.{Going}
use Rattle.instr_table.specs.Lane.{Item, Lane, begun, values, lane_row, gone, after_going}
use Rattle.instr_table.specs.Reach.{Every}
use Rattle.instr_table.specs.Making.{MakesNamed, MadeWith}
use Rattle.instr_table.proofs.GotWords.{every-append}
use Rattle.instr_table.proofs.Makings.{row_at-makes}
use Rattle.vm_sponsor.specs.declared.amounts.Amounts.{Amounts}
use Rattle.vm_effects.specs.Gathered.{made_words, sent_words}
use Rattle.vm_turn.specs.declared.journal.Outcome.{Outcome as End}
use Rattle.vm_turn.specs.declared.journal.Outcome.TheVariants.{Committed, Failed, RanOut}
use Rattle.vm_turn.specs.State.{Message, State}
use Rattle.vm_turn.specs.Actors.{sent_at, is_idle, behaviour_in, behaviour_at, at_actor, with_content, busy, resting, settled}
use Rattle.vm_turn.specs.Turn.{is_in_flight, first_to_go, dispatchable, signal_number, own_of, begin, finish, go_on, released, run_out, turn}
use Rattle.vm_turn.specs.Boot.{booted}
use Rattle.vm_turn.specs.Run.{after, run}
use Rattle.vm_turn.specs.Sound.{Sound, times, sent_by, created_by, IsSentIn, StandsIn, FlightSound}
use Rattle.vm_turn.proofs.Sums.{some_is, sum-removed, sum-set, sum-at, how_often}
use Rattle.vm_turn.proofs.Numbers.{rest-other}
use Rattle.vm_turn.proofs.Slots.{length-going, alike-busy, alike-settled}
use Rattle.vm_turn.proofs.Events.{IsNext, Placed, placed-same, placed-named, times-among}
use Rattle.vm_turn.proofs.Sponsors.{among-of}
use Rattle.vm_turn.proofs.Actors.{actor-other, actor-same, IsSeen, idle-other, content-other, content-apart, going-slots, going-seen, idle-there}
use Rattle.vm_turn.proofs.Bound.{turn-sound}
use Rattle.vm_turn.proofs.RunsSound.{boot-sound}
use Rattle.vm_turn.proofs.TurnCases.{EachKind, turn-by}
use Rattle.vm_turn.proofs.Taken.{every-get}
use Rattle.vm_turn.proofs.Places.{other-at, signal-not_sent, flight-numbers}
use Rattle.vm_turn.proofs.Rights.{at-removed, at-set, released-alike}

-- ---- lists

pub every-by : {A : Type 0} (P : A → Type 0) (xs : List A) → ((i : ℕ) (x : A) → slice_get xs i ≡ Some x → P x) → Every P xs
every-by P [] f = tt
every-by P (x ∷ xs) f = (f zero x refl, every-by P xs (λ i y h. f (suc i) y h))

every-sent : (P Q : Sent → Type 0) (ms : List Sent) → ((m : Sent) → Among m.event (sent_words ms) → P m → Q m) → Every P ms → Every Q ms
every-sent P Q [] f e = tt
every-sent P Q (m ∷ ms) f e = (f m (inl refl) e.0, every-sent P Q ms (λ k i p. f k (inr i) p) e.1)

-- ---- what an effect creates

abbrev creates : Effect → List W
creates Nothing = []
creates (Sends m) = []
creates (Creates m) = m.actor ∷ []
creates (Assigns m) = []
creates (Becomes b) = []
creates (Sponsors w) = []
creates (Grants w kind n) = []
creates (Reclaims w) = []
creates (Starts w signal) = []
creates (Stops w) = []

reassigned-same : (new : Made) (ms : List Made) → made_words (reassigned new ms) ≡ made_words ms
reassigned-same new [] = refl
reassigned-same new (m ∷ ms) = by (same_word m.actor new.actor) refl (reassigned-same new ms)
  where
    by : (b : Bool) → same_word m.actor new.actor ≡ b → made_words (reassigned new ms) ≡ made_words ms → made_words (if b then new ∷ ms else m ∷ reassigned new ms) ≡ m.actor ∷ made_words ms
    by true e h = ap (λ (w : W). w ∷ made_words ms) (sym (word_same m.actor new.actor e))
    by false e h = ap (λ (ws : List W). m.actor ∷ ws) h

created-more : (f : Effects) (x : Effect) → made_words (with_effect f x).created ≡ made_words f.created ++ creates x
created-more f Nothing = sym (append-nil (made_words f.created))
created-more f (Sends m) = sym (append-nil (made_words f.created))
created-more f (Creates m) = map-append (λ (x : Made). x.actor) f.created (m ∷ [])
created-more f (Assigns m) = reassigned-same m f.created ∙ sym (append-nil (made_words f.created))
created-more f (Becomes b) = sym (append-nil (made_words f.created))
created-more f (Sponsors w) = sym (append-nil (made_words f.created))
created-more f (Grants w kind n) = sym (append-nil (made_words f.created))
created-more f (Reclaims w) = sym (append-nil (made_words f.created))
created-more f (Starts w signal) = sym (append-nil (made_words f.created))
created-more f (Stops w) = sym (append-nil (made_words f.created))

-- it is the quad that is taken next, and not committed

creates-next : (payer controller : W) (s : Seen) (made : List Slot) (x : Effect) → MadeWith payer controller s made x → (creates x ≡ []) ⊎ ((creates x ≡ Cap (next_quad s) ∷ []) × (made ≡ UnbornSlot ∷ []))
creates-next payer controller s made Nothing h = inl refl
creates-next payer controller s made (Sends m) h = inl refl
creates-next payer controller s made (Creates m) h = inr (ap (λ (w : W). w ∷ []) h.0, h.1)
creates-next payer controller s made (Assigns m) h = inl refl
creates-next payer controller s made (Becomes b) h = inl refl
creates-next payer controller s made (Sponsors w) h = inl refl
creates-next payer controller s made (Grants w kind n) h = inl refl
creates-next payer controller s made (Reclaims w) h = inl refl
creates-next payer controller s made (Starts w signal) h = inl refl
creates-next payer controller s made (Stops w) h = inl refl

-- the first of the quads that an instruction makes
first-made : (s : Seen) (is : List Item) (g : Going) (x : Slot) → g.made ≡ x ∷ [] → slot_seen (after_going s is g).0 (Cap (next_quad s)) ≡ Some x
first-made s is g x m =
    let q = going-slots s is g in
    ap (λ (xs : List Slot). slice_get xs (next_quad s)) (q.1 ∙ ap (λ (xs : List Slot). s.slots ++ (xs ++ q.0)) m) ∙ get-seam s.slots q.0 x

-- a message that is sent stands in the store
sent-more : (payer controller : W) (s : Seen) (is : List Item) (g : Going) (f : Effects) → MadeWith payer controller s g.made g.effect → Every (IsSentIn (after_going s is g).0) f.sent → Every (IsSentIn (after_going s is g).0) (with_effect f g.effect).sent
sent-more payer controller s is g f made e = by g.effect made (λ x m. first-made s is g x m)
  where
    by : (x : Effect) → MadeWith payer controller s g.made x → ((y : Slot) → g.made ≡ y ∷ [] → slot_seen (after_going s is g).0 (Cap (next_quad s)) ≡ Some y) → Every (IsSentIn (after_going s is g).0) (with_effect f x).sent
    by Nothing m n = e
    by (Sends k) m n = every-append (IsSentIn (after_going s is g).0) f.sent (k ∷ []) e (ap (λ (w : W). slot_seen (after_going s is g).0 w) m.0 ∙ n (EventSlot k.sponsor k.target k.content) m.1, tt)
    by (Creates k) m n = e
    by (Assigns k) m n = e
    by (Becomes b) m n = e
    by (Sponsors w) m n = e
    by (Grants w kind k) m n = e
    by (Reclaims w) m n = e
    by (Starts w signal) m n = e
    by (Stops w) m n = e

-- ---- the message that is dispatched

first-idle : (st : Seen) (sheet : List Account) (flight : List Lane) (ms : List Message) (m : Message) → first_to_go st sheet flight ms ≡ Some m → is_idle st (sent_at st m.event).target ≡ true
first-idle st sheet flight [] m h = cc
first-idle st sheet flight (k ∷ ms) m h = by (is_in_flight k.number flight) (is_idle st (sent_at st k.event).target) refl (runs sheet (sent_at st k.event).sponsor) (λ g. first-idle st sheet flight ms m g) h
  where
    by : (a b : Bool) → is_idle st (sent_at st k.event).target ≡ b → (c : Bool) → (first_to_go st sheet flight ms ≡ Some m → is_idle st (sent_at st m.event).target ≡ true) → (if (not a && b && c) then Some k else first_to_go st sheet flight ms) ≡ Some m → is_idle st (sent_at st m.event).target ≡ true
    by true b e c r g = r g
    by false false e c r g = r g
    by false true e false r g = r g
    by false true e true r g = subst (λ (x : Message). is_idle st (sent_at st x.event).target ≡ true) (some_is g) e

pub dispatchable-idle : (s : State) (m : Message) → dispatchable s ≡ Some m → is_idle s.store (sent_at s.store m.event).target ≡ true
dispatchable-idle s m h = by (nat_lt (length s.flight) s.lanes) h
  where
    by : (b : Bool) → (if b then first_to_go s.store s.sheet s.flight s.messages else None) ≡ Some m → is_idle s.store (sent_at s.store m.event).target ≡ true
    by true g = first-idle s.store s.sheet s.flight s.messages m g
    by false g = cc

-- ---- a turn

-- the number of the message that an actor is busy with
abbrev number_in : Option Slot → ℕ
number_in (Some (ActorSlot code state (Fix (pos n)))) = n
number_in o = 0

abbrev created_in : W → List Lane → ℕ
created_in w ls = sum_by (λ (l : Lane). times w (created_by l)) ls

placed-of : (s : State) → FlightSound s → Placed (λ (w : W). created_in w s.flight) (length s.store.slots)
placed-of s h = record { once = h.created_once; taken = h.created_taken }

-- where what an event in flight sees is as it was
stands-still : (s t : Seen) (l : Lane) → StandsIn s l → slot_seen t l.own.actor ≡ slot_seen s l.own.actor → ((w : W) → Among w (created_by l) → slot_seen t w ≡ slot_seen s w) → ((m : Sent) → Among m.event (sent_by l) → IsSentIn s m → slot_seen t m.event ≡ slot_seen s m.event) → StandsIn t l
stands-still s t l h a c e = record {
  busy = a ∙ h.busy;
  unborn = λ w i. c w i ∙ h.unborn w i;
  sent = every-sent (IsSentIn s) (IsSentIn t) l.effects.sent (λ m i k. e m i k ∙ k) h.sent;
}

out-flight : (u : State) (kind : Quota) → FlightSound u → FlightSound (record u { out_of = Some kind })
out-flight u kind h = record { stands = h.stands; created_once = h.created_once; created_taken = h.created_taken }

-- a signal that is released is no actor, and no event in flight sent it
released-flight_sound : (o : Option W) (kind : Quota) (u : State) → ((w : W) (i : ℕ) (l : Lane) → o ≡ Some w → slice_get u.flight i ≡ Some l → Among w (sent_by l) → ⊥) → FlightSound u → FlightSound (released o kind u)
released-flight_sound None kind u f h = h
released-flight_sound (Some w) kind u f h =
    let content = Fix (pos (signal_number kind)) in
    let t = with_content u.store w content in
    let k = (released-alike (Some w) kind u).as_many in
    let still : (i : ℕ) (l : Lane) → slice_get u.flight i ≡ Some l → StandsIn u.store l → StandsIn t l =
    λ i l at a.
    stands-still u.store t l a
    (content-other u.store w content l.own.actor (λ x y z e. let b = a.busy in absurd cc))
    (λ v c. content-other u.store w content v (λ x y z e. let b = a.unborn v c in absurd cc))
    (λ m c e. content-apart u.store w content m.event (λ d. f w i l refl at (subst (λ (v : W). Among v (sent_by l)) d c))) in
    let p = placed-same (λ (v : W). created_in v u.flight) (λ (v : W). created_in v u.flight) (length u.store.slots) (length t.slots) (omega (arith, k)) (λ v. omega arith) (placed-of u h) in
    record { stands = every-by (StandsIn t) u.flight (λ i l at. still i l at (every-get (StandsIn u.store) u.flight i l h.stands at)); created_once = p.once; created_taken = p.taken }

module _ {grant : Amounts} (s : State) (ok : Sound grant s) (h : FlightSound s) where
  pub lane-has : (i : ℕ) (l : Lane) → slice_get s.flight i ≡ Some l → StandsIn s.store l
  lane-has i l at = every-get (StandsIn s.store) s.flight i l h.stands at

  -- two events in flight are of different actors
  pub flight-actors : (i j : ℕ) (k l : Lane) → slice_get s.flight i ≡ Some k → slice_get s.flight j ≡ Some l → k.own.actor ≡ l.own.actor → i ≡ j
  flight-actors i j k l a b e =
      let both : Some (ActorSlot k.own.code k.own.state (Fix (pos k.number))) ≡ Some (ActorSlot l.own.code l.own.state (Fix (pos l.number))) = sym (lane-has i k a).busy ∙ (ap (λ (w : W). slot_seen s.store w) e ∙ (lane-has j l b).busy) in
      flight-numbers s ok i j k l a b (ap number_in both)

  -- ---- dispatch

  begin-flight : (m : Message) → dispatchable s ≡ Some m → FlightSound (begin s m.number (sent_at s.store m.event))
  begin-flight m chosen =
      record { stands = every-append (StandsIn t) s.flight (new ∷ []) (every-by (StandsIn t) s.flight (λ i l at. old l (lane-has i l at))) (starts, tt); created_once = p.once; created_taken = p.taken }
    where
      x : Sent
      x = sent_at s.store m.event

      new : Lane
      new = begun m.number (own_of s.store x)

      t : Seen
      t = at_actor s.store x.target (busy m.number)

      idle : (code : W) × (state : W) × (slot_seen s.store x.target ≡ Some (ActorSlot code state undef))
      idle = idle-there (slot_seen s.store x.target) (dispatchable-idle s m chosen)

      starts : StandsIn t new
      starts =
          let c : (behaviour_at s.store x.target).code ≡ idle.0 = ap (λ (o : Option Slot). (behaviour_in o).code) idle.2 in
          let d : (behaviour_at s.store x.target).state ≡ idle.1 = ap (λ (o : Option Slot). (behaviour_in o).state) idle.2 in
          record {
            busy = actor-same s.store x.target idle.0 idle.1 undef (busy m.number) idle.2 ∙ (ap (λ (w : W). Some (ActorSlot w idle.1 (Fix (pos m.number)))) (sym c) ∙ ap (λ (w : W). Some (ActorSlot (behaviour_at s.store x.target).code w (Fix (pos m.number)))) (sym d));
            unborn = λ w a. absurd a;
            sent = tt;
          }

      old : (l : Lane) → StandsIn s.store l → StandsIn t l
      old l a =
          stands-still s.store t l a
          (actor-other s.store x.target (busy m.number) l.own.actor (λ e. let b = a.busy in let c = idle.2 in let d : slot_seen s.store l.own.actor ≡ slot_seen s.store x.target = ap (λ (w : W). slot_seen s.store w) e in absurd cc))
          (λ w i. actor-other s.store x.target (busy m.number) w (λ e. let b = a.unborn w i in let c = idle.2 in let d : slot_seen s.store w ≡ slot_seen s.store x.target = ap (λ (v : W). slot_seen s.store v) e in absurd cc))
          (λ y i b. actor-other s.store x.target (busy m.number) y.event (λ e. let c = idle.2 in let d : slot_seen s.store y.event ≡ slot_seen s.store x.target = ap (λ (v : W). slot_seen s.store v) e in absurd cc))

      p : Placed (λ (w : W). created_in w (s.flight ++ new ∷ [])) (length t.slots)
      p =
          let k = (alike-busy s.store x.target m.number).as_many in
          placed-same (λ (w : W). created_in w s.flight) (λ (w : W). created_in w (s.flight ++ new ∷ [])) (length s.store.slots) (length t.slots) (omega (arith, k)) (λ w. let e = sum_by_push (λ (l : Lane). times w (created_by l)) s.flight new in omega (arith, e)) (placed-of s h)

  -- ---- the end of an event

  module _ (i : ℕ) (l : Lane) (at : slice_get s.flight i ≡ Some l) (x : Effects) (part : (w : W) → Among w (made_words x.created) → Among w (created_by l)) where
    ends : StandsIn s.store l
    ends = lane-has i l at

    abbrev after_it : Seen
    after_it = settled s.store l.own.actor x

    abbrev midway : Seen
    midway = at_actor s.store l.own.actor (resting x.next)

    -- what it created is still not committed when its actor is idle
    created-seen : (v : W) → Among v (made_words x.created) → IsSeen midway v
    created-seen v a =
        let u = ends.unborn v (part v a) in
        (UnbornSlot, actor-other s.store l.own.actor (resting x.next) v (λ e. let b = ends.busy in let d : slot_seen s.store v ≡ slot_seen s.store l.own.actor = ap (λ (w : W). slot_seen s.store w) e in absurd cc) ∙ u)

    pub settled-other : (w : W) → (w ≡ l.own.actor → ⊥) → (Among w (made_words x.created) → ⊥) → slot_seen after_it w ≡ slot_seen s.store w
    settled-other w f g = idle-other midway x.created w created-seen g ∙ actor-other s.store l.own.actor (resting x.next) w f

    -- another event in flight
    others : (j : ℕ) (k : Lane) → slice_get (remove s.flight i) j ≡ Some k → StandsIn after_it k
    others j k there = stands-still s.store after_it k a (settled-other k.own.actor apart (λ g. not_made g)) (λ w c. settled-other w (λ e. not_own w c e) (λ g. not_both w c g)) (λ m c b. settled-other m.event (λ e. sent_apart m b e) (λ g. sent_other m b g))
      where
        from : (p : ℕ) × (slice_get s.flight p ≡ Some k)
        from = at-removed s.flight i j k there

        a : StandsIn s.store k
        a = lane-has from.0 k from.1

        differs : k.number ≡ l.number → ⊥
        differs e = other-at l.number (remove s.flight i) j k (rest-other s.flight i l at ok.apart) there e

        apart : k.own.actor ≡ l.own.actor → ⊥
        apart e =
            let both : Some (ActorSlot k.own.code k.own.state (Fix (pos k.number))) ≡ Some (ActorSlot l.own.code l.own.state (Fix (pos l.number))) = sym a.busy ∙ (ap (λ (w : W). slot_seen s.store w) e ∙ ends.busy) in
            differs (ap number_in both)

        sent_apart : (m : Sent) → IsSentIn s.store m → m.event ≡ l.own.actor → ⊥
        sent_apart m b e = let c = ends.busy in let d : slot_seen s.store m.event ≡ slot_seen s.store l.own.actor = ap (λ (v : W). slot_seen s.store v) e in absurd cc

        sent_other : (m : Sent) → IsSentIn s.store m → Among m.event (made_words x.created) → ⊥
        sent_other m b g = let u = ends.unborn m.event (part m.event g) in absurd cc

        not_made : Among k.own.actor (made_words x.created) → ⊥
        not_made g = let u = ends.unborn k.own.actor (part k.own.actor g) in let b = a.busy in absurd cc

        not_own : (w : W) → Among w (created_by k) → w ≡ l.own.actor → ⊥
        not_own w c e = let u = a.unborn w c in let b = ends.busy in let d : slot_seen s.store w ≡ slot_seen s.store l.own.actor = ap (λ (v : W). slot_seen s.store v) e in absurd cc

        not_both : (w : W) → Among w (created_by k) → Among w (made_words x.created) → ⊥
        not_both w c g =
            let one = times-among w (created_by k) c in
            let two = times-among w (created_by l) (part w g) in
            let rest = sum-at (λ (l : Lane). times w (created_by l)) (remove s.flight i) j k there in
            let all = sum-removed (λ (l : Lane). times w (created_by l)) s.flight i l at in
            let o = h.created_once w in
            absurd (omega (arith, one, two, rest, all, o))

    finish-flight : (sheet : List Account) (end : End) → FlightSound (finish s i l sheet x end)
    finish-flight sheet end =
        let k = (alike-settled s.store l.own.actor x).as_many in
        let p = placed-same (λ (w : W). created_in w s.flight) (λ (w : W). created_in w (remove s.flight i)) (length s.store.slots) (length after_it.slots) (omega (arith, k)) (λ w. let e = sum-removed (λ (l : Lane). times w (created_by l)) s.flight i l at in omega (arith, e)) (placed-of s h) in
        record { stands = every-by (StandsIn after_it) (remove s.flight i) others; created_once = p.once; created_taken = p.taken }

    -- its actor is idle, with the behaviour that was gathered, if any
    pub settled-own : slot_seen after_it l.own.actor ≡ Some (resting x.next l.own.code l.own.state)
    settled-own =
        idle-other midway x.created l.own.actor created-seen (λ g. let u = ends.unborn l.own.actor (part l.own.actor g) in let b = ends.busy in absurd cc)
        ∙ actor-same s.store l.own.actor l.own.code l.own.state (Fix (pos l.number)) (resting x.next) ends.busy

  none-created : (l : Lane) (w : W) → Among w [] → Among w (created_by l)
  none-created l w a = absurd a

  run_out-flight : (i : ℕ) (l : Lane) (kind : Quota) → slice_get s.flight i ≡ Some l → FlightSound (run_out s i l kind)
  run_out-flight i l kind at = released-flight_sound (prepared s.sheet l.own.sponsor) kind (finish s i l (stop s.sheet l.own.sponsor) no_effects (RanOut kind)) other (finish-flight i l at no_effects (none-created l) (stop s.sheet l.own.sponsor) (RanOut kind))
    where
      other : (w : W) (j : ℕ) (k : Lane) → prepared s.sheet l.own.sponsor ≡ Some w → slice_get (remove s.flight i) j ≡ Some k → Among w (sent_by k) → ⊥
      other w j k is there c = let p = at-removed s.flight i j k there in signal-not_sent s ok l.own.sponsor w is p.0 k p.1 c

  -- ---- an instruction

  go_on-flight : (i : ℕ) (l : Lane) (sheet : List Account) (controller : W) (g : Going) → slice_get s.flight i ≡ Some l → MadeWith l.own.sponsor controller s.store g.made g.effect → FlightSound (go_on s i l sheet g)
  go_on-flight i l sheet controller g at made = record { stands = every-by (StandsIn t) (slice_set s.flight i new) each; created_once = p.once; created_taken = p.taken }
    where
      t : Seen
      t = (after_going s.store l.stack g).0

      new : Lane
      new = gone s.store l g

      next : (creates g.effect ≡ []) ⊎ ((creates g.effect ≡ Cap (next_quad s.store) ∷ []) × (g.made ≡ UnbornSlot ∷ []))
      next = creates-next l.own.sponsor controller s.store g.made g.effect made

      words : created_by new ≡ created_by l ++ creates g.effect
      words = created-more l.effects g.effect

      still : (k : Lane) → StandsIn s.store k → StandsIn t k
      still k a = record { busy = going-seen s.store l.stack g k.own.actor _ a.busy; unborn = λ w c. going-seen s.store l.stack g w UnbornSlot (a.unborn w c); sent = every-sent (IsSentIn s.store) (IsSentIn t) k.effects.sent (λ m i e. going-seen s.store l.stack g m.event _ e) a.sent }

      own : StandsIn s.store l
      own = lane-has i l at

      fresh : (w : W) → Among w (creates g.effect) → slot_seen t w ≡ Some UnbornSlot
      fresh w c = by next c
        where
          by : (creates g.effect ≡ []) ⊎ ((creates g.effect ≡ Cap (next_quad s.store) ∷ []) × (g.made ≡ UnbornSlot ∷ [])) → Among w (creates g.effect) → slot_seen t w ≡ Some UnbornSlot
          by (inl e) c = absurd (subst (λ (ws : List W). Among w ws) e c)
          by (inr e) c = one e.1 (subst (λ (ws : List W). Among w ws) e.0 c)
            where
              one : g.made ≡ UnbornSlot ∷ [] → Among w (Cap (next_quad s.store) ∷ []) → slot_seen t w ≡ Some UnbornSlot
              one m (inl d) = subst (λ (v : W). slot_seen t v ≡ Some UnbornSlot) (sym d) (first-made s.store l.stack g UnbornSlot m)
              one m (inr d) = absurd d

      goes : StandsIn t new
      goes = record { busy = going-seen s.store l.stack g l.own.actor _ own.busy; unborn = λ w c. by w (among-of w (created_by l) (creates g.effect) (subst (λ (ws : List W). Among w ws) words c)); sent = sent-more l.own.sponsor controller s.store l.stack g l.effects made (still l own).sent }
        where
          by : (w : W) → Among w (created_by l) ⊎ Among w (creates g.effect) → slot_seen t w ≡ Some UnbornSlot
          by w (inl c) = going-seen s.store l.stack g w UnbornSlot (own.unborn w c)
          by w (inr c) = fresh w c

      each : (j : ℕ) (k : Lane) → slice_get (slice_set s.flight i new) j ≡ Some k → StandsIn t k
      each j k there = by (at-set s.flight i j new k there)
        where
          by : (new ≡ k) ⊎ (slice_get s.flight j ≡ Some k) → StandsIn t k
          by (inl e) = subst (λ (x : Lane). StandsIn t x) e goes
          by (inr old) = still k (lane-has j k old)

      is_next : IsNext s.store g.made (creates g.effect)
      is_next = by next
        where
          by : (creates g.effect ≡ []) ⊎ ((creates g.effect ≡ Cap (next_quad s.store) ∷ []) × (g.made ≡ UnbornSlot ∷ [])) → IsNext s.store g.made (creates g.effect)
          by (inl e) = inl e
          by (inr e) = let n : length g.made ≡ 1 = ap (λ (xs : List Slot). length xs) e.1 in inr (e.0, omega (arith, n))

      p : Placed (λ (w : W). created_in w (slice_set s.flight i new)) (length t.slots)
      p =
          let up = length-going s.store l.stack g in
          placed-named (λ (w : W). created_in w s.flight) (λ (w : W). created_in w (slice_set s.flight i new)) s.store (length t.slots) g.made (creates g.effect) (omega (arith, up)) is_next (λ w.
          let a = sum-set (λ (l : Lane). times w (created_by l)) s.flight i l new at in
          let b : times w (created_by new) ≡ times w (created_by l ++ creates g.effect) = ap (λ (ws : List W). times w ws) words in
          let c = (how_often w).more (created_by l) (creates g.effect) in
          omega (arith, a, b, c)) (placed-of s h)

  -- ---- each turn

  flight-each : (pick : ℕ) → EachKind s pick (λ t a. FlightSound t)
  flight-each pick = record {
    spent = λ kind out. h;
    rests = λ run waits none. h;
    begins = λ m d. begin-flight m d.first;
    writes = λ m device bytes d e. record { stands = h.stands; created_once = h.created_once; created_taken = h.created_taken };
    refuses = λ m device d e. record { stands = h.stands; created_once = h.created_once; created_taken = h.created_taken };
    goes = λ l g at paid is. go_on-flight (pick % length s.flight) l (spend s.sheet l.own.sponsor (lane_row s.store s.sheet l).charge) (item (values l.stack) 1) g at (subst (MakesNamed l.own.sponsor (item (values l.stack) 1) s.store) is (row_at-makes l.own (fetched s.store l.code) s.store s.sheet l.effects (values l.stack)));
    fails = λ l w at paid is. finish-flight (pick % length s.flight) l at no_effects (none-created l) (spend s.sheet l.own.sponsor (lane_row s.store s.sheet l).charge) (Failed w);
    commits = λ l at paid is. finish-flight (pick % length s.flight) l at l.effects (λ w c. c) (spend s.sheet l.own.sponsor (lane_row s.store s.sheet l).charge) Committed;
    runs_out = λ l kind at lacks other. run_out-flight (pick % length s.flight) l kind at;
    root_runs_out = λ l kind at lacks same run. out-flight (run_out s (pick % length s.flight) l kind) kind (run_out-flight (pick % length s.flight) l kind at);
  }

  pub turn-flight : (pick : ℕ) → FlightSound (turn s pick).0
  turn-flight pick = turn-by s pick (λ t a. FlightSound t) (flight-each pick)

-- ---- runs

pub boot-flight : (image : RomImage) (grant : Amounts) (lanes : ℕ) → FlightSound (booted image grant lanes)
boot-flight image grant lanes = record { stands = tt; created_once = λ w. omega arith; created_taken = λ w k. absurd (omega (arith, k)) }

pub after-flight : {grant : Amounts} (s : State) (ps : List ℕ) → Sound grant s → FlightSound s → FlightSound (after s ps)
after-flight s [] ok h = h
after-flight {grant = grant} s (p ∷ ps) ok h = after-flight (turn s p).0 ps (turn-sound grant s ok p) (turn-flight s ok h p)

pub run-flight : (image : RomImage) (grant : Amounts) (lanes : ℕ) (picks : List ℕ) → FlightSound (run image grant lanes picks)
run-flight image grant lanes picks = after-flight (booted image grant lanes) picks (boot-sound image grant lanes) (boot-flight image grant lanes)
