-- Every turn keeps that the roll names each committed actor once, that one that no event in flight has is idle, and that devices have none.
use Rattle.std.proofs.Common.{◌≡◌, ◌⊎◌, inl, inr, ℕ, zero, suc, ◌≤◌, ◌%◌, Bool, true, false, List, [], ◌∷◌, ◌++◌, length, Option, Some, None, refl, ap, sym, subst, ◌∙◌, arith, drop}
use Rattle.std.specs.Prelude.{slice_get, slice_set, remove, pos}
use Rattle.std.proofs.lemmas.Option.{same_Some}
use Rattle.cap_words.specs.Words.{W, Fix, Rom, Ram, Cap, same_word, undef}
use Rattle.cap_words.specs.Store.{cap_place}
use Rattle.cap_words.specs.Seen.{Seen, Slot, OpenSlot, ActorSlot, UnbornSlot, EventSlot, SponsorSlot, SpentSlot, slot_seen, altered, grown}
use Rattle.cap_words.specs.Frame.{Among}
use Rattle.cap_words.proofs.Same.{word_same, word_differs}
use Rattle.quad_memory.specs.Image.{RomImage}
use Rattle.instr_table.specs.declared.charge.Quota.{Quota}
use Rattle.instr_table.specs.Code.{fetched}
use Rattle.instr_table.specs.Lists.{item, pair_quad}
use Rattle.instr_table.specs.Event.{Sent, Behaviour, Effects, no_effects, Effect, Nothing, Sends, Creates, Assigns, Becomes, Sponsors, Grants, Reclaims, Starts, Stops}
use Rattle.instr_table.specs.Sheet.{Account, stop, prepared}
use Rattle.instr_table.specs.Outcome.{Going}
use Rattle.instr_table.specs.Lane.{Item, Lane, begun, values, top_at, push_one, push_all, gone, after_going}
use Rattle.instr_table.specs.Reach.{Every}
use Rattle.instr_table.specs.Making.{IsOrdinaryCell, MadeWith, MakesNamed}
use Rattle.instr_table.proofs.GotWords.{every-append, every-map}
use Rattle.instr_table.proofs.Makings.{row_at-makes}
use Rattle.vm_sponsor.specs.declared.amounts.Amounts.{Amounts}
use Rattle.vm_effects.specs.Gathered.{made_words}
use Rattle.vm_turn.specs.declared.journal.Outcome.{Outcome as End}
use Rattle.vm_turn.specs.declared.journal.Outcome.TheVariants.{Committed, Failed, RanOut}
use Rattle.vm_turn.specs.State.{Message, State, println_device, say_device}
use Rattle.vm_turn.specs.Actors.{sent_at, is_idle_in, is_idle, at_actor, refilled, with_content, busy, resting, settled}
use Rattle.vm_turn.specs.Boot.{first_actor, booted}
use Rattle.vm_turn.specs.Turn.{device_of, signal_number, own_of, begin, finish, go_on, released, run_out, turn}
use Rattle.vm_turn.specs.Run.{after, run}
use Rattle.vm_turn.specs.Sound.{Sound, StandsIn, FlightSound, times, created_by}
use Rattle.vm_turn.specs.Roll.{IsCommitted, NoEventOf, RollSound, IsResting, IsBusy, RollStands, RollsStand}
use Rattle.vm_turn.proofs.Sums.{sum-at, how_often}
use Rattle.vm_turn.proofs.Events.{times-one}
use Rattle.vm_turn.proofs.Sponsors.{among-left, among-right, among-of}
use Rattle.vm_turn.proofs.TurnCases.{IsDispatched, paid_for, turn-by}
use Rattle.vm_turn.proofs.Taken.{every-get, every-set, every-removed, every-left, every-right}
use Rattle.vm_turn.proofs.Bound.{turn-sound}
use Rattle.vm_turn.proofs.RunsSound.{boot-sound}
use Rattle.vm_turn.proofs.Actors.{is-among, among-times, actor-other, actor-same, altered-same, IsActorSeen, idle-made, content-other, content-apart, going-seen, idle-there}
use Rattle.vm_turn.proofs.FlightActors.{dispatchable-idle, settled-other, settled-own, flight-actors, turn-flight, boot-flight, run-flight}
use Rattle.vm_turn.proofs.RunsSound.{run-sound}

-- ---- words

same-or-not : (v w : W) → (v ≡ w) ⊎ (v ≡ w → ⊥)
same-or-not v w = by (same_word v w) refl
  where
    by : (b : Bool) → same_word v w ≡ b → (v ≡ w) ⊎ (v ≡ w → ⊥)
    by true e = inl (word_same v w e)
    by false e = inr (word_differs v w e)

-- lists without a word in both
pub both-once : (us vs : List W) → ((w : W) → times w us ≤ 1) → ((w : W) → times w vs ≤ 1) → ((w : W) → Among w us → Among w vs → ⊥) → (w : W) → times w (us ++ vs) ≤ 1
both-once us vs f g apart w = by (is-among w us)
  where
    by : Among w us ⊎ (Among w us → ⊥) → times w (us ++ vs) ≤ 1
    by (inl a) = let z = among-times w vs (apart w a) in let m = (how_often w).more us vs in let o = f w in omega (arith, z, m, o)
    by (inr n) = let z = among-times w us n in let m = (how_often w).more us vs in let o = g w in omega (arith, z, m, o)

-- ---- events of an actor

-- an event goes on, and stays one of its actor
pub none-set : (w : W) (ls : List Lane) (i : ℕ) (l new : Lane) → slice_get ls i ≡ Some l → new.own.actor ≡ l.own.actor → NoEventOf w (slice_set ls i new) → NoEventOf w ls
none-set w [] i l new at e n = tt
none-set w (k ∷ ls) zero l new at e n = ((λ d. n.0 (e ∙ (ap (λ (x : Lane). x.own.actor) (sym (same_Some k l at)) ∙ d))), n.1)
none-set w (k ∷ ls) (suc i) l new at e n = (n.0, none-set w ls i l new at e n.1)

-- an event of another actor ends
pub none-whole : (w : W) (ls : List Lane) (i : ℕ) (l : Lane) → slice_get ls i ≡ Some l → (l.own.actor ≡ w → ⊥) → NoEventOf w (remove ls i) → NoEventOf w ls
none-whole w [] i l at d n = tt
none-whole w (k ∷ ls) zero l at d n = ((λ e. d (ap (λ (x : Lane). x.own.actor) (sym (same_Some k l at)) ∙ e)), n)
none-whole w (k ∷ ls) (suc i) l at d n = (n.0, none-whole w ls i l at d n.1)

-- an actor that events have, or that none of them has
pub find-event : (w : W) (ls : List Lane) → NoEventOf w ls ⊎ ((i : ℕ) × (l : Lane) × (slice_get ls i ≡ Some l) × (l.own.actor ≡ w))
find-event w [] = inl tt
find-event w (k ∷ ls) = by (same-or-not k.own.actor w) (find-event w ls)
  where
    by : (k.own.actor ≡ w) ⊎ (k.own.actor ≡ w → ⊥) → NoEventOf w ls ⊎ ((i : ℕ) × (l : Lane) × (slice_get ls i ≡ Some l) × (l.own.actor ≡ w)) → NoEventOf w (k ∷ ls) ⊎ ((i : ℕ) × (l : Lane) × (slice_get (k ∷ ls) i ≡ Some l) × (l.own.actor ≡ w))
    by (inl e) r = inr (zero, k, refl, e)
    by (inr d) (inl n) = inl (d, n)
    by (inr d) (inr r) = inr (suc r.0, r.1, r.2, r.3)

-- ---- an instruction makes no committed actor

abbrev IsNoActor : Slot → Type 0
IsNoActor x = (code state mark : W) → x ≡ ActorSlot code state mark → ⊥

abbrev ActorsOf : List Slot → List Slot → Type 0
ActorsOf xs ys = (n : ℕ) (code state mark : W) → slice_get ys n ≡ Some (ActorSlot code state mark) → slice_get xs n ≡ Some (ActorSlot code state mark)

append-actors : (xs ys : List Slot) → Every IsNoActor ys → ActorsOf xs (xs ++ ys)
append-actors [] [] isnt n c t m h = h
append-actors [] (y ∷ ys) isnt zero c t m h = absurd (isnt.0 c t m (same_Some y (ActorSlot c t m) h))
append-actors [] (y ∷ ys) isnt (suc n) c t m h = let e = append-actors [] ys isnt.1 n c t m h in absurd (cc)
append-actors (x ∷ xs) ys isnt zero c t m h = h
append-actors (x ∷ xs) ys isnt (suc n) c t m h = append-actors xs ys isnt n c t m h

pushed-actors : (p : Seen × List Item) (vs : List W) → ActorsOf p.0.slots (push_all p vs).0.slots
pushed-actors p [] n c t m h = h
pushed-actors p (v ∷ vs) n c t m h = append-actors p.0.slots (OpenSlot (pair_quad v (top_at p.1)) ∷ []) ((λ a b d e. cc), tt) n c t m (pushed-actors (push_one p v) vs n c t m h)

ordinary-no_actor : (s : Seen) (x : Slot) → IsOrdinaryCell s x → IsNoActor x
ordinary-no_actor s (OpenSlot q) h c t m e = cc
ordinary-no_actor s (ActorSlot a b d) h c t m e = absurd h
ordinary-no_actor s UnbornSlot h c t m e = cc
ordinary-no_actor s (EventSlot a b d) h c t m e = cc
ordinary-no_actor s SponsorSlot h c t m e = cc
ordinary-no_actor s SpentSlot h c t m e = cc

made-no_actors : (payer controller : W) (s : Seen) (made : List Slot) (x : Effect) → MadeWith payer controller s made x → Every IsNoActor made
made-no_actors payer controller s made Nothing h = every-map (IsOrdinaryCell s) IsNoActor made (ordinary-no_actor s) h
made-no_actors payer controller s made (Sends m) h = subst (Every IsNoActor) (sym h.1) ((λ a b d e. cc), tt)
made-no_actors payer controller s made (Creates m) h = subst (Every IsNoActor) (sym h.1) ((λ a b d e. cc), tt)
made-no_actors payer controller s made (Assigns m) h = every-map (IsOrdinaryCell s) IsNoActor made (ordinary-no_actor s) h
made-no_actors payer controller s made (Becomes b) h = every-map (IsOrdinaryCell s) IsNoActor made (ordinary-no_actor s) h
made-no_actors payer controller s made (Sponsors w) h = subst (Every IsNoActor) (sym h.1) ((λ a b d e. cc), ((λ a b d e. cc), tt))
made-no_actors payer controller s made (Grants w kind n) h = every-map (IsOrdinaryCell s) IsNoActor made (ordinary-no_actor s) h
made-no_actors payer controller s made (Reclaims w) h = every-map (IsOrdinaryCell s) IsNoActor made (ordinary-no_actor s) h
made-no_actors payer controller s made (Starts w signal) h = subst (Every IsNoActor) (sym h.1) ((λ a b d e. cc), tt)
made-no_actors payer controller s made (Stops w) h = every-map (IsOrdinaryCell s) IsNoActor made (ordinary-no_actor s) h

going-actor : (payer controller : W) (s : Seen) (is : List Item) (g : Going) → MadeWith payer controller s g.made g.effect → (w : W) → IsCommitted (after_going s is g).0 w → IsCommitted s w
going-actor payer controller s is g made (Fix n) h = let e = h.3 in absurd cc
going-actor payer controller s is g made (Rom n) h = let e = h.3 in absurd cc
going-actor payer controller s is g made (Ram n) h = let e = h.3 in absurd cc
going-actor payer controller s is g made (Cap n) h =
    (h.0, h.1, h.2, append-actors s.slots g.made (made-no_actors payer controller s g.made g.effect made) n h.0 h.1 h.2 (pushed-actors (grown s g.made, drop g.pops is) g.pushed n h.0 h.1 h.2 h.3))

-- ---- a signal's content

refilled-event : (s : Seen) (v content a b m : W) → slot_seen s v ≡ Some (EventSlot a b m) → with_content s v content ≡ altered s (cap_place v) (EventSlot a b content)
refilled-event s v content a b m e = ap (λ (o : Option Slot). refilled o v content s) e

content-actor : (s : Seen) (v content w : W) → IsCommitted (with_content s v content) w → IsCommitted s w
content-actor s v content w h = (h.0, h.1, h.2, sym (content-other s v content w no_event) ∙ h.3)
  where
    no_event : (a b m : W) → slot_seen s w ≡ Some (EventSlot a b m) → ⊥
    no_event a b m e = by (same-or-not w v)
      where
        by : (w ≡ v) ⊎ (w ≡ v → ⊥) → ⊥
        by (inl same) =
            let at : slot_seen s v ≡ Some (EventSlot a b m) = ap (λ (u : W). slot_seen s u) (sym same) ∙ e in
            let t : with_content s v content ≡ altered s (cap_place v) (EventSlot a b content) = refilled-event s v content a b m at in
            let c : slot_seen (with_content s v content) v ≡ Some (EventSlot a b content) = ap (λ (u : Seen). slot_seen u v) t ∙ altered-same s v (EventSlot a b m) (EventSlot a b content) at in
            let d : slot_seen (with_content s v content) w ≡ Some (EventSlot a b content) = ap (λ (u : W). slot_seen (with_content s v content) u) same ∙ c in
            let k = h.3 in
            absurd cc
        by (inr other) = let c = content-apart s v content w other ∙ e in let k = h.3 in absurd cc

-- ---- a turn

-- an actor that is idle then
resting-idle : (next : Option Behaviour) (code state : W) → is_idle_in (Some (resting next code state)) ≡ true
resting-idle None code state = refl
resting-idle (Some b) code state = refl

resting-committed : (s : Seen) (w code state : W) (next : Option Behaviour) → slot_seen s w ≡ Some (resting next code state) → IsCommitted s w
resting-committed s w code state None e = (code, state, undef, e)
resting-committed s w code state (Some b) e = (b.code, b.state, undef, e)

committed-same : (s t : Seen) (w : W) → slot_seen t w ≡ slot_seen s w → IsCommitted s w → IsCommitted t w
committed-same s t w e c = (c.0, c.1, c.2, e ∙ c.3)

released-roll : (o : Option W) (kind : Quota) (u : State) → RollSound u → RollSound (released o kind u)
released-roll None kind u r = r
released-roll (Some v) kind u r = record {
  front = r.front;
  once = r.once;
  committed = λ w a. let c = r.committed w a in committed-same u.store t w (same w c) c;
  named = λ w c. r.named w (content-actor u.store v content w c);
  idle = λ w c none. let b = content-actor u.store v content w c in ap is_idle_in (same w b) ∙ r.idle w b none;
  no_devices = r.no_devices;
}
  where
    content : W
    content = Fix (pos (signal_number kind))

    t : Seen
    t = with_content u.store v content

    same : (w : W) → IsCommitted u.store w → slot_seen t w ≡ slot_seen u.store w
    same w c = content-other u.store v content w (λ a b m e. let k = c.3 in absurd cc)

out-roll : (u : State) (kind : Quota) → RollSound u → RollSound (record u { out_of = Some kind })
out-roll u kind r = record { front = r.front; once = r.once; committed = r.committed; named = r.named; idle = r.idle; no_devices = r.no_devices }

abbrev IsNoDevice : Lane → Type 0
IsNoDevice l = device_of l.own.actor ≡ None

module _ {grant : Amounts} (s : State) (ok : Sound grant s) (flies : FlightSound s) (r : RollSound s) where
  lane-of : (i : ℕ) (l : Lane) → slice_get s.flight i ≡ Some l → StandsIn s.store l
  lane-of i l at = every-get (StandsIn s.store) s.flight i l flies.stands at

  -- ---- dispatch

  begin-roll : (m : Message) → IsDispatched s m None → RollSound (begin s m.number (sent_at s.store m.event))
  begin-roll m d = record {
    front = r.front;
    once = r.once;
    committed = λ w a. here w (r.committed w a) (same-or-not w x.target);
    named = λ w c. r.named w (back w c (same-or-not w x.target));
    idle = λ w c none. idle w c none (same-or-not w x.target);
    no_devices = every-append IsNoDevice s.flight (new ∷ []) r.no_devices (d.device_is, tt);
  }
    where
      x : Sent
      x = sent_at s.store m.event

      new : Lane
      new = begun m.number (own_of s.store x)

      t : Seen
      t = at_actor s.store x.target (busy m.number)

      target : (code : W) × (state : W) × (slot_seen s.store x.target ≡ Some (ActorSlot code state undef))
      target = idle-there (slot_seen s.store x.target) (dispatchable-idle s m d.first)

      other : (w : W) → (w ≡ x.target → ⊥) → slot_seen t w ≡ slot_seen s.store w
      other w f = actor-other s.store x.target (busy m.number) w f

      here : (w : W) → IsCommitted s.store w → (w ≡ x.target) ⊎ (w ≡ x.target → ⊥) → IsCommitted t w
      here w c (inl e) =
          subst (λ (v : W). IsCommitted t v) (sym e)
          (target.0, target.1, Fix (pos m.number), actor-same s.store x.target target.0 target.1 undef (busy m.number) target.2)
      here w c (inr f) = committed-same s.store t w (other w f) c

      back : (w : W) → IsCommitted t w → (w ≡ x.target) ⊎ (w ≡ x.target → ⊥) → IsCommitted s.store w
      back w c (inl e) = subst (λ (v : W). IsCommitted s.store v) (sym e) (target.0, target.1, undef, target.2)
      back w c (inr f) = committed-same t s.store w (sym (other w f)) c

      idle : (w : W) → IsCommitted t w → NoEventOf w (s.flight ++ new ∷ []) → (w ≡ x.target) ⊎ (w ≡ x.target → ⊥) → is_idle t w ≡ true
      idle w c none (inl e) = absurd ((every-right (λ (l : Lane). l.own.actor ≡ w → ⊥) s.flight (new ∷ []) none).0 (sym e))
      idle w c none (inr f) =
          ap is_idle_in (other w f) ∙ r.idle w (committed-same t s.store w (sym (other w f)) c) (every-left (λ (l : Lane). l.own.actor ≡ w → ⊥) s.flight (new ∷ []) none)

  -- ---- an instruction

  go_on-roll : (i : ℕ) (l : Lane) (sheet : List Account) (controller : W) (g : Going) → slice_get s.flight i ≡ Some l → MadeWith l.own.sponsor controller s.store g.made g.effect → RollSound (go_on s i l sheet g)
  go_on-roll i l sheet controller g at made = record {
    front = r.front;
    once = r.once;
    committed = λ w a. let c = r.committed w a in (c.0, c.1, c.2, going-seen s.store l.stack g w _ c.3);
    named = λ w c. r.named w (back w c);
    idle = λ w c none. let b = back w c in ap is_idle_in (going-seen s.store l.stack g w _ b.3 ∙ sym b.3) ∙ r.idle w b (none-set w s.flight i l (gone s.store l g) at refl none);
    no_devices = every-set IsNoDevice s.flight i (gone s.store l g) r.no_devices (every-get IsNoDevice s.flight i l r.no_devices at);
  }
    where
      back : (w : W) → IsCommitted (after_going s.store l.stack g).0 w → IsCommitted s.store w
      back w c = going-actor l.own.sponsor controller s.store l.stack g made w c

  -- ---- the end of an event

  module _ (i : ℕ) (l : Lane) (at : slice_get s.flight i ≡ Some l) (x : Effects) (part : (w : W) → Among w (made_words x.created) → Among w (created_by l)) (once : (w : W) → times w (made_words x.created) ≤ 1) where
    abbrev after_it : Seen
    after_it = settled s.store l.own.actor x

    ends : StandsIn s.store l
    ends = lane-of i l at

    -- what it created is not on the roll
    created-apart : (w : W) → Among w s.roll → Among w (made_words x.created) → ⊥
    created-apart w a b = let c = (r.committed w a).3 in let u = ends.unborn w (part w b) in absurd cc

    own : slot_seen after_it l.own.actor ≡ Some (resting x.next l.own.code l.own.state)
    own = settled-own s ok flies i l at x part

    made : (w : W) → Among w (made_words x.created) → (code : W) × (state : W) × (slot_seen after_it w ≡ Some (ActorSlot code state undef))
    made w a = idle-made (at_actor s.store l.own.actor (resting x.next)) x.created seen w a
      where
        seen : (v : W) → Among v (made_words x.created) → IsActorSeen (at_actor s.store l.own.actor (resting x.next)) v
        seen v b =
            let u = ends.unborn v (part v b) in
            (UnbornSlot, actor-other s.store l.own.actor (resting x.next) v (λ e. let k = ends.busy in let d : slot_seen s.store v ≡ slot_seen s.store l.own.actor = ap (λ (w : W). slot_seen s.store w) e in absurd cc) ∙ u, refl)

    other : (w : W) → (w ≡ l.own.actor → ⊥) → (Among w (made_words x.created) → ⊥) → slot_seen after_it w ≡ slot_seen s.store w
    other w f g = settled-other s ok flies i l at x part w f g

    here : (w : W) → Among w s.roll → (w ≡ l.own.actor) ⊎ (w ≡ l.own.actor → ⊥) → IsCommitted after_it w
    here w a (inl e) = subst (λ (v : W). IsCommitted after_it v) (sym e) (resting-committed after_it l.own.actor l.own.code l.own.state x.next own)
    here w a (inr f) = committed-same s.store after_it w (other w f (created-apart w a)) (r.committed w a)

    new : (w : W) → Among w (made_words x.created) → IsCommitted after_it w
    new w a = let k = made w a in (k.0, k.1, undef, k.2)

    committed : (w : W) → Among w s.roll ⊎ Among w (made_words x.created) → IsCommitted after_it w
    committed w (inl a) = here w a (same-or-not w l.own.actor)
    committed w (inr a) = new w a

    named : (w : W) → IsCommitted after_it w → (w ≡ l.own.actor) ⊎ (w ≡ l.own.actor → ⊥) → Among w (made_words x.created) ⊎ (Among w (made_words x.created) → ⊥) → Among w (s.roll ++ made_words x.created)
    named w c (inl e) b = among-left w s.roll (made_words x.created) (r.named w (subst (λ (v : W). IsCommitted s.store v) (sym e) (l.own.code, l.own.state, Fix (pos l.number), ends.busy)))
    named w c (inr f) (inl a) = among-right w s.roll (made_words x.created) a
    named w c (inr f) (inr g) = among-left w s.roll (made_words x.created) (r.named w (committed-same after_it s.store w (sym (other w f g)) c))

    idle : (w : W) → IsCommitted after_it w → NoEventOf w (remove s.flight i) → (w ≡ l.own.actor) ⊎ (w ≡ l.own.actor → ⊥) → Among w (made_words x.created) ⊎ (Among w (made_words x.created) → ⊥) → is_idle after_it w ≡ true
    idle w c none (inl e) b = ap (λ (v : W). is_idle after_it v) e ∙ (ap is_idle_in own ∙ resting-idle x.next l.own.code l.own.state)
    idle w c none (inr f) (inl a) = ap is_idle_in (made w a).2
    idle w c none (inr f) (inr g) =
        ap is_idle_in (other w f g)
        ∙ r.idle w (committed-same after_it s.store w (sym (other w f g)) c) (none-whole w s.flight i l at (λ e. f (sym e)) none)

    finish-roll : (sheet : List Account) (end : End) → RollSound (finish s i l sheet x end)
    finish-roll sheet end = record {
      front = (r.front.0 ++ made_words x.created, ap (λ (ws : List W). ws ++ made_words x.created) r.front.1);
      once = both-once s.roll (made_words x.created) r.once once created-apart;
      committed = λ w a. committed w (among-of w s.roll (made_words x.created) a);
      named = λ w c. named w c (same-or-not w l.own.actor) (is-among w (made_words x.created));
      idle = λ w c none. idle w c none (same-or-not w l.own.actor) (is-among w (made_words x.created));
      no_devices = every-removed IsNoDevice s.flight i r.no_devices;
    }

  fails-roll : (i : ℕ) (l : Lane) (sheet : List Account) (end : End) → slice_get s.flight i ≡ Some l → RollSound (finish s i l sheet no_effects end)
  fails-roll i l sheet end at = finish-roll i l at no_effects (λ w a. absurd a) (λ w. omega arith) sheet end

  commits-roll : (i : ℕ) (l : Lane) (sheet : List Account) → slice_get s.flight i ≡ Some l → RollSound (finish s i l sheet l.effects Committed)
  commits-roll i l sheet at =
      finish-roll i l at l.effects (λ w a. a)
      (λ w. let a = sum-at (λ (k : Lane). times w (created_by k)) s.flight i l at in let o = flies.created_once w in omega (arith, a, o))
      sheet Committed

  run_out-roll : (i : ℕ) (l : Lane) (kind : Quota) → slice_get s.flight i ≡ Some l → RollSound (run_out s i l kind)
  run_out-roll i l kind at =
      released-roll (prepared s.sheet l.own.sponsor) kind (finish s i l (stop s.sheet l.own.sponsor) no_effects (RanOut kind))
      (fails-roll i l (stop s.sheet l.own.sponsor) (RanOut kind) at)

  -- ---- each turn

  still : (t : State) → t.roll ≡ s.roll → t.store ≡ s.store → t.flight ≡ s.flight → RollSound t
  still t a b c = record {
    front = (r.front.0, a ∙ r.front.1);
    once = λ w. subst (λ (ws : List W). times w ws ≤ 1) (sym a) (r.once w);
    committed = λ w h. subst (λ (u : Seen). IsCommitted u w) (sym b) (r.committed w (subst (λ (ws : List W). Among w ws) a h));
    named = λ w h. subst (λ (ws : List W). Among w ws) (sym a) (r.named w (subst (λ (u : Seen). IsCommitted u w) b h));
    idle = λ w h none. subst (λ (u : Seen). is_idle u w ≡ true) (sym b) (r.idle w (subst (λ (u : Seen). IsCommitted u w) b h) (subst (λ (ls : List Lane). NoEventOf w ls) c none));
    no_devices = subst (λ (ls : List Lane). Every IsNoDevice ls) (sym c) r.no_devices;
  }

  pub turn-roll : (pick : ℕ) → RollSound (turn s pick).0
  turn-roll pick = turn-by s pick (λ t a. RollSound t) (record {
    spent = λ kind out. r;
    rests = λ run waits none. r;
    begins = λ m d. begin-roll m d;
    writes = λ m device bytes d e. still _ refl refl refl;
    refuses = λ m device d e. still _ refl refl refl;
    goes = λ l g at paid is. go_on-roll (pick % length s.flight) l (paid_for s l) (item (values l.stack) 1) g at (subst (MakesNamed l.own.sponsor (item (values l.stack) 1) s.store) is (row_at-makes l.own (fetched s.store l.code) s.store s.sheet l.effects (values l.stack)));
    fails = λ l w at paid is. fails-roll (pick % length s.flight) l (paid_for s l) (Failed w) at;
    commits = λ l at paid is. commits-roll (pick % length s.flight) l (paid_for s l) at;
    runs_out = λ l kind at lacks other. run_out-roll (pick % length s.flight) l kind at;
    root_runs_out = λ l kind at lacks same run. out-roll (run_out s (pick % length s.flight) l kind) kind (run_out-roll (pick % length s.flight) l kind at);
  })

  -- ---- what follows

  pub roll-stands : RollStands s
  roll-stands = record {
    front = r.front;
    once = r.once;
    committed = r.committed;
    named = r.named;
    each = λ w a. each w (r.committed w a) (find-event w s.flight);
    flight = λ i l at. r.named l.own.actor (l.own.code, l.own.state, Fix (pos l.number), (lane-of i l at).busy);
    one_event = flight-actors s ok flies;
    no_devices = λ i l at. every-get IsNoDevice s.flight i l r.no_devices at;
    created = λ i l at w c a. apart i l at w a c;
    with_created = λ i l at. both-once s.roll (created_by l) r.once (once i l at) (apart i l at);
  }
    where
      apart : (i : ℕ) (l : Lane) → slice_get s.flight i ≡ Some l → (w : W) → Among w s.roll → Among w (created_by l) → ⊥
      apart i l at w a c = let b = (r.committed w a).3 in let u = (lane-of i l at).unborn w c in absurd cc

      once : (i : ℕ) (l : Lane) → slice_get s.flight i ≡ Some l → (w : W) → times w (created_by l) ≤ 1
      once i l at w = let a = sum-at (λ (k : Lane). times w (created_by k)) s.flight i l at in let o = flies.created_once w in omega (arith, a, o)

      each : (w : W) → IsCommitted s.store w → NoEventOf w s.flight ⊎ ((i : ℕ) × (l : Lane) × (slice_get s.flight i ≡ Some l) × (l.own.actor ≡ w)) → IsResting s w ⊎ IsBusy s w
      each w c (inl none) = inl (r.idle w c none, none)
      each w c (inr f) = inr (record { place = f.0; lane = f.1; there = f.2; actor_is = f.3; busy = ap (λ (v : W). slot_seen s.store v) (sym f.3) ∙ (lane-of f.0 f.1 f.2).busy })

-- ---- runs

three-once : (w : W) → times w (first_actor ∷ println_device ∷ say_device ∷ []) ≤ 1
three-once w = both-once (first_actor ∷ []) (println_device ∷ say_device ∷ []) (λ v. times-one first_actor v) (both-once (println_device ∷ []) (say_device ∷ []) (λ v. times-one println_device v) (λ v. times-one say_device v) second) first w
  where
    second : (v : W) → Among v (println_device ∷ []) → Among v (say_device ∷ []) → ⊥
    second v (inl d) (inl e) = cc
    second v (inl d) (inr e) = absurd e
    second v (inr d) e = absurd d

    first : (v : W) → Among v (first_actor ∷ []) → Among v (println_device ∷ say_device ∷ []) → ⊥
    first v (inl d) (inl e) = cc
    first v (inl d) (inr (inl e)) = cc
    first v (inl d) (inr (inr e)) = absurd e
    first v (inr d) e = absurd d

pub boot-roll : (image : RomImage) (grant : Amounts) (lanes : ℕ) → RollSound (booted image grant lanes)
boot-roll image grant lanes = record {
  front = ([], refl);
  once = three-once;
  committed = committed;
  named = named;
  idle = λ w c none. idle w (named w c);
  no_devices = tt;
}
  where
    s : Seen
    s = (booted image grant lanes).store

    committed : (w : W) → Among w (first_actor ∷ println_device ∷ say_device ∷ []) → IsCommitted s w
    committed w (inl e) = subst (λ (v : W). IsCommitted s v) (sym e) (image.boot, Ram 5, undef, refl)
    committed w (inr (inl e)) = subst (λ (v : W). IsCommitted s v) (sym e) (Fix (pos 0), undef, undef, refl)
    committed w (inr (inr (inl e))) = subst (λ (v : W). IsCommitted s v) (sym e) (Fix (pos 1), undef, undef, refl)
    committed w (inr (inr (inr a))) = absurd a

    idle : (w : W) → Among w (first_actor ∷ println_device ∷ say_device ∷ []) → is_idle s w ≡ true
    idle w (inl e) = ap (λ (v : W). is_idle s v) e
    idle w (inr (inl e)) = ap (λ (v : W). is_idle s v) e
    idle w (inr (inr (inl e))) = ap (λ (v : W). is_idle s v) e
    idle w (inr (inr (inr a))) = absurd a

    named : (w : W) → IsCommitted s w → Among w (first_actor ∷ println_device ∷ say_device ∷ [])
    named (Fix n) c = let e = c.3 in absurd cc
    named (Rom n) c = let e = c.3 in absurd cc
    named (Ram n) c = let e = c.3 in absurd cc
    named (Cap n) c = at n c.0 c.1 c.2 c.3
      where
        at : (n : ℕ) (code state mark : W) → slice_get s.slots n ≡ Some (ActorSlot code state mark) → Among (Cap n) (first_actor ∷ println_device ∷ say_device ∷ [])
        at zero code state mark e = cc
        at (suc zero) code state mark e = cc
        at (suc (suc zero)) code state mark e = inr (inl refl)
        at (suc (suc (suc zero))) code state mark e = inr (inr (inl refl))
        at (suc (suc (suc (suc zero)))) code state mark e = cc
        at (suc (suc (suc (suc (suc zero))))) code state mark e = cc
        at (suc (suc (suc (suc (suc (suc zero)))))) code state mark e = inl refl
        at (suc (suc (suc (suc (suc (suc (suc zero))))))) code state mark e = cc
        at (suc (suc (suc (suc (suc (suc (suc (suc n)))))))) code state mark e = cc

pub after-roll : {grant : Amounts} (s : State) (ps : List ℕ) → Sound grant s → FlightSound s → RollSound s → RollSound (after s ps)
after-roll s [] ok flies r = r
after-roll {grant = grant} s (p ∷ ps) ok flies r = after-roll (turn s p).0 ps (turn-sound grant s ok p) (turn-flight s ok flies p) (turn-roll s ok flies r p)

pub run-roll : (image : RomImage) (grant : Amounts) (lanes : ℕ) (picks : List ℕ) → RollSound (run image grant lanes picks)
run-roll image grant lanes picks = after-roll (booted image grant lanes) picks (boot-sound image grant lanes) (boot-flight image grant lanes) (boot-roll image grant lanes)

pub rolls-stand : RollsStand
rolls-stand image grant lanes picks =
    roll-stands (run image grant lanes picks) (run-sound image grant lanes picks) (run-flight image grant lanes picks) (run-roll image grant lanes picks)
