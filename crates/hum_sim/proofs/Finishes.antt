-- An event's end keeps what stands, with the configuration that its effects make.
use Rattle.vm_turn.specs.Spending.{Spending}
use Rattle.std.proofs.Common.{◌≡◌, inl, inr, refl, ap, sym, subst, ◌∙◌, ℕ, zero, suc, List, [], ◌∷◌, ◌++◌, map, Option, Some, None, slice_get, slice_set, arith, append-nil, add-zero}
use Rattle.std.specs.Prelude.{remove}
use Rattle.std.proofs.lemmas.Option.{same_Some}
use Rattle.cap_words.specs.Words.{W, undef}
use Rattle.cap_words.specs.Seen.{Seen, ActorSlot, UnbornSlot, EventSlot, slot_seen}
use Rattle.cap_words.specs.Frame.{Among}
use Rattle.cap_words.proofs.Same.{word_other}
use Rattle.cap_words.proofs.Places.{get-set_other, set-same}
use Rattle.quad_memory.specs.Image.{RomImage}
use Rattle.instr_table.specs.declared.charge.Quota.{Quota}
use Rattle.instr_table.specs.Types.{Grows}
use Rattle.instr_table.specs.Event.{Sent, Made, Behaviour as Kept, Effects}
use Rattle.instr_table.specs.Sheet.{Account}
use Rattle.instr_table.specs.Lane.{Lane}
use Rattle.instr_table.specs.Reach.{Every}
use Rattle.instr_table.proofs.ShownWords.{grows-then}
use Rattle.vm_sponsor.specs.declared.amounts.Amounts.{Amounts}
use Rattle.vm_effects.specs.Gathered.{made_words}
use Rattle.vm_turn.specs.declared.journal.Outcome.{Outcome as End}
use Rattle.vm_turn.specs.State.{Message, State, root, println_device, say_device}
use Rattle.vm_turn.specs.Boot.{first_actor}
use Rattle.vm_turn.specs.Actors.{at_actor, resting, settled}
use Rattle.vm_turn.specs.Turn as machine
use Rattle.vm_turn.specs.Turn.{device_of, finish}
use Rattle.vm_turn.specs.Sound.{Sound, FlightSound, IsSentIn}
use Rattle.vm_turn.proofs.Sums.{length-removed}
use Rattle.vm_turn.proofs.Slots.{alike-settled}
use Rattle.vm_turn.proofs.Taken.{every-removed}
use Rattle.hum_meaning.specs.Value.{Value, Behaviour, Answers}
use Rattle.hum_meaning.specs.Action as action
use Rattle.hum_meaning.specs.Deliver.{Configuration, without, numbered_from, drop, replaced, commit}
use Rattle.hum_core.specs.Alike.{Both, Each}
use Rattle.hum_core.specs.TestLists.{Tests}
use Rattle.hum_code.specs.WordLists.{Distinct}
use Rattle.hum_code.specs.Layout.{Layout}
use Rattle.hum_code.specs.Stands.{MadeStands, SentStands, NextStands, EffectsStand}
use Rattle.hum_code.proofs.Standing.{Longer, longer_same, longer_by, stands_later}
use Rattle.hum_code.specs.Program.{HoldsProgram}
use Rattle.hum_sim.specs.Standing.{AnswersStand, ActorStands, MessageStands, LaneStands, IsFirst, StateStands}
use Rattle.vm_turn.specs.Alone.{RootAlone}
use Rattle.hum_sim.proofs.Lists.{every_both, every_with, removed_only, get_append_left, one_there, each_append, each_at, each_by, each_length, each_set}
use Rattle.hum_sim.proofs.Pending.{Pending, message_number, message_append, message_without, first_append, first_without, each_without}
use Rattle.hum_sim.proofs.Stores.{next_code, next_state, resting_seen, Unborn, idle_other, idle_grows, idle_seen, made_among}
use Rattle.vm_turn.proofs.Actors.{actor-other, resting-grows}
use Rattle.hum_sim.proofs.Stores.{code_out_alike}
use Rattle.hum_sim.proofs.Growth.{answers_later, actor_later, message_later, lane_later}
use Rattle.hum_sim.proofs.Lanes.{distinct_by, at_among, both_once, is_actor, lane_stands, others_numbers, others_actors, actor_among}
use Rattle.hum_sim.proofs.Dispatches.{Targets}

abbrev Gathered : Type 0
Gathered = action.Effects Tests

-- ---- behaviours

abbrev after : {V : Type 0} → V → Option V → V
after b None = b
after b (Some v) = v

replaced_is : (bs : List (Behaviour Tests)) (k : ℕ) (b : Value Tests) (o : Option (Value Tests)) → slice_get bs k ≡ Some (Answers b) → replaced bs k o ≡ slice_set bs k (Answers (after b o))
replaced_is bs k b None e = sym (set-same bs k (Answers b) e)
replaced_is bs k b (Some v) e = refl

-- those of created actors
each_made : (R : Value Tests → Made → Type 0) (S : W → Behaviour Tests → Type 0) (vs : List (Value Tests)) (ms : List Made)
    → ((i : ℕ) (v : Value Tests) (m : Made) → slice_get ms i ≡ Some m → R v m → S m.actor (Answers v)) → Each R vs ms → Each S (made_words ms) (map Answers vs)
each_made R S [] [] f h = tt
each_made R S [] (m ∷ ms) f h = absurd h
each_made R S (v ∷ vs) [] f h = absurd h
each_made R S (v ∷ vs) (m ∷ ms) f h = (f zero v m refl h.0, each_made R S vs ms (λ i u k e. f (suc i) u k e) h.1)

module _ (lay : Layout) (s t : Seen) (roll : List W) (g : Grows s t) (kept : (w a b v : W) → slot_seen s w ≡ Some (EventSlot a b v) → slot_seen t w ≡ Some (EventSlot a b v)) where
  -- messages that were sent, which take the same numbers
  numbered_as : (n k : ℕ) → n ≡ k → (ps : List (ℕ × Value Tests)) (ms : List Sent) → Every (IsSentIn s) ms → Every (λ (m : Sent). m.sponsor ≡ root) ms
      → Each (SentStands lay s roll) ps ms → Each (MessageStands lay t roll) (machine.numbered_from n ms) (numbered_from k ps)
  numbered_as n k e [] [] a b h = tt
  numbered_as n k e [] (m ∷ ms) a b h = absurd h
  numbered_as n k e (p ∷ ps) [] a b h = absurd h
  numbered_as n k e (p ∷ ps) (m ∷ ms) a b h = (
    record {
      number = e;
      target = m.target;
      content = m.content;
      there = kept m.event root m.target m.content (subst (λ (w : W). slot_seen s m.event ≡ Some (EventSlot w m.target m.content)) b.0 a.0);
      target_is = h.0.0;
      value = stands_later lay s t roll roll g (longer_same roll) m.content p.1 h.0.1;
    },
    numbered_as (suc n) (suc k) (ap suc e) ps ms a.1 b.1 h.1,
  )

-- the behaviour that was gathered, or else the one that the actor had
next_answers : (lay : Layout) (s t : Seen) (r r' : List W) → Grows s t → Longer r r' → (a code state : W) (v : Value Tests) (o : Option (Value Tests)) (b : Option Kept)
    → AnswersStand lay s r a code state v → Both (NextStands lay s r') o b → AnswersStand lay t r' a (next_code b code) (next_state b state) (after v o)
next_answers lay s t r r' g h a code state v None None x n = answers_later lay s t r r' g h a code state v x
next_answers lay s t r r' g h a code state v None (Some b) x n = absurd n
next_answers lay s t r r' g h a code state v (Some u) None x n = absurd n
next_answers lay s t r r' g h a code state v (Some u) (Some b) x n = inl (n.1, stands_later lay s t r' r' g (longer_same r') b.state u n.0)

module _ (lay : Layout) (rom_of : RomImage) (program : HoldsProgram rom_of.boot rom_of.cells lay) {grant : Amounts} (spent : Spending) (s : State) (c : Configuration Tests)
    (ok : Sound grant s) (h : StateStands lay rom_of.cells spent s c) (i : ℕ) (l : Lane) (at : slice_get s.flight i ≡ Some l)
    (x : Effects) (e : Gathered) (unborn : Unborn s.store x.created) (sents : Every (IsSentIn s.store) x.sent) (under : Every (λ (m : Sent). m.sponsor ≡ root) x.sent)
    (eff : EffectsStand lay s.roll s.store e x) (spent' : Spending) (spends : (k : ℕ) → (k ≡ l.number → ⊥) → spent' k ≡ spent k) where
  abbrev pub f : LaneStands lay s.store s.roll c spent l
  f = lane_stands lay rom_of program spent s c ok h i l at

  abbrev a : W
  a = l.own.actor

  abbrev mid : Seen
  mid = at_actor s.store a (resting x.next)

  abbrev store' : Seen
  store' = settled s.store a x

  abbrev roll' : List W
  roll' = s.roll ++ made_words x.created

  abbrev flight' : List Lane
  flight' = remove s.flight i

  abbrev c' : Configuration Tests
  c' = commit c f.message e

  -- ---- its actor

  target : ActorStands lay s.store s.roll s.flight a (Answers f.behaviour)
  target =
      let b = each_at (ActorStands lay s.store s.roll s.flight) s.roll c.behaviours f.message.target a h.behaviours.actors f.actor_is in
      subst (ActorStands lay s.store s.roll s.flight a) (same_Some b.0 (Answers f.behaviour) (sym b.1 ∙ f.behaves)) b.2

  -- no actor of the roll was created by it
  not_made : (w : W) → Among w s.roll → Among w (made_words x.created) → ⊥
  not_made w on m = let y = is_actor lay rom_of program spent s c ok h w on in let z = y.3 in let u = unborn.are w m in absurd cc

  a_on : Among a s.roll
  a_on = actor_among lay rom_of program spent s c ok h i l at

  mid_unborn : Unborn mid x.created
  mid_unborn = record {
    are = λ w m. actor-other s.store a (resting x.next) w (λ d. not_made a a_on (subst (λ (v : W). Among v (made_words x.created)) d m)) ∙ unborn.are w m;
    once = unborn.once;
  }

  other_there : (w : W) → (w ≡ a → ⊥) → (Among w (made_words x.created) → ⊥) → slot_seen store' w ≡ slot_seen s.store w
  other_there w d n = idle_other mid x.created w mid_unborn n ∙ actor-other s.store a (resting x.next) w d

  own_there : slot_seen store' a ≡ Some (ActorSlot (next_code x.next target.code) (next_state x.next target.state) undef)
  own_there = idle_other mid x.created a mid_unborn (not_made a a_on) ∙ resting_seen s.store a target.code target.state target.mark x.next target.there

  grows : Grows s.store store'
  grows = grows-then s.store mid store' (resting-grows s.store a x.next) (idle_grows mid x.created mid_unborn)

  rom_same : store'.rom ≡ s.store.rom
  rom_same = (alike-settled s.store a x).rom_is

  longer : Longer s.roll roll'
  longer = longer_by s.roll (made_words x.created)

  event_there : (w sponsor target content : W) → slot_seen s.store w ≡ Some (EventSlot sponsor target content) → slot_seen store' w ≡ Some (EventSlot sponsor target content)
  event_there w sponsor to content k =
      other_there w
      (λ d. let y = target.there in let q : slot_seen s.store w ≡ slot_seen s.store a = ap (λ (v : W). slot_seen s.store v) d in absurd cc)
      (λ m. let u = unborn.are w m in absurd cc)
      ∙ k

  -- ---- actors

  on_roll : Distinct s.roll
  on_roll = distinct_by s.roll h.behaviours.once

  an_actor : (j : ℕ) (u : W) (b : Behaviour Tests) → (j ≡ f.message.target → ⊥) → slice_get s.roll j ≡ Some u → ActorStands lay s.store s.roll s.flight u b → ActorStands lay store' roll' flight' u b
  an_actor j u b d there y =
      let apart : u ≡ a → ⊥ = λ q. d (on_roll.once j f.message.target u there (f.actor_is ∙ ap Some (sym q))) in
      actor_later lay s.store store' s.roll roll' grows longer s.flight flight' u b (other_there u apart (not_made u (at_among s.roll j u there)))
      (λ r. every_with (λ (k : Lane). k.own.actor ≡ u → ⊥) s.flight i l at r (λ q. apart (sym q))) y

  its_actor : ActorStands lay store' roll' flight' a (Answers (after f.behaviour e.next))
  its_actor = record {
    code = next_code x.next target.code;
    state = next_state x.next target.state;
    mark = undef;
    there = own_there;
    idle = λ r. refl;
    behaves = (target.behaves.0, next_answers lay s.store store' s.roll roll' grows longer a target.code target.state f.behaviour e.next x.next target.behaves.1 eff.next);
  }

  no_device : (w : W) → slot_seen s.store w ≡ Some UnbornSlot → device_of w ≡ None
  no_device w u =
      let on : List W → Type 0 = λ (ws : List W). (v : W) → Among v ws → (slot_seen s.store v ≡ Some UnbornSlot → ⊥) in
      let all : on s.roll = λ v m k. let y = is_actor lay rom_of program spent s c ok h v m in let z = y.3 in absurd cc in
      let front : on (first_actor ∷ println_device ∷ say_device ∷ h.behaviours.front.0) = subst on h.behaviours.front.1 all in
      let one : w ≡ println_device → ⊥ = λ d. front println_device (inr (inl refl)) (ap (λ (v : W). slot_seen s.store v) (sym d) ∙ u) in
      let two : w ≡ say_device → ⊥ = λ d. front say_device (inr (inr (inl refl))) (ap (λ (v : W). slot_seen s.store v) (sym d) ∙ u) in
      rw (word_other w println_device one, word_other w say_device two) refl

  made_actor : (j : ℕ) (v : Value Tests) (m : Made) → slice_get x.created j ≡ Some m → MadeStands lay s.store roll' v m → ActorStands lay store' roll' flight' m.actor (Answers v)
  made_actor j v m there y = record {
    code = m.code;
    state = m.state;
    mark = undef;
    there = idle_seen mid x.created j m mid_unborn there;
    idle = λ r. refl;
    behaves = (no_device m.actor (unborn.are m.actor (made_among x.created j m there)), inl (y.1, stands_later lay s.store store' roll' roll' grows (longer_same roll') m.state v y.0));
  }

  actors' : Each (ActorStands lay store' roll' flight') roll' c'.behaviours
  actors' =
      let first = each_set (ActorStands lay s.store s.roll s.flight) (ActorStands lay store' roll' flight') s.roll c.behaviours f.message.target a (Answers (after f.behaviour e.next)) f.actor_is
      an_actor its_actor h.behaviours.actors in
      let second = each_made (MadeStands lay s.store roll') (ActorStands lay store' roll' flight') e.created x.created made_actor eff.created in
      each_append (ActorStands lay store' roll' flight') s.roll (replaced c.behaviours f.message.target e.next) (made_words x.created) (map Answers e.created)
      (subst (Each (ActorStands lay store' roll' flight') s.roll) (sym (replaced_is c.behaviours f.message.target f.behaviour e.next f.behaves)) first) second

  -- ---- messages

  a_message : (j : ℕ) (y : Message) (q : Pending) → slice_get s.messages j ≡ Some y → MessageStands lay s.store s.roll y q → MessageStands lay store' roll' y q
  a_message j y q there v = message_later lay s.store store' s.roll roll' grows longer y q (event_there y.event root v.target v.content v.there ∙ sym v.there) v

  same_number : l.number ≡ f.message.number
  same_number = sym (message_number l.number c.pending f.message f.pending)

  messages' : Each (MessageStands lay store' roll') (machine.without l.number s.messages ++ machine.numbered_from s.next_number x.sent) c'.pending
  messages' =
      let stay = each_by (MessageStands lay s.store s.roll) (MessageStands lay store' roll') s.messages c.pending a_message h.messages in
      let left = each_without (MessageStands lay store' roll') (λ y q r. r.number) l.number s.messages c.pending stay in
      each_append (MessageStands lay store' roll') (machine.without l.number s.messages) (without f.message.number c.pending) (machine.numbered_from s.next_number x.sent) (numbered_from c.next_number e.sent)
      (subst (λ (n : ℕ). Each (MessageStands lay store' roll') (machine.without l.number s.messages) (without n c.pending)) same_number left)
      (numbered_as lay s.store store' roll' grows event_there s.next_number c.next_number h.next_number e.sent x.sent sents under eff.sent)

  -- ---- other events

  other : (k : Lane) → (k.number ≡ l.number → ⊥) × (k.own.actor ≡ a → ⊥) → LaneStands lay s.store s.roll c spent k → LaneStands lay store' roll' c' spent' k
  other k d y =
      let other_pending : y.message.number ≡ f.message.number → ⊥ = λ q. d.0 (sym (message_number k.number c.pending y.message y.pending) ∙ (q ∙ sym same_number)) in
      let other_place : y.message.target ≡ f.message.target → ⊥ = λ q. d.1 (one_there s.roll f.message.target k.own.actor a (ap (λ (n : ℕ). slice_get s.roll n) (sym q) ∙ y.actor_is) f.actor_is) in
      lane_later lay s.store store' s.roll roll' grows longer c c' spent spent' k rom_same y
      (message_append k.number (without f.message.number c.pending) (numbered_from c.next_number e.sent) y.message (message_without k.number f.message.number c.pending y.message y.pending other_pending))
      (first_append y.message.target (without f.message.number c.pending) (numbered_from c.next_number e.sent) y.message (first_without y.message.target f.message.number c.pending y.message y.first other_pending))
      (get_append_left (replaced c.behaviours f.message.target e.next) (map Answers e.created) y.message.target (Answers y.behaviour)
      (ap (λ (bs : List (Behaviour Tests)). slice_get bs y.message.target) (replaced_is c.behaviours f.message.target f.behaviour e.next f.behaves)
      ∙ (get-set_other c.behaviours f.message.target y.message.target (Answers (after f.behaviour e.next)) other_place ∙ y.behaves)))
      (spends k.number d.0)

  pub finish_stands : (end : End) (sheet : List Account) (out : Option Quota) → RootAlone sheet out
      → FlightSound (record (finish s i l sheet x end) { out_of = out }) → Targets (record (finish s i l sheet x end) { out_of = out })
      → StateStands lay rom_of.cells spent' (record (finish s i l sheet x end) { out_of = out }) c'
  finish_stands end sheet out alone events targets = record {
    rom_is = rom_same ∙ h.rom_is;
    behaviours = record {
      actors = actors';
      once = both_once s.roll (made_words x.created) h.behaviours.once unborn.once not_made;
      front = (h.behaviours.front.0 ++ made_words x.created, ap (λ (ws : List W). ws ++ made_words x.created) h.behaviours.front.1);
    };
    messages = messages';
    next_number = let n = each_length (SentStands lay s.store roll') e.sent x.sent eff.sent in omega (arith, n, h.next_number);
    output = h.output;
    flight = record {
      events = every_both (λ (k : Lane). (k.number ≡ l.number → ⊥) × (k.own.actor ≡ a → ⊥)) (LaneStands lay s.store s.roll c spent) (LaneStands lay store' roll' c' spent') other flight'
          (every_both (λ (k : Lane). k.number ≡ l.number → ⊥) (λ (k : Lane). k.own.actor ≡ a → ⊥) (λ (k : Lane). (k.number ≡ l.number → ⊥) × (k.own.actor ≡ a → ⊥)) (λ k p q. (p, q)) flight'
          (others_numbers lay rom_of program spent s c ok h i l at) (others_actors lay rom_of program spent s c ok h i l at))
          (every-removed (LaneStands lay s.store s.roll c spent) s.flight i h.flight.events);
      sound = events;
      targets = targets;
      room = let k = length-removed s.flight i l at in omega (arith, k, h.flight.room);
      in_turn = λ one. subst (Every (IsFirst lay c')) (sym (removed_only s.flight i l (let r = h.flight.room in omega (arith, one, r)) at)) tt;
    };
    root = alone;
    code_out = code_out_alike s.store store' (alike-settled s.store a x) h.code_out;
  }

-- nothing takes place
pub nothing_commits : (c : Configuration Tests) (p : Pending) → commit c p action.no_effects ≡ drop c p
nothing_commits c p = rw (append-nil c.behaviours, append-nil (without p.number c.pending), add-zero c.next_number) refl
