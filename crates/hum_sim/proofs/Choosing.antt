-- The message that is dispatched is the first pending one to its target.
use Rattle.vm_turn.specs.Spending.{Spending}
use Rattle.std.proofs.Common.{◌≡◌, ◌⊎◌, inl, inr, refl, ap, sym, subst, ◌∙◌, ℕ, suc, ◌≤◌, Bool, true, false, List, [], ◌∷◌, Option, Some, None, slice_get, nat_eq, arith}
use Rattle.std.specs.Prelude.{◌&&◌, not}
use Rattle.std.proofs.lemmas.Option.{same_Some}
use Rattle.cap_words.specs.Words.{W, undef}
use Rattle.cap_words.specs.Seen.{Seen, Slot, ActorSlot, EventSlot, slot_seen}
use Rattle.quad_memory.specs.Image.{RomImage}
use Rattle.instr_table.specs.Event.{Sent}
use Rattle.instr_table.specs.Sheet.{runs}
use Rattle.instr_table.specs.Lane.{Lane}
use Rattle.vm_sponsor.specs.declared.amounts.Amounts.{Amounts}
use Rattle.vm_turn.specs.State.{Message, State, root}
use Rattle.vm_turn.specs.Actors.{sent_in, sent_at, is_idle_in, is_idle}
use Rattle.vm_turn.specs.Turn.{is_in_flight, can_go, dispatchable}
use Rattle.vm_turn.specs.Sound.{Sound}
use Rattle.vm_turn.specs.Laws.{IsNext}
use Rattle.vm_turn.proofs.Order.{is-next}
use Rattle.vm_turn.proofs.FlightActors.{dispatchable-idle}
use Rattle.hum_meaning.specs.Value.{Behaviour}
use Rattle.hum_meaning.specs.Deliver.{Configuration}
use Rattle.hum_meaning.specs.After.{message_of}
use Rattle.hum_meaning.specs.Sound.{Rising}
use Rattle.hum_core.specs.TestLists.{Tests}
use Rattle.hum_code.specs.Layout.{Layout}
use Rattle.hum_code.specs.Program.{HoldsProgram}
use Rattle.hum_sim.specs.Standing.{first_to, ActorStands, MessageStands, StateStands}
use Rattle.vm_turn.specs.Roll.{NoEventOf}
use Rattle.hum_sim.proofs.Lists.{tested, none_inside, each_at, each_from, one_there}
use Rattle.hum_sim.proofs.Pending.{Pending, rising_as, message_at, first_at, head_at}
use Rattle.vm_turn.proofs.Actors.{idle-there}
use Rattle.vm_turn.proofs.Root.{root-runs}
use Rattle.hum_sim.proofs.Lanes.{lane_stands, lane_in}

-- an event of that number is in flight
flight_at : (n : ℕ) (ls : List Lane) → is_in_flight n ls ≡ true → (i : ℕ) × (k : Lane) × (slice_get ls i ≡ Some k) × (k.number ≡ n)
flight_at n [] h = cc
flight_at n (l ∷ ls) h = by (tested l.number n) (λ e. flight_at n ls e)
  where
    by : ((nat_eq l.number n ≡ true) × (l.number ≡ n)) ⊎ ((nat_eq l.number n ≡ false) × (l.number ≡ n → ⊥))
        → (is_in_flight n ls ≡ true → (i : ℕ) × (k : Lane) × (slice_get ls i ≡ Some k) × (k.number ≡ n))
        → (i : ℕ) × (k : Lane) × (slice_get (l ∷ ls) i ≡ Some k) × (k.number ≡ n)
    by (inl t) rest = (0, l, refl, t.1)
    by (inr f) rest = let r = rest (rw f.0 at h) in (suc r.0, r.1, r.2, r.3)

-- a message's target and content, where its event is there
pub sent_is : (s : Seen) (w sponsor target content : W) → slot_seen s w ≡ Some (EventSlot sponsor target content)
    → sent_at s w ≡ record { event = w; sponsor = sponsor; target = target; content = content }
sent_is s w sponsor target content h = ap (λ (o : Option Slot). sent_in w o) h

all_true : (a b c : Bool) → a ≡ false → b ≡ true → c ≡ true → (not a && b && c) ≡ true
all_true a b c p q r = rw (p, q, r) refl

module _ (lay : Layout) (rom_of : RomImage) (program : HoldsProgram rom_of.boot rom_of.cells lay) {grant : Amounts} (spent : Spending) (s : State) (c : Configuration Tests)
    (ok : Sound grant s) (h : StateStands lay rom_of.cells spent s c) where
  pub rising : Rising 0 s.next_number c.pending
  rising = rising_as (MessageStands lay s.store s.roll) (λ m p x. x.number) 0 s.next_number s.messages c.pending h.messages ok.rising

  -- a message to an idle actor can go
  module _ (running : s.out_of ≡ None) where
    pub idle_goes : (j : ℕ) (y : Message) (q : Pending) → slice_get c.pending j ≡ Some q → (v : MessageStands lay s.store s.roll y q)
        → (code state : W) → slot_seen s.store v.target ≡ Some (ActorSlot code state undef) → can_go s.store s.sheet s.flight y ≡ true
    idle_goes j y q at v code state idle =
        let e = sent_is s.store y.event root v.target v.content v.there in
        all_true (is_in_flight y.number s.flight) (is_idle s.store (sent_at s.store y.event).target) (runs s.sheet (sent_at s.store y.event).sponsor)
        (by (is_in_flight y.number s.flight) refl)
        (ap (λ (x : Sent). is_idle s.store x.target) e ∙ ap is_idle_in idle)
        (ap (λ (x : Sent). runs s.sheet x.sponsor) e ∙ root-runs s.sheet s.out_of h.root running)
      where
        by : (b : Bool) → is_in_flight y.number s.flight ≡ b → is_in_flight y.number s.flight ≡ false
        by false e = e
        by true e =
            let k = flight_at y.number s.flight e in
            let f = lane_stands lay rom_of program spent s c ok h k.0 k.1 k.2 in
            let b = (lane_in lay rom_of program spent s c ok h k.0 k.1 k.2).busy in
            let found : message_of k.1.number c.pending ≡ Some q = ap (λ (n : ℕ). message_of n c.pending) (k.3 ∙ v.number) ∙ message_at 0 s.next_number c.pending j q rising at in
            let same : f.message ≡ q = same_Some f.message q (sym f.pending ∙ found) in
            let target : k.1.own.actor ≡ v.target = one_there s.roll q.target k.1.own.actor v.target (ap (λ (x : Pending). slice_get s.roll x.target) (sym same) ∙ f.actor_is) v.target_is in
            let d : slot_seen s.store k.1.own.actor ≡ slot_seen s.store v.target = ap (λ (w : W). slot_seen s.store w) target in
            absurd cc

    -- where nothing is in flight each can go
    pub all_go : s.flight ≡ [] → (j : ℕ) (y : Message) (q : Pending) → slice_get c.pending j ≡ Some q → MessageStands lay s.store s.roll y q → can_go s.store s.sheet s.flight y ≡ true
    all_go none j y q at v =
        let a = each_at (ActorStands lay s.store s.roll s.flight) s.roll c.behaviours q.target v.target h.behaviours.actors v.target_is in
        let x = a.2 in
        let mark : x.mark ≡ undef = x.idle (subst (λ (ls : List Lane). NoEventOf v.target ls) (sym none) tt) in
        idle_goes j y q at v x.code x.state (x.there ∙ ap (λ (w : W). Some (ActorSlot x.code x.state w)) mark)

    module _ (m : Message) (chosen : dispatchable s ≡ Some m) where
      pub next : IsNext s m
      next = is-next s m ok chosen

      abbrev found : (p : Pending) × (slice_get c.pending next.place ≡ Some p) × MessageStands lay s.store s.roll m p
      found = each_at (MessageStands lay s.store s.roll) s.messages c.pending next.place m h.messages next.waits

      abbrev pub p : Pending
      p = found.0

      pub stands : MessageStands lay s.store s.roll m p
      stands = found.2

      pub sent : sent_at s.store m.event ≡ record { event = m.event; sponsor = root; target = stands.target; content = stands.content }
      sent = sent_is s.store m.event root stands.target stands.content stands.there

      pub pending : message_of m.number c.pending ≡ Some p
      pending = ap (λ (n : ℕ). message_of n c.pending) stands.number ∙ message_at 0 s.next_number c.pending next.place p rising found.1

      -- its target is idle
      pub idle : (code : W) × (state : W) × (slot_seen s.store stands.target ≡ Some (ActorSlot code state undef))
      idle =
          let i = dispatchable-idle s m chosen in
          idle-there (slot_seen s.store stands.target) (sym (ap (λ (x : Sent). is_idle s.store x.target) sent) ∙ i)

      pub first : first_to p.target c.pending ≡ Some p
      first = first_at 0 s.next_number c.pending next.place p rising found.1 least
        where
          least : (j : ℕ) (q : Pending) → slice_get c.pending j ≡ Some q → q.target ≡ p.target → p.number ≤ q.number
          least j q at e =
              let y = each_from (MessageStands lay s.store s.roll) s.messages c.pending j q h.messages at in
              let v = y.2 in
              let target : v.target ≡ stands.target = one_there s.roll p.target v.target stands.target (ap (λ (n : ℕ). slice_get s.roll n) (sym e) ∙ v.target_is) stands.target_is in
              let goes = idle_goes j y.0 q at v idle.0 idle.1 (ap (λ (w : W). slot_seen s.store w) target ∙ idle.2) in
              let l = next.least j y.0 y.1 goes in
              omega (arith, l, stands.number, v.number)

      -- with one lane, of all that are pending
      pub first_of_all : s.lanes ≡ 1 → slice_get c.pending 0 ≡ Some p
      first_of_all one = head_at 0 s.next_number c.pending next.place p rising found.1 least
        where
          none : s.flight ≡ []
          none = let f = next.free in none_inside s.flight (omega (arith, f, one))

          least : (j : ℕ) (q : Pending) → slice_get c.pending j ≡ Some q → p.number ≤ q.number
          least j q at =
              let y = each_from (MessageStands lay s.store s.roll) s.messages c.pending j q h.messages at in
              let v = y.2 in
              let l = next.least j y.0 y.1 (all_go none j y.0 q at v) in
              omega (arith, l, stands.number, v.number)

      -- its target's actor
      pub target_stands : (b : Behaviour Tests) × (slice_get c.behaviours p.target ≡ Some b) × ActorStands lay s.store s.roll s.flight stands.target b
      target_stands = each_at (ActorStands lay s.store s.roll s.flight) s.roll c.behaviours p.target stands.target h.behaviours.actors stands.target_is
