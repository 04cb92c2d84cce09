-- What changes of actors leave of a store.
use Rattle.std.proofs.Common.{◌≡◌, inl, inr, refl, ap, sym, subst, ◌∙◌, ℕ, zero, suc, ◌≤◌, List, [], ◌∷◌, Option, Some, None, slice_get, arith}
use Rattle.std.specs.Prelude.{pos}
use Rattle.std.proofs.lemmas.Option.{none-some, same_Some, slice_get_within}
use Rattle.cap_words.specs.Words.{W, Fix, Rom, Ram, Cap, undef}
use Rattle.cap_words.specs.Store.{cap_place}
use Rattle.cap_words.specs.declared.word.Quad.{Quad}
use Rattle.instr_table.specs.Code.{fetched_in}
use Rattle.instr_table.specs.Making.{NoCodeInRam}
use Rattle.vm_turn.proofs.Slots.{Alike}
use Rattle.vm_turn.proofs.Actors.{same-grows}
use Rattle.cap_words.specs.Seen.{Seen, open_in, Slot, OpenSlot, ActorSlot, UnbornSlot, EventSlot, SponsorSlot, SpentSlot, slot_seen, altered}
use Rattle.cap_words.specs.Frame.{Among}
use Rattle.cap_words.proofs.Places.{get-set_same, get-set_other}
use Rattle.instr_table.specs.Types.{AnActor, look_up, opaque_in, Grows}
use Rattle.instr_table.specs.Event.{Made, Behaviour}
use Rattle.instr_table.proofs.ShownWords.{grows-then, changes-keep}
use Rattle.vm_effects.specs.Actors.{all_idle}
use Rattle.vm_effects.specs.Gathered.{made_words}
use Rattle.vm_turn.specs.Actors.{remade, at_actor, busy, resting}
use Rattle.vm_turn.specs.Sound.{times}
use Rattle.vm_turn.proofs.Events.{times-cons, times-head, times-among}

-- ---- seen after a change

-- an actor that is there is changed
pub actor_is : (s : Seen) (a code state mark : W) (change : W → W → Slot) → slot_seen s a ≡ Some (ActorSlot code state mark)
    → at_actor s a change ≡ altered s (cap_place a) (change code state)
actor_is s (Fix k) code state mark change h = cc
actor_is s (Rom k) code state mark change h = cc
actor_is s (Ram k) code state mark change h = cc
actor_is s (Cap k) code state mark change h = ap (λ (o : Option Slot). remade o change (Cap k) s) h

pub altered_same : (s : Seen) (a : W) (x y : Slot) → slot_seen s a ≡ Some x → slot_seen (altered s (cap_place a) y) a ≡ Some y
altered_same s (Fix k) x y h = cc
altered_same s (Rom k) x y h = cc
altered_same s (Ram k) x y h = cc
altered_same s (Cap k) x y h = get-set_same s.slots k y (slice_get_within s.slots k x h)

pub altered_other : (s : Seen) (a w : W) (x y : Slot) → slot_seen s a ≡ Some x → (w ≡ a → ⊥) → slot_seen (altered s (cap_place a) y) w ≡ slot_seen s w
altered_other s (Fix k) w x y h f = cc
altered_other s (Rom k) w x y h f = cc
altered_other s (Ram k) w x y h f = cc
altered_other s (Cap k) (Fix n) x y h f = refl
altered_other s (Cap k) (Rom n) x y h f = refl
altered_other s (Cap k) (Ram n) x y h f = refl
altered_other s (Cap k) (Cap n) x y h f = get-set_other s.slots k n y (λ e. f (ap Cap e))

-- an actor stays one
pub altered_grows : (s : Seen) (a : W) (x : Slot) (code state mark : W) → slot_seen s a ≡ Some x → opaque_in (Some x) ≡ Some AnActor
    → Grows s (altered s (cap_place a) (ActorSlot code state mark))
altered_grows s (Fix k) x code state mark h o = cc
altered_grows s (Rom k) x code state mark h o = cc
altered_grows s (Ram k) x code state mark h o = cc
altered_grows s (Cap k) (OpenSlot q) code state mark h o = cc
altered_grows s (Cap k) (ActorSlot c t m) code state mark h o = changes-keep s k (ActorSlot c t m) (ActorSlot code state mark) h (refl, refl)
altered_grows s (Cap k) UnbornSlot code state mark h o = changes-keep s k UnbornSlot (ActorSlot code state mark) h (refl, refl)
altered_grows s (Cap k) (EventSlot a b m) code state mark h o = cc
altered_grows s (Cap k) SponsorSlot code state mark h o = cc
altered_grows s (Cap k) SpentSlot code state mark h o = cc

-- what is seen of an actor is shown
pub shown_actor : (s : Seen) (w : W) (x : Slot) → slot_seen s w ≡ Some x → opaque_in (Some x) ≡ Some AnActor → look_up s w ≡ Some AnActor
unfolding look_up
shown_actor s (Fix k) x h o = cc
shown_actor s (Rom k) x h o = cc
shown_actor s (Ram k) x h o = cc
shown_actor s (Cap k) x h o = ap opaque_in h ∙ o

-- ---- busy

pub busy_seen : (s : Seen) (a code state mark : W) (n : ℕ) → slot_seen s a ≡ Some (ActorSlot code state mark)
    → slot_seen (at_actor s a (busy n)) a ≡ Some (ActorSlot code state (Fix (pos n)))
busy_seen s a code state mark n h =
    subst (λ (t : Seen). slot_seen t a ≡ Some (ActorSlot code state (Fix (pos n)))) (sym (actor_is s a code state mark (busy n) h))
    (altered_same s a (ActorSlot code state mark) (ActorSlot code state (Fix (pos n))) h)

-- ---- idle again

abbrev pub next_code : Option Behaviour → W → W
next_code None code = code
next_code (Some b) code = b.code

abbrev pub next_state : Option Behaviour → W → W
next_state None state = state
next_state (Some b) state = b.state

pub resting_is : (next : Option Behaviour) (code state : W) → resting next code state ≡ ActorSlot (next_code next code) (next_state next state) undef
resting_is None code state = refl
resting_is (Some b) code state = refl

pub resting_seen : (s : Seen) (a code state mark : W) (next : Option Behaviour) → slot_seen s a ≡ Some (ActorSlot code state mark)
    → slot_seen (at_actor s a (resting next)) a ≡ Some (ActorSlot (next_code next code) (next_state next state) undef)
resting_seen s a code state mark next h =
    subst (λ (t : Seen). slot_seen t a ≡ Some (ActorSlot (next_code next code) (next_state next state) undef)) (sym (actor_is s a code state mark (resting next) h))
    (altered_same s a (ActorSlot code state mark) (resting next code state) h ∙ ap Some (resting_is next code state))

-- ---- actors that are committed

-- each is not committed, and is there once
pub record Unborn (s : Seen) (ms : List Made) : Type 0 where
  pub are : (w : W) → Among w (made_words ms) → slot_seen s w ≡ Some UnbornSlot
  pub once : (w : W) → times w (made_words ms) ≤ 1

module _ (s : Seen) (m : Made) (ms : List Made) (u : Unborn s (m ∷ ms)) where
  abbrev pub idled : Seen
  idled = altered s (cap_place m.actor) (ActorSlot m.code m.state undef)

  pub not_again : Among m.actor (made_words ms) → ⊥
  not_again a =
      let k = times-among m.actor (made_words ms) a in
      let h = times-head m.actor m.actor (made_words ms) refl in
      let o = u.once m.actor in
      absurd (omega (arith, k, h, o))

  pub rest_unborn : Unborn idled ms
  rest_unborn = record {
    are = λ w a. altered_other s m.actor w UnbornSlot (ActorSlot m.code m.state undef) (u.are m.actor (inl refl)) (λ e. not_again (subst (λ v. Among v (made_words ms)) e a)) ∙ u.are w (inr a);
    once = λ w. let c = times-cons m.actor w (made_words ms) in let o = u.once w in omega (arith, c, o);
  }

pub idle_other : (s : Seen) (ms : List Made) (w : W) → Unborn s ms → (Among w (made_words ms) → ⊥) → slot_seen (all_idle s ms) w ≡ slot_seen s w
idle_other s [] w u f = refl
idle_other s (m ∷ ms) w u f =
    idle_other (idled s m ms u) ms w (rest_unborn s m ms u) (λ a. f (inr a))
    ∙ altered_other s m.actor w UnbornSlot (ActorSlot m.code m.state undef) (u.are m.actor (inl refl)) (λ e. f (inl e))

pub idle_grows : (s : Seen) (ms : List Made) → Unborn s ms → Grows s (all_idle s ms)
idle_grows s [] u = same-grows s
idle_grows s (m ∷ ms) u =
    grows-then s (idled s m ms u) (all_idle (idled s m ms u) ms)
    (altered_grows s m.actor UnbornSlot m.code m.state undef (u.are m.actor (inl refl)) refl)
    (idle_grows (idled s m ms u) ms (rest_unborn s m ms u))

pub idle_seen : (s : Seen) (ms : List Made) (i : ℕ) (m : Made) → Unborn s ms → slice_get ms i ≡ Some m → slot_seen (all_idle s ms) m.actor ≡ Some (ActorSlot m.code m.state undef)
idle_seen s [] i m u e = absurd (none-some m e)
idle_seen s (k ∷ ms) zero m u e =
    subst (λ (x : Made). slot_seen (all_idle s (k ∷ ms)) x.actor ≡ Some (ActorSlot x.code x.state undef)) (same_Some k m e)
    (idle_other (idled s k ms u) ms k.actor (rest_unborn s k ms u) (not_again s k ms u)
    ∙ altered_same s k.actor UnbornSlot (ActorSlot k.code k.state undef) (u.are k.actor (inl refl)))
idle_seen s (k ∷ ms) (suc i) m u e = idle_seen (idled s k ms u) ms i m (rest_unborn s k ms u) e

pub made_among : (ms : List Made) (i : ℕ) (m : Made) → slice_get ms i ≡ Some m → Among m.actor (made_words ms)
made_among [] i m e = absurd (none-some m e)
made_among (k ∷ ms) zero m e = inl (ap (λ (x : Made). x.actor) (sym (same_Some k m e)))
made_among (k ∷ ms) (suc i) m e = inr (made_among ms i m e)

-- ---- code

-- no code comes into RAM where no readable cell comes
pub code_out_alike : (s t : Seen) → Alike s t → NoCodeInRam s → NoCodeInRam t
code_out_alike s t a out n = by (open_in (slice_get t.slots n)) refl
  where
    by : (o : Option Quad) → open_in (slice_get t.slots n) ≡ o → fetched_in o ≡ None
    by None e = refl
    by (Some q) e = sym (ap fetched_in (a.cells_of n q e)) ∙ out n
