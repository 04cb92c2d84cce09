-- What is so of an event in flight in a state that stands.
use Rattle.vm_turn.specs.Spending.{Spending}
use Rattle.std.proofs.Common.{◌≡◌, ◌⊎◌, inl, inr, refl, ap, sym, subst, ◌∙◌, ℕ, zero, suc, ◌≤◌, List, [], ◌∷◌, ◌++◌, length, Option, Some, slice_get, arith}
use Rattle.std.specs.Prelude.{pos, remove}
use Rattle.std.proofs.lemmas.Option.{none-some, same_Some}
use Rattle.cap_words.specs.Words.{W, Fix}
use Rattle.cap_words.specs.Seen.{Seen, Slot, ActorSlot, UnbornSlot, slot_seen}
use Rattle.cap_words.specs.Frame.{Among}
use Rattle.quad_memory.specs.Image.{RomImage}
use Rattle.instr_table.specs.Types.{AnActor, look_up}
use Rattle.instr_table.specs.Lane.{Lane}
use Rattle.instr_table.specs.Reach.{Every}
use Rattle.vm_sponsor.specs.declared.amounts.Amounts.{Amounts}
use Rattle.instr_table.specs.Event.{Sent}
use Rattle.vm_turn.specs.State.{State, root}
use Rattle.vm_turn.specs.Sound.{Sound, StandsIn, Other, numbers, times, created_by}
use Rattle.vm_turn.proofs.Sums.{sum-at, how_often}
use Rattle.vm_turn.proofs.Events.{times-cons, times-head, times-among}
use Rattle.vm_turn.proofs.Taken.{every-get, every-removed}
use Rattle.vm_turn.proofs.Numbers.{rest-other}
use Rattle.hum_meaning.specs.Value.{Value, Behaviour}
use Rattle.hum_meaning.specs.Action.{no_effects}
use Rattle.hum_meaning.specs.Deliver.{Configuration, respond}
use Rattle.hum_core.specs.Alike.{Each}
use Rattle.hum_core.specs.TestLists.{Tests, tests_language}
use Rattle.hum_code.specs.WordLists.{Distinct}
use Rattle.hum_code.specs.Comes.{Setting, roll_with}
use Rattle.hum_code.specs.Layout.{Layout}
use Rattle.hum_code.specs.Emission.{Emission}
use Rattle.hum_code.specs.Ending.{DeliveryOutcome, AreActors, FollowsDelivery}
use Rattle.hum_code.proofs.Law.{events_follow, openings_follow}
use Rattle.hum_code.proofs.Programs.{messages_under_own}
use Rattle.hum_code.specs.Program.{HoldsProgram}
use Rattle.hum_sim.specs.Standing.{AnswersStand, ActorStands, LaneStands, StateStands}
use Rattle.hum_sim.proofs.Lists.{every_both, each_left}
use Rattle.hum_sim.proofs.Stores.{shown_actor}
use Rattle.vm_turn.proofs.Actors.{is-among, among-times}

-- ---- words that are there once

distinct_times : (ws : List W) → ((w : W) → times w ws ≤ 1) → (i j : ℕ) (w : W) → slice_get ws i ≡ Some w → slice_get ws j ≡ Some w → i ≡ j
distinct_times [] f i j w a b = absurd (none-some w a)
distinct_times (v ∷ ws) f zero zero w a b = refl
distinct_times (v ∷ ws) f zero (suc j) w a b = absurd (twice v w ws (same_Some v w a) (there ws j w b) (f w))
  where
    there : (ws : List W) (j : ℕ) (w : W) → slice_get ws j ≡ Some w → Among w ws
    there [] j w b = absurd (none-some w b)
    there (u ∷ ws) zero w b = inl (sym (same_Some u w b))
    there (u ∷ ws) (suc j) w b = inr (there ws j w b)

    twice : (v w : W) (ws : List W) → v ≡ w → Among w ws → times w (v ∷ ws) ≤ 1 → ⊥
    twice v w ws e a o = let k = times-among w ws a in let h = times-head v w ws e in absurd (omega (arith, k, h, o))
distinct_times (v ∷ ws) f (suc i) zero w a b = absurd (twice v w ws (same_Some v w b) (there ws i w a) (f w))
  where
    there : (ws : List W) (j : ℕ) (w : W) → slice_get ws j ≡ Some w → Among w ws
    there [] j w b = absurd (none-some w b)
    there (u ∷ ws) zero w b = inl (sym (same_Some u w b))
    there (u ∷ ws) (suc j) w b = inr (there ws j w b)

    twice : (v w : W) (ws : List W) → v ≡ w → Among w ws → times w (v ∷ ws) ≤ 1 → ⊥
    twice v w ws e a o = let k = times-among w ws a in let h = times-head v w ws e in absurd (omega (arith, k, h, o))
distinct_times (v ∷ ws) f (suc i) (suc j) w a b = ap suc (distinct_times ws (λ u. let c = times-cons v u ws in let o = f u in omega (arith, c, o)) i j w a b)

pub distinct_by : (ws : List W) → ((w : W) → times w ws ≤ 1) → Distinct ws
distinct_by ws f = record { once = distinct_times ws f }

pub at_among : (ws : List W) (i : ℕ) (w : W) → slice_get ws i ≡ Some w → Among w ws
at_among [] i w e = absurd (none-some w e)
at_among (v ∷ ws) zero w e = inl (sym (same_Some v w e))
at_among (v ∷ ws) (suc i) w e = inr (at_among ws i w e)

pub every_among : (P : W → Type 0) (ws : List W) (w : W) → Every P ws → Among w ws → P w
every_among P [] w e a = absurd a
every_among P (v ∷ ws) w e (inl d) = subst P (sym d) e.0
every_among P (v ∷ ws) w e (inr a) = every_among P ws w e.1 a

-- lists without a word in both
pub both_once : (us vs : List W) → ((w : W) → times w us ≤ 1) → ((w : W) → times w vs ≤ 1) → ((w : W) → Among w us → Among w vs → ⊥) → (w : W) → times w (us ++ vs) ≤ 1
both_once us vs f g apart w = by (is-among w us)
  where
    by : Among w us ⊎ (Among w us → ⊥) → times w (us ++ vs) ≤ 1
    by (inl a) = let z = among-times w vs (apart w a) in let m = (how_often w).more us vs in let o = f w in omega (arith, z, m, o)
    by (inr n) = let z = among-times w us n in let m = (how_often w).more us vs in let o = g w in omega (arith, z, m, o)

-- ---- numbers

pub other_every : (n : ℕ) (ls : List Lane) → Other n (numbers ls) → Every (λ (k : Lane). k.number ≡ n → ⊥) ls
other_every n [] h = tt
other_every n (k ∷ ls) h = (h.0, other_every n ls h.1)

abbrev number_in : Option Slot → ℕ
number_in (Some (ActorSlot code state (Fix (pos n)))) = n
number_in o = 0

-- events in flight with different numbers are of different actors
pub actors_apart : (s : Seen) (k l : Lane) → StandsIn s k → StandsIn s l → (k.number ≡ l.number → ⊥) → k.own.actor ≡ l.own.actor → ⊥
actors_apart s k l a b d e =
    let both : Some (ActorSlot k.own.code k.own.state (Fix (pos k.number))) ≡ Some (ActorSlot l.own.code l.own.state (Fix (pos l.number)))
    = sym a.busy ∙ (ap (λ (w : W). slot_seen s w) e ∙ b.busy) in
    d (ap number_in both)

module _ (lay : Layout) (rom_of : RomImage) (program : HoldsProgram rom_of.boot rom_of.cells lay) {grant : Amounts} (spent : Spending) (s : State) (c : Configuration Tests)
    (ok : Sound grant s) (h : StateStands lay rom_of.cells spent s c) where
  -- ---- the roll

  pub as_many : length s.roll ≡ length c.behaviours
  as_many = lengths s.roll c.behaviours h.behaviours.actors
    where
      lengths : (xs : List W) (ys : List (Behaviour Tests)) → Each (ActorStands lay s.store s.roll s.flight) xs ys → length xs ≡ length ys
      lengths [] [] e = refl
      lengths [] (y ∷ ys) e = absurd e
      lengths (x ∷ xs) [] e = absurd e
      lengths (x ∷ xs) (y ∷ ys) e = ap suc (lengths xs ys e.1)

  abbrev pub IsActor : W → Type 0
  IsActor w = (code : W) × (state : W) × (mark : W) × (slot_seen s.store w ≡ Some (ActorSlot code state mark))

  pub roll_actors : Every IsActor s.roll
  roll_actors = each_left (ActorStands lay s.store s.roll s.flight) IsActor (λ w b x. (x.code, x.state, x.mark, x.there)) s.roll c.behaviours h.behaviours.actors

  pub is_actor : (w : W) → Among w s.roll → IsActor w
  is_actor w a = every_among IsActor s.roll w roll_actors a

  -- ---- an event in flight

  pub all_stand : Every (StandsIn s.store) s.flight
  all_stand = h.flight.sound.stands

  module _ (i : ℕ) (l : Lane) (at : slice_get s.flight i ≡ Some l) where
    pub lane_stands : LaneStands lay s.store s.roll c spent l
    lane_stands = every-get (LaneStands lay s.store s.roll c spent) s.flight i l h.flight.events at

    pub lane_in : StandsIn s.store l
    lane_in = every-get (StandsIn s.store) s.flight i l all_stand at

    -- the others have other numbers and actors
    pub others_numbers : Every (λ (k : Lane). k.number ≡ l.number → ⊥) (remove s.flight i)
    others_numbers = other_every l.number (remove s.flight i) (rest-other s.flight i l at ok.apart)

    pub others_actors : Every (λ (k : Lane). k.own.actor ≡ l.own.actor → ⊥) (remove s.flight i)
    others_actors =
        every_both (λ (k : Lane). k.number ≡ l.number → ⊥) (StandsIn s.store) (λ (k : Lane). k.own.actor ≡ l.own.actor → ⊥)
        (λ k d a. actors_apart s.store k l a lane_in d) (remove s.flight i) others_numbers (every-removed (StandsIn s.store) s.flight i all_stand)

    pub actor_among : Among l.own.actor s.roll
    actor_among = at_among s.roll lane_stands.message.target l.own.actor lane_stands.actor_is

    -- what it created is named once, and is not on the roll
    pub created_once : (w : W) → times w (created_by l) ≤ 1
    created_once w = let a = sum-at (λ (k : Lane). times w (created_by k)) s.flight i l at in let o = h.flight.sound.created_once w in omega (arith, a, o)

    pub not_on_roll : (w : W) → Among w s.roll → Among w (created_by l) → ⊥
    not_on_roll w a b = let x = is_actor w a in let y = lane_in.unborn w b in let z = x.3 in absurd cc

    pub names_once : (w : W) → times w (s.roll ++ created_by l) ≤ 1
    names_once = both_once s.roll (created_by l) h.behaviours.once created_once not_on_roll

    pub names_distinct : Distinct (roll_with s.roll l.effects)
    names_distinct = distinct_by (s.roll ++ created_by l) names_once

    -- its messages are under the root
    pub sent_under_root : Every (λ (m : Sent). m.sponsor ≡ root) l.effects.sent
    sent_under_root =
        let x = lane_stands in
        subst (λ (w : W). Every (λ (m : Sent). m.sponsor ≡ w) l.effects.sent) x.sponsor
        (messages_under_own rom_of.boot rom_of.cells lay program x.base s.store l.number l.own l (spent l.number) x.reached h.rom_is h.code_out)

    -- ---- it follows its delivery

    abbrev pub f : LaneStands lay s.store s.roll c spent l
    f = lane_stands

    abbrev pub setting : Setting
    setting = record { base = f.base; own = l.own; roll = s.roll }

    abbrev pub emission : Emission
    emission = record { setting = setting; layout = lay; code = program.code setting (f.begins.rom_is ∙ h.rom_is); self = f.message.target; self_is = f.actor_is; actor_is = f.begins.shown }

    -- what its delivery comes to
    abbrev pub out_by : Value Tests → ℕ → DeliveryOutcome
    out_by v n = respond (tests_language lay.units) f.message.target (length s.roll) n v f.message.value no_effects n

    abbrev pub out_of : ℕ → DeliveryOutcome
    out_of = out_by f.behaviour

    pub follows : FollowsDelivery emission out_of
    follows = by f.behaviour f.begins.answers
      where
        by : (v : Value Tests) → AnswersStand lay f.base s.roll l.own.actor l.own.code l.own.state v → FollowsDelivery emission (out_by v)
        by v (inl p) = events_follow emission v f.message.value p.0 p.1 f.begins.message
        by v (inr p) =
            subst (λ (x : Value Tests). FollowsDelivery emission (out_by x)) (sym p.3)
            (openings_follow emission f.message.value p.1 (record { devices = p.2; file = program.file; shape = program.shape }))

    pub are_actors : AreActors s.store (roll_with s.roll l.effects)
    are_actors = record { once = names_distinct; shown = λ j w e. by w (at_among (s.roll ++ created_by l) j w e) }
      where
        split : (us vs : List W) (w : W) → Among w (us ++ vs) → Among w us ⊎ Among w vs
        split [] vs w a = inr a
        split (u ∷ us) vs w (inl e) = inl (inl e)
        split (u ∷ us) vs w (inr a) = more (split us vs w a)
          where
            more : Among w us ⊎ Among w vs → Among w (u ∷ us) ⊎ Among w vs
            more (inl b) = inl (inr b)
            more (inr b) = inr b

        of : (w : W) → Among w s.roll ⊎ Among w (created_by l) → look_up s.store w ≡ Some AnActor
        of w (inl a) = let x = is_actor w a in shown_actor s.store w (ActorSlot x.0 x.1 x.2) x.3 refl
        of w (inr a) = shown_actor s.store w UnbornSlot (lane_in.unborn w a) refl

        by : (w : W) → Among w (s.roll ++ created_by l) → look_up s.store w ≡ Some AnActor
        by w a = of w (split s.roll (created_by l) w a)
