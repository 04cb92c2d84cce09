-- What is seen of sponsors where actors became idle.
use Rattle.std.proofs.Common.{◌≡◌, List, [], ◌∷◌, length, Some, Bool, true, false, nat_eq, ap, refl, sym, ◌∙◌, arith}
use Rattle.std.specs.Prelude.{slice_get, slice_set}
use Rattle.std.proofs.lemmas.Bool.Decides.{nat_tests}
use Rattle.std.proofs.lemmas.List.{length-set}
use Rattle.std.proofs.lemmas.Option.{slice_get_within}
use Rattle.cap_words.specs.Words.{W, undef}
use Rattle.cap_words.specs.Store.{cap_place}
use Rattle.cap_words.specs.Seen.{Seen, Slot, ActorSlot, altered}
use Rattle.cap_words.proofs.Places.{get-set_same, get-set_other}
use Rattle.instr_table.specs.Event.{Made}
use Rattle.instr_table.specs.Types.{AnActor, opaque_in, is_sponsor}
use Rattle.instr_table.specs.Reach.{Every}
use Rattle.vm_effects.specs.Actors.{all_idle}
use Rattle.vm_machine.proofs.Lists.{every-more}
use Rattle.vm_machine.proofs.Keeping.{sponsor-altered}

-- an actor, committed or not, is seen at the place of that word
pub record IsActor (s : Seen) (m : Made) : Type 0 where
  pub slot : Slot
  pub there : slice_get s.slots (cap_place m.actor) ≡ Some slot
  pub actor : opaque_in (Some slot) ≡ Some AnActor

-- it is so still where another one became idle
is_actor-altered : (s : Seen) (m k : Made) (code state mark : W) → IsActor s m → IsActor s k → IsActor (altered s (cap_place m.actor) (ActorSlot code state mark)) k
is_actor-altered s m k code state mark h i = by (nat_eq (cap_place k.actor) (cap_place m.actor)) refl
  where
    by : (b : Bool) → nat_eq (cap_place k.actor) (cap_place m.actor) ≡ b → IsActor (altered s (cap_place m.actor) (ActorSlot code state mark)) k
    by true e =
        let x : cap_place k.actor ≡ cap_place m.actor = grind (arith, nat_tests) in
        record {
          slot = ActorSlot code state mark;
          there = ap (slice_get (slice_set s.slots (cap_place m.actor) (ActorSlot code state mark))) x ∙ get-set_same s.slots (cap_place m.actor) (ActorSlot code state mark) (slice_get_within s.slots (cap_place m.actor) h.slot h.there);
          actor = refl;
        }
    by false e =
        let x : cap_place k.actor ≡ cap_place m.actor → ⊥ = λ y. grind (arith, nat_tests) in
        record { slot = i.slot; there = get-set_other s.slots (cap_place m.actor) (cap_place k.actor) (ActorSlot code state mark) x ∙ i.there; actor = i.actor }

pub sponsor-idle : (s : Seen) (ms : List Made) → Every (IsActor s) ms → (w : W) → is_sponsor (all_idle s ms) w ≡ is_sponsor s w
sponsor-idle s [] h w = refl
sponsor-idle s (m ∷ ms) h w =
    let t = altered s (cap_place m.actor) (ActorSlot m.code m.state undef) in
    sponsor-idle t ms (every-more (IsActor s) (IsActor t) ms (λ k x. is_actor-altered s m k m.code m.state undef h.0 x) h.1) w
    ∙ sponsor-altered s (cap_place m.actor) h.0.slot (ActorSlot m.code m.state undef) h.0.there (sym h.0.actor) w

pub length-idle : (s : Seen) (ms : List Made) → length (all_idle s ms).slots ≡ length s.slots
length-idle s [] = refl
length-idle s (m ∷ ms) = length-idle (altered s (cap_place m.actor) (ActorSlot m.code m.state undef)) ms ∙ length-set s.slots (cap_place m.actor) (ActorSlot m.code m.state undef)
